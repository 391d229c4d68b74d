-- The first fault of a type, a parameter, a method or a constant has its cause.
use Rattle.std.proofs.Common.{◌≡◌, ℕ, ◌+◌, ◌≤◌, List, length, Bool, true, false, not, arith, refl, ap, ◌∙◌, inl, inr, eqb, eqb-true, leb-true, ltb-true}
use Rattle.std.specs.Prelude.{nat_le, nat_lt, slice_get, ◌&&◌, ◌||◌}
use Rattle.std.proofs.lemmas.Bool.{and_parts, not-true, or_cases}
use Rattle.xp_base.specs.declared.kinds.ConstKind.{ConstKind}
use Rattle.lib_model.specs.declared.param_types.Param.{Param}
use Rattle.lib_model.specs.Denotes.{byte_at, half_at, place_of, tag_at, value_len, word_at}
use Rattle.lib_model.specs.Emit.{kind_tag}
use Rattle.typelib_faults.specs.declared.cursor.Cursor.{Cursor}
use Rattle.typelib_faults.specs.Causes as kinds
use Rattle.typelib_faults.specs.Causes.{IsFault}
use Rattle.typelib_faults.specs.Faults.{args_fault, constant_fault, count_arg_fault, elem_args_fault, elem_form_fault, elem_number_fault, elem_rest_fault, form_fault, has_count_tag, has_iid_tag, iid_arg_fault, is_kind_tag, is_present, item_fault, method_fault, name_fault, number_fault, param_fault, param_next, params_cursor, past, result_fault, type_args_fault, type_fault, type_number_fault, type_rest_fault}
use Rattle.typelib_faults.specs.Places.{count_of, elem_at, kind_at, param_count_at, param_end, params_at, params_end, text_len, type_at}
use Rattle.typelib_faults.specs.Reached.{IsConstantAt, IsCountArgAt, IsElemAt, IsFieldAt, IsIidArgAt, IsItemAt, IsMethodAt, IsNameAt, IsNumberAt, IsParamAt, IsParamTypeAt, IsResultAt, IsSizedTag, IsTypeAt}
use Rattle.typelib_faults.specs.Reached as reached
use Rattle.typelib_faults.specs.Walk.{reach, walk, ◌orelse◌}
use Rattle.typelib_faults.proofs.CauseFacts.{Blames, blames_both, blames_test, blames_walk, fault_there}
use Rattle.typelib_faults.proofs.ConstantLaws.{kind_fine}
use Rattle.typelib_faults.proofs.MemberLaws.{params_items, params_place}
use Rattle.typelib_faults.proofs.NameLaws.{name_fine}
use Rattle.typelib_faults.proofs.TypeLaws.{count_arg_fine, elem_value, iid_arg_fine, number_fine, type_value}

-- ---- fields, items and names

pub past_blames : (x : List ℕ) (p n : ℕ) → IsFieldAt x p n → Blames x (past x p n)
past_blames x p n is =
    blames_test x (nat_lt (length x) (p + n)) 15 p (λ e. record { kind = kinds.Field; code = refl; cause = record { len = n; is = is; past = ltb-true (length x) (p + n) e } })

pub item_blames : (x : List ℕ) (c : Cursor) → IsItemAt x c → Blames x (item_fault c)
item_blames x c is =
    blames_test x (nat_le 1000000 c.items) 13 c.place (λ e. record { kind = kinds.Items; code = refl; cause = record { item = c; is = is; place = refl; many = leb-true 1000000 c.items e } })

pub name_blames : (x : List ℕ) (p : ℕ) → IsNameAt x p → Blames x (name_fault x p)
unfolding name_fault
name_blames x p is =
    let lacks : Bool = eqb (word_at x p) 0 || not (is_present (text_len x (place_of x (word_at x p))))
    in blames_test x lacks 8 p (λ e. record { kind = kinds.Name; code = refl; cause = inl (record { is = is; lacks = λ name stands lawful. fault_there lacks 8 p e (name_fine x p name stands lawful) }) })

-- ---- the forms of types

sized : (tag n : ℕ) → tag ≡ n → 20 ≤ n → n ≤ 22 → IsSizedTag tag
sized tag n e above below = (omega (arith, e, above), omega (arith, e, below))

elem_rest_blames : (x : List ℕ) (p : ℕ) (b c : Bool) → eqb (tag_at x p) 18 ≡ b → eqb (tag_at x p) 19 ≡ c → IsElemAt x p → Blames x (elem_rest_fault x p (elem_value x p (tag_at x p) b c))
elem_rest_blames x p true c e f is = past_blames x (p + 1) 2 (reached.elem_number_field is (eqb-true (tag_at x p) 18 e))
elem_rest_blames x p false true e f is = past_blames x (p + 1) 1 (reached.elem_iid_field is (eqb-true (tag_at x p) 19 f))
elem_rest_blames x p false false e f is =
    let tag : ℕ = tag_at x p
    in blames_test x (nat_lt 26 tag || (nat_le 20 tag && nat_le tag 22)) 11 p (λ h.
    elim (or_cases (nat_lt 26 tag) (nat_le 20 tag && nat_le tag 22) h) as (λ _. IsFault x (record { code = 11; at = p })) [
      | inl over ↦ record { kind = kinds.Tag; code = refl; cause = inr (inl (record { is = is; lacks = inl (ltb-true 26 tag over) })) }
      | inr within ↦ let parts : (nat_le 20 tag ≡ true) × (nat_le tag 22 ≡ true) = and_parts (nat_le 20 tag) (nat_le tag 22) within
          in record { kind = kinds.Tag; code = refl; cause = inr (inl (record { is = is; lacks = inr (leb-true 20 tag parts.0, leb-true tag 22 parts.1) })) }
    ])

elem_form_blames : (x : List ℕ) (p : ℕ) → IsElemAt x p → Blames x (elem_form_fault x p)
unfolding elem_form_fault elem_at
elem_form_blames x p is =
    blames_both x (past x p 1) (elem_rest_fault x p (elem_at x p)) (past_blames x p 1 (reached.elem_tag_field is))
    (elem_rest_blames x p (eqb (tag_at x p) 18) (eqb (tag_at x p) 19) refl refl is)

two_blame : (x : List ℕ) (p : ℕ) → IsTypeAt x p → IsSizedTag (tag_at x p) → Blames x (past x (p + 1) 1 orelse past x (p + 2) 1)
two_blame x p is tag =
    blames_both x (past x (p + 1) 1) (past x (p + 2) 1) (past_blames x (p + 1) 1 (reached.type_size_field is tag)) (past_blames x (p + 2) 1 (reached.type_length_field is tag))

type_rest_blames : (x : List ℕ) (p : ℕ) (a b c d f : Bool) → eqb (tag_at x p) 18 ≡ a → eqb (tag_at x p) 19 ≡ b → eqb (tag_at x p) 20 ≡ c → eqb (tag_at x p) 21 ≡ d → eqb (tag_at x p) 22 ≡ f → IsTypeAt x p → Blames x (type_rest_fault x p (type_value x p (tag_at x p) a b c d f))
type_rest_blames x p true b c d f ea eb ec ed ef is = past_blames x (p + 1) 2 (reached.type_number_field is (eqb-true (tag_at x p) 18 ea))
type_rest_blames x p false true c d f ea eb ec ed ef is = past_blames x (p + 1) 1 (reached.type_iid_field is (eqb-true (tag_at x p) 19 eb))
type_rest_blames x p false false true d f ea eb ec ed ef is =
    let tag : tag_at x p ≡ 20 = eqb-true (tag_at x p) 20 ec
    in blames_both x (past x (p + 1) 1 orelse past x (p + 2) 1) (elem_form_fault x (p + 3)) (two_blame x p is (sized (tag_at x p) 20 tag (omega arith) (omega arith)))
    (elem_form_blames x (p + 3) (reached.elem_of_array is tag))
type_rest_blames x p false false false true f ea eb ec ed ef is =
    two_blame x p is (sized (tag_at x p) 21 (eqb-true (tag_at x p) 21 ed) (omega arith) (omega arith))
type_rest_blames x p false false false false true ea eb ec ed ef is =
    two_blame x p is (sized (tag_at x p) 22 (eqb-true (tag_at x p) 22 ef) (omega arith) (omega arith))
type_rest_blames x p false false false false false ea eb ec ed ef is =
    blames_test x (nat_lt 26 (tag_at x p)) 11 p (λ e. record { kind = kinds.Tag; code = refl; cause = inl (record { is = is; lacks = ltb-true 26 (tag_at x p) e }) })

form_blames : (x : List ℕ) (p : ℕ) → IsTypeAt x p → Blames x (form_fault x p)
unfolding form_fault type_at
form_blames x p is =
    blames_both x (past x p 1) (type_rest_fault x p (type_at x p)) (past_blames x p 1 (reached.type_tag_field is))
    (type_rest_blames x p (eqb (tag_at x p) 18) (eqb (tag_at x p) 19) (eqb (tag_at x p) 20) (eqb (tag_at x p) 21) (eqb (tag_at x p) 22) refl refl refl refl refl is)

-- ---- the numbers of interfaces

number_blames : (x : List ℕ) (p : ℕ) → IsNumberAt x p → Blames x (number_fault (count_of x) (half_at x p) p)
number_blames x p is =
    let count : ℕ = count_of x
    in let number : ℕ = half_at x p
    in blames_test x (eqb number 0 || nat_lt count number) 9 p (λ e. record { kind = kinds.Number; code = refl; cause = inl (record { is = is; lacks = λ lawful. fault_there (eqb number 0 || nat_lt count number) 9 p e (number_fine count number p lawful) }) })

elem_numbers_blame : (x : List ℕ) (m : Cursor) (p : ℕ) (b c : Bool) → eqb (tag_at x (p + 3)) 18 ≡ b → IsParamTypeAt x m p → tag_at x p ≡ 20 → Blames x (elem_number_fault (count_of x) (p + 3) (elem_value x (p + 3) (tag_at x (p + 3)) b c))
elem_numbers_blame x m p true c e is tag = number_blames x (p + 3 + 1) (reached.number_of_elem is tag (eqb-true (tag_at x (p + 3)) 18 e))
elem_numbers_blame x m p false true e is tag = tt
elem_numbers_blame x m p false false e is tag = tt

type_numbers_blame : (x : List ℕ) (m : Cursor) (p : ℕ) (a b c d f : Bool) → eqb (tag_at x p) 18 ≡ a → eqb (tag_at x p) 20 ≡ c → IsParamTypeAt x m p → Blames x (type_number_fault (count_of x) p (type_value x p (tag_at x p) a b c d f))
unfolding elem_at
type_numbers_blame x m p true b c d f ea ec is = number_blames x (p + 1) (reached.number_of_type is (eqb-true (tag_at x p) 18 ea))
type_numbers_blame x m p false true c d f ea ec is = tt
type_numbers_blame x m p false false true d f ea ec is =
    elem_numbers_blame x m p (eqb (tag_at x (p + 3)) 18) (eqb (tag_at x (p + 3)) 19) refl is (eqb-true (tag_at x p) 20 ec)
type_numbers_blame x m p false false false true f ea ec is = tt
type_numbers_blame x m p false false false false true ea ec is = tt
type_numbers_blame x m p false false false false false ea ec is = tt

type_blames : (x : List ℕ) (m : Cursor) (p : ℕ) → IsParamTypeAt x m p → Blames x (type_fault x p)
unfolding type_fault type_at
type_blames x m p is =
    blames_both x (form_fault x p) (type_number_fault (count_of x) p (type_at x p)) (form_blames x p (reached.param_type is))
    (type_numbers_blame x m p (eqb (tag_at x p) 18) (eqb (tag_at x p) 19) (eqb (tag_at x p) 20) (eqb (tag_at x p) 21) (eqb (tag_at x p) 22) refl refl is)

-- ---- the numbers of arguments

count_blames : (x : List ℕ) (m : Cursor) (ty p : ℕ) → IsParamTypeAt x m ty → IsCountArgAt x ty p → Blames x (count_arg_fault (params_at x m.place) (byte_at x p) p)
count_blames x m ty p ty_is is =
    let params : List Param = params_at x m.place
    in blames_test x (not (has_count_tag (slice_get params (byte_at x p)))) 12 p (λ e. record {
      kind = kinds.Argument;
      code = refl;
      cause = inl (record { method = m; ty = ty; ty_is = ty_is; is = is; lacks = λ lawful. fault_there (not (has_count_tag (slice_get params (byte_at x p)))) 12 p e (count_arg_fine params (byte_at x p) p lawful) });
    })

iid_blames : (x : List ℕ) (m : Cursor) (ty p : ℕ) → IsParamTypeAt x m ty → IsIidArgAt x ty p → Blames x (iid_arg_fault (params_at x m.place) (byte_at x p) p)
iid_blames x m ty p ty_is is =
    let params : List Param = params_at x m.place
    in blames_test x (not (has_iid_tag (slice_get params (byte_at x p)))) 12 p (λ e. record {
      kind = kinds.Argument;
      code = refl;
      cause = inr (record { method = m; ty = ty; ty_is = ty_is; is = is; lacks = λ lawful. fault_there (not (has_iid_tag (slice_get params (byte_at x p)))) 12 p e (iid_arg_fine params (byte_at x p) p lawful) });
    })

counts_blame : (x : List ℕ) (m : Cursor) (p : ℕ) → IsParamTypeAt x m p → IsSizedTag (tag_at x p) → Blames x (count_arg_fault (params_at x m.place) (byte_at x (p + 1)) (p + 1) orelse count_arg_fault (params_at x m.place) (byte_at x (p + 2)) (p + 2))
counts_blame x m p is tag =
    blames_both x (count_arg_fault (params_at x m.place) (byte_at x (p + 1)) (p + 1)) (count_arg_fault (params_at x m.place) (byte_at x (p + 2)) (p + 2))
    (count_blames x m p (p + 1) is (reached.size_of_type tag)) (count_blames x m p (p + 2) is (reached.length_of_type tag))

elem_args_blame : (x : List ℕ) (m : Cursor) (p : ℕ) (b c : Bool) → eqb (tag_at x (p + 3)) 19 ≡ c → IsParamTypeAt x m p → tag_at x p ≡ 20 → Blames x (elem_args_fault (params_at x m.place) (p + 3) (elem_value x (p + 3) (tag_at x (p + 3)) b c))
elem_args_blame x m p true c e is tag = tt
elem_args_blame x m p false true e is tag = iid_blames x m p (p + 3 + 1) is (reached.iid_of_elem tag (eqb-true (tag_at x (p + 3)) 19 e))
elem_args_blame x m p false false e is tag = tt

type_args_blame : (x : List ℕ) (m : Cursor) (p : ℕ) (a b c d f : Bool) → eqb (tag_at x p) 19 ≡ b → eqb (tag_at x p) 20 ≡ c → eqb (tag_at x p) 21 ≡ d → eqb (tag_at x p) 22 ≡ f → IsParamTypeAt x m p → Blames x (type_args_fault (params_at x m.place) p (type_value x p (tag_at x p) a b c d f))
unfolding elem_at
type_args_blame x m p true b c d f eb ec ed ef is = tt
type_args_blame x m p false true c d f eb ec ed ef is = iid_blames x m p (p + 1) is (reached.iid_of_type (eqb-true (tag_at x p) 19 eb))
type_args_blame x m p false false true d f eb ec ed ef is =
    let tag : tag_at x p ≡ 20 = eqb-true (tag_at x p) 20 ec
    in blames_both x (count_arg_fault (params_at x m.place) (byte_at x (p + 1)) (p + 1) orelse count_arg_fault (params_at x m.place) (byte_at x (p + 2)) (p + 2)) (elem_args_fault (params_at x m.place) (p + 3) (elem_at x (p + 3)))
    (counts_blame x m p is (sized (tag_at x p) 20 tag (omega arith) (omega arith)))
    (elem_args_blame x m p (eqb (tag_at x (p + 3)) 18) (eqb (tag_at x (p + 3)) 19) refl is tag)
type_args_blame x m p false false false true f eb ec ed ef is =
    counts_blame x m p is (sized (tag_at x p) 21 (eqb-true (tag_at x p) 21 ed) (omega arith) (omega arith))
type_args_blame x m p false false false false true eb ec ed ef is =
    counts_blame x m p is (sized (tag_at x p) 22 (eqb-true (tag_at x p) 22 ef) (omega arith) (omega arith))
type_args_blame x m p false false false false false eb ec ed ef is = tt

args_blame : (x : List ℕ) (m : Cursor) (p : ℕ) → IsParamTypeAt x m (p + 1) → Blames x (args_fault x (params_at x m.place) p)
unfolding type_at
args_blame x m p is =
    type_args_blame x m (p + 1) (eqb (tag_at x (p + 1)) 18) (eqb (tag_at x (p + 1)) 19) (eqb (tag_at x (p + 1)) 20) (eqb (tag_at x (p + 1)) 21) (eqb (tag_at x (p + 1)) 22) refl refl refl refl is

-- ---- parameters and methods

param_blames : (x : List ℕ) (m c : Cursor) → IsParamAt x m c → Blames x (param_fault x c)
unfolding param_fault
param_blames x m c is =
    blames_both x (item_fault c orelse past x c.place 1) (type_fault x (c.place + 1))
    (blames_both x (item_fault c) (past x c.place 1) (item_blames x c (reached.param_item is)) (past_blames x c.place 1 (reached.param_flags_field is)))
    (type_blames x m (c.place + 1) (reached.type_of_param is))

result_blames : (x : List ℕ) (p : ℕ) → IsResultAt x p → Blames x (result_fault x p)
unfolding result_fault
result_blames x p is =
    blames_both x (past x p 1) (form_fault x (p + 1)) (past_blames x p 1 (reached.result_flags_field is)) (form_blames x (p + 1) (reached.result_type is))

pub method_blames : (x : List ℕ) (c : Cursor) → IsMethodAt x c → Blames x (method_fault x c)
unfolding method_fault
method_blames x c is =
    let count : ℕ = param_count_at x c.place
    in let params : Blames x (walk (param_fault x) (param_next x) (params_cursor c) count) =
    blames_walk x (param_fault x) (param_next x) (params_cursor c) count (λ i low fine. param_blames x c (reach (param_next x) (params_cursor c) i) (record {
      method_is = is;
      before = i;
      below = low;
      place = params_place x (params_cursor c) i;
      items = params_items x (params_cursor c) i;
    }))
    in let args : Blames x (walk (args_fault x (params_at x c.place)) (param_end x) (c.place + 6) count) =
    blames_walk x (args_fault x (params_at x c.place)) (param_end x) (c.place + 6) count (λ i low fine.
    let at : Cursor = record { place = reach (param_end x) (c.place + 6) i; items = c.items + 1 + i }
    in let there : IsParamAt x c at = record { method_is = is; before = i; below = low; place = refl; items = refl }
    in args_blame x c at.place (reached.type_of_param there))
    in blames_both x _ _ (blames_both x _ _ (blames_both x _ _ (blames_both x _ _ (blames_both x _ _ (blames_both x _ _ (blames_both x _ _
    (item_blames x c (reached.method_item is))
    (past_blames x c.place 1 (reached.method_flags_field is)))
    (past_blames x (c.place + 1) 4 (reached.method_name_field is)))
    (name_blames x (c.place + 1) (reached.name_of_method is)))
    (past_blames x (c.place + 5) 1 (reached.param_count_field is)))
    params)
    (result_blames x (params_end x c.place) (record { method = c; method_is = is; place = refl })))
    args

-- ---- constants

pub constant_blames : (x : List ℕ) (c : Cursor) → IsConstantAt x c → Blames x (constant_fault x c)
unfolding constant_fault
constant_blames x c is =
    let tag : ℕ = tag_at x (c.place + 4)
    in blames_both x _ _ (blames_both x _ _ (blames_both x _ _ (blames_both x _ _ (blames_both x _ _
    (item_blames x c (reached.constant_item is))
    (past_blames x c.place 4 (reached.constant_name_field is)))
    (name_blames x c.place (reached.name_of_constant is)))
    (past_blames x (c.place + 4) 1 (reached.constant_tag_field is)))
    (blames_test x (not (is_kind_tag tag)) 11 (c.place + 4) (λ e. record {
      kind = kinds.Tag;
      code = refl;
      cause = inr (inr (record { constant = c; is = is; place = refl; lacks = λ kind same. no_kind tag kind same e }));
    })))
    (past_blames x (c.place + 5) (value_len (kind_at x (c.place + 4))) (reached.constant_value_field is))
  where
    no_kind : (tag : ℕ) (kind : ConstKind) → tag ≡ kind_tag kind → not (is_kind_tag tag) ≡ true → ⊥
    no_kind tag kind same e =
        let known : is_kind_tag tag ≡ true = ap is_kind_tag same ∙ kind_fine kind
        in let unknown : is_kind_tag tag ≡ false = not-true (is_kind_tag tag) e
        in cc
