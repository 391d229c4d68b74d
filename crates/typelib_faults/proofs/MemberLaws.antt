-- Parameters, methods and constants: where there is no fault, what is read stands there and is valid; and what stands there and
-- is valid is what is read, without a fault while the items are few enough.
use Rattle.std.proofs.Common.{◌≡◌, ℕ, zero, suc, ◌+◌, ◌<◌, ◌≤◌, List, length, get_or, Option, None, arith, refl, sym, ap, ◌∙◌, subst, leb-false, sum_by}
use Rattle.std.specs.Prelude.{All, nat_le}
use Rattle.std.proofs.lemmas.Bool.{lt-leb}
use Rattle.lib_model.specs.declared.contents.Method.{Method}
use Rattle.lib_model.specs.declared.param_types.Param.{Param}
use Rattle.lib_model.specs.declared.param_types.XType.{XType}
use Rattle.lib_model.specs.Denotes.{HasForm, ListStands, MethodStands, NameStands, ParamStands, ResultStands, TypeStands, byte_at}
use Rattle.lib_model.specs.Valid.{AreKnownBits, IsMethod, IsName, IsParam, IsType, method_bits, param_bits}
use Rattle.typelib_faults.specs.declared.cursor.Cursor.{Cursor}
use Rattle.typelib_faults.specs.declared.faults.BadTypelib.{BadTypelib}
use Rattle.typelib_faults.specs.Bytes.{AreBytes}
use Rattle.typelib_faults.specs.Faults.{args_fault, form_fault, item_fault, method_fault, method_next, name_fault, param_fault, param_next, params_cursor, past, result_fault, type_fault, type_number_fault}
use Rattle.typelib_faults.specs.Places.{count_of, method_at, method_end, name_at, param_at, param_count_at, param_end, params_at, params_end, type_at, type_len}
use Rattle.typelib_faults.specs.Walk.{reach, values, walk, ◌orelse◌}
use Rattle.typelib_faults.proofs.NameLaws.{flags_known, name_fine, name_reads, name_sound}
use Rattle.typelib_faults.proofs.TypeLaws.{HasArgs, HasNumber, inside_past, past_inside, type_args_fine, type_args_sound, type_fine, type_form, type_inside, type_number_fine, type_number_sound, type_reads, type_sound, type_valid}
use Rattle.typelib_faults.proofs.WalkFacts.{faulty_none, fine_faulty, length_values, list_reads, list_walk, none_orelse, orelse_none, parts3, parts8, reach_place, sum_ones, values_walk, walk_all, walk_items, walk_stands}

-- ---- items

pub item_room : (c : Cursor) → item_fault c ≡ None → c.items + 1 ≤ 1000000
item_room c e =
    let below : c.items < 1000000 = leb-false 1000000 c.items (faulty_none (nat_le 1000000 c.items) 13 c.place e)
    in omega arith

pub room_item : (c : Cursor) → c.items + 1 ≤ 1000000 → item_fault c ≡ None
room_item c h = fine_faulty (nat_le 1000000 c.items) 13 c.place (lt-leb 1000000 c.items (omega (arith, h)))

-- ---- parameters

-- what a parameter has as soon as it is read; the numbers of arguments are tried later
pub record IsFound (count : ℕ) (v : Param) : Type 0 where
  pub flags : AreKnownBits param_bits v.flags.bits
  pub form : HasForm v.ty
  pub number : HasNumber count v.ty

pub param_sound : (x : List ℕ) (c : Cursor) → param_fault x c ≡ None → ParamStands x c.place (param_at x c.place) (param_end x c.place) × IsFound (count_of x) (param_at x c.place)
unfolding param_fault type_fault
param_sound x c e =
    let m : (item_fault c ≡ None) × (past x c.place 1 ≡ None) × (type_fault x (c.place + 1) ≡ None) = parts3 (item_fault c) (past x c.place 1) (type_fault x (c.place + 1)) e
    in let t : (form_fault x (c.place + 1) ≡ None) × (type_number_fault (count_of x) (c.place + 1) (type_at x (c.place + 1)) ≡ None) = orelse_none (form_fault x (c.place + 1)) (type_number_fault (count_of x) (c.place + 1) (type_at x (c.place + 1))) m.2
    in let stands : TypeStands x (c.place + 1) (type_at x (c.place + 1)) (c.place + 1 + type_len (type_at x (c.place + 1))) × HasForm (type_at x (c.place + 1)) = type_sound x (c.place + 1) t.0
    in (
      ((past_inside x c.place 1 m.1, refl), stands.0),
      record {
        flags = flags_known param_bits (byte_at x c.place) (omega arith);
        form = stands.1;
        number = type_number_sound (count_of x) (c.place + 1) (type_at x (c.place + 1)) t.1;
      },
    )

pub param_room : (x : List ℕ) (c : Cursor) → param_fault x c ≡ None → c.items + 1 ≤ 1000000
unfolding param_fault
param_room x c e =
    let m : (item_fault c ≡ None) × (past x c.place 1 ≡ None) × (type_fault x (c.place + 1) ≡ None) = parts3 (item_fault c) (past x c.place 1) (type_fault x (c.place + 1)) e
    in item_room c m.0

pub param_reads : (x : List ℕ) (p : ℕ) (v : Param) (q : ℕ) → ParamStands x p v q → HasForm v.ty → (param_at x p ≡ v) × (param_end x p ≡ q)
param_reads x p v q h form =
    let read : (type_at x (p + 1) ≡ v.ty) × (p + 1 + type_len v.ty ≡ q) = type_reads x (p + 1) v.ty q h.1 form
    in (rw (h.0.1, read.0) refl, ap (λ (t : XType). p + 1 + type_len t) read.0 ∙ read.1)

pub param_fine : (x : List ℕ) (params : List Param) (c : Cursor) (v : Param) (q : ℕ) → ParamStands x c.place v q → IsType (count_of x) params v.ty → c.items + 1 ≤ 1000000 → param_fault x c ≡ None
unfolding param_fault type_fault
param_fine x params c v q h valid room =
    let form : HasForm v.ty = type_form (count_of x) params v.ty valid
    in let read : (type_at x (c.place + 1) ≡ v.ty) × (c.place + 1 + type_len v.ty ≡ q) = type_reads x (c.place + 1) v.ty q h.1 form
    in let number : type_number_fault (count_of x) (c.place + 1) (type_at x (c.place + 1)) ≡ None = subst (λ (t : XType). type_number_fault (count_of x) (c.place + 1) t ≡ None) (sym read.0) (type_number_fine (count_of x) (c.place + 1) params v.ty valid)
    in none_orelse (item_fault c orelse past x c.place 1) (type_fault x (c.place + 1))
    (none_orelse (item_fault c) (past x c.place 1) (room_item c room) (inside_past x c.place 1 h.0.0))
    (none_orelse (form_fault x (c.place + 1)) (type_number_fault (count_of x) (c.place + 1) (type_at x (c.place + 1))) (type_fine x (c.place + 1) v.ty q h.1 form) number)

-- ---- methods, read

abbrev params_fault : List ℕ → Cursor → Option BadTypelib
params_fault x c = walk (param_fault x) (param_next x) (params_cursor c) (param_count_at x c.place)

abbrev all_args_fault : List ℕ → Cursor → Option BadTypelib
all_args_fault x c = walk (args_fault x (params_at x c.place)) (param_end x) (c.place + 6) (param_count_at x c.place)

result_sound : (x : List ℕ) (p : ℕ) → result_fault x p ≡ None → ResultStands x p (param_end x p)
unfolding result_fault
result_sound x p e =
    let m : (past x p 1 ≡ None) × (form_fault x (p + 1) ≡ None) = orelse_none (past x p 1) (form_fault x (p + 1)) e
    in let stands : TypeStands x (p + 1) (type_at x (p + 1)) (p + 1 + type_len (type_at x (p + 1))) × HasForm (type_at x (p + 1)) = type_sound x (p + 1) m.1
    in record { ty = type_at x (p + 1); form = stands.1; stands = stands.0 }

params_stand : (x : List ℕ) (c : Cursor) → params_fault x c ≡ None → ListStands (ParamStands x) (c.place + 6) (params_at x c.place) (params_end x c.place)
params_stand x c e =
    walk_stands (param_fault x) (param_next x) (param_at x) (param_end x) (ParamStands x) (λ s. refl) (λ s f. (param_sound x s f).0) (params_cursor c) (param_count_at x c.place) e

params_found : (x : List ℕ) (c : Cursor) → params_fault x c ≡ None → All (IsFound (count_of x)) (params_at x c.place)
params_found x c e =
    walk_all (λ (s : Cursor). s.place) (param_fault x) (param_next x) (param_at x) (param_end x) (IsFound (count_of x)) (λ s. refl) (λ s f. (param_sound x s f).1) (params_cursor c) (param_count_at x c.place) e

params_args : (x : List ℕ) (c : Cursor) → all_args_fault x c ≡ None → All (λ v. HasArgs (params_at x c.place) v.ty) (params_at x c.place)
params_args x c e =
    walk_all (λ (s : ℕ). s) (args_fault x (params_at x c.place)) (param_end x) (param_at x) (param_end x) (λ v. HasArgs (params_at x c.place) v.ty) (λ s. refl) (λ s f. type_args_sound (params_at x c.place) (s + 1) (type_at x (s + 1)) f) (c.place + 6) (param_count_at x c.place) e

params_valid : (count : ℕ) (params : List Param) → All (IsFound count) params → All (λ v. HasArgs params v.ty) params → All (IsParam count params) params
params_valid count params found args = λ k d h. record {
  flags = (found k d h).flags;
  ty = type_valid count params (get_or params k d).ty (found k d h).form (found k d h).number (args k d h);
}

params_few : (x : List ℕ) (p : ℕ) → AreBytes x → length (params_at x p) ≤ 255
params_few x p bytes =
    omega (arith, length_values (param_at x) (param_end x) (p + 6) (param_count_at x p), bytes (p + 5))

pub method_sound : (x : List ℕ) (c : Cursor) → AreBytes x → method_fault x c ≡ None → MethodStands x c.place (method_at x c.place) (method_end x c.place) × IsMethod (count_of x) (method_at x c.place)
unfolding method_fault method_at method_end
method_sound x c bytes e =
    let m : (item_fault c ≡ None) × (past x c.place 1 ≡ None) × (past x (c.place + 1) 4 ≡ None) × (name_fault x (c.place + 1) ≡ None) × (past x (c.place + 5) 1 ≡ None) × (params_fault x c ≡ None) × (result_fault x (params_end x c.place) ≡ None) × (all_args_fault x c ≡ None) = parts8 (item_fault c) (past x c.place 1) (past x (c.place + 1) 4) (name_fault x (c.place + 1)) (past x (c.place + 5) 1) (params_fault x c) (result_fault x (params_end x c.place)) (all_args_fault x c) e
    in let name : NameStands x (c.place + 1) (name_at x (c.place + 1)) × IsName (name_at x (c.place + 1)) = name_sound x (c.place + 1) (past_inside x (c.place + 1) 4 m.2) m.3
    in (
      record {
        flags = (past_inside x c.place 1 m.1, refl);
        name = name.0;
        count = (past_inside x (c.place + 5) 1 m.4, sym (length_values (param_at x) (param_end x) (c.place + 6) (param_count_at x c.place)));
        params_end = params_end x c.place;
        params = params_stand x c m.5;
        last = result_sound x (params_end x c.place) m.6;
      },
      record {
        name = name.1;
        flags = flags_known method_bits (byte_at x c.place) (omega arith);
        few = params_few x c.place bytes;
        params = params_valid (count_of x) (params_at x c.place) (params_found x c m.5) (params_args x c m.7);
      },
    )

abbrev pub method_size : Method → ℕ
method_size m = 1 + length m.params

pub method_items : (x : List ℕ) (c : Cursor) → method_fault x c ≡ None → ((method_next x c).items ≡ c.items + method_size (method_at x c.place)) × ((method_next x c).items ≤ 1000000)
unfolding method_fault method_at
method_items x c e =
    let m : (item_fault c ≡ None) × (past x c.place 1 ≡ None) × (past x (c.place + 1) 4 ≡ None) × (name_fault x (c.place + 1) ≡ None) × (past x (c.place + 5) 1 ≡ None) × (params_fault x c ≡ None) × (result_fault x (params_end x c.place) ≡ None) × (all_args_fault x c ≡ None) = parts8 (item_fault c) (past x c.place 1) (past x (c.place + 1) 4) (name_fault x (c.place + 1)) (past x (c.place + 5) 1) (params_fault x c) (result_fault x (params_end x c.place)) (all_args_fault x c) e
    in let counted : ((reach (param_next x) (params_cursor c) (param_count_at x c.place)).items ≡ c.items + 1 + sum_by (λ (v : Param). 1) (params_at x c.place)) × ((reach (param_next x) (params_cursor c) (param_count_at x c.place)).items ≤ 1000000) =
    walk_items 1000000 (param_fault x) (param_next x) (param_at x) (param_end x) (λ (v : Param). 1) (λ s. refl) (λ s f. (refl, param_room x s f)) (params_cursor c) (param_count_at x c.place) m.5 (item_room c m.0)
    in let long : length (params_at x c.place) ≡ param_count_at x c.place = length_values (param_at x) (param_end x) (c.place + 6) (param_count_at x c.place)
    in let ones : sum_by (λ (v : Param). 1) (params_at x c.place) ≡ length (params_at x c.place) = sum_ones (params_at x c.place)
    in (omega (arith, long), omega (arith, long, ones, counted.0, counted.1))

-- ---- methods that stand

result_inside : (x : List ℕ) (p q : ℕ) → ResultStands x p q → p + 1 ≤ length x
result_inside x p q last =
    let within : p + 1 + 1 ≤ length x = type_inside x (p + 1) last.ty q last.stands
    in omega arith

params_read : (x : List ℕ) (p : ℕ) (m : Method) (q : ℕ) (stands : MethodStands x p m q) → IsMethod (count_of x) m → (params_at x p ≡ m.params) × (params_end x p ≡ stands.params_end)
params_read x p m q stands valid =
    let Q : ℕ → Type 0 = λ n. (values (param_at x) (param_end x) (p + 6) n ≡ m.params) × (reach (param_end x) (p + 6) n ≡ stands.params_end)
    in subst Q (sym stands.count.1)
    (list_reads (param_at x) (param_end x) (ParamStands x) (IsParam (count_of x) m.params) (λ s v t h is. param_reads x s v t h (type_form (count_of x) m.params v.ty is.ty)) (p + 6) m.params stands.params_end stands.params valid.params)

pub method_reads : (x : List ℕ) (p : ℕ) (m : Method) (q : ℕ) → MethodStands x p m q → IsMethod (count_of x) m → (method_at x p ≡ m) × (method_end x p ≡ q)
unfolding method_at method_end
method_reads x p m q stands valid =
    let read : (params_at x p ≡ m.params) × (params_end x p ≡ stands.params_end) = params_read x p m q stands valid
    in let name : name_at x (p + 1) ≡ m.name = name_reads x (p + 1) m.name stands.name valid.name.short valid.name.no_zero
    in let last : (type_at x (stands.params_end + 1) ≡ stands.last.ty) × (stands.params_end + 1 + type_len stands.last.ty ≡ q) = type_reads x (stands.params_end + 1) stands.last.ty q stands.last.stands stands.last.form
    in (rw (name, stands.flags.1, read.0) refl, ap (param_end x) read.1 ∙ (ap (λ (t : XType). stands.params_end + 1 + type_len t) last.0 ∙ last.1))

pub method_fine : (x : List ℕ) (c : Cursor) (m : Method) (q : ℕ) → MethodStands x c.place m q → IsMethod (count_of x) m → c.items + method_size m ≤ 1000000 → method_fault x c ≡ None
unfolding method_fault result_fault
method_fine x c m q stands valid room =
    let read : (params_at x c.place ≡ m.params) × (params_end x c.place ≡ stands.params_end) = params_read x c.place m q stands valid
    in let ones : sum_by (λ (v : Param). 1) m.params ≡ length m.params = sum_ones m.params
    in let walked : (walk (param_fault x) (param_next x) (params_cursor c) (length m.params) ≡ None) × ((reach (param_next x) (params_cursor c) (length m.params)).items ≡ c.items + 1 + sum_by (λ (v : Param). 1) m.params) =
    list_walk 1000000 (param_fault x) (param_next x) (param_end x) (ParamStands x) (IsParam (count_of x) m.params) (λ (v : Param). 1) (λ s. refl)
    (λ s v t h is few. (param_fine x m.params s v t h is.ty few, (refl, (param_reads x s.place v t h (type_form (count_of x) m.params v.ty is.ty)).1)))
    (params_cursor c) m.params stands.params_end stands.params valid.params (omega (arith, ones, room))
    in let params : params_fault x c ≡ None = subst (λ (n : ℕ). walk (param_fault x) (param_next x) (params_cursor c) n ≡ None) (sym stands.count.1) walked.0
    in let last : result_fault x stands.params_end ≡ None = none_orelse (past x stands.params_end 1) (form_fault x (stands.params_end + 1)) (inside_past x stands.params_end 1 (result_inside x stands.params_end q stands.last)) (type_fine x (stands.params_end + 1) stands.last.ty q stands.last.stands stands.last.form)
    in let result : result_fault x (params_end x c.place) ≡ None = subst (λ (s : ℕ). result_fault x s ≡ None) (sym read.1) last
    in let types : All (λ v. IsType (count_of x) (params_at x c.place) v.ty) (params_at x c.place) = subst (λ (ps : List Param). All (λ v. IsType (count_of x) ps v.ty) ps) (sym read.0) (λ k d h. (valid.params k d h).ty)
    in let args : all_args_fault x c ≡ None = values_walk (args_fault x (params_at x c.place)) (param_end x) (param_at x) (λ v. IsType (count_of x) (params_at x c.place) v.ty) (λ s is. type_args_fine (count_of x) (s + 1) (params_at x c.place) (type_at x (s + 1)) is) (c.place + 6) (param_count_at x c.place) types
    in let front : item_fault c orelse past x c.place 1 orelse past x (c.place + 1) 4 orelse name_fault x (c.place + 1) orelse past x (c.place + 5) 1 ≡ None =
    rw (room_item c (omega arith), inside_past x c.place 1 stands.flags.0, inside_past x (c.place + 1) 4 stands.name.stands.0, name_fine x (c.place + 1) m.name stands.name valid.name, inside_past x (c.place + 5) 1 stands.count.0) refl
    in rw (front, params, result, args) refl

-- ---- the cursor behind parameters

pub params_place : (x : List ℕ) (c : Cursor) (n : ℕ) → (reach (param_next x) c n).place ≡ reach (param_end x) c.place n
params_place x c n = reach_place (param_next x) (param_end x) (λ s. refl) c n

pub params_items : (x : List ℕ) (c : Cursor) (n : ℕ) → (reach (param_next x) c n).items ≡ c.items + n
params_items x c zero = omega arith
params_items x c (suc n) = omega (arith, params_items x (param_next x c) n)
