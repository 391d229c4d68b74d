-- Types and parameters: where there is no fault, the type that is read stands there; and a type that stands there is the one
-- that is read.
use Rattle.std.proofs.Common.{◌≡◌, ◌≢◌, ◌⊎◌, ℕ, ◌+◌, ◌<◌, ◌≤◌, List, length, Option, Some, None, Bool, true, false, arith, refl, sym, ap, ◌∙◌, subst, inl, inr, cond, eqb, ltb-false, le-ltb, leb-true, leb-false, le-leb, eqb-true, eq-eqb, ne_eqb}
use Rattle.std.specs.Prelude.{IsSomeAnd, slice_get, nat_lt, nat_le, not, ◌&&◌, ◌||◌}
use Rattle.std.proofs.lemmas.Bool.{and_cases, and_left, and_right, eqb-false, lt-leb, not-false, not_from_true, or_from, or_parts}
use Rattle.std.proofs.lemmas.Bool.Decides.{leb_tells}
use Rattle.lib_model.specs.declared.param_types.Param.{Param}
use Rattle.lib_model.specs.declared.param_types.XType.{XType}
use Rattle.lib_model.specs.declared.param_types.XType.TheVariants as types
use Rattle.lib_model.specs.declared.param_types.Elem.{Elem}
use Rattle.lib_model.specs.declared.param_types.Elem.TheVariants as elems
use Rattle.lib_model.specs.Denotes.{ElemStands, HasElemForm, HasForm, TagStands, TypeStands, byte_at, half_at, tag_at}
use Rattle.lib_model.specs.Valid.{IsCountParam, IsElem, IsIfaceNumber, IsIidParam, IsPlainTag, IsType, tag_of}
use Rattle.typelib_faults.specs.Places.{elem_at, elem_by_tag, elem_len, type_at, type_by_tag, type_len}
use Rattle.typelib_faults.specs.Faults.{count_arg_fault, elem_args_fault, elem_form_fault, elem_number_fault, elem_rest_fault, form_fault, has_count_tag, has_iid_tag, iid_arg_fault, number_fault, past, type_args_fault, type_number_fault, type_rest_fault}
use Rattle.typelib_faults.specs.Walk.{◌orelse◌}
use Rattle.typelib_faults.proofs.WalkFacts.{faulty_none, fine_faulty, none_orelse, orelse_none}

-- ---- fields

pub past_inside : (x : List ℕ) (p n : ℕ) → past x p n ≡ None → p + n ≤ length x
past_inside x p n e = ltb-false (length x) (p + n) (faulty_none (nat_lt (length x) (p + n)) 15 p e)

pub inside_past : (x : List ℕ) (p n : ℕ) → p + n ≤ length x → past x p n ≡ None
inside_past x p n h = fine_faulty (nat_lt (length x) (p + n)) 15 p (le-ltb (length x) (p + n) h)

-- ---- tags

plain_tag : (tag : ℕ) → tag ≢ 18 → tag ≢ 19 → tag ≢ 20 → tag ≢ 21 → tag ≢ 22 → tag ≤ 26 → IsPlainTag tag
plain_tag tag a b c d e h =
    elim (leb_tells tag 17) as (λ _. IsPlainTag tag) [ inl s ↦ inl s.1 | inr g ↦ inr (omega (arith, g.1), h) ]

outside : (tag : ℕ) → (nat_le 20 tag && nat_le tag 22) ≡ false → (tag < 20) ⊎ (22 < tag)
outside tag e =
    elim (and_cases (nat_le 20 tag) (nat_le tag 22) e) as (λ _. (tag < 20) ⊎ (22 < tag)) [ inl s ↦ inl (leb-false 20 tag s) | inr s ↦ inr (leb-false tag 22 s) ]

plain_elem_tag : (tag : ℕ) → tag ≢ 18 → tag ≢ 19 → (tag < 20) ⊎ (22 < tag) → tag ≤ 26 → IsPlainTag tag
plain_elem_tag tag a b (inl c) h = inl (omega arith)
plain_elem_tag tag a b (inr c) h = inr (omega arith, h)

plain_low : (tag : ℕ) → IsPlainTag tag → tag ≤ 26
plain_low tag (inl h) = omega arith
plain_low tag (inr h) = h.1

plain_other : (tag n : ℕ) → 18 ≤ n → n ≤ 22 → IsPlainTag tag → eqb tag n ≡ false
plain_other tag n above below (inl h) = ne_eqb tag n (omega arith)
plain_other tag n above below (inr h) = ne_eqb tag n (omega (arith, h.0))

plain_outside : (tag : ℕ) → IsPlainTag tag → (nat_le 20 tag && nat_le tag 22) ≡ false
plain_outside tag (inl h) = and_left (nat_le 20 tag) (nat_le tag 22) (lt-leb 20 tag (omega arith))
plain_outside tag (inr h) = and_right (nat_le 20 tag) (nat_le tag 22) (lt-leb tag 22 (omega (arith, h.0)))

-- ---- elements' types, read

abbrev pub elem_value : List ℕ → ℕ → ℕ → Bool → Bool → Elem
elem_value x p tag b c = cond b (elems.Iface (half_at x (p + 1))) (cond c (elems.IidIs (byte_at x (p + 1))) (elems.Plain tag))

elem_cases : (x : List ℕ) (p tag : ℕ) (b c : Bool) → eqb tag 18 ≡ b → eqb tag 19 ≡ c → TagStands x p tag → elem_rest_fault x p (elem_value x p tag b c) ≡ None → ElemStands x p (elem_value x p tag b c) (p + elem_len (elem_value x p tag b c)) × HasElemForm (elem_value x p tag b c)
elem_cases x p tag true c e f stands fine =
    (((stands.0, stands.1 ∙ eqb-true tag 18 e), ((past_inside x (p + 1) 2 fine, refl), refl)), tt)
elem_cases x p tag false true e f stands fine =
    (((stands.0, stands.1 ∙ eqb-true tag 19 f), ((past_inside x (p + 1) 1 fine, refl), refl)), tt)
elem_cases x p tag false false e f stands fine =
    let parts : (nat_lt 26 tag ≡ false) × ((nat_le 20 tag && nat_le tag 22) ≡ false) = or_parts (nat_lt 26 tag) (nat_le 20 tag && nat_le tag 22) (faulty_none (nat_lt 26 tag || (nat_le 20 tag && nat_le tag 22)) 11 p fine)
    in ((stands, refl), plain_elem_tag tag (eqb-false tag 18 e) (eqb-false tag 19 f) (outside tag parts.1) (ltb-false 26 tag parts.0))

pub elem_sound : (x : List ℕ) (p : ℕ) → elem_form_fault x p ≡ None → ElemStands x p (elem_at x p) (p + elem_len (elem_at x p)) × HasElemForm (elem_at x p)
unfolding elem_form_fault elem_at
elem_sound x p e =
    let parts : (past x p 1 ≡ None) × (elem_rest_fault x p (elem_at x p) ≡ None) = orelse_none (past x p 1) (elem_rest_fault x p (elem_at x p)) e
    in elem_cases x p (tag_at x p) (eqb (tag_at x p) 18) (eqb (tag_at x p) 19) refl refl (past_inside x p 1 parts.0, refl) parts.1

-- ---- types, read

abbrev pub type_value : List ℕ → ℕ → ℕ → Bool → Bool → Bool → Bool → Bool → XType
type_value x p tag a b c d e =
    cond a (types.Iface (half_at x (p + 1)))
    (cond b (types.IidIs (byte_at x (p + 1)))
    (cond c (types.Array (byte_at x (p + 1)) (byte_at x (p + 2)) (elem_at x (p + 3)))
    (cond d (types.SizedString (byte_at x (p + 1)) (byte_at x (p + 2)))
    (cond e (types.SizedWString (byte_at x (p + 1)) (byte_at x (p + 2)))
    (types.Plain tag)))))

type_cases : (x : List ℕ) (p tag : ℕ) (a b c d e : Bool) → eqb tag 18 ≡ a → eqb tag 19 ≡ b → eqb tag 20 ≡ c → eqb tag 21 ≡ d → eqb tag 22 ≡ e → TagStands x p tag → type_rest_fault x p (type_value x p tag a b c d e) ≡ None → TypeStands x p (type_value x p tag a b c d e) (p + type_len (type_value x p tag a b c d e)) × HasForm (type_value x p tag a b c d e)
type_cases x p tag true b c d e ea eb ec ed ee stands fine =
    (((stands.0, stands.1 ∙ eqb-true tag 18 ea), ((past_inside x (p + 1) 2 fine, refl), refl)), tt)
type_cases x p tag false true c d e ea eb ec ed ee stands fine =
    (((stands.0, stands.1 ∙ eqb-true tag 19 eb), ((past_inside x (p + 1) 1 fine, refl), refl)), tt)
type_cases x p tag false false true d e ea eb ec ed ee stands fine =
    let front : (past x (p + 1) 1 orelse past x (p + 2) 1 ≡ None) × (elem_form_fault x (p + 3) ≡ None) = orelse_none (past x (p + 1) 1 orelse past x (p + 2) 1) (elem_form_fault x (p + 3)) fine
    in let two : (past x (p + 1) 1 ≡ None) × (past x (p + 2) 1 ≡ None) = orelse_none (past x (p + 1) 1) (past x (p + 2) 1) front.0
    in let elem : ElemStands x (p + 3) (elem_at x (p + 3)) (p + 3 + elem_len (elem_at x (p + 3))) × HasElemForm (elem_at x (p + 3)) = elem_sound x (p + 3) front.1
    in let sum : p + 3 + elem_len (elem_at x (p + 3)) ≡ p + (3 + elem_len (elem_at x (p + 3))) = omega arith
    in (((stands.0, stands.1 ∙ eqb-true tag 20 ec), ((past_inside x (p + 1) 1 two.0, refl), ((past_inside x (p + 2) 1 two.1, refl), subst (λ (q : ℕ). ElemStands x (p + 3) (elem_at x (p + 3)) q) sum elem.0))), elem.1)
type_cases x p tag false false false true e ea eb ec ed ee stands fine =
    let two : (past x (p + 1) 1 ≡ None) × (past x (p + 2) 1 ≡ None) = orelse_none (past x (p + 1) 1) (past x (p + 2) 1) fine
    in (((stands.0, stands.1 ∙ eqb-true tag 21 ed), ((past_inside x (p + 1) 1 two.0, refl), ((past_inside x (p + 2) 1 two.1, refl), refl))), tt)
type_cases x p tag false false false false true ea eb ec ed ee stands fine =
    let two : (past x (p + 1) 1 ≡ None) × (past x (p + 2) 1 ≡ None) = orelse_none (past x (p + 1) 1) (past x (p + 2) 1) fine
    in (((stands.0, stands.1 ∙ eqb-true tag 22 ee), ((past_inside x (p + 1) 1 two.0, refl), ((past_inside x (p + 2) 1 two.1, refl), refl))), tt)
type_cases x p tag false false false false false ea eb ec ed ee stands fine =
    ((stands, refl), plain_tag tag (eqb-false tag 18 ea) (eqb-false tag 19 eb) (eqb-false tag 20 ec) (eqb-false tag 21 ed) (eqb-false tag 22 ee) (ltb-false 26 tag (faulty_none (nat_lt 26 tag) 11 p fine)))

pub type_sound : (x : List ℕ) (p : ℕ) → form_fault x p ≡ None → TypeStands x p (type_at x p) (p + type_len (type_at x p)) × HasForm (type_at x p)
unfolding form_fault type_at
type_sound x p e =
    let parts : (past x p 1 ≡ None) × (type_rest_fault x p (type_at x p) ≡ None) = orelse_none (past x p 1) (type_rest_fault x p (type_at x p)) e
    in type_cases x p (tag_at x p) (eqb (tag_at x p) 18) (eqb (tag_at x p) 19) (eqb (tag_at x p) 20) (eqb (tag_at x p) 21) (eqb (tag_at x p) 22) refl refl refl refl refl (past_inside x p 1 parts.0, refl) parts.1

-- ---- elements' types that stand

elem_inside : (x : List ℕ) (p : ℕ) (v : Elem) (q : ℕ) → ElemStands x p v q → p + 1 ≤ length x
elem_inside x p (elems.Plain tag) q h = h.0.0
elem_inside x p (elems.Iface number) q h = h.0.0
elem_inside x p (elems.IidIs param) q h = h.0.0

elem_plain : (x : List ℕ) (p tag : ℕ) → IsPlainTag tag → elem_by_tag x p tag ≡ elems.Plain tag
elem_plain x p tag h =
    let a : eqb tag 18 ≡ false = plain_other tag 18 (omega arith) (omega arith) h
    in let b : eqb tag 19 ≡ false = plain_other tag 19 (omega arith) (omega arith) h
    in rw (a, b) refl

pub elem_reads : (x : List ℕ) (p : ℕ) (v : Elem) (q : ℕ) → ElemStands x p v q → HasElemForm v → (elem_at x p ≡ v) × (p + elem_len v ≡ q)
unfolding elem_at
elem_reads x p (elems.Plain tag) q h form = (ap (elem_by_tag x p) h.0.1 ∙ elem_plain x p tag form, sym h.1)
elem_reads x p (elems.Iface number) q h form = (ap (elem_by_tag x p) h.0.1 ∙ ap elems.Iface h.1.0.1, sym h.1.1)
elem_reads x p (elems.IidIs param) q h form = (ap (elem_by_tag x p) h.0.1 ∙ ap elems.IidIs h.1.0.1, sym h.1.1)

elem_rest : (x : List ℕ) (p : ℕ) (v : Elem) (q : ℕ) → ElemStands x p v q → HasElemForm v → elem_rest_fault x p v ≡ None
elem_rest x p (elems.Plain tag) q h form =
    fine_faulty (nat_lt 26 tag || (nat_le 20 tag && nat_le tag 22)) 11 p (or_from (nat_lt 26 tag) (nat_le 20 tag && nat_le tag 22) (le-ltb 26 tag (plain_low tag form)) (plain_outside tag form))
elem_rest x p (elems.Iface number) q h form = inside_past x (p + 1) 2 h.1.0.0
elem_rest x p (elems.IidIs param) q h form = inside_past x (p + 1) 1 h.1.0.0

pub elem_fine : (x : List ℕ) (p : ℕ) (v : Elem) (q : ℕ) → ElemStands x p v q → HasElemForm v → elem_form_fault x p ≡ None
unfolding elem_form_fault
elem_fine x p v q h form =
    none_orelse (past x p 1) (elem_rest_fault x p (elem_at x p)) (inside_past x p 1 (elem_inside x p v q h))
    (subst (λ (t : Elem). elem_rest_fault x p t ≡ None) (sym (elem_reads x p v q h form).0) (elem_rest x p v q h form))

-- ---- types that stand

pub type_inside : (x : List ℕ) (p : ℕ) (v : XType) (q : ℕ) → TypeStands x p v q → p + 1 ≤ length x
type_inside x p (types.Plain tag) q h = h.0.0
type_inside x p (types.Iface number) q h = h.0.0
type_inside x p (types.IidIs param) q h = h.0.0
type_inside x p (types.Array size len elem) q h = h.0.0
type_inside x p (types.SizedString size len) q h = h.0.0
type_inside x p (types.SizedWString size len) q h = h.0.0

type_plain : (x : List ℕ) (p tag : ℕ) → IsPlainTag tag → type_by_tag x p tag ≡ types.Plain tag
type_plain x p tag h =
    let a : eqb tag 18 ≡ false = plain_other tag 18 (omega arith) (omega arith) h
    in let b : eqb tag 19 ≡ false = plain_other tag 19 (omega arith) (omega arith) h
    in let c : eqb tag 20 ≡ false = plain_other tag 20 (omega arith) (omega arith) h
    in let d : eqb tag 21 ≡ false = plain_other tag 21 (omega arith) (omega arith) h
    in let e : eqb tag 22 ≡ false = plain_other tag 22 (omega arith) (omega arith) h
    in rw (a, b, c, d, e) refl

pub type_reads : (x : List ℕ) (p : ℕ) (v : XType) (q : ℕ) → TypeStands x p v q → HasForm v → (type_at x p ≡ v) × (p + type_len v ≡ q)
unfolding type_at
type_reads x p (types.Plain tag) q h form = (ap (type_by_tag x p) h.0.1 ∙ type_plain x p tag form, sym h.1)
type_reads x p (types.Iface number) q h form = (ap (type_by_tag x p) h.0.1 ∙ ap types.Iface h.1.0.1, sym h.1.1)
type_reads x p (types.IidIs param) q h form = (ap (type_by_tag x p) h.0.1 ∙ ap types.IidIs h.1.0.1, sym h.1.1)
type_reads x p (types.Array size len elem) q h form =
    let inner : (elem_at x (p + 3) ≡ elem) × (p + 3 + elem_len elem ≡ q) = elem_reads x (p + 3) elem q h.1.1.1 form
    in (ap (type_by_tag x p) h.0.1 ∙ rw (h.1.0.1, h.1.1.0.1, inner.0) refl, omega (arith, inner.1))
type_reads x p (types.SizedString size len) q h form =
    (ap (type_by_tag x p) h.0.1 ∙ rw (h.1.0.1, h.1.1.0.1) refl, sym h.1.1.1)
type_reads x p (types.SizedWString size len) q h form =
    (ap (type_by_tag x p) h.0.1 ∙ rw (h.1.0.1, h.1.1.0.1) refl, sym h.1.1.1)

two_inside : (x : List ℕ) (p q : ℕ) → p + 1 ≤ length x → q + 1 ≤ length x → past x p 1 orelse past x q 1 ≡ None
two_inside x p q a b = none_orelse (past x p 1) (past x q 1) (inside_past x p 1 a) (inside_past x q 1 b)

type_rest : (x : List ℕ) (p : ℕ) (v : XType) (q : ℕ) → TypeStands x p v q → HasForm v → type_rest_fault x p v ≡ None
type_rest x p (types.Plain tag) q h form = fine_faulty (nat_lt 26 tag) 11 p (le-ltb 26 tag (plain_low tag form))
type_rest x p (types.Iface number) q h form = inside_past x (p + 1) 2 h.1.0.0
type_rest x p (types.IidIs param) q h form = inside_past x (p + 1) 1 h.1.0.0
type_rest x p (types.Array size len elem) q h form =
    none_orelse (past x (p + 1) 1 orelse past x (p + 2) 1) (elem_form_fault x (p + 3)) (two_inside x (p + 1) (p + 2) h.1.0.0 h.1.1.0.0) (elem_fine x (p + 3) elem q h.1.1.1 form)
type_rest x p (types.SizedString size len) q h form = two_inside x (p + 1) (p + 2) h.1.0.0 h.1.1.0.0
type_rest x p (types.SizedWString size len) q h form = two_inside x (p + 1) (p + 2) h.1.0.0 h.1.1.0.0

pub type_fine : (x : List ℕ) (p : ℕ) (v : XType) (q : ℕ) → TypeStands x p v q → HasForm v → form_fault x p ≡ None
unfolding form_fault
type_fine x p v q h form =
    none_orelse (past x p 1) (type_rest_fault x p (type_at x p)) (inside_past x p 1 (type_inside x p v q h))
    (subst (λ (t : XType). type_rest_fault x p t ≡ None) (sym (type_reads x p v q h form).0) (type_rest x p v q h form))

-- ---- the numbers of interfaces and arguments

abbrev pub HasElemNumber : ℕ → Elem → Type 0
HasElemNumber count (elems.Plain tag) = Unit {0}
HasElemNumber count (elems.Iface number) = IsIfaceNumber count number
HasElemNumber count (elems.IidIs param) = Unit {0}

abbrev pub HasNumber : ℕ → XType → Type 0
HasNumber count (types.Plain tag) = Unit {0}
HasNumber count (types.Iface number) = IsIfaceNumber count number
HasNumber count (types.IidIs param) = Unit {0}
HasNumber count (types.Array size len elem) = HasElemNumber count elem
HasNumber count (types.SizedString size len) = Unit {0}
HasNumber count (types.SizedWString size len) = Unit {0}

abbrev pub HasElemArgs : List Param → Elem → Type 0
HasElemArgs params (elems.Plain tag) = Unit {0}
HasElemArgs params (elems.Iface number) = Unit {0}
HasElemArgs params (elems.IidIs param) = IsIidParam params param

abbrev pub HasArgs : List Param → XType → Type 0
HasArgs params (types.Plain tag) = Unit {0}
HasArgs params (types.Iface number) = Unit {0}
HasArgs params (types.IidIs param) = IsIidParam params param
HasArgs params (types.Array size len elem) = (IsCountParam params size × IsCountParam params len) × HasElemArgs params elem
HasArgs params (types.SizedString size len) = IsCountParam params size × IsCountParam params len
HasArgs params (types.SizedWString size len) = IsCountParam params size × IsCountParam params len

-- together they make a type valid
elem_valid : (count : ℕ) (params : List Param) (v : Elem) → HasElemForm v → HasElemNumber count v → HasElemArgs params v → IsElem count params v
elem_valid count params (elems.Plain tag) form number args = form
elem_valid count params (elems.Iface k) form number args = number
elem_valid count params (elems.IidIs param) form number args = args

pub type_valid : (count : ℕ) (params : List Param) (v : XType) → HasForm v → HasNumber count v → HasArgs params v → IsType count params v
type_valid count params (types.Plain tag) form number args = form
type_valid count params (types.Iface k) form number args = number
type_valid count params (types.IidIs param) form number args = args
type_valid count params (types.Array size len elem) form number args =
    (args.0.0, args.0.1, elem_valid count params elem form number args.1)
type_valid count params (types.SizedString size len) form number args = args
type_valid count params (types.SizedWString size len) form number args = args

elem_form : (count : ℕ) (params : List Param) (v : Elem) → IsElem count params v → HasElemForm v
elem_form count params (elems.Plain tag) valid = valid
elem_form count params (elems.Iface k) valid = tt
elem_form count params (elems.IidIs param) valid = tt

pub type_form : (count : ℕ) (params : List Param) (v : XType) → IsType count params v → HasForm v
type_form count params (types.Plain tag) valid = valid
type_form count params (types.Iface k) valid = tt
type_form count params (types.IidIs param) valid = tt
type_form count params (types.Array size len elem) valid = elem_form count params elem valid.2
type_form count params (types.SizedString size len) valid = tt
type_form count params (types.SizedWString size len) valid = tt

number_sound : (count number p : ℕ) → number_fault count number p ≡ None → IsIfaceNumber count number
number_sound count number p e =
    let parts : (eqb number 0 ≡ false) × (nat_lt count number ≡ false) = or_parts (eqb number 0) (nat_lt count number) (faulty_none (eqb number 0 || nat_lt count number) 9 p e)
    in let some : number ≢ 0 = eqb-false number 0 parts.0
    in (omega arith, ltb-false count number parts.1)

pub number_fine : (count number p : ℕ) → IsIfaceNumber count number → number_fault count number p ≡ None
number_fine count number p h =
    fine_faulty (eqb number 0 || nat_lt count number) 9 p (or_from (eqb number 0) (nat_lt count number) (ne_eqb number 0 (omega (arith, h.0))) (le-ltb count number h.1))

elem_number_sound : (count p : ℕ) (v : Elem) → elem_number_fault count p v ≡ None → HasElemNumber count v
elem_number_sound count p (elems.Plain tag) e = tt
elem_number_sound count p (elems.Iface number) e = number_sound count number (p + 1) e
elem_number_sound count p (elems.IidIs param) e = tt

pub type_number_sound : (count p : ℕ) (v : XType) → type_number_fault count p v ≡ None → HasNumber count v
type_number_sound count p (types.Plain tag) e = tt
type_number_sound count p (types.Iface number) e = number_sound count number (p + 1) e
type_number_sound count p (types.IidIs param) e = tt
type_number_sound count p (types.Array size len elem) e = elem_number_sound count (p + 3) elem e
type_number_sound count p (types.SizedString size len) e = tt
type_number_sound count p (types.SizedWString size len) e = tt

elem_number_fine : (count p : ℕ) (params : List Param) (v : Elem) → IsElem count params v → elem_number_fault count p v ≡ None
elem_number_fine count p params (elems.Plain tag) valid = refl
elem_number_fine count p params (elems.Iface number) valid = number_fine count number (p + 1) valid
elem_number_fine count p params (elems.IidIs param) valid = refl

pub type_number_fine : (count p : ℕ) (params : List Param) (v : XType) → IsType count params v → type_number_fault count p v ≡ None
type_number_fine count p params (types.Plain tag) valid = refl
type_number_fine count p params (types.Iface number) valid = number_fine count number (p + 1) valid
type_number_fine count p params (types.IidIs param) valid = refl
type_number_fine count p params (types.Array size len elem) valid = elem_number_fine count (p + 3) params elem valid.2
type_number_fine count p params (types.SizedString size len) valid = refl
type_number_fine count p params (types.SizedWString size len) valid = refl

count_tag : (o : Option Param) → has_count_tag o ≡ true → IsSomeAnd o (λ p. tag_of p.ty ≤ 7)
count_tag None e = absurd (cc)
count_tag (Some p) e = leb-true (tag_of p.ty) 7 e

iid_tag : (o : Option Param) → has_iid_tag o ≡ true → IsSomeAnd o (λ p. tag_of p.ty ≡ 14)
iid_tag None e = absurd (cc)
iid_tag (Some p) e = eqb-true (tag_of p.ty) 14 e

tag_count : (o : Option Param) → IsSomeAnd o (λ p. tag_of p.ty ≤ 7) → has_count_tag o ≡ true
tag_count None h = absurd h
tag_count (Some p) h = le-leb (tag_of p.ty) 7 h

tag_iid : (o : Option Param) → IsSomeAnd o (λ p. tag_of p.ty ≡ 14) → has_iid_tag o ≡ true
tag_iid None h = absurd h
tag_iid (Some p) h = eq-eqb (tag_of p.ty) 14 h

count_arg_sound : (params : List Param) (number p : ℕ) → count_arg_fault params number p ≡ None → IsCountParam params number
count_arg_sound params number p e =
    count_tag (slice_get params number) (not-false (has_count_tag (slice_get params number)) (faulty_none (not (has_count_tag (slice_get params number))) 12 p e))

iid_arg_sound : (params : List Param) (number p : ℕ) → iid_arg_fault params number p ≡ None → IsIidParam params number
iid_arg_sound params number p e =
    iid_tag (slice_get params number) (not-false (has_iid_tag (slice_get params number)) (faulty_none (not (has_iid_tag (slice_get params number))) 12 p e))

pub count_arg_fine : (params : List Param) (number p : ℕ) → IsCountParam params number → count_arg_fault params number p ≡ None
count_arg_fine params number p h =
    fine_faulty (not (has_count_tag (slice_get params number))) 12 p (not_from_true (has_count_tag (slice_get params number)) (tag_count (slice_get params number) h))

pub iid_arg_fine : (params : List Param) (number p : ℕ) → IsIidParam params number → iid_arg_fault params number p ≡ None
iid_arg_fine params number p h =
    fine_faulty (not (has_iid_tag (slice_get params number))) 12 p (not_from_true (has_iid_tag (slice_get params number)) (tag_iid (slice_get params number) h))

elem_args_sound : (params : List Param) (p : ℕ) (v : Elem) → elem_args_fault params p v ≡ None → HasElemArgs params v
elem_args_sound params p (elems.Plain tag) e = tt
elem_args_sound params p (elems.Iface number) e = tt
elem_args_sound params p (elems.IidIs param) e = iid_arg_sound params param (p + 1) e

count_args_sound : (params : List Param) (size len p q : ℕ) → count_arg_fault params size p orelse count_arg_fault params len q ≡ None → IsCountParam params size × IsCountParam params len
count_args_sound params size len p q e =
    let parts : (count_arg_fault params size p ≡ None) × (count_arg_fault params len q ≡ None) = orelse_none (count_arg_fault params size p) (count_arg_fault params len q) e
    in (count_arg_sound params size p parts.0, count_arg_sound params len q parts.1)

pub type_args_sound : (params : List Param) (p : ℕ) (v : XType) → type_args_fault params p v ≡ None → HasArgs params v
type_args_sound params p (types.Plain tag) e = tt
type_args_sound params p (types.Iface number) e = tt
type_args_sound params p (types.IidIs param) e = iid_arg_sound params param (p + 1) e
type_args_sound params p (types.Array size len elem) e =
    let parts : (count_arg_fault params size (p + 1) orelse count_arg_fault params len (p + 2) ≡ None) × (elem_args_fault params (p + 3) elem ≡ None) = orelse_none (count_arg_fault params size (p + 1) orelse count_arg_fault params len (p + 2)) (elem_args_fault params (p + 3) elem) e
    in (count_args_sound params size len (p + 1) (p + 2) parts.0, elem_args_sound params (p + 3) elem parts.1)
type_args_sound params p (types.SizedString size len) e = count_args_sound params size len (p + 1) (p + 2) e
type_args_sound params p (types.SizedWString size len) e = count_args_sound params size len (p + 1) (p + 2) e

elem_args_fine : (count p : ℕ) (params : List Param) (v : Elem) → IsElem count params v → elem_args_fault params p v ≡ None
elem_args_fine count p params (elems.Plain tag) valid = refl
elem_args_fine count p params (elems.Iface number) valid = refl
elem_args_fine count p params (elems.IidIs param) valid = iid_arg_fine params param (p + 1) valid

count_args_fine : (params : List Param) (size len p q : ℕ) → IsCountParam params size → IsCountParam params len → count_arg_fault params size p orelse count_arg_fault params len q ≡ None
count_args_fine params size len p q a b =
    none_orelse (count_arg_fault params size p) (count_arg_fault params len q) (count_arg_fine params size p a) (count_arg_fine params len q b)

pub type_args_fine : (count p : ℕ) (params : List Param) (v : XType) → IsType count params v → type_args_fault params p v ≡ None
type_args_fine count p params (types.Plain tag) valid = refl
type_args_fine count p params (types.Iface number) valid = refl
type_args_fine count p params (types.IidIs param) valid = iid_arg_fine params param (p + 1) valid
type_args_fine count p params (types.Array size len elem) valid =
    none_orelse (count_arg_fault params size (p + 1) orelse count_arg_fault params len (p + 2)) (elem_args_fault params (p + 3) elem) (count_args_fine params size len (p + 1) (p + 2) valid.0 valid.1) (elem_args_fine count (p + 3) params elem valid.2)
type_args_fine count p params (types.SizedString size len) valid = count_args_fine params size len (p + 1) (p + 2) valid.0 valid.1
type_args_fine count p params (types.SizedWString size len) valid = count_args_fine params size len (p + 1) (p + 2) valid.0 valid.1
