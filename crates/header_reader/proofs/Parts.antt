-- Names, types and arguments: what is read is spelled so, and what is spelled so is read.
use Rattle.std.proofs.Common.{◌≡◌, Bool, true, false, cond, eqb, ◌&&◌, List, [], ◌∷◌, ◌++◌, length, Some, refl, sym, ap, subst, ◌∙◌, inl, inr, arith, append_assoc}
use Rattle.std.specs.Prelude.{codes, find}
use Rattle.std.specs.List.{list_all}
use Rattle.std.specs.Str.{bytes_eq}
use Rattle.std.proofs.lemmas.Bool.{false≢true, eqb-true}
use Rattle.std.proofs.lemmas.List.{nil_from_length}
use Rattle.std.proofs.lemmas.Option.{cond_some, none-some, same_Some}
use Rattle.call_model.specs.declared.ctypes.CType.{CType}
use Rattle.call_model.specs.declared.ctypes.CType.TheVariants as c
use Rattle.line_words.specs.Words.{Word, cut_at}
use Rattle.line_words.proofs.Choices.{both, bound, chosen, ways}
use Rattle.line_words.proofs.Marks.{cut_first, cut_gives, cut_none, lacks, lacks_join, marked}
use Rattle.line_words.proofs.Prefixes.{same_bytes}
use Rattle.header_model.proofs.Lacking.{IsApart, name_lacks, pointer_lacks}
use Rattle.header_model.specs.Words.{IsArgument, IsName, IsPointer, IsType, is_name, type_word}
use Rattle.header_reader.specs.Reading.{argument_of, const_of, is_pointer, name_of, type_of, value_of, value_types}

-- ---- names

pub name_read : (w name : Word) → name_of w ≡ Some name → (w ≡ name) × IsName name
unfolding name_of
name_read w name is = let read = cond_some (is_name w) w name is in (read.1, subst (λ v. is_name v ≡ true) read.1 read.0)

pub name_spelled : (w : Word) → IsName w → name_of w ≡ Some w
unfolding name_of
name_spelled w is = rw is refl

-- ---- pointers

pub no_more : (w : Word) → eqb (length w) 0 ≡ true → w ≡ []
no_more w h = nil_from_length w (eqb-true (length w) 0 h)

pub pointer_read : (w : Word) → is_pointer w ≡ true → IsPointer w
unfolding is_pointer
pointer_read w h = elim (ways (cut_at 42 w) _ _ _ h) as (λ _. IsPointer w) [
  | inl p ↦ let cut = cut_gives 42 w p.0.0 p.0.1 p.1 in
      let tests = both (is_name p.0.0) (list_all (λ b. eqb b 42) p.0.1) p.2 in
      (p.0.0, 42 ∷ p.0.1, cut.0, tests.0, inl (omega arith, tests.1))
  | inr p ↦ elim (ways (cut_at 38 w) _ _ _ p.1) as (λ _. IsPointer w) [
    | inl q ↦ let cut = cut_gives 38 w q.0.0 q.0.1 q.1 in
        let tests = both (is_name q.0.0) (eqb (length q.0.1) 0) q.2 in
        (q.0.0, codes "&", cut.0 ∙ ap (λ v. q.0.0 ++ 38 ∷ v) (no_more q.0.1 tests.1), tests.0, inr refl)
    | inr q ↦ absurd (false≢true q.1)
  ]
]

pub pointer_spelled : (w : Word) → IsPointer w → is_pointer w ≡ true
unfolding is_pointer
pointer_spelled w (name, [], is, named, inl h) = absurd (omega (arith, h.0))
pointer_spelled w (name, m ∷ marks, is, named, inl h) =
    let stars = both (eqb m 42) (list_all (λ b. eqb b 42) marks) h.1 in
    let spelled : w ≡ name ++ 42 ∷ marks = is ∙ ap (λ b. name ++ b ∷ marks) (eqb-true m 42 stars.0) in
    rw (spelled, cut_first 42 name marks (name_lacks 42 name refl named), named, stars.1) refl
pointer_spelled w (name, marks, is, named, inr h) =
    let spelled : w ≡ name ++ 38 ∷ [] = is ∙ ap (λ v. name ++ v) h in
    let free : lacks 42 (name ++ 38 ∷ []) ≡ true = lacks_join 42 name (38 ∷ []) (name_lacks 42 name refl named) refl in
    rw (spelled, cut_none 42 (name ++ 38 ∷ []) free, cut_first 38 name [] (name_lacks 38 name refl named), named) refl

-- ---- types

abbrev is_value : CType → Bool
is_value c.Ptr = false
is_value _ = true

-- what is found passes the test, and each test that all pass
found : {A : Type 0} (test other : A → Bool) (xs : List A) (x : A) → list_all other xs ≡ true → find test xs ≡ Some x → (test x ≡ true) × (other x ≡ true)
found test other [] x all h = absurd (none-some x h)
found test other (y ∷ xs) x all h =
    let parts = both (other y) (list_all other xs) all in by_test parts.0 (test y) refl (found test other xs x parts.1) h
  where
    by_test : other y ≡ true → (b : Bool) → test y ≡ b → (find test xs ≡ Some x → (test x ≡ true) × (other x ≡ true))
        → cond b (Some y) (find test xs) ≡ Some x → (test x ≡ true) × (other x ≡ true)
    by_test is true e later h = (subst (λ z. test z ≡ true) (same_Some y x h) e, subst (λ z. other z ≡ true) (same_Some y x h) is)
    by_test is false e later h = later h

value_is : (w : Word) (t : CType) → is_value t ≡ true → w ≡ type_word t → IsType w t
value_is w c.I8 v h = h
value_is w c.I16 v h = h
value_is w c.I32 v h = h
value_is w c.I64 v h = h
value_is w c.U8 v h = h
value_is w c.U16 v h = h
value_is w c.U32 v h = h
value_is w c.U64 v h = h
value_is w c.F32 v h = h
value_is w c.F64 v h = h
value_is w c.Bool v h = h
value_is w c.Char v h = h
value_is w c.WChar v h = h
value_is w c.Ptr v h = absurd (false≢true v)

pub type_read : (w : Word) (t : CType) → type_of w ≡ Some t → IsType w t
unfolding type_of value_of
type_read w t h = elim (chosen (is_pointer w) _ _ _ h) as (λ _. IsType w t) [
  | inl p ↦ subst (λ u. IsType w u) (same_Some c.Ptr t p.1) (inl (pointer_read w p.0))
  | inr p ↦ let value = found (λ type. bytes_eq w (type_word type)) is_value value_types t refl p.1 in
      value_is w t value.1 (same_bytes w (type_word t) value.0)
]

-- the word of a value is a name that is read as its type
record IsValueWord (t : CType) : Type 0 where
  name : IsName (type_word t)
  pointer : is_pointer (type_word t) ≡ false
  value : value_of (type_word t) ≡ Some t
  const : bytes_eq (type_word t) (codes "const") ≡ false

value_word : (t : CType) → is_value t ≡ true → IsValueWord t
unfolding is_pointer value_of cut_at
value_word c.I8 v = record { name = refl; pointer = refl; value = refl; const = refl }
value_word c.I16 v = record { name = refl; pointer = refl; value = refl; const = refl }
value_word c.I32 v = record { name = refl; pointer = refl; value = refl; const = refl }
value_word c.I64 v = record { name = refl; pointer = refl; value = refl; const = refl }
value_word c.U8 v = record { name = refl; pointer = refl; value = refl; const = refl }
value_word c.U16 v = record { name = refl; pointer = refl; value = refl; const = refl }
value_word c.U32 v = record { name = refl; pointer = refl; value = refl; const = refl }
value_word c.U64 v = record { name = refl; pointer = refl; value = refl; const = refl }
value_word c.F32 v = record { name = refl; pointer = refl; value = refl; const = refl }
value_word c.F64 v = record { name = refl; pointer = refl; value = refl; const = refl }
value_word c.Bool v = record { name = refl; pointer = refl; value = refl; const = refl }
value_word c.Char v = record { name = refl; pointer = refl; value = refl; const = refl }
value_word c.WChar v = record { name = refl; pointer = refl; value = refl; const = refl }
value_word c.Ptr v = absurd (false≢true v)

-- ---- arguments

spaced : (a b d : Word) → (a ++ 32 ∷ (b ++ 32 ∷ d)) ≡ (a ++ codes " ") ++ b ++ codes " " ++ d
spaced a b d = simp append_assoc

pub argument_read : (w : Word) (t : CType) → argument_of w ≡ Some t → IsArgument w t
unfolding argument_of const_of
argument_read w t h =
    let cut = bound (cut_at 32 w) _ t h in
    let parts = cut_gives 32 w cut.0.0 cut.0.1 cut.1 in
    elim (chosen (bytes_eq cut.0.0 (codes "const")) _ _ _ cut.2) as (λ _. IsArgument w t) [
      | inl p ↦ let more = bound (cut_at 32 cut.0.1) _ t p.1 in
          let rest = cut_gives 32 cut.0.1 more.0.0 more.0.1 more.1 in
          elim (chosen (is_pointer more.0.0 && is_name more.0.1) _ _ _ more.2) as (λ _. IsArgument w t) [
            | inl q ↦ let tests = both (is_pointer more.0.0) (is_name more.0.1) q.0 in
                let spelled : w ≡ (codes "const " ++ more.0.0) ++ codes " " ++ more.0.1 =
                parts.0 ∙ (ap (λ v. v ++ 32 ∷ cut.0.1) (same_bytes cut.0.0 (codes "const") p.0) ∙ (ap (λ v. codes "const " ++ v) rest.0 ∙ marked 32 (codes "const " ++ more.0.0) more.0.1)) in
                subst (λ u. IsArgument w u) (same_Some c.Ptr t q.1) (codes "const " ++ more.0.0, more.0.1, spelled, inr (more.0.0, refl, pointer_read more.0.0 tests.0), tests.1)
            | inr q ↦ absurd (none-some t q.1)
          ]
      | inr p ↦ elim (chosen (is_name cut.0.1) _ _ _ p.1) as (λ _. IsArgument w t) [
        | inl q ↦ (cut.0.0, cut.0.1, parts.0 ∙ marked 32 cut.0.0 cut.0.1, type_read cut.0.0 t q.1, q.0)
        | inr q ↦ absurd (none-some t q.1)
      ]
    ]

blank : IsApart 32
blank = record { name = refl; star = refl; ampersand = refl }

no_const : (w : Word) → IsPointer w → bytes_eq w (codes "const") ≡ false
unfolding is_pointer cut_at
no_const w h = by_test (bytes_eq w (codes "const")) refl
  where
    by_test : (b : Bool) → bytes_eq w (codes "const") ≡ b → b ≡ false
    by_test false e = refl
    by_test true e = absurd (false≢true (subst (λ v. is_pointer v ≡ true) (same_bytes w (codes "const") e) (pointer_spelled w h)))

value_argument : (w text name : Word) (t : CType) → is_value t ≡ true → w ≡ text ++ codes " " ++ name → text ≡ type_word t → IsName name → argument_of w ≡ Some t
unfolding argument_of type_of
value_argument w text name t v is typed named =
    let facts = value_word t v in
    let spelled : w ≡ type_word t ++ 32 ∷ name = is ∙ (ap (λ u. u ++ codes " " ++ name) typed ∙ sym (marked 32 (type_word t) name)) in
    rw (spelled, cut_first 32 (type_word t) name (name_lacks 32 (type_word t) refl facts.name), facts.const, named, facts.pointer, facts.value) refl

pub argument_spelled : (w : Word) (t : CType) → IsArgument w t → argument_of w ≡ Some t
unfolding argument_of const_of type_of
argument_spelled w c.Ptr (text, name, is, inl pointer, named) =
    let spelled : w ≡ text ++ 32 ∷ name = is ∙ sym (marked 32 text name) in
    rw (spelled, cut_first 32 text name (pointer_lacks 32 text blank pointer), no_const text pointer, named, pointer_spelled text pointer) refl
argument_spelled w c.Ptr (text, name, is, inr (more, typed, pointer), named) =
    let spelled : w ≡ codes "const" ++ 32 ∷ (more ++ 32 ∷ name) =
    is ∙ (ap (λ u. u ++ codes " " ++ name) typed ∙ sym (marked 32 (codes "const " ++ more) name)) in
    rw (spelled, cut_first 32 (codes "const") (more ++ 32 ∷ name) refl, cut_first 32 more name (pointer_lacks 32 more blank pointer), pointer_spelled more pointer, named) refl
argument_spelled w c.I8 (text, name, is, typed, named) = value_argument w text name c.I8 refl is typed named
argument_spelled w c.I16 (text, name, is, typed, named) = value_argument w text name c.I16 refl is typed named
argument_spelled w c.I32 (text, name, is, typed, named) = value_argument w text name c.I32 refl is typed named
argument_spelled w c.I64 (text, name, is, typed, named) = value_argument w text name c.I64 refl is typed named
argument_spelled w c.U8 (text, name, is, typed, named) = value_argument w text name c.U8 refl is typed named
argument_spelled w c.U16 (text, name, is, typed, named) = value_argument w text name c.U16 refl is typed named
argument_spelled w c.U32 (text, name, is, typed, named) = value_argument w text name c.U32 refl is typed named
argument_spelled w c.U64 (text, name, is, typed, named) = value_argument w text name c.U64 refl is typed named
argument_spelled w c.F32 (text, name, is, typed, named) = value_argument w text name c.F32 refl is typed named
argument_spelled w c.F64 (text, name, is, typed, named) = value_argument w text name c.F64 refl is typed named
argument_spelled w c.Bool (text, name, is, typed, named) = value_argument w text name c.Bool refl is typed named
argument_spelled w c.Char (text, name, is, typed, named) = value_argument w text name c.Char refl is typed named
argument_spelled w c.WChar (text, name, is, typed, named) = value_argument w text name c.WChar refl is typed named
