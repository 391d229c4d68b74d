-- The arguments of a function, one after the other: what is read is spelled so, and what is spelled
-- so is read.
use Rattle.std.proofs.Common.{◌≡◌, ◌<◌, true, false, eqb, List, [], ◌∷◌, ◌++◌, length, map, Some, refl, sym, ap, subst, ◌∙◌, inl, inr, arith, length-append}
use Rattle.std.specs.Prelude.{codes}
use Rattle.std.specs.List.{flat_map, join_with_byte, slice_split}
use Rattle.std.proofs.lemmas.Bool.{ne_eqb}
use Rattle.std.proofs.lemmas.List.{append-nil}
use Rattle.std.proofs.lemmas.List.Splits.{join_with_byte-slice_split, slice_split_at, slice_split_none}
use Rattle.std.proofs.lemmas.Option.{same_Some}
use Rattle.call_model.specs.declared.ctypes.CType.{CType}
use Rattle.line_words.specs.Words.{Each, Word, ◌>>=◌, after, each_of}
use Rattle.line_words.proofs.Choices.{bound, chosen}
use Rattle.line_words.proofs.Marks.{lacks, lacks_all}
use Rattle.line_words.proofs.Prefixes.{after_read, after_spelled}
use Rattle.header_model.proofs.Lacking.{IsApart, argument_lacks}
use Rattle.header_model.specs.Words.{IsArgument, joined}
use Rattle.header_reader.specs.Reading.{all_of, argument_of, arguments_of, later_of}
use Rattle.header_reader.proofs.Parts.{argument_read, argument_spelled, no_more}

comma : IsApart 44
comma = record { name = refl; star = refl; ampersand = refl }

-- the parts between commas
split_joined : (w : Word) (ws : List Word) (types : List CType) → lacks 44 w ≡ true → Each IsArgument ws types
    → slice_split (λ b. eqb b 44) (w ++ flat_map (λ v. codes ", " ++ v) ws) ≡ w ∷ map (λ v. 32 ∷ v) ws
split_joined w [] types free h = rw (append-nil w) (slice_split_none (λ b. eqb b 44) w (lacks_all 44 w free))
split_joined w (v ∷ vs) [] free h = absurd h
split_joined w (v ∷ vs) (t ∷ ts) free h =
    slice_split_at (λ b. eqb b 44) w 44 ((32 ∷ v) ++ flat_map (λ v. codes ", " ++ v) vs) (lacks_all 44 w free) refl
    ∙ ap (λ parts. w ∷ parts) (split_joined (32 ∷ v) vs ts (argument_lacks 44 v t comma refl h.0) h.1)

later_spelled : (ws : List Word) (types : List CType) → Each IsArgument ws types → each_of later_of (map (λ v. 32 ∷ v) ws) ≡ Some types
unfolding later_of
later_spelled [] types h = ap Some (sym h)
later_spelled (v ∷ vs) [] h = absurd h
later_spelled (v ∷ vs) (t ∷ ts) h = rw (after_spelled (codes " ") v, argument_spelled v t h.0, later_spelled vs ts h.1) refl

pub arguments_spelled : (args : List Word) (types : List CType) → Each IsArgument args types → arguments_of (joined args) ≡ Some types
unfolding arguments_of
arguments_spelled [] types h = ap Some (sym h)
arguments_spelled (w ∷ ws) [] h = absurd h
arguments_spelled (w ∷ ws) (t ∷ ts) h =
    let rest = flat_map (λ v. codes ", " ++ v) ws in
    let some : 0 < length w = argument_some w t h.0 in
    let more : 0 < length (w ++ rest) = omega (arith, some, length-append w rest) in
    let filled : eqb (length (w ++ rest)) 0 ≡ false = ne_eqb (length (w ++ rest)) 0 (λ e. absurd (omega (arith, more, e))) in
    rw (filled, split_joined w ws ts (argument_lacks 44 w t comma refl h.0) h.1, argument_spelled w t h.0, later_spelled ws ts h.1) refl
  where
    argument_some : (w : Word) (t : CType) → IsArgument w t → 0 < length w
    argument_some w t (text, name, is, typed, named) = rw is (omega (arith, length-append (text ++ codes " ") name, length-append text (codes " ")))

later_read : (parts : List Word) (types : List CType) → each_of later_of parts ≡ Some types
    → (ws : List Word) × (parts ≡ map (λ v. 32 ∷ v) ws) × Each IsArgument ws types
unfolding later_of
later_read [] types h = ([], refl, sym (same_Some [] types h))
later_read (p ∷ ps) types h =
    let one = bound (after (codes " ") p >>= argument_of) (λ t. each_of later_of ps >>= λ ts. Some (t ∷ ts)) types h in
    let cut = bound (after (codes " ") p) argument_of one.0 one.1 in
    let more = bound (each_of later_of ps) (λ ts. Some (one.0 ∷ ts)) types one.2 in
    let rest = later_read ps more.0 more.1 in (
      cut.0 ∷ rest.0,
      ap (λ v. v ∷ ps) (after_read (codes " ") p cut.0 cut.1) ∙ ap (λ vs. (32 ∷ cut.0) ∷ vs) rest.1,
      subst (λ us. Each IsArgument (cut.0 ∷ rest.0) us) (same_Some (one.0 ∷ more.0) types more.2) (argument_read cut.0 one.0 cut.2, rest.2),
    )

join_joined : (w : Word) (ws : List Word) → join_with_byte 44 (w ∷ map (λ v. 32 ∷ v) ws) ≡ w ++ flat_map (λ v. codes ", " ++ v) ws
join_joined w [] = sym (append-nil w)
join_joined w (v ∷ vs) = ap (λ rest. w ++ 44 ∷ rest) (join_joined (32 ∷ v) vs)

pub arguments_read : (w : Word) (types : List CType) → arguments_of w ≡ Some types → (args : List Word) × (w ≡ joined args) × Each IsArgument args types
unfolding arguments_of
arguments_read w types h = elim (chosen (eqb (length w) 0) _ _ _ h) as (λ _. (args : List Word) × (w ≡ joined args) × Each IsArgument args types) [
  | inl p ↦ ([], no_more w p.0, sym (same_Some [] types p.1))
  | inr p ↦ by_parts (slice_split (λ b. eqb b 44) w) refl p.1
]
  where
    by_parts : (parts : List Word) → slice_split (λ b. eqb b 44) w ≡ parts → all_of parts ≡ Some types → (args : List Word) × (w ≡ joined args) × Each IsArgument args types
    by_parts [] is h = ([], sym (join_with_byte-slice_split 44 w) ∙ ap (join_with_byte 44) is, sym (same_Some [] types h))
    by_parts (first ∷ rest) is h =
        let one = bound (argument_of first) (λ t. each_of later_of rest >>= λ ts. Some (t ∷ ts)) types h in
        let more = bound (each_of later_of rest) (λ ts. Some (one.0 ∷ ts)) types one.2 in
        let later = later_read rest more.0 more.1 in (
          first ∷ later.0,
          sym (join_with_byte-slice_split 44 w) ∙ (ap (join_with_byte 44) is ∙ (ap (λ ps. join_with_byte 44 (first ∷ ps)) later.1 ∙ join_joined first later.0)),
          subst (λ us. Each IsArgument (first ∷ later.0) us) (same_Some (one.0 ∷ more.0) types more.2) (argument_read first one.0 one.1, later.2),
        )
