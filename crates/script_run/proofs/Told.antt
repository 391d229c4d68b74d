-- What is gained line by line: a list that with what is left is the whole one.
use Rattle.std.proofs.Common.{◌≡◌, ℕ, ◌+◌, ◌≤◌, List, [], ◌++◌, length, take, Option, Some, sym, ap, subst, ◌∙◌, arith, append_assoc, length-append, refl}
use Rattle.std.proofs.Math.Seq.{take-append-add}
use Rattle.std.proofs.lemmas.List.{append-nil, take-append-le}

-- a list grew by this, where it is told
abbrev pub Grew : {X : Type 0} → (before after : Option (List X)) → (more : List X) → Type 0
Grew before after more =
    (told : List _) → before ≡ Some told → after ≡ Some (told ++ more)

-- by some first part of it
abbrev pub GrewSome : {X : Type 0} → (before after : Option (List X)) → (more : List X) → Type 0
GrewSome before after more = (n : ℕ) × (n ≤ length more) × Grew before after (take n more)

-- it grew by what with the rest is the whole
abbrev pub Told : {X : Type 0} → (before now : Option (List X)) → (left whole : List X) → Type 0
Told before now left whole = (done : List _) × Grew before now done × (done ++ left ≡ whole)

grew_none : {X : Type 0} (before : Option (List X)) → Grew before before []
grew_none before told known = known ∙ ap Some (sym (append-nil told))

grew_both : {X : Type 0} (before between after : Option (List X)) (one other : List X)
    → Grew before between one → Grew between after other → Grew before after (one ++ other)
grew_both before between after one other first second told is =
    second (told ++ one) (first told is) ∙ ap Some (append_assoc told one other)

pub told_begun : {X : Type 0} (before : Option (List X)) (whole : List X)
    → Told before before whole whole
told_begun before whole = ([], grew_none before, refl)

pub told_more : {X : Type 0} (before between after : Option (List X)) (more left whole : List X)
    → Told before between (more ++ left) whole → Grew between after more
    → Told before after left whole
told_more before between after more left whole told grew = (
  told.0 ++ more,
  grew_both before between after told.0 more told.1 grew,
  append_assoc told.0 more left ∙ told.2,
)

pub told_end : {X : Type 0} (before after : Option (List X)) (whole : List X)
    → Told before after [] whole → Grew before after whole
told_end before after whole told =
    subst (Grew before after) (sym (append-nil told.0) ∙ told.2) told.1

-- a part of what is next is a part of the whole
pub told_cut : {X : Type 0} (before between after : Option (List X)) (more left whole : List X)
    → Told before between (more ++ left) whole → GrewSome between after more
    → GrewSome before after whole
told_cut before between after more left whole told cut =
    let front : take (length told.0 + cut.0) whole ≡ told.0 ++ take cut.0 more =
    (λ k. take (length told.0 + cut.0) (sym told.2 k))
    ∙ take-append-add told.0 (more ++ left) cut.0
    ∙ ap (λ rest. told.0 ++ rest) (take-append-le cut.0 more left cut.1) in (
      length told.0 + cut.0,
      omega (arith, ap length told.2, length-append told.0 (more ++ left), length-append more left, cut.1),
      subst (Grew before after) (sym front) (grew_both before between after told.0 (take cut.0 more) told.1 cut.2),
    )

pub told_prefix : {X : Type 0} (before after : Option (List X)) (left whole : List X)
    → Told before after left whole → GrewSome before after whole
told_prefix before after left whole told =
    told_cut before after after [] left whole told (0, omega arith, grew_none after)
