-- No more classes than lines, and no more slots than a class may have.
use Rattle.std.proofs.Common.{◌≡◌, ℕ, suc, ◌+◌, ◌≤◌, ◌<◌, ◌^◌, eqb, ltb, leb, List, [], ◌∷◌, ◌++◌, length, zero, Option, Some, None, refl, subst, inl, inr, arith, length-append}
use Rattle.std.specs.Prelude.{position, option_map}
use Rattle.std.specs.List.{All, list_any}
use Rattle.std.specs.Fmt.{decimal}
use Rattle.std.specs.Str.{bytes_eq}
use Rattle.std.proofs.lemmas.Bool.{ltb-true}
use Rattle.std.proofs.lemmas.List.Elements.{All-append}
use Rattle.std.proofs.lemmas.Option.{none-some, same_Some}
use Rattle.line_words.specs.Words.{Word}
use Rattle.line_words.proofs.Choices.{bound, chosen}
use Rattle.header_model.specs.declared.decls.Decl.{Decl}
use Rattle.header_model.specs.declared.decls.DeclSlot.{DeclSlot}
use Rattle.header_model.specs.declared.limits.TheConstants.{MAX_ARGUMENTS}
use Rattle.header_model.specs.declared.lines.Line.{Line}
use Rattle.header_model.specs.declared.lines.Line.TheVariants as lines
use Rattle.header_model.specs.declared.states.State.{State}
use Rattle.header_model.specs.declared.states.State.TheVariants.{Between, Begun, Inside}
use Rattle.header_model.specs.Declares.{class_begun, decl_of, has_name, next_slot, slots_at, step, with_slot}
use Rattle.header_reader.specs.Reading.{IsFit, behind_of, form_of}

abbrev pub AreFew : ℕ → List Decl → Type 0
AreFew n decls = (length decls ≤ n) × All (λ decl. next_slot decl ≤ 250) decls

-- behind so many lines less one
abbrev pub IsFew : ℕ → State → Type 0
IsFew n (Between decls) = AreFew n decls
IsFew n (Begun decls decl) = AreFew n decls × (next_slot decl ≤ 250)
IsFew n (Inside decls decl) = AreFew n decls × (next_slot decl ≤ 250)

pub few_fit : (n : ℕ) (state : State) → n < 2 ^ 32 → IsFew n state → IsFit state
few_fit n (Between decls) least h = (omega (arith, least, h.0), h.1)
few_fit n (Begun decls decl) least h = ((omega (arith, least, h.0.0), h.0.1), h.1)
few_fit n (Inside decls decl) least h = ((omega (arith, least, h.0.0), h.0.1), h.1)

few_more : (n : ℕ) (decls : List Decl) → AreFew n decls → AreFew (n + 1) decls
few_more n decls h = (omega (arith, h.0), h.1)

-- the slots of a class among them
slots_few : (decls : List Decl) (number : ℕ) → All (λ decl. next_slot decl ≤ 250) decls → slots_at decls number ≤ 250
slots_few [] number h = omega arith
slots_few (decl ∷ decls) zero h = h 0 decl (omega arith)
slots_few (decl ∷ decls) (suc number) h = slots_few decls number (λ k d inside. h (suc k) d (omega (arith, inside)))

mapped : {A B : Type 0} (f : A → B) (o : Option A) (y : B) → option_map f o ≡ Some y → (x : A) × (o ≡ Some x) × (f x ≡ y)
mapped f None y h = absurd (none-some y h)
mapped f (Some x) y h = (x, refl, same_Some (f x) y h)

opened_few : (decls : List Decl) (name : Word) (parent : Option Word) (decl : Decl) → All (λ decl. next_slot decl ≤ 250) decls → decl_of decls name parent ≡ Some decl → next_slot decl ≤ 250
opened_few decls name None decl few h = subst (λ d. next_slot d ≤ 250) (same_Some (class_begun name None 0) decl h) (omega arith)
opened_few decls name (Some parent) decl few h =
    let at = mapped (λ number. class_begun name (Some number) (slots_at decls number)) (position (has_name parent) decls) decl h in
    subst (λ d. next_slot d ≤ 250) at.2 (omega (arith, slots_few decls at.0 few))

with_few : (n : ℕ) (decls : List Decl) (decl : Decl) (slot : DeclSlot) (next : State) → AreFew n decls → with_slot decls decl slot ≡ Some next → IsFew (n + 1) next
with_few n decls decl slot next few h = elim (chosen (ltb (next_slot decl) 250) _ _ _ h) as (λ _. IsFew (n + 1) next) [
  | inl p ↦ let room = ltb-true (next_slot decl) 250 p.0 in
      subst (λ s. IsFew (n + 1) s) (same_Some _ next p.1) (few_more n decls few, omega (arith, room, length-append decl.slots (slot ∷ [])))
  | inr p ↦ absurd (none-some next p.1)
]

pub step_few : (n : ℕ) (state : State) (line : Line) (next : State) → IsFew n state → step state line ≡ Some next → IsFew (n + 1) next
step_few n (Between decls) lines.Forward next few h = elim (chosen (eqb (length decls) 0) _ _ _ h) as (λ _. IsFew (n + 1) next) [
  | inl p ↦ subst (λ s. IsFew (n + 1) s) (same_Some (Between decls) next p.1) (few_more n decls few)
  | inr p ↦ absurd (none-some next p.1)
]
step_few n (Between decls) (lines.Class name parent) next few h = elim (chosen (list_any (has_name name) decls) _ _ _ h) as (λ _. IsFew (n + 1) next) [
  | inl p ↦ absurd (none-some next p.1)
  | inr p ↦ let at = mapped (λ decl. Begun decls decl) (decl_of decls name parent) next p.1 in
      subst (λ s. IsFew (n + 1) s) at.2 (few_more n decls few, opened_few decls name parent at.0 few.1 at.1)
]
step_few n (Begun decls decl) lines.Public next few h = subst (λ s. IsFew (n + 1) s) (same_Some (Inside decls decl) next h) (few_more n decls few.0, few.1)
step_few n (Inside decls decl) (lines.Reserved number) next few h = elim (chosen (bytes_eq number (decimal (next_slot decl))) _ _ _ h) as (λ _. IsFew (n + 1) next) [
  | inl p ↦ with_few n decls decl _ next few.0 p.1
  | inr p ↦ absurd (none-some next p.1)
]
step_few n (Inside decls decl) (lines.Method name types) next few h = elim (chosen (leb (length types) MAX_ARGUMENTS) _ _ _ h) as (λ _. IsFew (n + 1) next) [
  | inl p ↦ with_few n decls decl _ next few.0 p.1
  | inr p ↦ absurd (none-some next p.1)
]
step_few n (Inside decls decl) lines.Close next few h =
    let all : All (λ d. next_slot d ≤ 250) (decls ++ decl ∷ []) = All-append (λ d. next_slot d ≤ 250) decls (decl ∷ []) few.0.1 (one few.1) in
    subst (λ s. IsFew (n + 1) s) (same_Some (Between (decls ++ decl ∷ [])) next h) (omega (arith, few.0.0, length-append decls (decl ∷ [])), all)
  where
    one : next_slot decl ≤ 250 → All (λ d. next_slot d ≤ 250) (decl ∷ [])
    one h zero d inside = h
    one h (suc k) d inside = absurd (omega (arith, inside))
step_few n (Between decls) lines.Public next few h = absurd (none-some next h)
step_few n (Between decls) (lines.Reserved number) next few h = absurd (none-some next h)
step_few n (Between decls) (lines.Method name types) next few h = absurd (none-some next h)
step_few n (Between decls) lines.Close next few h = absurd (none-some next h)
step_few n (Begun decls decl) lines.Forward next few h = absurd (none-some next h)
step_few n (Begun decls decl) (lines.Class name parent) next few h = absurd (none-some next h)
step_few n (Begun decls decl) (lines.Reserved number) next few h = absurd (none-some next h)
step_few n (Begun decls decl) (lines.Method name types) next few h = absurd (none-some next h)
step_few n (Begun decls decl) lines.Close next few h = absurd (none-some next h)
step_few n (Inside decls decl) lines.Forward next few h = absurd (none-some next h)
step_few n (Inside decls decl) (lines.Class name parent) next few h = absurd (none-some next h)
step_few n (Inside decls decl) lines.Public next few h = absurd (none-some next h)

pub behind_few : (n : ℕ) (state : State) (w : Word) (next : State) → IsFew n state → behind_of state w ≡ Some next → IsFew (n + 1) next
behind_few n state w next few h = let line = bound (form_of w) (step state) next h in step_few n state line.0 next few line.2
