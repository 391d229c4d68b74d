-- One position more of a call.
use Rattle.std.proofs.Common.{◌≡◌, ℕ, zero, suc, ◌+◌, Bool, true, false, cond, List, [], ◌∷◌, ◌++◌, length, take, Some, refl, ap, sym, ◌∙◌, arith, append_assoc}
use Rattle.std.specs.Prelude.{filter, fold, slice_get}
use Rattle.std.specs.List.{flat_map, range_with_len}
use Rattle.std.specs.Option.{option_map_or}
use Rattle.std.proofs.Math.Seq.{take-append_seam}
use Rattle.std.proofs.lemmas.Grind.{flat_map-append}
use Rattle.std.proofs.lemmas.List.{append-nil, length_push}
use Rattle.std.proofs.lemmas.List.Elements.{filter-append}
use Rattle.std.proofs.lemmas.List.Sums.{fold-append}
use Rattle.call_model.specs.declared.prototypes.ProtoArg.{ProtoArg}
use Rattle.call_replies.specs.Items.{is_by_cell, passes_cell}
use Rattle.invoke_by_index.specs.Arguments.{parameters}
use Rattle.script_results.specs.Positions.{cells_before}

range-more : (a n j : ℕ) → a + n ≡ j → range_with_len a (suc n) ≡ range_with_len a n ++ j ∷ []
range-more a zero j is = let same : a ≡ j = omega (arith, is) in ap (λ k. k ∷ []) same
range-more a (suc n) j is = ap (λ more. a ∷ more) (range-more (a + 1) n j (omega (arith, is)))

there : {X : Type 0} (front : List X) (x : X) (back : List X)
    → slice_get (front ++ x ∷ back) (length front) ≡ Some x
there [] x back = refl
there (y ∷ front) x back = there front x back

if-passed : (test : ℕ → Bool) (k : ℕ) (b : Bool) → test k ≡ b → filter test (k ∷ []) ≡ cond b (k ∷ []) []
if-passed test k true is = rw is refl
if-passed test k false is = rw is refl

module _ (proto front : List ProtoArg) (arg : ProtoArg) (back : List ProtoArg)
    (whole : front ++ arg ∷ back ≡ proto) where
  abbrev k : ℕ
  k = length front

  passes-here : passes_cell proto k ≡ is_by_cell arg.pass
  passes-here =
      ap (λ o. option_map_or (λ (p : ProtoArg). is_by_cell p.pass) o false)
      (ap (λ p. slice_get p k) (sym whole) ∙ there front arg back)

  -- as many parameters stand before it as among the arguments before it
  pub before-here : (n : ℕ) → n ≡ length (parameters front) → n ≡ length (parameters (take k proto))
  before-here n is =
      is ∙ ap (λ p. length (parameters p)) (sym (take-append_seam front (arg ∷ back)) ∙ ap (take k) whole)

  positions-more : (b : Bool) → is_by_cell arg.pass ≡ b
      → cells_before proto (length (front ++ arg ∷ [])) ≡ cells_before proto k ++ cond b (k ∷ []) []
  positions-more b is =
      let long : length (front ++ arg ∷ []) ≡ suc k = omega (arith, length_push front arg) in
      ap (cells_before proto) long
      ∙ ap (filter (passes_cell proto)) (range-more 0 k k (omega arith))
      ∙ filter-append (passes_cell proto) (range_with_len 0 k) (k ∷ [])
      ∙ ap (λ more. cells_before proto k ++ more) (if-passed (passes_cell proto) k b (passes-here ∙ is))

  pub told-more : (line : ℕ → List ℕ) → is_by_cell arg.pass ≡ true → (text : List ℕ)
      → (text ++ flat_map line (cells_before proto k)) ++ line k
      ≡ text ++ flat_map line (cells_before proto (length (front ++ arg ∷ [])))
  told-more line is text =
      append_assoc text (flat_map line (cells_before proto k)) (line k)
      ∙ ap (λ more. text ++ more)
      (ap (λ here. flat_map line (cells_before proto k) ++ here) (sym (append-nil (line k)))
      ∙ sym (flat_map-append line (cells_before proto k) (k ∷ []))
      ∙ ap (flat_map line) (sym (positions-more true is)))

  pub learned-more : {V : Type 0} (learn : V → ℕ → V) → is_by_cell arg.pass ≡ true → (v : V)
      → learn (fold learn v (cells_before proto k)) k
      ≡ fold learn v (cells_before proto (length (front ++ arg ∷ [])))
  learned-more learn is v =
      sym (fold-append learn v (cells_before proto k) (k ∷ []))
      ∙ ap (fold learn v) (sym (positions-more true is))

  pub none-more : is_by_cell arg.pass ≡ false
      → cells_before proto k ≡ cells_before proto (length (front ++ arg ∷ []))
  none-more is = sym (positions-more false is ∙ append-nil (cells_before proto k))
