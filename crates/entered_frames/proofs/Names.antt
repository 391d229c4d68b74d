-- Names among others.
use Rattle.std.proofs.Common.{◌≡◌, ℕ, ◌+◌, Bool, true, false, cond, not, ◌||◌, List, [], ◌∷◌, ◌++◌, Bor, Option, Some, None, drop, bytes_eq, ap, refl, sym, ◌∙◌}
use Rattle.std.specs.List.{list_any, position, position_or_len}
use Rattle.std.proofs.lemmas.List.{drop-map, length-map}
use Rattle.call_model.specs.declared.places.Conv.{Conv}
use Rattle.call_model.specs.declared.places.Loc.TheVariants.{Gpr, Fpr}
use Rattle.script_meaning.specs.Enters.{fpr_names, gpr_names, register_named, takes_register}
use Rattle.entered_frames.specs.Registers.{texts}

abbrev Lent : Type 0
Lent = Bor (List ℕ)

-- ---- names that are lent

first-text : (p : List ℕ → Bool) (names : List Lent)
    → position_or_len p (texts names) ≡ position_or_len (λ (n : Lent). p n.now) names
first-text p [] = refl
first-text p (n ∷ names) =
    ap (λ (k : ℕ). cond (not (p n.now)) (1 + k) 0) (first-text p names)

position-texts : (p : List ℕ → Bool) (names : List Lent)
    → position p (texts names) ≡ position (λ (n : Lent). p n.now) names
position-texts p names = rw (first-text p names, length-map names (λ (n : Lent). n.now)) refl

any-texts : (p : List ℕ → Bool) (names : List Lent)
    → list_any p (texts names) ≡ list_any (λ (n : Lent). p n.now) names
any-texts p [] = refl
any-texts p (n ∷ names) = ap (λ b. p n.now || b) (any-texts p names)

any-append : (p : List ℕ → Bool) (xs ys : List (List ℕ))
    → list_any p (xs ++ ys) ≡ list_any p xs || list_any p ys
any-append p [] ys = refl
any-append p (x ∷ xs) ys = by_first (p x) (list_any p xs) (any-append p xs ys)
  where
    by_first : (b rest : Bool) → list_any p (xs ++ ys) ≡ rest || list_any p ys
        → b || list_any p (xs ++ ys) ≡ (b || rest) || list_any p ys
    by_first true rest is = refl
    by_first false rest is = is

-- ---- registers

module _ (conv : Conv) (name : List ℕ) (gprs : List Lent) (gprs-are : texts gprs ≡ gpr_names conv)
  where
    abbrev place_in : List Lent → Option ℕ
    place_in names = position (λ (n : Lent). bytes_eq name n.now) names

    gpr-place : position (bytes_eq name) (gpr_names conv) ≡ place_in gprs
    gpr-place = ap (position (bytes_eq name)) (sym gprs-are) ∙ position-texts (bytes_eq name) gprs

    pub gpr-named : (r : ℕ) → Some r ≡ place_in gprs → Some (Gpr r) ≡ register_named conv name
    gpr-named r is = rw (gpr-place ∙ sym is) refl

    abbrev among : List Lent → Bool
    among names = list_any (λ (n : Lent). bytes_eq name n.now) names

    abbrev among_fprs : Bool
    among_fprs = list_any (bytes_eq name) (fpr_names conv)

    takes-is : among (drop 1 gprs) || among_fprs ≡ takes_register conv name
    takes-is =
        ap (λ b. b || among_fprs)
        (sym (any-texts (bytes_eq name) (drop 1 gprs))
        ∙ ap (list_any (bytes_eq name)) (sym (drop-map (λ (n : Lent). n.now) 1 gprs) ∙ ap (drop 1) gprs-are))
        ∙ sym (any-append (bytes_eq name) (drop 1 (gpr_names conv)) (fpr_names conv))

    pub takes-gpr : true ≡ among (drop 1 gprs) → true ≡ takes_register conv name
    takes-gpr is = ap (λ b. b || among_fprs) is ∙ takes-is

    module _ (fprs : List Lent) (fprs-are : texts fprs ≡ fpr_names conv) where
      fpr-place : position (bytes_eq name) (fpr_names conv) ≡ place_in fprs
      fpr-place = ap (position (bytes_eq name)) (sym fprs-are) ∙ position-texts (bytes_eq name) fprs

      pub fpr-named : (r : ℕ) → None ≡ place_in gprs → Some r ≡ place_in fprs
          → Some (Fpr r) ≡ register_named conv name
      fpr-named r none is = rw (gpr-place ∙ sym none, fpr-place ∙ sym is) refl

      pub none-named : None ≡ place_in gprs → None ≡ place_in fprs → None ≡ register_named conv name
      none-named none too = rw (gpr-place ∙ sym none, fpr-place ∙ sym too) refl

      pub takes-fpr : false ≡ among (drop 1 gprs) → among fprs ≡ takes_register conv name
      takes-fpr is =
          sym (any-texts (bytes_eq name) fprs) ∙ ap (list_any (bytes_eq name)) fprs-are
          ∙ ap (λ b. b || among_fprs) is ∙ takes-is
