-- Lists of values stand where their texts lie one after the other.
use Rattle.std.proofs.Common.{◌≡◌, ℕ, suc, ◌+◌, ◌-◌, ◌<◌, List, [], ◌∷◌, ◌++◌, length, length-append, arith, ap, refl}
use Rattle.std.specs.Prelude.{All}
use Rattle.std.specs.List.{flat_map}
use Rattle.lib_model.specs.Emit.{placed}
use Rattle.lib_model.specs.Denotes.{ListStands}
use Rattle.lib_model.proofs.Pieces.{Piece, piece_left, piece_right}

-- a list of values whose texts know no offset
pub listed : {A : Type 0} (text : A → List ℕ) (P : A → Type 0) (Stands : ℕ → A → ℕ → Type 0)
    {x : List ℕ}
    → ((p q : ℕ) (v : A) → P v → Piece x p (text v) → q ≡ p + length (text v) → Stands p v q)
    → (p q : ℕ) (vs : List A) → All P vs → Piece x p (flat_map text vs)
    → q ≡ p + length (flat_map text vs) → ListStands Stands p vs q
listed text P Stands each p q [] all h ends = omega (arith, ends)
listed text P Stands each p q (v ∷ vs) all h ends =
    let here : ℕ = p + length (text v)
    in let rest : List ℕ = flat_map text vs
    in (
      here,
      (
        each p here v (all 0 v (omega arith)) (piece_left (text v) rest h) refl,
        listed text P Stands each here q vs
            (λ k d within. all (suc k) d (omega (arith, within)))
            (piece_right (text v) rest refl h)
            (omega (arith, ends, length-append (text v) rest)),
      ),
    )

-- A list of values whose texts know the offset of a part that each has behind `base`, where these
-- parts lie one after the other too.
pub paired : {A : Type 0} (base : ℕ) (text part : ℕ → A → List ℕ) (size : A → ℕ) (P : A → Type 0)
    (Stands : ℕ → A → ℕ → Type 0) {x : List ℕ}
    → ((k : ℕ) (v : A) → length (part k v) ≡ size v)
    → ((p k q : ℕ) (v : A) → P v → 0 < k → Piece x p (text k v) → Piece x (base + k - 1) (part k v)
    → q ≡ p + length (text k v) → Stands p v q)
    → (p k q : ℕ) (vs : List A) → All P vs → 0 < k → Piece x p (placed text size k vs)
    → Piece x (base + k - 1) (placed part size k vs)
    → q ≡ p + length (placed text size k vs) → ListStands Stands p vs q
paired base text part size P Stands sized each p k q [] all some h there ends = omega (arith, ends)
paired base text part size P Stands sized each p k q (v ∷ vs) all some h there ends =
    let here : ℕ = p + length (text k v)
    in let rest : List ℕ = placed text size (k + size v) vs
    in let parts : List ℕ = placed part size (k + size v) vs
    in (
      here,
      (
        each p k here v (all 0 v (omega arith)) some
            (piece_left (text k v) rest h) (piece_left (part k v) parts there) refl,
        paired base text part size P Stands sized each here (k + size v) q vs
            (λ j d within. all (suc j) d (omega (arith, within)))
            (omega (arith, some))
            (piece_right (text k v) rest refl h)
            (piece_right (part k v) parts (omega (arith, some, sized k v)) there)
            (omega (arith, ends, length-append (text k v) rest)),
      ),
    )

-- parts that are names, and know no offset, lie one after the other wherever they are placed
pub placed_names : {A : Type 0} (name : A → List ℕ) (size : A → ℕ) (k : ℕ) (vs : List A)
    → placed (λ (j : ℕ) (v : A). name v) size k vs ≡ flat_map name vs
placed_names name size k [] = refl
placed_names name size k (v ∷ vs) =
    ap (λ (b : List ℕ). name v ++ b) (placed_names name size (k + size v) vs)
