-- The steps of an expression take operands that are there, and leave one value.
use Rattle.std.proofs.Common.{◌≡◌, ◌≤◌, ◌+◌, ◌-◌, ℕ, zero, suc, All, List, [], ◌∷◌, ◌++◌, refl, sym, ◌∙◌, ap, subst, arith}
use Rattle.idl_grammar.specs.declared.tree.ExprStep.{ExprStep}
use Rattle.idl_grammar.specs.Trees.{Leaves, operands_of}

-- the same steps over more values
pub leaves-over : (more before left : ℕ) (steps : List ExprStep) → Leaves before steps left → Leaves (before + more) steps (left + more)
leaves-over more before left [] h = ap (λ n. n + more) h
leaves-over more before left (s ∷ steps) h =
    let same : before - operands_of s + 1 + more ≡ before + more - operands_of s + 1 = omega (arith, h.0) in
    (omega (arith, h.0), subst (λ n. Leaves n steps (left + more)) same (leaves-over more (before - operands_of s + 1) left steps h.1))

-- steps behind steps
pub leaves-append : (before mid left : ℕ) (xs ys : List ExprStep) → Leaves before xs mid → Leaves mid ys left → Leaves before (xs ++ ys) left
leaves-append before mid left [] ys h k = subst (λ n. Leaves n ys left) (sym h) k
leaves-append before mid left (s ∷ xs) ys h k = (h.0, leaves-append (before - operands_of s + 1) mid left xs ys h.1 k)

-- an operand over one value leaves two
pub leaves-second : (steps : List ExprStep) → Leaves 0 steps 1 → Leaves 1 steps 2
leaves-second steps h = leaves-over 1 0 1 steps h
