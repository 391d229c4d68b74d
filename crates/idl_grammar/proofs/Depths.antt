-- How deep an operand may go.
use Rattle.std.proofs.Common.{◌≡◌, ℕ, zero, suc, ◌-◌, refl, arith, ◌≤◌, lit≤}
use Rattle.idl_grammar.specs.declared.level.Level.{Level}
use Rattle.idl_grammar.specs.declared.level.Level.TheVariants as levels
use Rattle.idl_grammar.specs.Grammar.{simple, within, unary}

pub deepest : (n : ℕ) → n ≡ 0 → unary n ≡ simple
unfolding unary
deepest zero e = refl
deepest (suc n) e = absurd (let f : suc n ≡ 0 = e in omega arith)

pub deeper : (n : ℕ) → (n ≡ 0 → ⊥) → unary n ≡ within (unary (n - 1))
unfolding unary
deeper zero e = absurd (e refl)
deeper (suc n) e = let f : suc n - 1 ≡ n = omega arith in rw f refl

pub ruleset depths = (deepest, deeper)

-- how many levels are tighter
abbrev pub rank : Level → ℕ
rank levels.Product = 0
rank levels.Sum = 1
rank levels.Shift = 2
rank levels.Union = 3

pub rank-small : (level : Level) → rank level ≤ 3
rank-small levels.Product = lit≤ tt
rank-small levels.Sum = lit≤ tt
rank-small levels.Shift = lit≤ tt
rank-small levels.Union = lit≤ tt
