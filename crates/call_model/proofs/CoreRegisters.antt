-- Where AAPCS32 passes arguments, in the words of the standard.
use Rattle.std.proofs.Common.{◌≡◌, ℕ, ◌+◌, ◌*◌, ◌-◌, ◌/◌, ◌%◌, ◌<◌, ◌≤◌, Bool, true, false, cond, nat_lt, List, [], ◌∷◌, ◌++◌, ap, sym, subst, ◌∙◌, refl, arith}
use Rattle.std.proofs.lemmas.Grind.{common_steps}
use Rattle.call_model.specs.declared.ctypes.CType.{CType}
use Rattle.call_model.specs.Types.{is_wide}
use Rattle.call_model.specs.Placement.{area_end, four_or_eight, rounded, core_or_stack, IsAtWord, IsAtDoubleWord, IsUnsplit, EndsRegisters, FollowsAapcs32}
use Rattle.call_model.specs.Laws.{area-apart, area-words, rounded-ge}

-- a multiple of 8 is a double word, and a multiple of 4 a word
double-word : (at : ℕ) → at % 8 ≡ 0 → IsAtDoubleWord (core_or_stack at)
double-word at even = grind (arith, common_steps)

word : (at : ℕ) → at % 4 ≡ 0 → IsAtWord (core_or_stack at)
word at whole = grind (arith, common_steps)

-- a place suits its type: a wide one begins at a multiple of 8, each other one at a multiple of 4
wide-at : (at : ℕ) (b : Bool) → b ≡ true → cond b ((at + 7) / 8 * 8) at % 8 ≡ 0
wide-at at true wide = omega arith
wide-at at false wide = grind (arith, common_steps)

word-at : (at : ℕ) (b : Bool) → at % 4 ≡ 0 → cond b ((at + 7) / 8 * 8) at % 4 ≡ 0
word-at at true whole = omega arith
word-at at false whole = whole

-- so no value reaches past the core registers from within
unsplit : (at : ℕ) (b : Bool) → at % 4 ≡ 0
    → IsUnsplit (core_or_stack (cond b ((at + 7) / 8 * 8) at)) (cond b 8 4)
unsplit at true whole = grind (arith, common_steps)
unsplit at false whole = grind (arith, common_steps)

-- what stands behind a place on the stack is on the stack
ends : (at next : ℕ) → at < next → EndsRegisters (core_or_stack at) (core_or_stack next)
ends at next lt = grind (arith, common_steps)

four-at-least : (b : Bool) → 0 < cond b 8 4
four-at-least true = omega arith
four-at-least false = omega arith

pub follows-aapcs32 : FollowsAapcs32
follows-aapcs32 = record {
  wide = λ earlier t wide. double-word (rounded (area_end earlier) t) (wide-at (area_end earlier) (is_wide t) wide);
  word = λ earlier t. word (rounded (area_end earlier) t) (word-at (area_end earlier) (is_wide t) (area-words earlier));
  whole = λ earlier t. unsplit (area_end earlier) (is_wide t) (area-words earlier);
  ends = λ earlier t between u.
      ends (rounded (area_end earlier) t) (rounded (area_end (earlier ++ t ∷ between)) u)
      (omega (arith, area-apart earlier t between, four-at-least (is_wide t), rounded-ge (area_end (earlier ++ t ∷ between)) u));
}
