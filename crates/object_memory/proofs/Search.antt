-- Searches among blocks and objects that stand in order.
use Rattle.std.proofs.Common.{◌≡◌, ℕ, ◌+◌, ◌-◌, ◌<◌, ◌≤◌, Bool, true, false, leb, leb-true, List, length, get_or, sym, subst, ◌∙◌, arith, ◌⊎◌, inl, inr}
use Rattle.std.proofs.lemmas.Bool.{le-leb}
use Rattle.std.proofs.lemmas.Grind.{common_steps}
use Rattle.std.proofs.lemmas.List.{get_or_default}
use Rattle.std.specs.Prelude.{IsTrue, ◌↔◌}
use Rattle.std.specs.List.{AllPairs, Contains}
use Rattle.std.specs.List.Sorted.{IsNonDecreasingBy, IsPartitionPoint}
use Rattle.object_memory.specs.declared.data_block.DataBlock.{DataBlock}
use Rattle.object_memory.specs.Memory.{InBlock, Inside}
use Rattle.object_memory.specs.WellFormed.{EndsBefore}

below_or_not : (k i : ℕ) → (k < i) ⊎ (i ≤ k)
below_or_not k i = grind (arith, common_steps)

equal_or_less : (i j : ℕ) → i ≤ j → (i ≡ j) ⊎ (i < j)
equal_or_less i j le = grind (arith, common_steps)

pub addresses_rise : (blocks : List DataBlock) → AllPairs EndsBefore blocks → IsNonDecreasingBy (λ (b : DataBlock). b.address) blocks
addresses_rise blocks apart = λ i j d le lt. elim (equal_or_less i j le) as (λ _. (get_or blocks i d).address ≤ (get_or blocks j d).address) [ inl same ↦ let P : ℕ → Type 0 = λ k. (get_or blocks i d).address ≤ (get_or blocks k d).address in subst P same (omega arith) | inr less ↦ omega (arith, apart i j d less lt) ]

pub not_up_to : (x y : ℕ) → leb x y ≡ false → y < x
not_up_to x y is = grind (arith, common_steps, is)

pub numbers_rise : (xs : List ℕ) → AllPairs (λ a b. a < b) xs → IsNonDecreasingBy (λ x. x) xs
numbers_rise xs rising = λ i j d le lt. elim (equal_or_less i j le) as (λ _. get_or xs i d ≤ get_or xs j d) [ inl same ↦ let P : ℕ → Type 0 = λ k. get_or xs i d ≤ get_or xs k d in subst P same (omega arith) | inr less ↦ omega (arith, rising i j d less lt) ]

by_order : (k before : ℕ) → (before ≤ k → ⊥) → (k + 1 < before → ⊥) → k + 1 ≡ before
by_order k before above more = grind (arith, common_steps, above, more)

module _ (blocks : List DataBlock) (at n before : ℕ) (apart : AllPairs EndsBefore blocks) (bound : before ≤ length blocks)
    (point : IsPartitionPoint (λ (b : DataBlock). b.address ≤ at) (λ (b : DataBlock). at < b.address) blocks before) where
  -- a block that holds the byte at the address is the last that begins at it or before
  last_one : (k : ℕ) (d : DataBlock) → k < length blocks → (get_or blocks k d).address ≤ at → at < (get_or blocks k d).address + (get_or blocks k d).length → k + 1 ≡ before
  last_one k d lt low high =
      let next : k < k + 1 = omega arith in let none : 0 ≤ k + 1 = omega arith in
      by_order k before (λ above. omega (arith, point.1 k d above lt, low))
      (λ more. let there : k + 1 < length blocks = omega (arith, more, bound) in omega (arith, apart k (k + 1) d next there, point.0 (k + 1) d none more, high))

  pub last_begins : (d : DataBlock) → 1 ≤ before → (get_or blocks (before - 1) d).address ≤ at
  last_begins d some = let less : before - 1 < before = omega (arith, some) in let none : 0 ≤ before - 1 = omega arith in point.0 (before - 1) d none less

  inside_last : Inside blocks at n → (d : DataBlock) → (1 ≤ before) × InBlock at n (get_or blocks (before - 1) d)
  inside_last held d =
      let k = held.1.0 in let b = held.1.1 in let lt : k < length blocks = held.1.2 in
      let same : b ≡ get_or blocks k d = sym held.1.3 ∙ get_or_default blocks k b d lt in
      let holds : InBlock at n (get_or blocks k d) = subst (InBlock at n) same held.1.4 in
      let last : k + 1 ≡ before = last_one k d lt holds.0 (omega (arith, holds.1, held.0)) in
      let there : k ≡ before - 1 = omega (arith, last) in
      (omega (arith, last), subst (λ j. InBlock at n (get_or blocks j d)) there holds)

  last_inside : (d : DataBlock) → 1 ≤ n → 1 ≤ before → InBlock at n (get_or blocks (before - 1) d) → Inside blocks at n
  last_inside d some one holds =
      let lt : before - 1 < length blocks = omega (arith, one, bound) in
      (some, (before - 1, get_or blocks (before - 1) d, lt, get_or_default blocks (before - 1) (get_or blocks (before - 1) d) d lt, holds))

  pub none_inside : (n ≡ 0) ⊎ ((n ≡ 0 → ⊥) × (before ≡ 0)) → (d : DataBlock) → Inside blocks at n → ⊥
  none_inside (inl none) d held = omega (arith, held.0, none)
  none_inside (inr none) d held = omega (arith, (inside_last held d).0, none.1)

  -- the answer of a test of the last block
  pub inside_answer : (d b : DataBlock) (r : Bool) → b ≡ get_or blocks (before - 1) d → 1 ≤ n → 1 ≤ before → (r ≡ true → InBlock at n b) → (InBlock at n b → r ≡ true) → IsTrue r ↔ Inside blocks at n
  inside_answer d b r is some one from back =
      (λ t. last_inside d some one (subst (InBlock at n) is (from t)), λ held. back (subst (InBlock at n) (sym is) (inside_last held d).1))

-- the test of one block
pub holds_if : (at n : ℕ) (b : DataBlock) → b.address ≤ at → n ≤ b.length → leb (at - b.address) (b.length - n) ≡ true → InBlock at n b
holds_if at n b low short is = (low, omega (arith, low, short, leb-true _ _ is))

pub holds_then : (at n : ℕ) (b : DataBlock) → n ≤ b.length → InBlock at n b → leb (at - b.address) (b.length - n) ≡ true
holds_then at n b short holds = let fits : at - b.address ≤ b.length - n = omega (arith, short, holds.0, holds.1) in le-leb (at - b.address) (b.length - n) fits

pub too_long : (at n : ℕ) (b : DataBlock) → InBlock at n b → n ≤ b.length
too_long at n b holds = omega (arith, holds.0, holds.1)

-- a number that a search does not find is not there
pub not_there : (xs : List ℕ) (x i : ℕ) → (i ≤ length xs) × ((k : ℕ) → k < i → get_or xs k 0 < x) × ((k : ℕ) → i ≤ k → k < length xs → x < get_or xs k 0) → Contains xs x → ⊥
not_there xs x i place held =
    let k = held.0 in let lt : k < length xs = held.1 in let same : get_or xs k 0 ≡ x = get_or_default xs k 0 x lt ∙ held.2 in
    elim (below_or_not k i) as (λ _. ⊥) [ inl less ↦ omega (arith, place.1 k less, same) | inr more ↦ omega (arith, place.2 k more lt, same) ]
