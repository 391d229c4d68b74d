-- What a typelib has no room for, as it is tested.
use Rattle.std.proofs.Common.{◌≡◌, ℕ, ◌+◌, ◌-◌, ◌<◌, ◌≤◌, Bool, true, false, List, ◌++◌, length, min, Option, refl, sym, ◌∙◌, arith, nat_lt, lt-ltb, le-ltb, ltb-true, ltb-false, length-append}
use Rattle.idl_meaning.specs.declared.scope.Meant.{Meant}
use Rattle.idl_meaning.specs.declared.scope.ScopeParam.{ScopeParam}
use Rattle.vtable_layout.specs.Slots.{given}

wide-by : (a g : ℕ) (n : ℕ) → g ≤ 1 → n ≡ a + g → nat_lt (255 - g) a ≡ nat_lt 255 n
wide-by a g n few is = go (nat_lt (255 - g) a) refl
  where
    go : (b : Bool) → nat_lt (255 - g) a ≡ b → nat_lt (255 - g) a ≡ nat_lt 255 n
    go true h = let past : 255 - g < a =
        ltb-true (255 - g) a h in h ∙ sym (lt-ltb 255 n (omega arith))
    go false h = let within : a ≤ 255 - g =
        ltb-false (255 - g) a h in h ∙ sym (le-ltb 255 n (omega arith))

-- whether a method has too many parameters
pub wide_method : (params : List ScopeParam) (notxpcom : Bool) (returns : Option Meant) (g : ℕ)
    → g ≡ length (given notxpcom returns) → g ≤ 1 → nat_lt (255 - g) (length params)
    ≡ nat_lt 255 (length (params ++ given notxpcom returns))
wide_method params notxpcom returns g is few =
    wide-by (length params) g (length (params ++ given notxpcom returns)) few
    (omega (arith, length-append params (given notxpcom returns), is))

-- a capped count passes the limit where the count does
pub capped_test : (count n : ℕ) → count ≡ min 1000001 n → nat_lt 1000000 count ≡ nat_lt 1000000 n
capped_test count n is = go (nat_lt 1000000 n) refl
  where
    go : (b : Bool) → nat_lt 1000000 n ≡ b → nat_lt 1000000 count ≡ nat_lt 1000000 n
    go true h = let past : 1000000 < n =
        ltb-true 1000000 n h in lt-ltb 1000000 count (omega arith) ∙ sym h
    go false h = let within : n ≤ 1000000 =
        ltb-false 1000000 n h in le-ltb 1000000 count (omega arith) ∙ sym h
