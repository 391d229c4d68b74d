-- Which scopes have a layout, and what it says.
use Rattle.std.specs.Prelude.{◌≡◌, ℕ, ◌<◌, Bool, true, false, ◌||◌, nat_lt, min, List, length, slice_index, Option, Some, None, if◌then◌else◌}
use Rattle.idl_meaning.specs.declared.scope.ScopeIface.{ScopeIface}
use Rattle.vtable_layout.specs.declared.slot_numbers.LayoutError.{LayoutError}
use Rattle.vtable_layout.specs.declared.slot_numbers.LayoutError.TheVariants as error
use Rattle.vtable_layout.specs.declared.slot_numbers.Slots.{Slots}
use Rattle.vtable_layout.specs.Slots.{chain_of, inherited, own_of, slots_of}

-- more than 250 interfaces in the chain of parents, or more than 250 slots
abbrev pub has_too_many : List ScopeIface → ℕ → Bool
has_too_many ifaces k =
    nat_lt 250 (length (chain_of ifaces k)) || nat_lt 250 (length (slots_of ifaces k))

-- the number of slots, where it and the parents are not too many
abbrev pub slot_count : List ScopeIface → ℕ → Option ℕ
slot_count ifaces k = if has_too_many ifaces k then None else Some (length (slots_of ifaces k))

-- the values of f at the numbers below n, in order
pub record AreValues (f : ℕ → ℕ) (n : ℕ) (xs : List ℕ) : Type 0 where
  pub as_many : length xs ≡ n
  pub each : (k : ℕ) → k < n → slice_index xs k ≡ f k

-- for each interface the number of its own slots, counted up to 251
abbrev pub CountsOwn : List ScopeIface → List ℕ → Type 0
CountsOwn ifaces counts = (k : ℕ) → slice_index counts k ≡ min 251 (length (own_of ifaces k))

-- for each interface the number of its parent's slots and of its slots, which are not too many
pub record AreSlotsOf (ifaces : List ScopeIface) (slots : Slots) : Type 0 where
  pub first : AreValues (λ k. length (inherited ifaces k)) (length ifaces) slots.first
  pub total : AreValues (λ k. length (slots_of ifaces k)) (length ifaces) slots.total
  pub few : (k : ℕ) → k < length ifaces → has_too_many ifaces k ≡ false

-- the least number of an interface that has too many
pub record IsFirstTooMany (ifaces : List ScopeIface) (number : ℕ) : Type 0 where
  pub within : number < length ifaces
  pub too_many : has_too_many ifaces number ≡ true
  pub least : (k : ℕ) → k < number → has_too_many ifaces k ≡ false

-- why a scope has no layout
abbrev pub IsLayoutFault : List ScopeIface → LayoutError → Type 0
IsLayoutFault ifaces (error.TooMany number) = IsFirstTooMany ifaces number
IsLayoutFault ifaces error.Memory = Unit {0}
