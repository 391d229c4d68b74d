-- What a typelib has no room for, and what the library of a scope is where it has.
use Rattle.std.specs.Prelude.{◌≡◌, ℕ, ◌<◌, ◌≤◌, ◌||◌, Bool, true, false, nat_lt, List, length, slice_get, Option, Some, None, option_and_then}
use Rattle.std.specs.List.{list_any}
use Rattle.idl_meaning.specs.declared.scope.Scope.{Scope}
use Rattle.idl_meaning.specs.declared.scope.ScopeIface.{ScopeIface}
use Rattle.idl_meaning.specs.declared.scope.ScopeMember.{ScopeMember}
use Rattle.lib_model.specs.declared.contents.Body.{Body}
use Rattle.lib_model.specs.declared.contents.Iface.{Iface}
use Rattle.lib_model.specs.declared.contents.Library.{Library}
use Rattle.lib_model.specs.Table.{table_of}
use Rattle.lib_model.specs.Valid.{item_count}
use Rattle.vtable_layout.specs.Layout.{has_too_many}
use Rattle.vtable_layout.specs.Slots.{Slot, slots_of_member}
use Rattle.prototype_lowering.specs.declared.lower_error.LowerError.{LowerError}
use Rattle.prototype_lowering.specs.declared.lower_error.LowerError.TheVariants as error
use Rattle.prototype_lowering.specs.Lowering.{library_of}
use Rattle.prototype_lowering.specs.StaticTable.{static_table}

-- ---- parameters

-- more than 255 parameters, the value that is given among them
abbrev pub is_wide_slot : Slot → Bool
is_wide_slot s = nat_lt 255 (length s.params)

abbrev pub is_wide : ScopeMember → Bool
is_wide m = list_any is_wide_slot (slots_of_member m)

abbrev pub is_wide_found : Option ScopeMember → Bool
is_wide_found None = false
is_wide_found (Some m) = is_wide m

-- the member at a place of an interface has too many
abbrev pub is_wide_at : List ScopeIface → ℕ → ℕ → Bool
is_wide_at ifaces k place =
    is_wide_found
    (option_and_then (λ (i : ScopeIface). slice_get i.members place) (slice_get ifaces k))

abbrev pub NoneIsWide : List ScopeIface → Type 0
NoneIsWide ifaces = (k place : ℕ) → is_wide_at ifaces k place ≡ false

-- no member of an interface has too many
abbrev pub NoMemberIsWide : List ScopeMember → Type 0
NoMemberIsWide members = (place : ℕ) → is_wide_found (slice_get members place) ≡ false

-- the first of its members that has
pub record IsFirstMember (members : List ScopeMember) (place : ℕ) : Type 0 where
  pub wide : is_wide_found (slice_get members place) ≡ true
  pub first : (m : ℕ) → m < place → is_wide_found (slice_get members m) ≡ false

-- the first such member of the first such interface
pub record IsFirstWide (ifaces : List ScopeIface) (number place : ℕ) : Type 0 where
  pub wide : is_wide_at ifaces number place ≡ true
  pub first_member : (m : ℕ) → m < place → is_wide_at ifaces number m ≡ false
  pub first_iface : (k m : ℕ) → k < number → is_wide_at ifaces k m ≡ false

-- ---- interfaces and items

abbrev pub constant_count : Option Body → ℕ
constant_count None = 0
constant_count (Some b) = length b.constants

abbrev pub has_many_constants : Iface → Bool
has_many_constants i = nat_lt 65535 (constant_count i.body)

-- more than 1,000,000 items, or more than 65,535 constants in an interface
abbrev pub has_too_many_items : Library → Bool
has_too_many_items lib = nat_lt 1000000 (item_count lib) || list_any has_many_constants lib.ifaces

-- ---- the outcome

-- a scope that a typelib has room for
pub record KeepsLimits (s : Scope) : Type 0 where
  pub narrow : NoneIsWide s.ifaces
  pub few : length s.ifaces ≤ 65535
  pub few_items : has_too_many_items (library_of s) ≡ false
  pub few_slots : (k : ℕ) → k < length s.ifaces → has_too_many s.ifaces k ≡ false

pub record HasManyInterfaces (ifaces : List ScopeIface) : Type 0 where
  pub narrow : NoneIsWide ifaces
  pub many : 65535 < length ifaces

pub record HasManyItems (s : Scope) : Type 0 where
  pub narrow : NoneIsWide s.ifaces
  pub few : length s.ifaces ≤ 65535
  pub many : has_too_many_items (library_of s) ≡ true

-- why a scope has no typelib
abbrev pub IsLowerFault : Scope → LowerError → Type 0
IsLowerFault s (error.Args number place) = IsFirstWide s.ifaces number place
IsLowerFault s error.Interfaces = HasManyInterfaces s.ifaces
IsLowerFault s error.Items = HasManyItems s
IsLowerFault s error.Memory = Unit {0}

-- the table that the flags and tags of a library give is the table that the scope means
abbrev pub HasTableOf : Scope → Library → Type 0
HasTableOf s library = table_of library ≡ static_table s
