-- What a table of interfaces says: the lineage of an interface, its slots, and where a member of
-- it stands. A number of an interface counts from 1, and 0 is the number of none.
use Rattle.std.specs.Prelude.{◌≡◌, ℕ, zero, suc, ◌+◌, ◌<◌, ◌≤◌, ◌==◌, ◌&&◌, ◌||◌, Bool, true, false, List, [], ◌∷◌, ◌++◌, length, slice_get, Option, Some, None, option_map, sum_by}
use Rattle.std.specs.List.{list_any, position}
use Rattle.std.specs.Str.{bytes_eq}
use Rattle.call_model.specs.declared.prototypes.MemberKind.{MemberKind}
use Rattle.call_model.specs.declared.prototypes.MemberKind.TheVariants.{Plain, Get, Set}
use Rattle.call_model.specs.declared.tables.TableSlot.{TableSlot}
use Rattle.call_model.specs.declared.tables.TableIface.{TableIface}
use Rattle.call_model.specs.declared.tables.Table.{Table}

-- ---- one interface

-- the interface of this number
abbrev pub iface_at : List TableIface → ℕ → Option TableIface
iface_at ifaces zero = None
iface_at ifaces (suc k) = slice_get ifaces k

-- the own slots of an interface, and the number of its parent; where there is no interface, none
abbrev pub slots_in : Option TableIface → List TableSlot
slots_in None = []
slots_in (Some i) = i.slots

abbrev pub parent_in : Option TableIface → ℕ
parent_in None = 0
parent_in (Some i) = i.parent

abbrev pub own_slots : Table → ℕ → List TableSlot
own_slots table number = slots_in (iface_at table.ifaces number)

abbrev pub own_count : Table → ℕ → ℕ
own_count table number = length (own_slots table number)

abbrev pub parent_of : Table → ℕ → ℕ
parent_of table number = parent_in (iface_at table.ifaces number)

-- ---- an interface that is looked for

-- the number of the first resolved interface that passes a test
abbrev pub first_resolved : (TableIface → Bool) → Table → Option ℕ
first_resolved test table =
    option_map (λ k. k + 1) (position (λ (i : TableIface). i.resolved && test i) table.ifaces)

-- the number of the first resolved interface of this name
abbrev pub iface_named : Table → List ℕ → Option ℕ
iface_named table name = first_resolved (λ (i : TableIface). bytes_eq i.name name) table

-- the number of the first resolved interface with this IID
abbrev pub iface_with_iid : Table → List ℕ → Option ℕ
iface_with_iid table iid = first_resolved (λ (i : TableIface). bytes_eq i.iid iid) table

-- ---- lineages

-- the numbers of an interface, of its parent, of that one's parent and so on: the first n, or all
-- where they end before
unfoldable pub lineage_within : List TableIface → ℕ → ℕ → List ℕ
lineage_within ifaces zero number = []
lineage_within ifaces (suc n) zero = []
lineage_within ifaces (suc n) (suc k) =
    suc k ∷ lineage_within ifaces n (parent_in (iface_at ifaces (suc k)))

-- an interface and its ancestors, the nearest first; where there are more than 250 or they are
-- cyclic, the first 251
abbrev pub lineage_of : Table → ℕ → List ℕ
lineage_of table number = lineage_within table.ifaces 251 number

-- the ancestors end: with the interface there are at most 250, as in every valid library
abbrev pub HasShortLineage : Table → ℕ → Type 0
HasShortLineage table number = length (lineage_of table number) ≤ 250

-- whether an interface is `from`, or has it among its ancestors. Nothing descends from 0, which is
-- no interface
abbrev pub descends_from : Table → (number from : ℕ) → Bool
descends_from table number from = list_any (λ n. n == from) (lineage_of table number)

abbrev pub parent_descends : Table → (number from : ℕ) → Bool
parent_descends table number from = descends_from table (parent_of table number) from

-- an interface descends from itself and from all that its parent descends from, and nothing
-- descends from 0
pub record DescendsByParents (table : Table) (number : ℕ) : Type 0 where
  pub none : descends_from table number 0 ≡ false
  pub itself : 0 < number → descends_from table number number ≡ true
  pub through : HasShortLineage table number → 0 < number → (from : ℕ)
      → descends_from table number from ≡ (number == from) || parent_descends table number from

-- ---- slots

-- the slots of an interface whose lineage has at most n interfaces: those of its parent, then its
-- own
unfoldable pub slots_within : List TableIface → ℕ → ℕ → List TableSlot
slots_within ifaces zero number = []
slots_within ifaces (suc n) number =
    slots_within ifaces n (parent_in (iface_at ifaces number)) ++ slots_in (iface_at ifaces number)

-- the slots of an interface, in order; a lineage has at most 250 interfaces
abbrev pub slots_of : Table → ℕ → List TableSlot
slots_of table number = slots_within table.ifaces 250 number

abbrev pub parent_slots : Table → ℕ → List TableSlot
parent_slots table number = slots_of table (parent_of table number)

-- the first own slot: as many stand before it as the parent has
abbrev pub first_slot : Table → ℕ → ℕ
first_slot table number = length (parent_slots table number)

-- one past the last slot
abbrev pub end_slot : Table → ℕ → ℕ
end_slot table number = length (slots_of table number)

-- the slots are the parent's and then the own; they end behind the own ones, and are as many as
-- the lineage has
pub record HasSlotsOfParent (table : Table) (number : ℕ) : Type 0 where
  pub slots : slots_of table number ≡ parent_slots table number ++ own_slots table number
  pub ends : end_slot table number ≡ first_slot table number + own_count table number
  pub counted : end_slot table number ≡ sum_by (own_count table) (lineage_of table number)

-- ---- members

-- whether two kinds are the same
abbrev pub same_kind : MemberKind → MemberKind → Bool
same_kind Plain Plain = true
same_kind Get Get = true
same_kind Set Set = true
same_kind _ _ = false

-- whether a slot is the member of this kind and name
abbrev pub is_member : MemberKind → List ℕ → TableSlot → Bool
is_member kind name slot = same_kind slot.kind kind && bytes_eq slot.name name

-- a place in a list behind so many, or else another
abbrev pub behind_or : ℕ → Option ℕ → Option ℕ → Option ℕ
behind_or before (Some at) other = Some (before + at)
behind_or before None other = other

-- the slot of the first own member of this kind and name, or else the parent's, the nearest first
unfoldable pub member_within : MemberKind → List ℕ → List TableIface → ℕ → ℕ → Option ℕ
member_within kind name ifaces zero number = None
member_within kind name ifaces (suc n) number =
    behind_or (length (slots_within ifaces n (parent_in (iface_at ifaces number))))
    (position (is_member kind name) (slots_in (iface_at ifaces number)))
    (member_within kind name ifaces n (parent_in (iface_at ifaces number)))

abbrev pub member_of : Table → ℕ → MemberKind → List ℕ → Option ℕ
member_of table number kind name = member_within kind name table.ifaces 250 number
