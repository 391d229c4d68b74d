-- The slots of a scope's interfaces, which are the entries of their virtual tables in XPCOM, as
-- lists.
use Rattle.std.specs.Prelude.{ℕ, zero, suc, Bool, true, false, List, [], ◌∷◌, ◌++◌, take, length, ◌+◌, slice_get, Option, Some, None, option_and_then, if◌then◌else◌}
use Rattle.std.specs.List.{flat_map}
use Rattle.xp_base.specs.declared.kinds.Dir.TheVariants.{Inward, Outward}
use Rattle.call_model.specs.declared.prototypes.MemberKind.{MemberKind}
use Rattle.call_model.specs.declared.prototypes.MemberKind.TheVariants as kind
use Rattle.idl_meaning.specs.declared.scope.Meant.{Meant}
use Rattle.idl_meaning.specs.declared.scope.ScopeBody.{ScopeBody}
use Rattle.idl_meaning.specs.declared.scope.ScopeBody.TheVariants as body
use Rattle.idl_meaning.specs.declared.scope.ScopeIface.{ScopeIface}
use Rattle.idl_meaning.specs.declared.scope.ScopeMember.{ScopeMember}
use Rattle.idl_meaning.specs.declared.scope.ScopeParam.{ScopeParam}

-- What stands in a slot: a method, or the reading or the writing half of an attribute. A value that
-- it gives is the last of its parameters.
pub record Slot : Type 0 where
  pub name : List ℕ
  pub kind : MemberKind
  pub hidden : Bool
  pub notxpcom : Bool
  pub argc : Bool
  pub context : Bool
  pub params : List ScopeParam

-- ---- the slots of a member

-- the parameter by which a value of this type is given
abbrev pub given_param : Meant → ScopeParam
given_param ty = record {
  name = [];
  dir = Outward;
  ty = ty;
  array = false;
  size = None;
  length = None;
  iid = None;
  retval = true;
  shared = false;
  optional = false;
}

-- the parameter by which an attribute of this name and type is set
abbrev pub value_param : List ℕ → Meant → ScopeParam
value_param name ty = record {
  name = name;
  dir = Inward;
  ty = ty;
  array = false;
  size = None;
  length = None;
  iid = None;
  retval = false;
  shared = false;
  optional = false;
}

-- The value that a member returns. What is `notxpcom` returns it directly, and has no parameter for
-- it.
abbrev pub given : Bool → Option Meant → List ScopeParam
given true ty = []
given false None = []
given false (Some ty) = given_param ty ∷ []

abbrev pub getter : List ℕ → Bool → Bool → Bool → Meant → Slot
getter name hidden notxpcom context ty = record {
  name = name;
  kind = kind.Get;
  hidden = hidden;
  notxpcom = notxpcom;
  argc = false;
  context = context;
  params = given notxpcom (Some ty);
}

abbrev pub setter : List ℕ → Bool → Bool → Bool → Meant → Slot
setter name hidden notxpcom context ty = record {
  name = name;
  kind = kind.Set;
  hidden = hidden;
  notxpcom = notxpcom;
  argc = false;
  context = context;
  params = value_param name ty ∷ [];
}

abbrev pub method : List ℕ → Bool → Bool → Bool → Bool → Option Meant → List ScopeParam → Slot
method name hidden notxpcom argc context returns params = record {
  name = name;
  kind = kind.Plain;
  hidden = hidden;
  notxpcom = notxpcom;
  argc = argc;
  context = context;
  params = params ++ given notxpcom returns;
}

-- a constant has no slot, an attribute one or, where it can be set, two, and a method one
abbrev pub slots_in : List ℕ → ScopeBody → List Slot
slots_in name (body.Constant of value) = []
slots_in name (body.Attribute hidden notxpcom context readonly ty) =
    getter name hidden notxpcom context ty
    ∷ (if readonly then [] else (setter name hidden notxpcom context ty ∷ []))
slots_in name (body.Method hidden notxpcom argc context returns params) =
    method name hidden notxpcom argc context returns params ∷ []

abbrev pub slots_of_member : ScopeMember → List Slot
slots_of_member m = slots_in m.name m.body

-- ---- the slots of an interface

-- its own, in the order in which its members are written
abbrev pub own_slots : ScopeIface → List Slot
own_slots i = flat_map slots_of_member i.members

-- the parent and the own slots of the interface of this number
abbrev pub parent_of : List ScopeIface → ℕ → Option ℕ
parent_of ifaces k = option_and_then (λ i. i.parent) (slice_get ifaces k)

abbrev pub own_in : Option ScopeIface → List Slot
own_in None = []
own_in (Some i) = own_slots i

abbrev pub own_of : List ScopeIface → ℕ → List Slot
own_of ifaces k = own_in (slice_get ifaces k)

-- what f says of the parent, and nothing where there is none
abbrev pub above : {A : Type 0} → (ℕ → List A) → Option ℕ → List A
above f None = []
above f (Some parent) = f parent

-- the first n interfaces of the chain of parents, the interface itself first
unfoldable pub chain_within : List ScopeIface → ℕ → ℕ → List ℕ
chain_within ifaces zero k = []
chain_within ifaces (suc n) k = k ∷ above (chain_within ifaces n) (parent_of ifaces k)

-- the slots of the first n interfaces of that chain: the parent's, then the own
unfoldable pub slots_within : List ScopeIface → ℕ → ℕ → List Slot
slots_within ifaces zero k = []
slots_within ifaces (suc n) k =
    above (slots_within ifaces n) (parent_of ifaces k) ++ own_of ifaces k

-- The chain of parents and the slots of an interface. A chain may have 250 interfaces; of one that
-- has more or comes back to itself these are the first 251.
abbrev pub chain_of : List ScopeIface → ℕ → List ℕ
chain_of ifaces k = chain_within ifaces 251 k

abbrev pub slots_of : List ScopeIface → ℕ → List Slot
slots_of ifaces k = slots_within ifaces 251 k

-- the slots of its parent
abbrev pub inherited : List ScopeIface → ℕ → List Slot
inherited ifaces k = above (slots_of ifaces) (parent_of ifaces k)

-- ---- the slot of a member

-- the number of the first of these slots, where so many stand before them
abbrev pub first_from : ℕ → List Slot → Option ℕ
first_from before [] = None
first_from before (s ∷ slots) = Some before

-- the first slot of the member at this place, in an interface with so many slots of its parent
abbrev pub slot_behind : ℕ → List ScopeMember → ℕ → Option ℕ
slot_behind first members place =
    option_and_then
    (λ m. first_from (first + length (flat_map slots_of_member (take place members)))
    (slots_of_member m))
    (slice_get members place)

-- the first slot of a member: none where there is no such interface or member, or it is a constant
abbrev pub slot_number : List ScopeIface → ℕ → ℕ → Option ℕ
slot_number ifaces k place =
    option_and_then (λ i. slot_behind (length (inherited ifaces k)) i.members place)
    (slice_get ifaces k)
