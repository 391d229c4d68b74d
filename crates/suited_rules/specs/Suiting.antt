-- What is true of the rules and of the forwarders in every state that a script leaves: a rule suits
-- the method of its slot, and a forwarder has the interface of its target.
use Rattle.std.specs.Prelude.{◌≡◌, ℕ, true, List, slice_get, option_map, All, Option, Some}
use Rattle.call_model.specs.declared.places.Conv.{Conv}
use Rattle.call_model.specs.declared.tables.Table.{Table}
use Rattle.call_model.specs.declared.tables.TableSlot.{TableSlot}
use Rattle.call_model.specs.Tables.{slots_of}
use Rattle.call_replies.specs.Blocks.{Block, Held, Data, Object, Forwarder}
use Rattle.call_replies.specs.Items.{takes_items}
use Rattle.script_meaning.specs.State.{Rule, Rules, State, iface_in, object_numbered}

-- the number of the interface of the object of a number
abbrev pub iface_numbered : List Block → ℕ → Option ℕ
iface_numbered blocks n =
    option_map (λ (b : Block). iface_in b.held) (object_numbered blocks n)

-- each item suits the method in a slot of an interface
pub record SuitsSlot (table : Table) (iface slot : ℕ) (rule : Rule) : Type 0 where
  pub entry : TableSlot
  pub is : slice_get (slots_of table iface) slot ≡ Some entry
  pub suits : takes_items entry.proto rule ≡ true

-- the rule is one of an object, and suits the method of its slot there
pub record IsRule (table : Table) (blocks : List Block) (object slot : ℕ) (rule : Rule)
    : Type 0 where
  pub iface : ℕ
  pub has : iface_numbered blocks object ≡ Some iface
  pub suits : SuitsSlot table iface slot rule

abbrev pub AreRules : Table → List Block → Rules → Type 0
AreRules table blocks rules =
    (object slot : ℕ) (rule : Rule) → rules object slot ≡ Some rule
    → IsRule table blocks object slot rule

-- a forwarder has the interface of its target
abbrev pub IsAlike : List Block → Held → Type 0
IsAlike blocks (Data bytes) = Unit {0}
IsAlike blocks (Object number iface) = Unit {0}
IsAlike blocks (Forwarder number iface target own) = iface_numbered blocks target ≡ Some iface

abbrev pub AllAlike : List Block → Type 0
AllAlike blocks = All (λ (b : Block). IsAlike blocks b.held) blocks

pub record AreSuited (table : Table) (state : State) : Type 0 where
  pub rules : AreRules table state.blocks state.rules
  pub alike : AllAlike state.blocks
