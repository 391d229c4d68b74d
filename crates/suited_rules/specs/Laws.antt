-- Rules suit the methods that they are for, in every state that a script leaves.
use Rattle.std.specs.Prelude.{◌≡◌, ℕ, true, slice_get, Some, Ok}
use Rattle.call_model.specs.declared.places.Conv.{Conv}
use Rattle.call_model.specs.declared.tables.Table.{Table}
use Rattle.call_model.specs.Tables.{descends_from}
use Rattle.lib_model.specs.declared.contents.Library.{Library}
use Rattle.lib_model.specs.Table.{table_of}
use Rattle.lib_model.specs.Valid.{IsValid}
use Rattle.call_scripts.specs.declared.script.Line.{Line}
use Rattle.call_scripts.specs.declared.script.MemberRef.{MemberRef}
use Rattle.call_replies.specs.Blocks.{Block}
use Rattle.call_replies.specs.Items.{takes_items}
use Rattle.call_replies.specs.Repliers.{items_of}
use Rattle.script_meaning.specs.Chain.{answering, chain_of}
use Rattle.script_meaning.specs.Lawful.{IsLawful}
use Rattle.script_meaning.specs.Members.{Member, member_named}
use Rattle.script_meaning.specs.State.{State, empty, iface_in, number_in, object_numbered}
use Rattle.script_meaning.specs.Step.{step}
use Rattle.suited_rules.specs.Suiting.{AreSuited}

-- before the first line there are no rules
abbrev pub StartsSuited : Type 0
StartsSuited = (table : Table) → AreSuited table empty

-- each line leaves rules that suit
abbrev pub StepsKeepSuited : Type 0
StepsKeepSuited =
    (lib : Library) → IsValid lib → (conv : Conv) (state : State) → IsLawful conv state
    → AreSuited (table_of lib) state
    → (line : Line) → AreSuited (table_of lib) (step (table_of lib) conv state line).state

-- where an object has a member that is called, the rule of the object that answers for the member's
-- slot has items that suit the member's prototype
abbrev pub AnswersSuit : Type 0
AnswersSuit =
    (lib : Library) → IsValid lib → (conv : Conv) (state : State) → AreSuited (table_of lib) state
    → (member : MemberRef) (m : Member) → member_named (table_of lib) member ≡ Ok m
    → (b : Block) → object_numbered state.blocks (number_in b.held) ≡ Some b
    → descends_from (table_of lib) (iface_in b.held) m.iface ≡ true
    → takes_items
    m.proto
    (items_of (state.rules (number_in (answering b (chain_of state.blocks conv b)).held) m.slot))
    ≡ true
