-- What is true of all scripts.
use Rattle.std.specs.Prelude.{◌≡◌, ◌≤◌, ℕ, [], ◌∷◌, ◌++◌, List, Some, None, Ok, Err}
use Rattle.call_model.specs.declared.places.Conv.{Conv}
use Rattle.call_model.specs.declared.prototypes.ProtoArg.{ProtoArg}
use Rattle.call_model.specs.declared.tables.Table.{Table}
use Rattle.call_model.specs.Prototype.{types_of}
use Rattle.call_model.specs.Values.{Conforms}
use Rattle.call_scripts.specs.declared.script.Act.TheVariants.{Enter}
use Rattle.call_scripts.specs.declared.script.EnterItem.{EnterItem}
use Rattle.call_scripts.specs.declared.script.Line.{Line}
use Rattle.call_scripts.specs.declared.script.MemberRef.{MemberRef}
use Rattle.transcript_text.specs.declared.refusals.Refusal.{Refusal}
use Rattle.call_replies.specs.Blocks.{Block}
use Rattle.script_meaning.specs.Chain.{AllHandDown, HandsDown, chain_of, chain_within}
use Rattle.script_meaning.specs.Enters.{entered_frame, misformed}
use Rattle.script_meaning.specs.Lawful.{IsLawful}
use Rattle.script_meaning.specs.Members.{Member, member_named}
use Rattle.script_meaning.specs.State.{Name, State, named, number_in}
use Rattle.script_meaning.specs.Step.{Stepped, echo_text, outcome, refused_text, settled, step}
use Rattle.script_meaning.specs.Transcript.{end, run_from}

-- ---- refused lines

-- a line is refused: it leaves the state as it was, writes its words and why, and shows nothing;
-- and the next lines run from this state
pub record IsRefused
    (table : Table)
    (conv : Conv)
    (state : State)
    (line : Line)
    (lines : List Line)
    (e : Refusal)
    : Type 0 where
  pub state_stays : (step table conv state line).state ≡ state
  pub text_is : (step table conv state line).text ≡ echo_text line ++ refused_text e
  pub nothing_shown : (step table conv state line).sights ≡ []
  pub others_run : (run_from table conv state (line ∷ lines)).text
      ≡ (echo_text line ++ refused_text e) ++ (run_from table conv state lines).text
  pub end_is : (run_from table conv state (line ∷ lines)).state
      ≡ (run_from table conv state lines).state

abbrev pub RefusedChangesNothing : Type 0
RefusedChangesNothing =
    (table : Table) (conv : Conv) (state : State) (line : Line) (lines : List Line) (e : Refusal)
    → outcome table conv state line.act ≡ Err e
    → IsRefused table conv state line lines e

-- ---- states

-- a line leaves a lawful state lawful
abbrev pub StepsKeepLawful : Type 0
StepsKeepLawful =
    (table : Table) (conv : Conv) (state : State) (line : Line)
    → IsLawful conv state → IsLawful conv (step table conv state line).state

-- so every state at the end of a script is lawful
abbrev pub EndsAreLawful : Type 0
EndsAreLawful =
    (table : Table) (conv : Conv) (lines : List Line) → IsLawful conv (end table conv lines)

-- ---- enters

-- the items of an `enter` line are well formed, and the frame that they give conforms to values
pub record Passes
    (conv : Conv)
    (proto : List ProtoArg)
    (object : Block)
    (values : List ℕ)
    (items : List EnterItem)
    : Type 0 where
  pub formed : misformed conv items ≡ None
  pub conforms :
      Conforms conv (types_of proto) (object.at ∷ values) (entered_frame conv object.at items)

-- what a line wrote behind its own words, and the state that it left
abbrev pub enter : Table → Conv → State → Name → MemberRef → List EnterItem → Stepped
enter table conv state name member items =
    settled state (outcome table conv state (Enter name member items))

pub record SameOutcome (one other : Stepped) : Type 0 where
  pub text : one.text ≡ other.text
  pub state : one.state ≡ other.state

-- two `enter` lines for one object and one member, whose frames conform to the same values, have
-- the same outcome, whatever stands in the free bits and bytes
abbrev pub EntersAlike : Type 0
EntersAlike =
    (table : Table) (conv : Conv) (state : State) (name : Name) (member : MemberRef)
    (object : Block) (m : Member)
    → named state name ≡ Some object → member_named table member ≡ Ok m
    → (values : List ℕ) (one other : List EnterItem)
    → Passes conv m.proto object values one → Passes conv m.proto object values other
    → SameOutcome
    (enter table conv state name member one)
    (enter table conv state name member other)

-- ---- chains

-- where each forwarder hands down to a smaller number, as in the states of scripts, as many steps
-- as an object's number reach the end of its way
abbrev pub ChainsEnd : Type 0
ChainsEnd =
    (blocks : List Block) → AllHandDown blocks
    → (conv : Conv) (b : Block) → HandsDown b.held
    → (n : ℕ) → number_in b.held ≤ n
    → chain_within n blocks conv b ≡ chain_of blocks conv b
