-- An enter that has begun on a stage, and one that is refused.
use Rattle.std.proofs.Common.{◌≡◌, ◌∙◌, ◌<◌, ℕ, Bool, true, false, nat_le, List, length, Option, Some, None, Result, Ok, Err, ap, refl, sym, subst}
use Rattle.std.specs.Prelude.{option_and_then}
use Rattle.std.specs.Result.{IsErrAnd, result_ok}
use Rattle.std.proofs.lemmas.Bool.{leb-true}
use Rattle.std.proofs.lemmas.Option.{none-some}
use Rattle.call_model.specs.declared.places.Conv.{Conv}
use Rattle.call_model.specs.declared.prototypes.ProtoArg.{ProtoArg}
use Rattle.call_model.specs.declared.tables.Table.{Table}
use Rattle.call_model.specs.Values.{FrameView}
use Rattle.call_scripts.specs.declared.script.EnterItem.{EnterItem}
use Rattle.call_scripts.specs.declared.script.MemberRef.{MemberRef}
use Rattle.descriptor_reader.specs.Views.{MethodOf}
use Rattle.invoke_by_index.specs.Methods.{prototype}
use Rattle.lib_model.specs.declared.contents.Library.{Library}
use Rattle.lib_model.specs.Table.{table_of}
use Rattle.lib_model.specs.Valid.{IsValid}
use Rattle.object_memory.specs.declared.layout.TheConstants.{SLOTS}
use Rattle.object_memory.specs.Lends.{with_frame}
use Rattle.object_memory.specs.Memory.{MachineView, entry_at}
use Rattle.transcript_text.specs.declared.refusals.Refusal.{Refusal}
use Rattle.transcript_text.specs.declared.refusals.Refusal.TheVariants as refusal
use Rattle.call_replies.specs.Blocks.{Block}
use Rattle.call_replies.proofs.OwnCells.{holds_blocks-beside}
use Rattle.script_meaning.specs.Calls.{Call, enter_with}
use Rattle.script_meaning.specs.Enters.{entered_frame, misformed}
use Rattle.script_meaning.specs.Members.{Member, as_object, member_named, object_of}
use Rattle.script_meaning.specs.Refusing.{◌then◌, no_fault, require, there_is}
use Rattle.script_meaning.specs.State.{Name, State, named, object_numbered}
use Rattle.script_meaning.specs.Step.{short_frame, stack_given, stack_needed, whole}
use Rattle.script_members.specs.declared.found.Found.{Found}
use Rattle.script_members.specs.Remembered.{shown}
use Rattle.script_objects.proofs.Depths.{numbered-so}
use Rattle.script_stage.specs.declared.errors.StepError.{StepError}
use Rattle.script_stage.specs.declared.errors.StepError.TheVariants.{Refused}
use Rattle.script_stage.specs.declared.stages.Stage.{Stage}
use Rattle.script_stage.specs.Finding.{IsNumberOf, named_object}
use Rattle.script_chains.specs.declared.begun.Begun.{Begun}
use Rattle.script_chains.specs.Answers.{HasBegun}
use Rattle.script_chains.proofs.Frames.{object-low}
use Rattle.suited_rules.proofs.Suits.{answers-suit}
use Rattle.begun_calls.specs.Calling.{Begins, HasCall, IsAt, IsCalling, MayBegin, enter_begun}
use Rattle.begun_calls.specs.Machines.{HasEntered, IsObjectOn}
use Rattle.begun_calls.proofs.Begun.{has-members, still-at}
use Rattle.begun_calls.proofs.EnteredFrames.{this-of-entered}

-- ---- what is asked for

module _ (table : Table) (conv : Conv) (state : State) (name : Name) (items : List EnterItem) (m : Member) where
  abbrev with_object : Result (Unit {0}) Refusal → Result Block Refusal → Result Call Refusal
  with_object fits object = fits then λ _. object then λ b. whole conv (enter_with conv m b items)

  abbrev in_block : Option Block → Result Call Refusal
  in_block found =
      there_is found refusal.NoName
      then λ b. with_object (no_fault (misformed conv items) refusal.Form) (object_of table m.iface (as_object b))

  pub refused-name : named state name ≡ None
      → enter_begun table conv state name items m ≡ Err refusal.NoName
  refused-name is = ap in_block is

  module _ (b : Block) (is : named state name ≡ Some b) where
    at-block : enter_begun table conv state name items m
        ≡ with_object (no_fault (misformed conv items) refusal.Form) (object_of table m.iface (named_object state name))
    at-block =
        ap in_block is
        ∙ ap (λ found. with_object (no_fault (misformed conv items) refusal.Form) (object_of table m.iface (option_and_then as_object found)))
        (sym is)

    pub refused-item : (k : ℕ) → misformed conv items ≡ Some k
        → enter_begun table conv state name items m ≡ Err (refusal.Form k)
    refused-item k item =
        at-block
        ∙ ap (λ fault. with_object (no_fault fault refusal.Form) (object_of table m.iface (named_object state name))) item

    at-object : misformed conv items ≡ None → (object : Result Block Refusal)
        → object_of table m.iface (named_object state name) ≡ object
        → enter_begun table conv state name items m ≡ with_object (Ok tt) object
    at-object taken object found =
        at-block ∙ (λ i. with_object (no_fault (taken i) refusal.Form) (found i))

    pub refused-object : (e : Refusal) → misformed conv items ≡ None
        → object_of table m.iface (named_object state name) ≡ Err e
        → enter_begun table conv state name items m ≡ Err e
    refused-object e taken found = at-object taken (Err e) found

    -- whether the stack is as long as the arguments need decides, once there is an object
    module _ (object : Block) (taken : misformed conv items ≡ None)
        (found : object_of table m.iface (named_object state name) ≡ Ok object) where
      abbrev call : Call
      call = enter_with conv m object items

      abbrev long : Result (Unit {0}) Refusal
      long = require (nat_le (stack_needed conv call) (stack_given call)) (short_frame conv call)

      pub refused-frame : (e : Refusal) → Err e ≡ long → enter_begun table conv state name items m ≡ Err e
      refused-frame e short = at-object taken (Ok object) found ∙ ap (λ r. r then λ _. Ok call) (sym short)

      pub asked-enter : Ok tt ≡ long → enter_begun table conv state name items m ≡ Ok call
      asked-enter enough = at-object taken (Ok object) found ∙ ap (λ r. r then λ _. Ok call) (sym enough)

-- an error that was handed on is the refusal that came
pub begins-refused : (table : Table) (asked : State → Result Call Refusal) (old new : Stage)
    (method : MethodOf) (result : Result Begun StepError) (e : Refusal)
    → IsErrAnd result (λ s. s ≡ Refused e) → Begins table asked old new method (Err e)
    → MayBegin table asked old new method result
begins-refused table asked old new method (Ok begun) e is refused = absurd is
begins-refused table asked old new method (Err s) e is refused =
    subst (λ s. MayBegin table asked old new method (Err s)) (sym is) refused

-- what is required is true
required : (t : Bool) (e : Refusal) → Ok tt ≡ require t e → t ≡ true
required true e is = refl
required false e is = absurd (none-some tt (sym (ap result_ok is)))

-- ---- a stage with another frame

pub framed-at : (table : Table) (stage : Stage) (state : State) → IsAt table stage state
    → (frame : FrameView) → IsAt table (record stage { machine = with_frame stage.machine frame }) state
framed-at table stage state at frame = record {
  stands = record {
    lawful = at.stands.lawful;
    holds = holds_blocks-beside stage.machine state.blocks stage.machine.cells frame at.stands.holds;
    cells = at.stands.cells;
    blocks = at.stands.blocks;
    variables = at.stands.variables;
    objects = at.stands.objects;
    rules = at.stands.rules;
    context = at.stands.context;
  };
  suited = at.suited;
}

-- the object of a number is one on the stage's machine
pub on-stage : (table : Table) (stage : Stage) (state : State) → IsAt table stage state
    → (asked : Result Block Refusal) (number : ℕ) (found : IsNumberOf state asked number)
    → IsObjectOn stage.machine stage.objects state.blocks number found.object
on-stage table stage state at asked number found = record {
  lawful = at.stands.lawful.blocks;
  holds = at.stands.holds;
  known = at.stands.objects;
  is = found.numbered;
}

module _ (lib : Library) (valid : IsValid lib) (member : MemberRef) (found : Found)
    (is_member : member_named (table_of lib) member ≡ Ok (shown found)) (few : found.method.slot < SLOTS)
    (stage : Stage) (state : State) (at : IsAt (table_of lib) stage state)
    (name : Name) (items : List EnterItem) (number : ℕ)
    (asked : IsNumberOf state (object_of (table_of lib) found.iface (named_object state name)) number)
    (taken : misformed stage.machine.conv items ≡ None) where
  abbrev m : MachineView
  m = stage.machine

  abbrev proto : List ProtoArg
  proto = prototype found.method

  abbrev frame : FrameView
  frame = entered_frame m.conv asked.object.at items

  abbrev entered : Call
  entered = enter_with m.conv (shown found) asked.object items

  module _ (entry : ℕ) (loads : entry_at m asked.object.at found.method.slot ≡ Some entry)
      (enough : nat_le (stack_needed m.conv entered) (length frame.stack) ≡ true) where
    abbrev begun : Begun
    begun = record { number = number; entry = entry; entered = true }

    has-begun : HasBegun (with_frame m frame) stage.objects stage.rules begun found.method state entered
    has-begun =
        let own = numbered-so state.blocks at.stands.lawful.blocks.down number asked.object asked.numbered in
        let low = object-low m.conv state.blocks at.stands.lawful.blocks number asked.object asked.numbered in
        record {
          lawful = at.stands.lawful.blocks;
          holds = holds_blocks-beside m state.blocks m.cells frame at.stands.holds;
          known = at.stands.objects;
          rules_are = at.stands.rules;
          call_is = refl;
          object = asked.numbered;
          slot = few;
          cells_are = at.stands.cells;
          this = this-of-entered m.conv asked.object.at items low taken;
          entry = loads;
          enough = leb-true (stack_needed m.conv entered) (length frame.stack) enough;
          has_cells = refl;
          suits = answers-suit lib valid m.conv state at.suited member (shown found) is_member asked.object
              (ap (object_numbered state.blocks) own.0 ∙ asked.numbered)
              (has-members (table_of lib) found.iface (named_object state name) asked.object asked.is);
        }

    enters : IsCalling (table_of lib) (record stage { machine = with_frame m frame }) state begun found.method entered
    enters = record {
      at = still-at (table_of lib) stage state at m.cells frame;
      has = has-begun;
    }

  -- so the call that is asked for has begun
  pub has-enter : (b : Block) → named state name ≡ Some b → (after : MachineView) (result : Begun)
      → HasEntered m after found.method items asked.object number result
      → Ok tt ≡ require (nat_le (stack_needed after.conv entered) (length after.frame.stack))
      (refusal.Frame (stack_needed after.conv entered) (length after.frame.stack))
      → HasCall (table_of lib) stage (record stage { machine = after }) state result found.method
      (enter_begun (table_of lib) m.conv state name items (shown found))
  has-enter b block after result has fits =
      let long : Ok tt ≡ require (nat_le (stack_needed m.conv entered) (length frame.stack)) (short_frame m.conv entered) =
      subst (λ (k : MachineView). Ok tt ≡ require (nat_le (stack_needed k.conv entered) (length k.frame.stack))
      (refusal.Frame (stack_needed k.conv entered) (length k.frame.stack))) has.frame fits in
      let begun : Begun = record { number = number; entry = result.entry; entered = true } in
      let enough = required (nat_le (stack_needed m.conv entered) (length frame.stack)) (short_frame m.conv entered) long in
      let on : IsCalling (table_of lib) (record stage { machine = after }) state begun found.method entered =
      subst (λ k. IsCalling (table_of lib) (record stage { machine = k }) state begun found.method entered) (sym has.frame)
      (enters result.entry has.entry enough) in
      record {
        call = entered;
        is = asked-enter (table_of lib) m.conv state name items (shown found) b block asked.object taken asked.is long;
        calling = subst (λ (r : Begun). IsCalling (table_of lib) (record stage { machine = after }) state r found.method entered)
            (λ i. record { number = sym has.number i; entry = result.entry; entered = sym has.entered i }) on;
        conv = ap (λ (k : MachineView). k.conv) has.frame;
      }

  -- and a frame that is too short is refused
  pub too-short : (b : Block) → named state name ≡ Some b → (after : MachineView) (e : Refusal)
      → after ≡ with_frame m frame
      → Err e ≡ require (nat_le (stack_needed after.conv entered) (length after.frame.stack))
      (refusal.Frame (stack_needed after.conv entered) (length after.frame.stack))
      → enter_begun (table_of lib) m.conv state name items (shown found) ≡ Err e
  too-short b block after e left short =
      refused-frame (table_of lib) m.conv state name items (shown found) b block asked.object taken asked.is e
      (subst (λ (k : MachineView). Err e ≡ require (nat_le (stack_needed k.conv entered) (length k.frame.stack))
      (refusal.Frame (stack_needed k.conv entered) (length k.frame.stack))) left short)
