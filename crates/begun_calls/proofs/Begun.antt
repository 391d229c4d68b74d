-- A call that has begun on a stage, and one that is refused.
use Rattle.std.proofs.Common.{◌≡◌, ◌∙◌, ◌<◌, ◌^◌, ℕ, ℤ, Bool, true, false, List, [], ◌∷◌, length, Option, Some, None, Result, Ok, Err, ap, refl, sym, subst, arith}
use Rattle.std.specs.Result.{result_ok}
use Rattle.std.proofs.lemmas.List.FromFn.{length-map-range_with_len}
use Rattle.std.proofs.lemmas.Option.{none-some, same_Some}
use Rattle.call_model.specs.declared.ctypes.CType.TheVariants.{Ptr}
use Rattle.call_model.specs.declared.places.Conv.{Conv}
use Rattle.call_model.specs.declared.prototypes.ProtoArg.{ProtoArg}
use Rattle.call_model.specs.declared.tables.Table.{Table}
use Rattle.call_model.specs.Prototype.{types_of}
use Rattle.call_model.specs.Tables.{descends_from}
use Rattle.call_model.specs.Values.{FrameView, canon, placed}
use Rattle.call_model.proofs.Conforming.{placed-conforms}
use Rattle.call_scripts.specs.declared.script.MemberRef.{MemberRef}
use Rattle.invoke_by_index.specs.declared.args.Arg.{Arg}
use Rattle.invoke_by_index.specs.Arguments.{arg_fault, value_at, values_of}
use Rattle.invoke_by_index.specs.Calls.{values_in}
use Rattle.invoke_by_index.specs.Cells.{PassesValues}
use Rattle.invoke_by_index.specs.Methods.{prototype}
use Rattle.invoke_by_index.proofs.Prototypes.{length-types_of}
use Rattle.lib_model.specs.declared.contents.Library.{Library}
use Rattle.lib_model.specs.Table.{table_of}
use Rattle.lib_model.specs.Valid.{IsValid}
use Rattle.object_memory.specs.declared.layout.TheConstants.{CELLS_AT, SLOTS}
use Rattle.object_memory.specs.Lends.{with_frame}
use Rattle.object_memory.specs.Memory.{IsLaidOut, MachineView, entry_at}
use Rattle.stub_dispatch.specs.Cells.{received_cells}
use Rattle.stub_dispatch.proofs.Thises.{this-of-placed}
use Rattle.transcript_text.specs.declared.refusals.Refusal.{Refusal}
use Rattle.transcript_text.specs.declared.refusals.Refusal.TheVariants as refusal
use Rattle.call_replies.specs.Blocks.{Block}
use Rattle.call_replies.specs.Writes.{have_cells}
use Rattle.call_replies.proofs.OwnCells.{has-own-cells, holds_blocks-beside}
use Rattle.script_meaning.specs.Calls.{Call, call_with}
use Rattle.script_meaning.specs.Members.{Member, member_named, object_of}
use Rattle.script_meaning.specs.Refusing.{◌then◌, no_fault, require}
use Rattle.script_meaning.specs.State.{State, iface_in, object_at, object_numbered}
use Rattle.script_meaning.specs.Step.{refusal_of}
use Rattle.script_members.specs.declared.found.Found.{Found}
use Rattle.script_members.specs.Remembered.{shown}
use Rattle.script_objects.proofs.Depths.{numbered-so}
use Rattle.script_stage.specs.declared.stages.Stage.{Stage}
use Rattle.script_stage.specs.Finding.{IsNumberOf}
use Rattle.script_chains.specs.declared.begun.Begun.{Begun}
use Rattle.script_chains.specs.Answers.{HasBegun}
use Rattle.script_chains.proofs.Frames.{frame-this, object-low}
use Rattle.suited_rules.proofs.Suits.{answers-suit}
use Rattle.begun_calls.specs.Calling.{HasCall, IsAt, IsCalling, call_begun, without_cells}
use Rattle.begun_calls.specs.Machines.{IsObjectOn, with_args}
use Rattle.begun_calls.proofs.Pushed.{has-room}

-- ---- what is asked for

module _ (table : Table) (conv : Conv) (state : State) (this : ℤ) (args : List Arg) (m : Member) where
  abbrev with_object : (context : ℕ) → Result (Unit {0}) Refusal → Result Block Refusal → Result Call Refusal
  with_object context fits object =
      fits then λ _. object then λ b. Ok (call_with conv context m b args)

  pub refused-arguments : (e : Refusal) → Err e ≡ no_fault (arg_fault conv m.proto args) refusal_of
      → call_begun table conv state this args m ≡ Err e
  refused-arguments e is =
      ap (λ fits. with_object state.context fits (object_of table m.iface (object_at state this))) (sym is)

  pub refused-object : (e : Refusal) → Ok tt ≡ no_fault (arg_fault conv m.proto args) refusal_of
      → object_of table m.iface (object_at state this) ≡ Err e
      → call_begun table conv state this args m ≡ Err e
  refused-object e fits is = λ i. with_object state.context (sym fits i) (is i)

  pub asked-call : (b : Block) (context : ℕ) → context ≡ state.context
      → Ok tt ≡ no_fault (arg_fault conv m.proto args) refusal_of
      → object_of table m.iface (object_at state this) ≡ Ok b
      → call_begun table conv state this args m ≡ Ok (call_with conv context m b args)
  asked-call b context same fits is = λ i. with_object (sym same i) (sym fits i) (is i)

-- an object that has the members of an interface descends from it
pub has-members : (table : Table) (iface : ℕ) (found : Option Block) (b : Block)
    → object_of table iface found ≡ Ok b → descends_from table (iface_in b.held) iface ≡ true
has-members table iface None b is = absurd (none-some b (ap result_ok is))
has-members table iface (Some c) b is = by_test (descends_from table (iface_in c.held) iface) refl is
  where
    by_test : (t : Bool) → descends_from table (iface_in c.held) iface ≡ t
        → (require t refusal.WrongInterface then λ _. Ok c) ≡ Ok b
        → descends_from table (iface_in b.held) iface ≡ true
    by_test true descends is =
        subst (λ (c : Block). descends_from table (iface_in c.held) iface ≡ true) (same_Some c b (ap result_ok is)) descends
    by_test false descends is = absurd (none-some b (ap result_ok is))

-- an address of 32 bits is its own pattern
own-address : (conv : Conv) (at : ℕ) → at < 2 ^ 32 → canon conv Ptr at ≡ at
own-address conv at low =
    sym (this-of-placed conv [] at [] refl)
    ∙ frame-this conv conv [] at [] refl low (record { paired = refl; each = λ i less. absurd (omega (arith, less)) })

-- ---- a stage with the frame of a call

-- but for its cells it is at the state
pub still-at : (table : Table) (stage : Stage) (state : State) → IsAt table stage state
    → (cells : List ℕ) (frame : FrameView)
    → IsAt table (without_cells (record stage { machine = record stage.machine { cells = cells; frame = frame } })) state
still-at table stage state at cells frame = record {
  stands = record {
    lawful = at.stands.lawful;
    holds = holds_blocks-beside stage.machine state.blocks [] frame at.stands.holds;
    cells = refl;
    blocks = at.stands.blocks;
    variables = at.stands.variables;
    objects = at.stands.objects;
    rules = at.stands.rules;
    context = at.stands.context;
  };
  suited = at.suited;
}

module _ (lib : Library) (valid : IsValid lib) (member : MemberRef) (found : Found)
    (named : member_named (table_of lib) member ≡ Ok (shown found)) (few : found.method.slot < SLOTS)
    (stage : Stage) (state : State) (at : IsAt (table_of lib) stage state)
    (this : ℤ) (args : List Arg) (number : ℕ)
    (asked : IsNumberOf state (object_of (table_of lib) found.iface (object_at state this)) number) where
  abbrev m : MachineView
  m = stage.machine

  abbrev proto : List ProtoArg
  proto = prototype found.method

  abbrev filled : MachineView
  filled = with_args m stage.context proto args

  abbrev values : List ℕ
  values = values_of CELLS_AT stage.context proto args

  abbrev frame : FrameView
  frame = placed m.conv (types_of proto) (asked.object.at ∷ values)

  abbrev call : Call
  call = call_with m.conv stage.context (shown found) asked.object args

  pub on-filled : (machine : MachineView) → machine ≡ filled
      → IsObjectOn machine stage.objects state.blocks number asked.object
  on-filled machine is =
      subst (λ k. IsObjectOn k stage.objects state.blocks number asked.object) (sym is)
      (record {
        lawful = at.stands.lawful.blocks;
        holds = holds_blocks-beside m state.blocks filled.cells m.frame at.stands.holds;
        known = at.stands.objects;
        is = asked.numbered;
      })

  paired : length (types_of proto) ≡ length (asked.object.at ∷ values)
  paired =
      omega (
        arith,
        length-types_of proto,
        length-map-range_with_len (value_at CELLS_AT stage.context proto args) 0 (length proto),
      )

  module _ (passes : PassesValues filled CELLS_AT proto values) (laid : IsLaidOut filled)
      (entry : ℕ) (loads : entry_at filled asked.object.at found.method.slot ≡ Some entry) where
    abbrev begun : Begun
    begun = record { number = number; entry = entry; entered = false }

    finds-cells : have_cells filled.cells (received_cells m.conv proto frame) 0 proto ≡ true
    finds-cells =
        ap (λ f. have_cells filled.cells (received_cells m.conv proto f) 0 proto) (sym (passes asked.object.at))
        ∙ has-own-cells m.conv filled CELLS_AT proto asked.object.at laid (has-room m stage.context proto args) refl

    has-begun : HasBegun (with_frame filled frame) stage.objects stage.rules begun found.method state call
    has-begun =
        let own = numbered-so state.blocks at.stands.lawful.blocks.down number asked.object asked.numbered in
        let low = object-low m.conv state.blocks at.stands.lawful.blocks number asked.object asked.numbered in
        record {
          lawful = at.stands.lawful.blocks;
          holds = holds_blocks-beside m state.blocks filled.cells frame at.stands.holds;
          known = at.stands.objects;
          rules_are = at.stands.rules;
          call_is = refl;
          object = asked.numbered;
          slot = few;
          cells_are = refl;
          this = this-of-placed m.conv proto asked.object.at values paired ∙ own-address m.conv asked.object.at low;
          entry = loads;
          enough = (placed-conforms m.conv (types_of proto) (asked.object.at ∷ values) paired).enough;
          has_cells = finds-cells;
          suits = answers-suit lib valid m.conv state at.suited member (shown found) named asked.object
              (ap (object_numbered state.blocks) own.0 ∙ asked.numbered)
              (has-members (table_of lib) found.iface (object_at state this) asked.object asked.is);
        }

    calls-filled : IsCalling (table_of lib) (record stage { machine = with_frame filled frame }) state begun found.method call
    calls-filled = record {
      at = still-at (table_of lib) stage state at filled.cells frame;
      has = has-begun;
    }

  -- so the call that is asked for has begun, on a machine that is the one with its cells
  pub has-call : (machine after : MachineView) (result : Begun)
      → machine ≡ filled
      → PassesValues machine CELLS_AT proto values → IsLaidOut machine
      → after ≡ with_frame machine (placed machine.conv (types_of proto) (asked.object.at ∷ values_in machine CELLS_AT proto))
      → entry_at machine asked.object.at found.method.slot ≡ Some result.entry
      → result.number ≡ number → result.entered ≡ false
      → Ok tt ≡ no_fault (arg_fault m.conv proto args) refusal_of
      → HasCall (table_of lib) stage (record stage { machine = after }) state result found.method
      (call_begun (table_of lib) m.conv state this args (shown found))
  has-call machine after result is passes laid left loads same entered fits =
      let passed = subst (λ k. PassesValues k CELLS_AT proto values) is passes in
      let all : after ≡ with_frame filled frame =
      left
      ∙ ap (λ (k : MachineView). with_frame k (placed k.conv (types_of proto) (asked.object.at ∷ values_in k CELLS_AT proto))) is
      ∙ ap (with_frame filled) (passed asked.object.at) in
      let begun : Begun = record { number = number; entry = result.entry; entered = false } in
      let calls = calls-filled passed (subst IsLaidOut is laid) result.entry
      (subst (λ k. entry_at k asked.object.at found.method.slot ≡ Some result.entry) is loads) in
      let on : IsCalling (table_of lib) (record stage { machine = after }) state begun found.method call =
      subst (λ k. IsCalling (table_of lib) (record stage { machine = k }) state begun found.method call) (sym all) calls in
      record {
        call = call;
        is = asked-call (table_of lib) m.conv state this args (shown found) asked.object stage.context at.stands.context fits asked.is;
        calling = subst (λ (b : Begun). IsCalling (table_of lib) (record stage { machine = after }) state b found.method call)
            (λ i. record { number = sym same i; entry = result.entry; entered = sym entered i }) on;
        conv = ap (λ (k : MachineView). k.conv) all;
      }
