-- A call that has begun on a stage, and the stage after it.
use Rattle.std.proofs.Common.{◌≡◌, ◌∙◌, ℕ, ◌*◌, ◌-◌, Bool, true, false, List, [], ◌∷◌, ◌++◌, drop, fold, length, Option, Some, None, Result, Ok, Err, IfErr, if◌then◌else◌, ap, refl, sym, subst, arith, append_assoc}
use Rattle.std.specs.List.{flat_map}
use Rattle.std.proofs.Math.Seq.{take-length}
use Rattle.std.proofs.lemmas.List.{append-nil}
use Rattle.raw_block.specs.Bytes.{overwritten}
use Rattle.call_model.specs.declared.places.Conv.{Conv}
use Rattle.call_model.specs.declared.tables.Table.{Table}
use Rattle.call_scripts.specs.declared.script.ArgWord.{ArgWord}
use Rattle.descriptor_reader.specs.Views.{MethodOf}
use Rattle.invoke_by_index.specs.Methods.{prototype}
use Rattle.machine_bench.specs.declared.sight.Sight.{Sight}
use Rattle.machine_bench.specs.Seen.{Saw, SawPrefix}
use Rattle.object_memory.specs.declared.layout.TheConstants.{CELLS_AT}
use Rattle.object_memory.specs.Cells.{cell_numbers}
use Rattle.object_memory.specs.Memory.{MachineView}
use Rattle.transcript_text.specs.Texts.{result_text, slot_text}
use Rattle.call_replies.specs.Blocks.{Block, blocks_after}
use Rattle.call_replies.specs.Reply.{Asked, Memory, Write, reply, reply_by, result_of, writes_of, written}
use Rattle.call_replies.proofs.OwnCells.{holds_blocks-beside}
use Rattle.script_meaning.specs.Calls.{Call, after, asked, call_text, chain, first_frame_text, got_text, learned_at, memory_before, out_positions, reply_to, state_after, stop_text, values_received}
use Rattle.script_meaning.specs.Chain.{answering}
use Rattle.script_meaning.specs.Lawful.{IsLawful}
use Rattle.script_meaning.specs.Outs.{out_line}
use Rattle.script_meaning.specs.State.{Rule, State, number_in}
use Rattle.script_meaning.specs.Step.{made_by}
use Rattle.script_meaning.proofs.Kept.{lawful-reply}
use Rattle.script_objects.specs.declared.rules.Rules.{Rules}
use Rattle.script_objects.specs.Known.{AreKnown}
use Rattle.script_objects.specs.Ruling.{known_rules}
use Rattle.script_objects.proofs.Kept.{replies-keep}
use Rattle.script_results.specs.Positions.{cell_positions}
use Rattle.script_chains.specs.declared.begun.Answered.{Answered}
use Rattle.script_chains.specs.declared.begun.Begun.{Begun}
use Rattle.script_chains.specs.Answers.{IsAnswered, answer_text, call_on}
use Rattle.script_chains.proofs.Frames.{length-received}
use Rattle.script_stage.specs.declared.stages.Stage.{Stage}
use Rattle.script_stage.specs.Standing.{Stands, known, noted_as}
use Rattle.script_stage.proofs.Poked.{noted_as-after}
use Rattle.begun_calls.specs.Calling.{without_cells}
use Rattle.made_calls.specs.Making.{CameOut, CanBeMade, IsMade, first_lines, shown}
use Rattle.made_calls.proofs.Having.{length-words}

-- ---- sights

abbrev Told : Type 0
Told = Option (List Sight)

pub saw-whole : (s t : Told) (xs : List Sight) → Saw s t xs → SawPrefix s t xs
saw-whole s t xs saw = (length xs, omega arith, subst (Saw s t) (sym (take-length xs)) saw)

-- what is true whatever an error is
pub of-error : {A E : Type 0} (r : Result A E) (Q : Type 0) → Q → IfErr r (λ _. Q)
of-error (Ok v) Q q = tt
of-error (Err e) Q q = q

-- ---- names, which a reply leaves

module _ (state : State) where
  abbrev with_memory : Memory → State
  with_memory memory = record state { blocks = memory.blocks }

  noted-written : (memory : Memory) (w : Write)
      → noted_as (with_memory (written memory w)) ≡ noted_as (with_memory memory)
  noted-written memory w = by_test w.to_cell
    where
      by_test : (t : Bool)
          → noted_as
          (with_memory
          (if t then record memory { cells = overwritten memory.cells (w.at - CELLS_AT) w.bytes }
          else record memory { blocks = blocks_after memory.blocks w.at w.bytes }))
          ≡ noted_as (with_memory memory)
      by_test true = refl
      by_test false = noted_as-after (with_memory memory) w.at w.bytes

  noted-fold : (memory : Memory) (writes : List Write)
      → noted_as (with_memory (fold written memory writes)) ≡ noted_as (with_memory memory)
  noted-fold memory [] = refl
  noted-fold memory (w ∷ writes) = noted-fold (written memory w) writes ∙ noted-written memory w

  noted-by : (memory : Memory) (result : ℕ) (writes : Option (List Write))
      → noted_as (with_memory (reply_by memory result writes).memory) ≡ noted_as (with_memory memory)
  noted-by memory result None = refl
  noted-by memory result (Some writes) = noted-fold memory writes

  noted-reply : (conv : Conv) (rule : Option Rule) (call : Asked) (memory : Memory)
      → noted_as (with_memory (reply conv rule call memory).memory) ≡ noted_as (with_memory memory)
  noted-reply conv None call memory = refl
  noted-reply conv (Some rule) call memory =
      noted-by memory (result_of rule) (writes_of conv call memory rule)

-- ---- the stage after the call

module _ (table : Table) (old : Stage) (state : State) (begun : Begun) (method : MethodOf)
    (object : Block) (cells : List ℕ)
    (can : CanBeMade table old state begun method (call_on old.machine begun method object cells)) where
  abbrev call : Call
  call = call_on old.machine begun method object cells

  abbrev conv : Conv
  conv = old.machine.conv

  abbrev values : List ℕ
  values = values_received conv call

  abbrev rule : Option Rule
  rule = state.rules (number_in (answering object (chain state conv call)).held) method.slot

  abbrev left : Memory
  left = (reply_to state conv call values).memory

  module _ (m : MachineView) (answered : Answered) (is : IsAnswered state old.machine m call answered)
      (rules : Rules) (kept : known_rules rules ≡ known_rules old.rules) where
    abbrev answered_stage : Stage
    answered_stage = record old { machine = m; rules = rules }

    same-conv : m.conv ≡ conv
    same-conv = ap (λ (k : MachineView). k.conv) is.rest_stays.same

    nothing : (xs : List ℕ) → length xs ≡ 8 * 0 → xs ≡ []
    nothing [] none = refl
    nothing (x ∷ xs) none = absurd (omega (arith, none))

    -- the cells that were pushed are still there
    cells-stay : length m.cells ≡ 8 * length cells
    cells-stay =
        is.rest_stays.cells_len ∙ ap length can.calling.has.cells_are ∙ length-words cells

    pub has-cells : begun.entered ≡ false → length m.cells ≡ 8 * length (prototype method)
    has-cells called =
        cells-stay
        ∙ ap (λ n. 8 * n) (can.cells ∙ ap (λ t. if t then 0 else length (prototype method)) called)

    pub paired : length answered.values ≡ length (prototype method)
    paired = ap length is.values_are ∙ length-received conv (prototype method) old.machine.frame

    module _ (words : List ArgWord) where
      abbrev next : State
      next = state_after state conv call words values

      lawful-next : IsLawful conv next
      lawful-next = record {
        blocks = lawful-reply conv rule (asked call values) (memory_before state call) can.calling.has.lawful;
        context = can.calling.at.stands.lawful.context;
      }

      -- a stage without cells, whose variables learned what came out, stands for the next state
      pub stands-next : (new : Stage)
          → new ≡ record (without_cells answered_stage) { variables = new.variables }
          → known new.variables ≡ next.variables
          → Stands new next
      stands-next new is_so learned =
          subst (λ s. Stands s next) (sym is_so) (record {
            lawful = subst (λ k. IsLawful k next) (sym same-conv) lawful-next;
            holds = holds_blocks-beside m left.blocks [] m.frame is.replied.holds;
            cells = refl;
            blocks = can.calling.at.stands.blocks
                ∙ sym (noted-reply state conv rule (asked call values) (memory_before state call));
            variables = learned;
            objects = subst (λ k. AreKnown k old.objects left.blocks) (sym same-conv)
                (replies-keep conv old.objects rule (asked call values) (memory_before state call) can.calling.has.known);
            rules = kept ∙ can.calling.at.stands.rules;
            context = can.calling.at.stands.context;
          })

      after-is : shown answered_stage left.blocks method answered.values ≡ after state conv call values
      after-is = λ i. record {
        proto = prototype method;
        values = is.values_are i;
        cells = cell_numbers (is.replied.cells_are i);
        blocks = left.blocks;
      }

      -- ---- what is told

      abbrev outs : List ℕ
      outs = flat_map (out_line table conv (after state conv call values)) (out_positions call)

      abbrev first : List ℕ
      first = slot_text method.slot ++ first_frame_text conv call

      -- the lines one after the other are those of the call
      told-so : (text : List ℕ) → text ≡ first ++ answered.text ++ outs → text ≡ call_text table state conv call values
      unfolding call_text
      told-so text told =
          let got = got_text (prototype method) values in
          let stops = flat_map (stop_text method.slot (prototype method) values) (drop 1 (chain state conv call)) in
          let result = result_text (reply_to state conv call values).result in
          told
          ∙ ap (λ t. first ++ t ++ outs)
          (is.text ∙ ap (answer_text state old.machine call values) is.replied.result_is)
          ∙ ap (λ t. t ++ outs)
          (sym (append_assoc first (got ++ stops) result)
          ∙ ap (λ t. t ++ result) (sym (append_assoc first got stops)))

      module _ (s0 s1 : Told) (saw : Saw s0 s1 (made_by table conv state words call).sights) where
        -- an enter, of which nothing comes out
        pub made-entered : begun.entered ≡ true → (text : List ℕ) → text ≡ first ++ answered.text
            → IsMade old answered_stage s0 s1 text (made_by table conv state words call)
        made-entered entered text told =
            let none : out_positions call ≡ [] = ap (λ t. if t then [] else cell_positions (prototype method)) entered in
            let no_cells : m.cells ≡ [] =
            nothing m.cells (cells-stay ∙ ap (λ n. 8 * n) (can.cells ∙ ap (λ t. if t then 0 else length (prototype method)) entered)) in
            record {
              stands = stands-next answered_stage (λ i. record answered_stage { machine = record m { cells = no_cells i } })
                  (can.calling.at.stands.variables
                  ∙ ap (fold (learned_at conv (after state conv call values) words) state.variables) (sym none));
              conv = same-conv;
              text_is = told-so text
                  (told ∙ sym (append-nil (first ++ answered.text))
                  ∙ ap (λ ks. first ++ answered.text ++ flat_map (out_line table conv (after state conv call values)) ks) (sym none));
              saw = saw;
            }

        -- a call with arguments, of which something may come out
        pub made-called : begun.entered ≡ false → (new : Stage) (text : List ℕ)
            → CameOut table answered_stage new method answered.values words left.blocks (first ++ answered.text) text
            → IsMade old new s0 s1 text (made_by table conv state words call)
        made-called called new text came =
            let all : cell_positions (prototype method) ≡ out_positions call =
            sym (ap (λ t. if t then [] else cell_positions (prototype method)) called) in
            record {
              stands = stands-next new came.rest_stays
                  (came.learned
                  ∙ (λ i. fold (learned_at (same-conv i) (after-is i) words) (can.calling.at.stands.variables i) (all i)));
              conv = ap (λ (s : Stage). s.machine.conv) came.rest_stays ∙ same-conv;
              text_is = told-so text
                  (came.text
                  ∙ (λ i. first ++ answered.text ++ flat_map (out_line table (same-conv i) (after-is i)) (all i)));
              saw = saw;
            }

-- ---- the same of the call as it has begun

module _ (table : Table) (old : Stage) (state : State) (begun : Begun) (method : MethodOf) (call : Call)
    (can : CanBeMade table old state begun method call)
    (m : MachineView) (answered : Answered) (is : IsAnswered state old.machine m call answered)
    (rules : Rules) (kept : known_rules rules ≡ known_rules old.rules) where
  abbrev here : Call
  here = call_on old.machine begun method call.object call.cells

  can-here : CanBeMade table old state begun method here
  can-here = subst (CanBeMade table old state begun method) can.calling.has.call_is can

  is-here : IsAnswered state old.machine m here answered
  is-here = subst (λ k. IsAnswered state old.machine m k answered) can.calling.has.call_is is

  abbrev pub left_by : Call → List Block
  left_by k = (reply_to state old.machine.conv k (values_received old.machine.conv k)).memory.blocks

  pub cells-of-called : begun.entered ≡ false → length m.cells ≡ 8 * length (prototype method)
  cells-of-called = has-cells table old state begun method call.object call.cells can-here m answered is-here rules kept

  pub values-paired : length answered.values ≡ length (prototype method)
  values-paired = paired table old state begun method call.object call.cells can-here m answered is-here rules kept

  module _ (words : List ArgWord) (s0 s1 : Told)
      (saw : Saw s0 s1 (made_by table old.machine.conv state words call).sights)
      (slot : ℕ) (slot_is : slot ≡ method.slot)
      (first told : List ℕ) (first_is : first ≡ first_lines old.machine.conv old.machine.frame slot begun.entered)
      (told_is : told ≡ first ++ answered.text) where
    saw-here : Saw s0 s1 (made_by table old.machine.conv state words here).sights
    saw-here = subst (λ k. Saw s0 s1 (made_by table old.machine.conv state words k).sights) can.calling.has.call_is saw

    abbrev lines : List ℕ
    lines = first_lines old.machine.conv old.machine.frame method.slot begun.entered

    told-here : told ≡ lines ++ answered.text
    told-here =
        told_is
        ∙ ap (λ l. l ++ answered.text)
        (first_is ∙ ap (λ n. first_lines old.machine.conv old.machine.frame n begun.entered) slot_is)

    pub entered-so : begun.entered ≡ true
        → IsMade old (record old { machine = m; rules = rules }) s0 s1 told
        (made_by table old.machine.conv state words call)
    entered-so entered =
        subst
        (λ k. IsMade old (record old { machine = m; rules = rules }) s0 s1 told
        (made_by table old.machine.conv state words k))
        (sym can.calling.has.call_is)
        (made-entered table old state begun method call.object call.cells can-here m answered is-here rules kept words
        s0 s1 saw-here entered told told-here)

    pub called-so : begun.entered ≡ false → (values : List ℕ) → values ≡ answered.values
        → (new : Stage) (text : List ℕ)
        → CameOut table (record old { machine = m; rules = rules }) new method values words (left_by call) told text
        → IsMade old new s0 s1 text (made_by table old.machine.conv state words call)
    called-so called values values_are new text came =
        subst (λ k. IsMade old new s0 s1 text (made_by table old.machine.conv state words k))
        (sym can.calling.has.call_is)
        (made-called table old state begun method call.object call.cells can-here m answered is-here rules kept words
        s0 s1 saw-here called new text
        (subst
        (λ k. CameOut table (record old { machine = m; rules = rules }) new method answered.values words (left_by k)
        (lines ++ answered.text) text)
        can.calling.has.call_is
        (subst
        (λ v. CameOut table (record old { machine = m; rules = rules }) new method v words (left_by call)
        (lines ++ answered.text) text)
        values_are
        (subst
        (λ t. CameOut table (record old { machine = m; rules = rules }) new method values words (left_by call) t text)
        told-here came))))
