use Rattle.std.proofs.Common.{◌≡◌, Ok, Some, bytes_eq, length, refl, sym, subst, ap, ◌∙◌}
use Rattle.std.specs.Option.{option_copied}
use Rattle.object_memory.specs.Heap.{ReadsBlock}
use Rattle.transcript_text.specs.Texts.{ended}
use Rattle.call_replies.specs.Blocks.{Block}
use Rattle.script_meaning.specs.State.{named}
use Rattle.script_meaning.specs.Step.{bytes_text, quiet, shown_block}
use Rattle.script_stage.specs.Standing.{TellsLine}
use Rattle.script_stage.proofs.Doing.{does-refused, unwrapped}
use Rattle.script_stage.proofs.Held.{data-read}
use Rattle.script_stage.proofs.Named.{all-refused, data-there, has-data}
use Rattle.script_stage.proofs.stages.Stage.show_block.Goals as goal

pub returns-in_err-data : goal.returns-in_err-data
unfolding shown_block
returns-in_err-data c =
    does-refused TellsLine (λ state. shown_block state c.args.name.now) c.args.self.now c.from_residual.result
    c.in_err-data.field-0.0 c.from_residual.ensures.1
    (λ state stands. all-refused (named state c.args.name.now) (λ b bytes. record { at = b.at; length = length bytes })
    (λ b bytes. Ok (quiet state (ended (bytes_text bytes)))) c.in_err-data.field-0.0
    (sym (c.data_named.ensures state stands) ∙ c.in_err-data.was))

pub returns : goal.returns
unfolding shown_block
returns c = λ state stands.
    let machine = c.args.self.now.machine in
    let found = named state c.args.name.now in
    let has = has-data found c.in_ok-data.data (sym (c.data_named.ensures state stands) ∙ c.in_ok-data.was) in
    let read : option_copied c.bytes.result ≡ Some has.bytes =
    data-read (λ (b : Block). bytes_eq b.name c.args.name.now) has.block has.bytes has.held machine state.blocks
    stands.holds has.is (option_copied c.bytes.result)
    (λ none. c.bytes.ensures.none (has.length ∙ none))
    (subst (λ n. ReadsBlock machine has.block.at n (option_copied c.bytes.result)) has.length
    (subst (λ a. ReadsBlock machine a c.in_ok-data.data.length (option_copied c.bytes.result)) has.at
    c.bytes.ensures.holds)) in
    let same : c.unwrap_or-bytes.result.now ≡ has.bytes =
    ap (λ x. x.now) c.unwrap_or-bytes.ensures ∙ unwrapped c.bytes.result _ has.bytes read in
    record {
      stepped = quiet state (ended (bytes_text has.bytes));
      is = data-there found c.in_ok-data.data has (λ b bytes. Ok (quiet state (ended (bytes_text bytes))));
      stands = stands;
      conv = refl;
      tells = sym (c.in_ok-bytes_line.ensures ∙ ap (λ bytes. ended (bytes_text bytes)) same);
      quiet = refl;
    }
