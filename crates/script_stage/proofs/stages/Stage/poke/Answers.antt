use Rattle.std.proofs.Common.{◌≡◌, ◌+◌, ◌<◌, ◌≤◌, true, false, length, nat_le, bytes_eq, Ok, IfOk, refl, sym, subst, ap, ◌∙◌, arith}
use Rattle.std.proofs.lemmas.Grind.{common_steps}
use Rattle.transcript_text.specs.declared.refusals.Refusal.TheVariants as refusal
use Rattle.call_replies.specs.Blocks.{Block}
use Rattle.script_meaning.specs.Lawful.{IsLawful}
use Rattle.script_meaning.specs.Refusing.{◌then◌, require}
use Rattle.script_meaning.specs.State.{named, with_bytes}
use Rattle.script_meaning.specs.Step.{done, poked}
use Rattle.script_meaning.proofs.Lawfulness.{poke-keeps}
use Rattle.script_stage.specs.Standing.{TellsDone}
use Rattle.script_stage.proofs.Doing.{does-refused}
use Rattle.script_stage.proofs.Held.{place-low}
use Rattle.script_stage.proofs.Named.{all-refused, data-there, has-data}
use Rattle.script_stage.proofs.Poked.{kept-written, stands-written}
use Rattle.script_stage.proofs.stages.Stage.poke.Goals as goal

pub returns-in_err-data : goal.returns-in_err-data
unfolding poked
returns-in_err-data c =
    let offset = c.args.offset in
    let bytes = c.args.bytes.now in
    does-refused TellsDone (λ state. poked state c.args.name.now offset bytes) c.args.self.now c.from_residual.result
    c.in_err-data.field-0.0 c.from_residual.ensures.1
    (λ state stands. all-refused (named state c.args.name.now) (λ b old. record { at = b.at; length = length old })
    (λ b old. require (nat_le (offset + length bytes) (length old)) (refusal.Range 0)
    then λ _. Ok (done (with_bytes state (b.at + offset) bytes)))
    c.in_err-data.field-0.0 (sym (c.data_named.ensures state stands) ∙ c.in_err-data.was))

pub returns-then-offset-bytes : goal.returns-then-offset-bytes
unfolding poked
returns-then-offset-bytes c = (
  refl,
  λ state stands.
      let offset = c.args.offset in
      let bytes = c.args.bytes.now in
      let found = named state c.args.name.now in
      let has = has-data found c.in_ok-data.data (sym (c.data_named.ensures state stands) ∙ c.in_ok-data.was) in
      let past : length has.bytes < offset + length bytes =
      omega (arith, c.if-offset-bytes.true, has.length, c.from-offset.ensures) in
      let test : nat_le (offset + length bytes) (length has.bytes) ≡ false = grind (arith, common_steps) in
      data-there found c.in_ok-data.data has
      (λ b old. require (nat_le (offset + length bytes) (length old)) (refusal.Range 0)
      then λ _. Ok (done (with_bytes state (b.at + offset) bytes)))
      ∙ ap (λ t. require t (refusal.Range 0) then λ _. Ok (done (with_bytes state (has.block.at + offset) bytes))) test,
)

pub overflow_add-data : goal.overflow_add-data
overflow_add-data c =
    let state = c.requires.0 in
    let stands = c.requires.1 in
    let has = has-data (named state c.args.name.now) c.in_ok-data.data
    (sym (c.data_named.ensures state stands) ∙ c.in_ok-data.was) in
    let within : c.args.offset ≤ length has.bytes =
    omega (arith, c.if-offset-bytes.false, has.length, c.from-offset.ensures) in
    omega (
      arith,
      has.at,
      c.from-offset.ensures,
      place-low c.args.self.now.machine.conv state.blocks stands.lawful.blocks
          (λ (b : Block). bytes_eq b.name c.args.name.now) has.block has.is has.bytes has.held c.args.offset within,
    )

pub returns : goal.returns
unfolding poked
returns c = λ state stands.
    let old = c.args.self.now in
    let conv = old.machine.conv in
    let name = c.args.name.now in
    let offset = c.args.offset in
    let bytes = c.args.bytes.now in
    let found = named state name in
    let has = has-data found c.in_ok-data.data (sym (c.data_named.ensures state stands) ∙ c.in_ok-data.was) in
    let within : offset + length bytes ≤ length has.bytes =
    omega (arith, c.if-offset-bytes.false, has.length, c.from-offset.ensures) in
    let test : nat_le (offset + length bytes) (length has.bytes) ≡ true = grind (arith, common_steps) in
    let is : poked state name offset bytes ≡ Ok (done (with_bytes state (has.block.at + offset) bytes)) =
    data-there found c.in_ok-data.data has
    (λ b old. require (nat_le (offset + length bytes) (length old)) (refusal.Range 0)
    then λ _. Ok (done (with_bytes state (b.at + offset) bytes)))
    ∙ ap (λ t. require t (refusal.Range 0) then λ _. Ok (done (with_bytes state (has.block.at + offset) bytes))) test in
    let lawful : IsLawful conv (with_bytes state (has.block.at + offset) bytes) =
    subst (λ r. IfOk r (λ stepped. IsLawful conv stepped.state)) is
    (poke-keeps conv state stands.lawful name offset bytes) in
    let written = kept-written old state stands name has.block has.bytes has.is has.held c.store_bytes.new.self
    (c.in_ok-data.data.at + c.from-offset.result) offset bytes c.store_bytes.result
    (omega (arith, has.at, c.from-offset.ensures)) within c.store_bytes.ensures.stores in
    record {
      stepped = done (with_bytes state (has.block.at + offset) bytes);
      is = is;
      stands = stands-written old state stands name has.block has.bytes has.is has.held c.store_bytes.new.self
          (has.block.at + offset) bytes written lawful;
      conv = written.conv;
      tells = refl;
      quiet = refl;
    }
