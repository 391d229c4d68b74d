use Rattle.std.proofs.Common.{sym, ◌∙◌}
use Rattle.std.proofs.lemmas.Bool.{false≢true}
use Rattle.call_replies.specs.Blocks.{contents}
use Rattle.call_replies.proofs.Looked.{heap_bytes-is}
use Rattle.call_replies.proofs.Steps.{none-outside}
use Rattle.script_outs.proofs.Lengths.{found-long}
use Rattle.script_outs.proofs.data.data_at.Goals as goal

pub returns-then-in_block-clause-value : goal.returns-then-in_block-clause-value
returns-then-in_block-clause-value c = λ held h.
    let inside = c.in_block.ensures.inside.0 c.if-in_block.true in
    c.bytes-bytes.ensures.holds inside (contents held) h.heap
    ∙ heap_bytes-is c.args.machine.now held h c.args.at c.args.n inside

pub returns-then-in_block-clause-long : goal.returns-then-in_block-clause-long
returns-then-in_block-clause-long c =
    let inside = c.in_block.ensures.inside.0 c.if-in_block.true in
    found-long c.args.machine.now c.args.at c.args.n c.bytes-bytes.result (c.bytes-bytes.ensures.value inside.0)

pub returns-else-in_block-clause-value : goal.returns-else-in_block-clause-value
returns-else-in_block-clause-value c = λ held h.
    sym (none-outside c.args.machine.now held h c.args.at c.args.n
    (λ inside. false≢true (sym c.if-in_block.false ∙ c.in_block.ensures.inside.1 inside)))
