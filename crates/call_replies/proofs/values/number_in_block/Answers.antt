use Rattle.std.proofs.Common.{sym, subst, ap, ◌∙◌}
use Rattle.std.specs.Option.{option_map}
use Rattle.std.proofs.lemmas.Bool.{false≢true}
use Rattle.object_memory.specs.Memory.{Inside}
use Rattle.object_memory.specs.Widths.{bytes_of}
use Rattle.xp_base.specs.LittleEndian.{number_of}
use Rattle.call_replies.proofs.Steps.{none-outside, read-block}
use Rattle.call_replies.proofs.values.number_in_block.Goals as goal

pub returns-then-in_block : goal.returns-then-in_block
returns-then-in_block c = λ blocks held.
    read-block c.args.machine.now blocks held c.args.at (bytes_of c.args.width) c.load.result
    (subst (λ n. Inside c.args.machine.now.blocks c.args.at n) c.bytes.ensures (c.in_block.ensures.inside.0 c.if-in_block.true)) c.load.ensures.holds

pub returns-else-in_block : goal.returns-else-in_block
returns-else-in_block c = λ blocks held.
    ap (option_map number_of)
    (sym (none-outside c.args.machine.now blocks held c.args.at (bytes_of c.args.width)
    (λ inside. false≢true (sym c.if-in_block.false ∙ c.in_block.ensures.inside.1 (subst (λ n. Inside c.args.machine.now.blocks c.args.at n) (sym c.bytes.ensures) inside)))))
