use Rattle.std.proofs.Common.{◌≡◌, drop}
use Rattle.call_replies.specs.Reply.{last_result}
use Rattle.call_replies.proofs.rules.result_of.Given as goal

-- the result of the items that remain is that of all
abbrev pub invariant-loop-item : goal.invariant-loop-item
invariant-loop-item l = last_result l.result (drop l.item-index l.rule) ≡ last_result 0 l.rule
