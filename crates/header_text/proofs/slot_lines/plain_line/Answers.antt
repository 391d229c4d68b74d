use Rattle.std.proofs.Common.{◌||◌, sym, ap, ◌∙◌}
use Rattle.header_text.proofs.OpenLines.{method_line}
use Rattle.header_text.proofs.slot_lines.plain_line.Goals as goal

pub returns : goal.returns
returns c =
    let marks = c.args.marks
    in let kept = ap (λ b. marks.hidden || marks.notxpcom || b) (sym c.has_opaque.ensures)
    ∙ sym c.is_reserved.ensures ∙ c.if-is_reserved.false
    in method_line _ _ _ _ _ _ _ _ _ _ _ kept
    (c.in_ok-arguments.ensures c.args.name.now marks.hidden) c.method_line.ensures
