use Rattle.std.proofs.Common.{ap, ◌∙◌}
use Rattle.script_stage.proofs.stages.Stage.named.Goals as goal

pub returns : goal.returns
returns c = λ state stands. c.find.ensures ∙ ap (λ f. f c.args.name.now) stands.blocks
