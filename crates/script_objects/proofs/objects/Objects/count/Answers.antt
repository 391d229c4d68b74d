use Rattle.std.proofs.Common.{◌≡◌, ◌∙◌, rules, length, ap}
use Rattle.script_objects.proofs.Kept.{count-among}
use Rattle.script_objects.proofs.objects.Objects.count.Goals as goal

pub returns-clause-known : goal.returns-clause-known
returns-clause-known c =
    let is : c.len.result ≡ length c.args.self.now.objects = search rules in
    λ conv state known. is ∙ ap length known.objects ∙ count-among state.blocks
