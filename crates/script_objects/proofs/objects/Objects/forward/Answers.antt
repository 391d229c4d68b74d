use Rattle.std.proofs.Common.{◌≡◌, ◌∙◌, rules, ap}
use Rattle.proxy_objects.specs.Forwarding.{forward_of}
use Rattle.script_objects.proofs.Among.{forward-is}
use Rattle.script_objects.proofs.objects.Objects.forward.Goals as goal

pub returns-clause-known : goal.returns-clause-known
returns-clause-known c =
    let is : c.copied.result ≡ forward_of c.args.self.now.forwards c.args.number = search rules in
    λ conv blocks lawful known.
    is ∙ ap (λ l. forward_of l c.args.number) known.forwards ∙ forward-is blocks lawful.numbered c.args.number
