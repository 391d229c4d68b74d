use Rattle.std.proofs.Common.{◌∙◌, slice_get, ap}
use Rattle.script_objects.proofs.Among.{kept-is}
use Rattle.script_objects.proofs.objects.Objects.get.Goals as goal

pub returns-clause-known : goal.returns-clause-known
returns-clause-known c =
    λ conv blocks lawful known.
    c.kept.ensures
    ∙ ap (λ l. slice_get l c.args.number) known.objects
    ∙ kept-is blocks lawful.numbered c.args.number
