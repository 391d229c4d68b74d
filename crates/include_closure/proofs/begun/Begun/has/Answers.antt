use Rattle.std.proofs.Common.{◌∙◌, ap}
use Rattle.include_closure.specs.Names.{is_begun}
use Rattle.include_closure.proofs.BegunLaws.{begun-by}
use Rattle.include_closure.proofs.begun.Begun.has.Goals as goal

pub returns : goal.returns
returns c =
    c.contains.ensures ∙ begun-by (λ v. v.items) c.self.inside.names.keys c.args.name.now
    ∙ ap (λ begun. is_begun begun c.args.name.now) c.self.view_is
