use Rattle.std.proofs.Common.{◌∙◌, ap, map, not}
use Rattle.include_closure.specs.Names.{is_begun, with_name}
use Rattle.include_closure.proofs.BegunLaws.{begun-by, begun-insert}
use Rattle.include_closure.proofs.begun.Begun.begin.Goals as goal

pub returns-clause-fresh : goal.returns-clause-fresh
returns-clause-fresh c =
    let keys = c.self.inside.names.keys in
    c.in_ok-insert.ensures.added
    ∙ ap not (begun-by (λ v. v.items) keys c.in_ok-name.name.items
    ∙ ap (λ name. is_begun (map (λ v. v.items) keys) name) c.in_ok-name.ensures ∙ ap (λ begun. is_begun begun c.args.name.now) c.self.view_is)

pub returns-clause-ok : goal.returns-clause-ok
returns-clause-ok c =
    let keys = c.self.inside.names.keys in
    ap (map (λ v. v.items)) c.in_ok-insert.ensures.keys
    ∙ begun-insert (λ v. v.items) keys c.in_ok-name.name
    ∙ ap (λ name. with_name (map (λ v. v.items) keys) name) c.in_ok-name.ensures ∙ ap (λ begun. with_name begun c.args.name.now) c.self.view_is
