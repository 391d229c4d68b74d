use Rattle.std.proofs.Common.{◌≡◌, ◌∙◌, Some, ap, subst, sym}
use Rattle.std.specs.Prelude.{option_and_then}
use Rattle.lib_model.specs.Table.{table_of}
use Rattle.script_meaning.specs.Members.{as_object, object_of}
use Rattle.script_meaning.specs.State.{named}
use Rattle.script_stage.specs.Finding.{Finds, named_object}
use Rattle.script_stage.proofs.Targets.{an-object, as-object, its-number, kept-some, named-numbered}
use Rattle.script_stage.proofs.stages.Stage.object_named.Goals as goal

pub returns : goal.returns
returns c = λ state stands.
    let stage = c.args.self.now in
    let name = c.args.name.now in
    let b = kept-some (named state name) c.in-Some.found (sym c.in-Some.is ∙ c.named.ensures state stands) in
    let object = an-object b.block c.in-Some.found c.in-Object.number c.in-Object.iface b.noted c.in-Object.is in
    let number = its-number b.block c.in-Some.found c.in-Object.number c.in-Object.iface b.noted c.in-Object.is in
    let there : named_object state name ≡ Some b.block =
    ap (option_and_then as_object) b.is ∙ as-object b.block object in
    subst (λ o. Finds state (object_of (table_of c.args.typelib.now) c.args.iface o) c.of_iface.result) (sym there)
    (c.of_iface.ensures state b.block stands
    (named-numbered stage state stands name b.block b.is object c.in-Object.number number))
