use Rattle.std.proofs.Common.{◌≡◌, suc, List, ◌∷◌, drop, drop-cons, sym, ap, ◌∙◌, subst}
use Rattle.idl_grammar.specs.declared.tree.Item.{Item}
use Rattle.idl_meaning.specs.Scopes as scopes
use Rattle.idl_meaning.specs.Faults as spec
use Rattle.idl_names.specs.States.{view}
use Rattle.idl_names.proofs.Lists.{is_first_append}
use Rattle.idl_names.proofs.resolution.take_items.Goals as goal

pub returns-in-Err-clause-fault : goal.returns-in-Err-clause-fault
returns-in-Err-clause-fault c =
    let xs = c.args.items.now in
    let i = c.loop-i.i in
    let x = c.index-items-i.result in
    let k = view c.loop-i.state in
    let cut : drop i xs ≡ x ∷ drop (suc i) xs = drop-cons xs i x c.loop-i-test.true ∙ ap (λ (y : Item). y ∷ drop (suc i) xs) (sym c.index-items-i.is) in
    let whole = c.loop-i.invariant.same_faults ∙ ap (spec.file_faults c.args.file i k) cut in
    subst (λ (fs : List spec.Fault). spec.IsFirst c.in-Err.error fs) (sym whole)
    (is_first_append c.in-Err.error (spec.item_faults c.args.file i k x.body)
    (spec.file_faults c.args.file (suc i) (scopes.after c.args.file i k x.body) (drop (suc i) xs))
    c.in-Err.ensures.fault)
