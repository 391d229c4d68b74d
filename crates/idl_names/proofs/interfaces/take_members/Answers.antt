use Rattle.std.proofs.Common.{◌≡◌, ℕ, suc, ◌+◌, List, ◌∷◌, drop, drop-cons, sym, ap, ◌∙◌, subst, arith}
use Rattle.idl_grammar.specs.declared.tree.Member.{Member}
use Rattle.idl_meaning.specs.Scopes as scopes
use Rattle.idl_meaning.specs.Faults as spec
use Rattle.idl_names.specs.Tables.{known}
use Rattle.idl_names.specs.Views.{inside_with}
use Rattle.idl_names.proofs.Lists.{is_first_append}
use Rattle.idl_names.proofs.interfaces.take_members.Goals as goal

pub returns-in-Err-clause-fault : goal.returns-in-Err-clause-fault
returns-in-Err-clause-fault c =
    let ms = c.args.members.now in
    let i = c.loop-i.i in
    let m = c.index-members-i.result in
    let at = inside_with c.args.around.now (known c.loop-i.taken.own) in
    let cut : drop i ms ≡ m ∷ drop (suc i) ms = drop-cons ms i m c.loop-i-test.true ∙ ap (λ (x : Member). x ∷ drop (suc i) ms) (sym c.index-members-i.is) in
    let whole = c.loop-i.invariant.same_faults ∙ ap (spec.member_faults c.args.file c.args.decl (suc i) at) cut in
    let next : i + 1 ≡ suc i = omega arith in
    subst (λ (fs : List spec.Fault). spec.IsFirst c.in-Err.error fs) (sym whole)
    (is_first_append c.in-Err.error (spec.faults_with c.args.file c.args.decl (suc i) (spec.codes_at (spec.Within at m.body)))
    (spec.member_faults c.args.file c.args.decl (suc (suc i)) (scopes.inside_after at m.body) (drop (suc i) ms))
    (subst (λ (n : ℕ). spec.IsFirst c.in-Err.error (spec.faults_with c.args.file c.args.decl n (spec.codes_at (spec.Within at m.body)))) next c.in-Err.ensures.fault))
