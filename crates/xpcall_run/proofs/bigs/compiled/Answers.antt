use Rattle.std.proofs.Common.{◌≡◌, [], ◌∷◌, codes, refl}
use Rattle.std.proofs.lemmas.Result.{err_from_is_err_and}
use Rattle.xpcall_run.specs.Works.{Written}
use Rattle.xpcall_run.proofs.BigLaws.{calm_refused, compile_named, compile_stops, gained_all, never, unseen}
use Rattle.xpcall_run.proofs.bigs.compiled.Goals as goal

pub returns-in_err-compile-clause-err : goal.returns-in_err-compile-clause-err
returns-in_err-compile-clause-err c =
    let p = err_from_is_err_and c.from_residual-in_err-compile.result c.from_residual-in_err-compile.ensures.1 in
    let roots : c.push.new.self ≡ codes "big.idl" ∷ [] =
    rw (c.new-roots.ensures, c.in_ok-copy.ensures) at c.in_ok-push.ensures.ok in
    let refused = calm_refused _ _ _ _ never never (c.in_err-compile.ensures.err unseen refl) in
    rw (p.1, p.2) (compile_stops c.push.new.self c.args.files.now _ roots refused)

pub returns-clause-ok : goal.returns-clause-ok
returns-clause-ok c =
    let written = c.in_ok-compile.ensures.ok unseen refl in
    let roots : c.push.new.self ≡ codes "big.idl" ∷ [] =
    rw (c.new-roots.ensures, c.in_ok-copy.ensures) at c.in_ok-push.ensures.ok in
    record {
      given = written.given;
      compiled = compile_named c.push.new.self c.args.files.now (Written written.given) roots written.comes;
      text = gained_all c.new-typelib.result c.compile.new.out written.given.text c.new-typelib.ensures written.got.0;
    }
