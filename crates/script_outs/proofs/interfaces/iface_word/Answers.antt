use Rattle.std.proofs.Common.{◌≡◌, IfOk, sym, subst, ◌∙◌}
use Rattle.script_outs.proofs.TableIfaces.{no-iface, the-iface}
use Rattle.script_outs.proofs.interfaces.iface_word.Goals as goal

pub returns-in-None : goal.returns-in-None
returns-in-None c =
    subst (λ t. IfOk c.copy.result (λ word. word ≡ t))
    (no-iface c.args.typelib.now c.args.number (sym c.iface.ensures ∙ c.in-None.is)) c.copy.ensures

pub returns-in-Some : goal.returns-in-Some
returns-in-Some c =
    subst (λ t. IfOk c.escaped.result (λ word. word ≡ t))
    (the-iface c.args.typelib.now c.args.number c.in-Some.iface c.name.result.now
    (sym c.iface.ensures ∙ c.in-Some.is) c.name.ensures) c.escaped.ensures
