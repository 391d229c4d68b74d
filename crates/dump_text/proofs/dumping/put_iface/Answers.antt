use Rattle.std.proofs.Common.{refl}
use Rattle.dump_text.specs.Listing.{member_lines}
use Rattle.dump_text.proofs.IfaceLaws.{members_numbered}
use Rattle.dump_text.proofs.WriteLaws.{begun, handed_on, last_step, step_cut, step_on}
use Rattle.dump_text.proofs.dumping.put_iface.Goals as goal

pub returns-in_err-put_line : goal.returns-in_err-put_line
returns-in_err-put_line g c = λ i is.
    handed_on c.from_residual.result c.from_residual.ensures.1
    (step_cut (member_lines c.args.iface.now.library c.args.number i.body) (begun _ _ _ _ refl) refl (c.in_err-put_line.ensures _ (c.iface_line.ensures i is)))

pub returns-in_err-put_methods : goal.returns-in_err-put_methods
returns-in_err-put_methods g c = λ i is.
    let v = c.args.iface.now in
    handed_on c.from_residual-in_err-put_methods.result c.from_residual-in_err-put_methods.ensures.1
    (step_cut _
    (step_on (member_lines v.library c.args.number i.body) (begun _ _ _ _ refl) refl (c.in_ok-put_line.ensures _ (c.iface_line.ensures i is)))
    (members_numbered v i c.args.number is c.requires) c.in_err-put_methods.ensures)

pub returns : goal.returns
returns g c = λ i is.
    let v = c.args.iface.now in
    last_step
    (step_on _
    (step_on (member_lines v.library c.args.number i.body) (begun _ _ _ _ refl) refl (c.in_ok-put_line.ensures _ (c.iface_line.ensures i is)))
    (members_numbered v i c.args.number is c.requires) c.in_ok-put_methods.ensures)
    c.put_constants.ensures
