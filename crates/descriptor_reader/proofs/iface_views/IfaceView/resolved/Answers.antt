use Rattle.std.proofs.Common.{ap, arith, eqb, length, not, subst, sym, ◌∙◌, ℕ}
use Rattle.std.specs.Prelude.{is_some}
use Rattle.lib_model.specs.Valid.{IsIfaceNumber, IsValid, body_of}
use Rattle.typelib_faults.specs.Places.{library_of}
use Rattle.descriptor_reader.specs.Views.{IfaceOf}
use Rattle.descriptor_reader.proofs.ViewLaws.{library_long, library_valid, resolved_is}
use Rattle.descriptor_reader.proofs.iface_views.IfaceView.resolved.Goals as goal

pub returns-clause-resolved : goal.returns-clause-resolved
returns-clause-resolved c =
    let f = c.self.inside.checked.file in
    ap (λ (w : ℕ). not (eqb w 0)) c.word.ensures
    ∙ (sym (resolved_is f.bytes.now f.directory c.self.inside.number c.place_of_entry-entry.result f.directory_is c.self.invariant.0 (omega (arith, f.count_is, c.self.invariant.1)) c.place_of_entry-entry.ensures) ∙ ap (λ (v : IfaceOf). is_some (body_of v.library.ifaces v.number)) c.self.view_is)

pub returns-clause-valid : goal.returns-clause-valid
returns-clause-valid c =
    let f = c.self.inside.checked in
    subst (λ (v : IfaceOf). IsValid v.library) c.self.view_is (library_valid f.file.bytes.now f.are_bytes f.is_fine)

pub returns-clause-one : goal.returns-clause-one
returns-clause-one c =
    let f = c.self.inside.checked.file in
    let one : IsIfaceNumber (length (library_of f.bytes.now).ifaces) c.self.inside.number = (c.self.invariant.0, omega (arith, f.count_is, c.self.invariant.1, library_long f.bytes.now)) in
    subst (λ (v : IfaceOf). IsIfaceNumber (length v.library.ifaces) v.number) c.self.view_is one
