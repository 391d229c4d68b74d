use Rattle.std.proofs.Common.{List, ℕ, ap, subst, sym, ◌∙◌}
use Rattle.std.specs.Prelude.{Ok}
use Rattle.lib_model.specs.Denotes.{Denotes}
use Rattle.typelib_faults.specs.Bytes.{AreBytes}
use Rattle.typelib_faults.specs.Places.{library_of}
use Rattle.typelib_faults.proofs.TypelibCauses.{first_fault_is}
use Rattle.typelib_faults.proofs.TypelibLaws.{denotes_one, fault_denies, fine_denotes}
use Rattle.descriptor_reader.proofs.typelib.Typelib.check.Goals as goal

pub returns-in-Ok-clause-ok : goal.returns-in-Ok-clause-ok
returns-in-Ok-clause-ok c =
    let x = c.args.bytes.now in
    subst (λ (y : List ℕ). Denotes x (library_of y)) (sym c.in-Ok.ensures.bytes) (fine_denotes x (subst AreBytes c.in-Ok.ensures.bytes c.in-Ok.checked.are_bytes) c.in-Ok.ensures.tries)

pub returns-in-Ok-clause-only : goal.returns-in-Ok-clause-only
returns-in-Ok-clause-only c =
    λ lib d. ap Ok (ap library_of c.in-Ok.ensures.bytes ∙ denotes_one c.args.bytes.now lib d)

pub returns-in-Err-clause-only : goal.returns-in-Err-clause-only
returns-in-Err-clause-only c = λ lib d. absurd (fault_denies c.args.bytes.now c.in-Err.fault lib c.in-Err.ensures.tries d)

pub returns-in-Err-clause-cause : goal.returns-in-Err-clause-cause
returns-in-Err-clause-cause c = first_fault_is c.args.bytes.now c.in-Err.fault c.in-Err.ensures.tries
