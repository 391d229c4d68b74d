use Rattle.typelib_faults.proofs.TypelibCauses.{first_fault_at, first_fault_is}
use Rattle.typelib_faults.proofs.laws.each_first_fault_has_its_cause.Goals as goal

pub returns-clause-cause : goal.returns-clause-cause
returns-clause-cause c = first_fault_is

pub returns-clause-each : goal.returns-clause-each
returns-clause-each c = first_fault_at
