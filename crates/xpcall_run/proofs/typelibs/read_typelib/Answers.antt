use Rattle.xpcall_run.proofs.TypelibLaws.{typelib_faulty}
use Rattle.xpcall_run.proofs.typelibs.read_typelib.Goals as goal

pub returns-in-Err-clause-err : goal.returns-in-Err-clause-err
returns-in-Err-clause-err c =
    typelib_faulty _ _ c.in-Err.fault _ c.in-Err.ensures.err c.of_file.ensures
