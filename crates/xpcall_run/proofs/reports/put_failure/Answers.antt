-- The text of each failure is what its arm writes, by computation.
use Rattle.xpcall_run.specs.FailureText.{failure_text}
use Rattle.xpcall_run.proofs.reports.put_failure.Goals as goal

pub returns-in-CannotRead-clause-ok : goal.returns-in-CannotRead-clause-ok
unfolding failure_text
returns-in-CannotRead-clause-ok g c = rw c.in-CannotRead.is c.put_framed.ensures.ok

pub returns-in-CannotRead-clause-err : goal.returns-in-CannotRead-clause-err
unfolding failure_text
returns-in-CannotRead-clause-err g c = rw c.in-CannotRead.is c.put_framed.ensures.err

pub returns-in-CannotWrite-clause-ok : goal.returns-in-CannotWrite-clause-ok
unfolding failure_text
returns-in-CannotWrite-clause-ok g c = rw c.in-CannotWrite.is c.put_all.ensures.ok

pub returns-in-CannotWrite-clause-err : goal.returns-in-CannotWrite-clause-err
unfolding failure_text
returns-in-CannotWrite-clause-err g c = rw c.in-CannotWrite.is c.put_all.ensures.err

pub returns-in-OutOfMemory-clause-ok : goal.returns-in-OutOfMemory-clause-ok
unfolding failure_text
returns-in-OutOfMemory-clause-ok g c = rw c.in-OutOfMemory.is c.put_all-in-OutOfMemory.ensures.ok

pub returns-in-OutOfMemory-clause-err : goal.returns-in-OutOfMemory-clause-err
unfolding failure_text
returns-in-OutOfMemory-clause-err g c = rw c.in-OutOfMemory.is c.put_all-in-OutOfMemory.ensures.err
