use Rattle.xpcall_run.specs.Sides.{reads_of}
use Rattle.xpcall_run.specs.Works.{nowhere}
use Rattle.xpcall_run.proofs.Fetching.{long_stops}
use Rattle.xpcall_run.proofs.fetches.fetch.Goals as goal

pub returns-in-Ok-Found-clause-err : goal.returns-in-Ok-Found-clause-err
returns-in-Ok-Found-clause-err g c =
    let reads = reads_of g.S.Source.files g.S.Source.faults c.args.files.now c.fetch.new.self in
    let found = rw c.in-Ok-Found.field-0-is at c.in-Ok-Found.ensures.content in
    let content = rw c.as_slice.ensures at found in
    long_stops reads c.args.limit c.args.name.now _ (λ bytes. nowhere) c.within_limit.result
    content c.within_limit.ensures.long c.within_limit.ensures.err
