use Rattle.std.proofs.Common.{length, ◌-◌, ◌≡◌, ◌≤◌, take}
use Rattle.xp_base.specs.Written.{Gained}
use Rattle.xp_base.proofs.sinks.put_all.Given as goal

abbrev pub invariant-loop-done : goal.invariant-loop-done
invariant-loop-done g l = record {
  within : l.done ≤ length l.bytes;
  gained : Gained (g.O.Sink.written l.fn.sink) (g.O.Sink.written l.sink) (take l.done l.bytes);
  calm : g.O.Sink.faults l.sink ≡ g.O.Sink.faults l.fn.sink;
}

abbrev pub decreases-loop-done : goal.decreases-loop-done
decreases-loop-done g l = length l.bytes - l.done
