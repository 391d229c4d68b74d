use Rattle.std.specs.List.{flat_map}
use Rattle.descriptor_reader.specs.Views.{own_methods_of}
use Rattle.dump_text.proofs.IfaceLaws.{slot_line}
use Rattle.dump_text.proofs.WriteLaws.{Underway}
use Rattle.dump_text.proofs.dumping.put_methods.Given as goal

-- the lines so far, and those that are left
abbrev pub invariant-loop-method : goal.invariant-loop-method
invariant-loop-method g l =
    Underway (g.O.Sink.written l.fn.out) (g.O.Sink.written l.out) (g.O.Sink.faults l.fn.out) (g.O.Sink.faults l.out)
    (flat_map slot_line l.method-iterator) (flat_map slot_line (own_methods_of l.fn.iface))
