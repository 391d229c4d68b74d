use Rattle.std.specs.List.{flat_map}
use Rattle.descriptor_reader.specs.Views.{own_constants_of}
use Rattle.dump_text.specs.Listing.{constant_line}
use Rattle.dump_text.proofs.WriteLaws.{Underway}
use Rattle.dump_text.proofs.dumping.put_constants.Given as goal

-- the lines so far, and those that are left
abbrev pub invariant-loop-constant : goal.invariant-loop-constant
invariant-loop-constant g l =
    Underway (g.O.Sink.written l.fn.out) (g.O.Sink.written l.out) (g.O.Sink.faults l.fn.out) (g.O.Sink.faults l.out)
    (flat_map constant_line l.constant-iterator) (flat_map constant_line (own_constants_of l.fn.iface))
