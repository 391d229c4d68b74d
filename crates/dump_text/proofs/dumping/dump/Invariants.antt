use Rattle.dump_text.specs.Listing.{listing}
use Rattle.dump_text.proofs.ListingLaws.{lines_from}
use Rattle.dump_text.proofs.WriteLaws.{Underway}
use Rattle.dump_text.proofs.dumping.dump.Given as goal

-- the listing so far, and that of the interfaces that are left
abbrev pub invariant-loop-before : goal.invariant-loop-before
invariant-loop-before g l =
    Underway (g.O.Sink.written l.fn.out) (g.O.Sink.written l.out) (g.O.Sink.faults l.fn.out) (g.O.Sink.faults l.out)
    (lines_from l.fn.lib l.before) (listing l.fn.lib)
