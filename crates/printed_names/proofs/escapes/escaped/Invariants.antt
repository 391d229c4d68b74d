use Rattle.std.proofs.Common.{◌≡◌, take}
use Rattle.printed_names.specs.Names.{escaped}
use Rattle.printed_names.proofs.escapes.escaped.Given as goal

-- the bytes so far
abbrev pub invariant-loop-byte : goal.invariant-loop-byte
invariant-loop-byte l = l.word ≡ escaped (take l.byte-index l.name)
