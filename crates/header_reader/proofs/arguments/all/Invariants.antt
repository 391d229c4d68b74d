use Rattle.std.proofs.Common.{◌≡◌, length}
use Rattle.std.specs.Prelude.{map}
use Rattle.line_words.specs.Words.{each_of}
use Rattle.line_words.proofs.Eaches.{with_front}
use Rattle.header_reader.specs.Reading.{all_of, later_of}
use Rattle.header_reader.proofs.arguments.all.Given as goal

abbrev pub invariant-loop-parts : goal.invariant-loop-parts
invariant-loop-parts l = with_front l.types (each_of later_of (map (λ part. part.now) l.parts)) ≡ all_of (map (λ part. part.now) l.fn.parts)

abbrev pub decreases-loop-parts : goal.decreases-loop-parts
decreases-loop-parts l = length l.parts
