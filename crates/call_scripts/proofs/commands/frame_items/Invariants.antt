use Rattle.std.proofs.Common.{◌≡◌, length}
use Rattle.std.specs.Prelude.{map}
use Rattle.line_words.specs.Words.{each_of}
use Rattle.call_scripts.specs.Reading.{frame_item_of}
use Rattle.line_words.proofs.Eaches.{with_front}
use Rattle.call_scripts.proofs.commands.frame_items.Given as goal

abbrev pub invariant-loop-words : goal.invariant-loop-words
invariant-loop-words l = with_front l.items (each_of frame_item_of (map (λ word. word.now) l.words)) ≡ each_of frame_item_of (map (λ word. word.now) l.fn.words)

abbrev pub decreases-loop-words : goal.decreases-loop-words
decreases-loop-words l = length l.words
