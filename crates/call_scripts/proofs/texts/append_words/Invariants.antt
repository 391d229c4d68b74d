use Rattle.std.proofs.Common.{◌≡◌, ◌∷◌, ◌++◌, length}
use Rattle.std.specs.Prelude.{map}
use Rattle.std.specs.List.{flat_map}
use Rattle.call_scripts.proofs.texts.append_words.Given as goal

abbrev pub invariant-loop-words : goal.invariant-loop-words
invariant-loop-words l =
    l.line ++ flat_map (λ word. 32 ∷ word) (map (λ word. word.now) l.words) ≡ l.fn.line ++ flat_map (λ word. 32 ∷ word) (map (λ word. word.now) l.fn.words)

abbrev pub decreases-loop-words : goal.decreases-loop-words
decreases-loop-words l = length l.words
