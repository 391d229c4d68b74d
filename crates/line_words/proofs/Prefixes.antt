-- What prefixes and suffixes leave of a word: what is read is spelled so, and what is spelled so is
-- read.
use Rattle.std.proofs.Common.{◌≡◌, ℕ, ◌-◌, true, false, eqb, ◌∷◌, ◌++◌, length, take, drop, Some, None, refl, sym, ◌∙◌, arith, length-append}
use Rattle.std.specs.Str.{bytes_eq}
use Rattle.std.proofs.Math.Seq.{take-append_seam, drop-append_seam}
use Rattle.std.proofs.lemmas.List.{take-append-drop}
use Rattle.std.proofs.lemmas.Option.{cond_some}
use Rattle.std.proofs.lemmas.Slice.Eq.{bytes_eq-Decides}
use Rattle.line_words.specs.Words.{Word, after, before}

pub same_bytes : (w v : Word) → bytes_eq w v ≡ true → w ≡ v
same_bytes w v h = (bytes_eq-Decides w v).0 h

pub after_read : (prefix w rest : Word) → after prefix w ≡ Some rest → w ≡ prefix ++ rest
unfolding after
after_read prefix w rest is =
    let read = cond_some (bytes_eq (take (length prefix) w) prefix) (drop (length prefix) w) rest is in
    let front : take (length prefix) w ≡ prefix = same_bytes (take (length prefix) w) prefix read.0 in
    sym (take-append-drop (length prefix) w) ∙ rw (front, read.1) refl

pub after_spelled : (prefix rest : Word) → after prefix (prefix ++ rest) ≡ Some rest
unfolding after
after_spelled prefix rest =
    let same : bytes_eq prefix prefix ≡ true = (bytes_eq-Decides prefix prefix).1 refl in
    rw (take-append_seam prefix rest, drop-append_seam prefix rest, same) refl

pub after_other : (p c : ℕ) (prefix rest : Word) → eqb c p ≡ false → after (p ∷ prefix) (c ∷ rest) ≡ None
unfolding after
after_other p c prefix rest other = rw other refl

pub before_read : (suffix w front : Word) → before suffix w ≡ Some front → w ≡ front ++ suffix
unfolding before
before_read suffix w front is =
    let n = length w - length suffix in
    let read = cond_some (bytes_eq (drop n w) suffix) (take n w) front is in
    let end : drop n w ≡ suffix = same_bytes (drop n w) suffix read.0 in
    sym (take-append-drop n w) ∙ rw (end, read.1) refl

pub before_spelled : (suffix front : Word) → before suffix (front ++ suffix) ≡ Some front
unfolding before
before_spelled suffix front =
    let n : length (front ++ suffix) - length suffix ≡ length front = omega (arith, length-append front suffix) in
    let same : bytes_eq suffix suffix ≡ true = (bytes_eq-Decides suffix suffix).1 refl in
    rw (n, take-append_seam front suffix, drop-append_seam front suffix, same) refl
