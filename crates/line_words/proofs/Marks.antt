-- Where a mark cuts a word, and which words lack a mark.
use Rattle.std.proofs.Common.{◌≡◌, ℕ, zero, suc, ◌+◌, ◌<◌, ◌≤◌, Bool, true, false, not, cond, eqb, ltb, [], ◌∷◌, ◌++◌, length, take, drop, Option, Some, None, refl, sym, ap, ◌∙◌, arith, append_assoc}
use Rattle.std.specs.List.{All, list_all, position_or_len}
use Rattle.std.specs.Option.{option_map}
use Rattle.std.proofs.lemmas.Bool.{false≢true, eqb-true, eq-eqb, ne_eqb, ltb-true, lt-ltb, ltb-false, le-ltb}
use Rattle.std.proofs.Math.Numerals.{one-add}
use Rattle.line_words.specs.Words.{Word, cut_at}
use Rattle.line_words.proofs.Choices.{both, not_true}

-- ---- words that lack a mark

-- no byte of the word is the mark
abbrev pub lacks : ℕ → Word → Bool
lacks mark w = list_all (λ b. not (eqb b mark)) w

pub lacks_all : (mark : ℕ) (w : Word) → lacks mark w ≡ true → All (λ b. eqb b mark ≡ false) w
lacks_all mark [] h k d inside = absurd (omega arith)
lacks_all mark (b ∷ w) h zero d inside = not_true (eqb b mark) (both (not (eqb b mark)) (lacks mark w) h).0
lacks_all mark (b ∷ w) h (suc k) d inside = lacks_all mark w (both (not (eqb b mark)) (lacks mark w) h).1 k d (omega arith)

-- a byte that fails a test is not among those that pass it
pub all_lack : (test : ℕ → Bool) (mark : ℕ) (w : Word) → test mark ≡ false → list_all test w ≡ true → lacks mark w ≡ true
all_lack test mark [] free h = refl
all_lack test mark (c ∷ w) free h =
    let parts = both (test c) (list_all test w) h in
    let other : eqb c mark ≡ false = ne_eqb c mark (λ e. false≢true (sym free ∙ (ap test (sym e) ∙ parts.0))) in
    rw (other, all_lack test mark w free parts.1) refl

pub lacks_join : (mark : ℕ) (a b : Word) → lacks mark a ≡ true → lacks mark b ≡ true → lacks mark (a ++ b) ≡ true
lacks_join mark [] b h k = k
lacks_join mark (c ∷ a) b h k = let parts = both (not (eqb c mark)) (lacks mark a) h in rw (parts.0, lacks_join mark a b parts.1 k) refl

-- ---- cuts

-- a mark between two parts
pub marked : (m : ℕ) (a b : Word) → a ++ m ∷ b ≡ a ++ (m ∷ []) ++ b
marked m a b = sym (append_assoc a (m ∷ []) b)

abbrev push : ℕ → Word × Word → Word × Word
push b parts = (b ∷ parts.0, parts.1)

-- the place of the mark in a longer word
place : (b : ℕ) (w : Word) (n : ℕ) (t : Bool) → ltb n (length w) ≡ t
    → option_map (λ at. (take at (b ∷ w), drop (at + 1) (b ∷ w))) (cond (ltb (suc n) (suc (length w))) (Some (suc n)) None)
    ≡ option_map (push b) (option_map (λ at. (take at w, drop (at + 1) w)) (cond t (Some n) None))
place b w n true is =
    let inside : n < length w = ltb-true n (length w) is in
    let test : ltb (suc n) (suc (length w)) ≡ true = lt-ltb (suc n) (suc (length w)) (omega arith) in
    let next : suc n + 1 ≡ suc (n + 1) = omega arith in rw (test, next) refl
place b w n false is =
    let past : length w ≤ n = ltb-false n (length w) is in
    let test : ltb (suc n) (suc (length w)) ≡ false = le-ltb (suc n) (suc (length w)) (omega arith) in rw test refl

cut_there : (mark b : ℕ) (w : Word) → eqb b mark ≡ false → cut_at mark (b ∷ w) ≡ option_map (push b) (cut_at mark w)
unfolding cut_at
cut_there mark b w other = rw (other, one-add) (place b w (position_or_len (λ c. eqb c mark) w) (ltb (position_or_len (λ c. eqb c mark) w) (length w)) refl)

cut_here : (mark b : ℕ) (w : Word) → eqb b mark ≡ true → cut_at mark (b ∷ w) ≡ Some ([], w)
unfolding cut_at
cut_here mark b w same =
    let test : ltb 0 (suc (length w)) ≡ true = lt-ltb 0 (suc (length w)) (omega arith) in rw (same, test) refl

-- where the mark does not stand, nothing is cut
pub cut_none : (mark : ℕ) (w : Word) → lacks mark w ≡ true → cut_at mark w ≡ None
unfolding cut_at
cut_none mark [] h = refl
cut_none mark (b ∷ w) h =
    let parts = both (not (eqb b mark)) (lacks mark w) h in rw (cut_there mark b w (not_true (eqb b mark) parts.0), cut_none mark w parts.1) refl

-- the first mark is where a word is cut
pub cut_first : (mark : ℕ) (a b : Word) → lacks mark a ≡ true → cut_at mark (a ++ mark ∷ b) ≡ Some (a, b)
cut_first mark [] b h = cut_here mark mark b (eq-eqb mark mark refl)
cut_first mark (c ∷ a) b h =
    let parts = both (not (eqb c mark)) (lacks mark a) h in
    rw (cut_there mark c (a ++ mark ∷ b) (not_true (eqb c mark) parts.0), cut_first mark a b parts.1) refl

-- what the parts say of the word
abbrev pub IsCut : ℕ → Word → Option (Word × Word) → Type 0
IsCut mark w None = lacks mark w ≡ true
IsCut mark w (Some parts) = (w ≡ parts.0 ++ mark ∷ parts.1) × (lacks mark parts.0 ≡ true)

is_cut_later : (mark b : ℕ) (w : Word) → eqb b mark ≡ false → (rest : Option (Word × Word)) → IsCut mark w rest → IsCut mark (b ∷ w) (option_map (push b) rest)
is_cut_later mark b w other None h = rw (other, h) refl
is_cut_later mark b w other (Some parts) h = (ap (λ v. b ∷ v) h.0, rw (other, h.1) refl)

is_cut_step : (mark b : ℕ) (w : Word) → IsCut mark w (cut_at mark w) → (t : Bool) → eqb b mark ≡ t → IsCut mark (b ∷ w) (cut_at mark (b ∷ w))
is_cut_step mark b w rest true is = rw (cut_here mark b w is) (ap (λ c. c ∷ w) (eqb-true b mark is), refl)
is_cut_step mark b w rest false is = rw (cut_there mark b w is) (is_cut_later mark b w is (cut_at mark w) rest)

is_cut : (mark : ℕ) (w : Word) → IsCut mark w (cut_at mark w)
is_cut mark [] = rw (cut_none mark [] refl) refl
is_cut mark (b ∷ w) = is_cut_step mark b w (is_cut mark w) (eqb b mark) refl

pub cut_gives : (mark : ℕ) (w a b : Word) → cut_at mark w ≡ Some (a, b) → (w ≡ a ++ mark ∷ b) × (lacks mark a ≡ true)
cut_gives mark w a b is = rw is at (is_cut mark w)

pub cut_gives_none : (mark : ℕ) (w : Word) → cut_at mark w ≡ None → lacks mark w ≡ true
cut_gives_none mark w is = rw is at (is_cut mark w)
