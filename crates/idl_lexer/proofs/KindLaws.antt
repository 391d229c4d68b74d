-- What a reader of a kind gives is spelled so, and no spelling of the kind at its place is longer.
use Rattle.std.proofs.Common.{◌≡◌, ◌≤◌, ◌<◌, ℕ, Bool, true, false, cond, ◌&&◌, ◌||◌, ◌⊎◌, inl, inr, List, [], ◌∷◌, ◌++◌, length, Option, Some, None, refl, sym, ◌∙◌, ap, arith, append_assoc, append-nil, length-append, codes}
use Rattle.std.proofs.lemmas.Bool.Decides.{nat_tests}
use Rattle.std.specs.Prelude.{◌==◌, unwrap_or}
use Rattle.std.specs.Option.{option_or}
use Rattle.std.specs.List.{list_all}
use Rattle.idl_lexer.specs.declared.class.Class.TheVariants.{NameByte, Digit, Hexadecimal, Gap, Single}
use Rattle.idl_lexer.specs.Classes.{is_in}
use Rattle.idl_lexer.specs.Parts.{IsMadeOf, is_name, is_word}
use Rattle.idl_lexer.specs.Spelling.{hexadecimal, decimal, iid, include, native, language, IsBlock, IsCode, is_mark}
use Rattle.idl_lexer.specs.Pieces.{line_comment}
use Rattle.idl_lexer.specs.Reading.{after, after_block, past_language, after_code, after_number, after_mark, is_whole}
use Rattle.idl_lexer.proofs.Basics.{chosen, guarded, mapped, either_of, both_true}
use Rattle.idl_lexer.proofs.ByteLaws.{gap-unnamed, named-no_gap, hexadecimal-named, digit-named, some-more, any-more, some-first}
use Rattle.idl_lexer.proofs.PartLaws.{parts-read, parts-longest, whole-made, made-whole, IsGreedy, GoesFar}
use Rattle.idl_lexer.proofs.PairLaws.{enclosed-reads, enclosed-again}

-- ---- each spelling ends its runs

pub hexadecimal-greedy : IsGreedy hexadecimal
unfolding hexadecimal
hexadecimal-greedy = some-more

pub decimal-greedy : IsGreedy decimal
unfolding decimal
decimal-greedy = some-more

pub iid-greedy : IsGreedy iid
unfolding iid
iid-greedy = tt

pub include-greedy : IsGreedy include
unfolding include is_in
include-greedy = (refl, (refl, tt))

pub native-greedy : IsGreedy native
unfolding native is_in is_word is_name
native-greedy =
    ((named-no_gap, inl refl), ((gap-unnamed, inr refl), (refl, (refl, tt))))

pub language-greedy : IsGreedy language
unfolding language is_in
language-greedy = (refl, tt)

pub line_comment-greedy : IsGreedy line_comment
unfolding line_comment
line_comment-greedy = any-more

-- ---- the test of a whole spelling

pub include-whole : (text : List ℕ) → is_whole include text ≡ true → IsMadeOf include text
include-whole text e = whole-made include text e

pub whole-include : (text : List ℕ) → IsMadeOf include text → is_whole include text ≡ true
whole-include text m = made-whole include text include-greedy m

pub native-whole : (text : List ℕ) → is_whole native text ≡ true → IsMadeOf native text
native-whole text e = whole-made native text e

pub whole-native : (text : List ℕ) → IsMadeOf native text → is_whole native text ≡ true
whole-native text m = made-whole native text native-greedy m

-- ---- texts that are all of one class

pub all-weaker : (p q : ℕ → Bool) (xs : List ℕ) → ((b : ℕ) → p b ≡ true → q b ≡ true) → list_all p xs ≡ true → list_all q xs ≡ true
all-weaker p q [] w h = refl
all-weaker p q (x ∷ xs) w h =
    let a = both_true (p x) (list_all p xs) h in rw (w x a.0) (all-weaker p q xs w a.1)

-- a text of one class is shorter than one at its place that has a byte of no such class
pub shorter : (p : ℕ → Bool) (text next before : List ℕ) (d : ℕ) (more rest : List ℕ) → list_all p text ≡ true → p d ≡ false
    → text ++ next ≡ (before ++ d ∷ more) ++ rest → length rest < length next
shorter p [] next before d more rest all n e =
    omega (arith, ap length e, length-append (before ++ d ∷ more) rest, length-append before (d ∷ more))
shorter p (x ∷ text) next [] d more rest all n e =
    let h : x ≡ d = cc in let t : p x ≡ false = rw h n in let a = both_true (p x) (list_all p text) all in cc
shorter p (x ∷ text) next (y ∷ before) d more rest all n e =
    let t : text ++ next ≡ (before ++ d ∷ more) ++ rest = cc in
    shorter p text next before d more rest (both_true (p x) (list_all p text) all).1 n t

-- ---- identifiers, numbers and names at one place

-- an identifier has a byte that is in no name
iid-broken : (text : List ℕ) → IsMadeOf iid text → (before : List ℕ) × (more : List ℕ) × (text ≡ before ++ 45 ∷ more)
unfolding iid
iid-broken text m = let n = m.5 in (m.0, n.0, m.2 ∙ ap (λ xs. m.0 ++ xs) n.1)

pub iid-longer : (p : ℕ → Bool) (text next rest : List ℕ) → list_all p text ≡ true → p 45 ≡ false → after iid (text ++ next) ≡ Some rest → length rest < length next
iid-longer p text next rest all n e =
    let r = parts-read iid (text ++ next) rest e in
    let b = iid-broken r.0 r.2 in
    shorter p text next b.0 45 b.1 rest all n (r.1 ∙ ap (λ xs. xs ++ rest) b.2)

-- the form of a native has one too
native-broken : (text : List ℕ) → IsMadeOf native text → (before : List ℕ) × (d : ℕ) × (more : List ℕ) × (text ≡ before ++ d ∷ more) × (is_in NameByte d ≡ false)
unfolding native
native-broken text m =
    let n = m.2 in
    let s = some-first n.0 n.4 in
    let gap : is_in Gap s.0 ≡ true = (both_true (is_in Gap s.0) (list_all (is_in Gap) s.1) (rw s.2 at n.3)).0 in
    let e : m.0 ≡ s.0 ∷ (s.1 ++ n.1) = n.2 ∙ ap (λ xs. xs ++ n.1) s.2 in
    (codes "native", s.0, s.1 ++ n.1, m.1 ∙ ap (λ xs. codes "native" ++ xs) e, gap-unnamed s.0 gap)

pub native-longer : (text next rest : List ℕ) → list_all (is_in NameByte) text ≡ true → after native (text ++ next) ≡ Some rest → length rest < length next
native-longer text next rest all e =
    let r = parts-read native (text ++ next) rest e in
    let b = native-broken r.0 r.2 in
    shorter (is_in NameByte) text next b.0 b.1 b.2 rest all b.4 (r.1 ∙ ap (λ xs. xs ++ rest) b.3)

-- ---- numbers

-- `0x` is made of bytes of a name
zero_x-named : (text : List ℕ) → list_all (is_in NameByte) text ≡ true → list_all (is_in NameByte) (codes "0x" ++ text) ≡ true
unfolding is_in
zero_x-named text h = h

hexadecimal-all : (text : List ℕ) → IsMadeOf hexadecimal text → list_all (is_in NameByte) text ≡ true
unfolding hexadecimal
hexadecimal-all text m =
    let n = m.2 in
    let e : text ≡ codes "0x" ++ n.0 = rw (m.1, n.2, n.5, append-nil) refl in
    rw e (zero_x-named n.0 (all-weaker (is_in Hexadecimal) (is_in NameByte) n.0 hexadecimal-named n.3))

decimal-all : (text : List ℕ) → IsMadeOf decimal text → list_all (is_in Digit) text ≡ true
unfolding decimal
decimal-all text m = let e : text ≡ m.0 = rw (m.2, m.5, append-nil) refl in rw e m.3

pub number-all : (text : List ℕ) → IsMadeOf hexadecimal text ⊎ IsMadeOf decimal text → list_all (is_in NameByte) text ≡ true
number-all text (inl m) = hexadecimal-all text m
number-all text (inr m) = all-weaker (is_in Digit) (is_in NameByte) text digit-named (decimal-all text m)

pub number-reads : (bytes rest : List ℕ) → after_number bytes ≡ Some rest
    → (text : List ℕ) × (bytes ≡ text ++ rest) × (IsMadeOf hexadecimal text ⊎ IsMadeOf decimal text)
unfolding after_number
number-reads bytes rest e = of_either (either_of (after hexadecimal bytes) (after decimal bytes) rest e) where
  of_either : (after hexadecimal bytes ≡ Some rest) ⊎ ((after hexadecimal bytes ≡ None) × (after decimal bytes ≡ Some rest))
      → (text : List ℕ) × (bytes ≡ text ++ rest) × (IsMadeOf hexadecimal text ⊎ IsMadeOf decimal text)
  of_either (inl h) = let r = parts-read hexadecimal bytes rest h in (r.0, r.1, inl r.2)
  of_either (inr h) = let r = parts-read decimal bytes rest h.1 in (r.0, r.1, inr r.2)

has_x : (text : List ℕ) → IsMadeOf hexadecimal text → (more : List ℕ) × (text ≡ (48 ∷ []) ++ 120 ∷ more)
unfolding hexadecimal
has_x text h = (h.0, h.1)

x-no_digit : is_in Digit 120 ≡ false
unfolding is_in
x-no_digit = refl

-- a number in hexadecimal digits is longer than one in decimal digits at its place
hexadecimal-longer : (text next rest : List ℕ) → IsMadeOf decimal text → after hexadecimal (text ++ next) ≡ Some rest → length rest < length next
hexadecimal-longer text next rest m e =
    let r = parts-read hexadecimal (text ++ next) rest e in
    let x = has_x r.0 r.2 in
    shorter (is_in Digit) text next (48 ∷ []) 120 x.0 rest (decimal-all text m) x-no_digit (r.1 ∙ ap (λ xs. xs ++ rest) x.1)

pub far-or : (o p : Option (List ℕ)) (next : List ℕ) → ((rest : List ℕ) → o ≡ Some rest → length rest ≤ length next) → GoesFar p next → GoesFar (option_or o p) next
far-or None p next h g = g
far-or (Some rest) p next h g = (rest, refl, h rest refl)

pub number-far : (text next : List ℕ) → IsMadeOf hexadecimal text ⊎ IsMadeOf decimal text → GoesFar (after_number (text ++ next)) next
unfolding after_number
number-far text next (inl m) =
    let g = parts-longest hexadecimal text next hexadecimal-greedy m in (g.0, rw g.1 refl, g.2)
number-far text next (inr m) =
    far-or (after hexadecimal (text ++ next)) (after decimal (text ++ next)) next
    (λ rest e. let l = hexadecimal-longer text next rest m e in omega arith) (parts-longest decimal text next decimal-greedy m)

-- ---- code

block-reads : (bytes rest : List ℕ) → after_block bytes ≡ Some rest → (text : List ℕ) × (bytes ≡ text ++ rest) × IsBlock text
unfolding after_block
block-reads bytes rest e = enclosed-reads (codes "%{") 37 125 bytes rest e

block-again : (text next : List ℕ) → IsBlock text → after_block (text ++ next) ≡ Some next
unfolding after_block
block-again text next m = enclosed-again (codes "%{") 37 125 text next (λ same. omega arith) m

language-reads : (bytes : List ℕ) → (text : List ℕ) × (bytes ≡ text ++ past_language bytes) × ((text ≡ []) ⊎ IsMadeOf language text)
unfolding past_language
language-reads bytes = by_answer (after language bytes) refl where
  by_answer : (o : Option (List ℕ)) → after language bytes ≡ o → (text : List ℕ) × (bytes ≡ text ++ unwrap_or o bytes) × ((text ≡ []) ⊎ IsMadeOf language text)
  by_answer None e = ([], refl, inl refl)
  by_answer (Some rest) e = let r = parts-read language bytes rest e in (r.0, r.1, inr r.2)

pub code-reads : (bytes rest : List ℕ) → after_code bytes ≡ Some rest → (text : List ℕ) × (bytes ≡ text ++ rest) × IsCode text
unfolding after_code
code-reads bytes rest e =
    let m = mapped past_language (after_block bytes) rest e in
    let b = block-reads bytes m.0 m.1 in
    let l = language-reads m.0 in
    (b.0 ++ l.0, b.1 ∙ ap (λ xs. b.0 ++ xs) (l.1 ∙ ap (λ xs. l.0 ++ xs) m.2) ∙ sym (append_assoc b.0 l.0 rest), code b.0 l.0 b.2 l.2) where
      code : (block more : List ℕ) → IsBlock block → (more ≡ []) ⊎ IsMadeOf language more → IsCode (block ++ more)
      code block more b (inl n) = inl (rw (n, append-nil) b)
      code block more b (inr l) = inr (block, more, refl, b, l)

without-shorter : (bytes : List ℕ) → length (past_language bytes) ≤ length bytes
without-shorter bytes = let l = language-reads bytes in omega (arith, ap length l.1, length-append l.0 (past_language bytes))

without-again : (more next : List ℕ) → IsMadeOf language more → length (past_language (more ++ next)) ≤ length next
unfolding past_language
without-again more next m = let g = parts-longest language more next language-greedy m in rw g.1 g.2

pub code-far : (text next : List ℕ) → IsCode text → GoesFar (after_code (text ++ next)) next
unfolding after_code
code-far text next (inl b) = (past_language next, rw (block-again text next b) refl, without-shorter next)
code-far text next (inr m) =
    let e : text ++ next ≡ m.0 ++ (m.1 ++ next) = rw m.2 (append_assoc m.0 m.1 next) in
    (past_language (m.1 ++ next), rw (e, block-again m.0 (m.1 ++ next) m.3) refl, without-again m.1 next m.4)

-- ---- marks

pub mark-reads : (bytes rest : List ℕ) → after_mark bytes ≡ Some rest → (text : List ℕ) × (bytes ≡ text ++ rest) × (is_mark text ≡ true)
unfolding after_mark
mark-reads [] rest e = cc
mark-reads (c ∷ []) rest e = let g = guarded (is_in Single c) [] rest e in (c ∷ [], ap (λ xs. c ∷ xs) g.1, g.0)
mark-reads (c ∷ d ∷ more) rest e =
    of_test (chosen (is_in Single c) (Some (d ∷ more)) (cond ((c == d) && (c == 60 || c == 62)) (Some more) None) (Some rest) e) where
      of_test : ((is_in Single c ≡ true) × (Some (d ∷ more) ≡ Some rest)) ⊎ ((is_in Single c ≡ false) × (cond ((c == d) && (c == 60 || c == 62)) (Some more) None ≡ Some rest))
          → (text : List ℕ) × (c ∷ d ∷ more ≡ text ++ rest) × (is_mark text ≡ true)
      of_test (inl p) = let r : d ∷ more ≡ rest = cc in (c ∷ [], ap (λ xs. c ∷ xs) r, p.0)
      of_test (inr p) = let g = guarded ((c == d) && (c == 60 || c == 62)) more rest p.1 in (c ∷ d ∷ [], ap (λ xs. c ∷ d ∷ xs) g.1, g.0)

-- two marks of one byte are no mark of two
doubled-no_single : (c d : ℕ) → is_mark (c ∷ d ∷ []) ≡ true → is_in Single c ≡ false
unfolding is_in
doubled-no_single c d h = grind (arith, nat_tests)

pub mark-far : (text next : List ℕ) → is_mark text ≡ true → GoesFar (after_mark (text ++ next)) next
unfolding after_mark
mark-far [] next h = cc
mark-far (c ∷ []) [] h = ([], rw h refl, omega arith)
mark-far (c ∷ []) (d ∷ more) h = (d ∷ more, rw h refl, omega arith)
mark-far (c ∷ d ∷ []) next h = (next, rw (doubled-no_single c d h, h) refl, omega arith)
mark-far (c ∷ d ∷ e ∷ more) next h = cc
