-- Each reading of a predictive rule is what reading the rule gives, where the tokens behind it do not go on.
use Rattle.std.proofs.Common.{◌≡◌, ◌≤◌, ℕ, zero, suc, Bool, true, false, not, cond, ◌⊎◌, inl, inr, List, [], ◌∷◌, ◌++◌, length, Ok, refl, sym, ◌∙◌, ap, subst, append_assoc, arith, length-append}
use Rattle.idl_grammar.specs.declared.terminal.Terminal.{Terminal}
use Rattle.idl_grammar.specs.Spellings.{Parted}
use Rattle.idl_grammar.specs.Terminals.{Lexeme}
use Rattle.idl_grammar.specs.Rule.{Rule, token, parted, nothing, map, both, or, many, lined, line_of, Each, Reads, Begins}
use Rattle.idl_grammar.specs.Read.{Outcome, pair, and_then, read_many, read, has, next_in, when, is_nullable, starts, goes_on, apart, is_predictive}
use Rattle.idl_grammar.proofs.Symbols.{both_true, all_three, all_four, not_true}
use Rattle.idl_grammar.proofs.Sets.{next-neither, next-when, apart-has}
use Rattle.idl_grammar.proofs.Begin.{reads-nil, reads-first, reads-begins, begins-starts}
use Rattle.idl_grammar.proofs.NativeLaws.{had-parts}

-- the reading of these tokens is read, whatever follows that does not go on
abbrev pub Complete : {A : Type 0} → Rule A → Type 0
Complete {A} r = (ts : List Lexeme) (a : A) (rest : List Lexeme) → Reads r ts a → next_in (goes_on r) rest ≡ false → read r (ts ++ rest) ≡ Ok (pair a rest)

-- what follows a reading does not go on with it: where it is nothing, what is behind it does not, and else its first token does not
pub follows : {A : Type 0} (p : Rule A) (symbols : List Terminal) (v rest : List Lexeme) → apart (goes_on p) symbols ≡ true
    → (v ≡ [] → next_in (goes_on p) rest ≡ false) → ((t : Lexeme) (ts : List Lexeme) → v ≡ t ∷ ts → has t symbols ≡ true) → next_in (goes_on p) (v ++ rest) ≡ false
follows p symbols [] rest h none first = none refl
follows p symbols (t ∷ v) rest h none first = apart-has t (goes_on p) symbols h (first t v refl)

complete-token : (symbol : Terminal) → Complete (token symbol)
complete-token symbol ts a rest r n = rw (r.1, r.2, r.3) refl

complete-parts : {A : Type 0} (form : Parted A) → Complete (parted form)
complete-parts form ts a rest r n = let one = had-parts form r.0.text a r.3 in rw (r.1, r.2, one.0, one.1) refl

complete-map : {A B : Type 0} (f : A → B) (p : Rule A) → Complete p → Complete (map f p)
complete-map f p c ts b rest r n = rw (c ts r.0 rest r.1 n, r.2) refl

complete-lined : {A : Type 0} (p : Rule A) → is_nullable p ≡ false → Complete p → Complete (lined p)
complete-lined p e c ts a rest r n =
    let one : read p (ts ++ rest) ≡ Ok (pair a.1 rest) = c ts a.1 rest r.0 n in
    let first = reads-first p ts a.1 e r.0 in
    let line : line_of (ts ++ rest) ≡ a.0 = rw first.2 (sym (r.1 ∙ ap line_of first.2)) in
    rw (one, line) refl

complete-both : {A B : Type 0} (p : Rule A) (q : Rule B) → apart (goes_on p) (starts q) ≡ true → Complete p → Complete q → Complete (both p q)
complete-both p q h c d ts ab rest r n =
    let m = next-neither (goes_on q) (when (is_nullable q) (goes_on p)) rest n in
    of_parts r.0 r.1 r.2 r.3 r.4 m.0 m.1 where
      of_parts : (u v : List Lexeme) → ts ≡ u ++ v → Reads p u ab.0 → Reads q v ab.1 → next_in (goes_on q) rest ≡ false
          → next_in (when (is_nullable q) (goes_on p)) rest ≡ false → read (both p q) (ts ++ rest) ≡ Ok (pair ab rest)
      of_parts u v e rp rq nq np =
          let follow : next_in (goes_on p) (v ++ rest) ≡ false =
          follows p (starts q) v rest h
          (λ z. next-when (is_nullable q) (goes_on p) rest (reads-nil q v ab.1 z rq) np)
          (λ t more z. begins-starts q t more (subst (λ w. Begins q w) z (reads-begins q v ab.1 rq))) in
          let first : read p (u ++ (v ++ rest)) ≡ Ok (pair ab.0 (v ++ rest)) = c u ab.0 (v ++ rest) rp follow in
          let second : read q (v ++ rest) ≡ Ok (pair ab.1 rest) = d v ab.1 rest rq nq in
          let whole : ts ++ rest ≡ u ++ (v ++ rest) = rw e (append_assoc u v rest) in
          rw (whole, first, second) refl

complete-or : {A : Type 0} (p q : Rule A) → is_nullable p ≡ false → apart (starts p) (starts q) ≡ true → Complete p → Complete q → Complete (or p q)
complete-or {A} p q e h c d ts a rest r n =
    let m = next-neither (goes_on p ++ goes_on q) (when (is_nullable q) (starts p)) rest n in
    let m' = next-neither (goes_on p) (goes_on q) rest m.0 in
    of_side r m'.0 m'.1 m.1 where
      chosen : (b : Bool) (o w z : Outcome A) → b ≡ true → o ≡ z → cond b o w ≡ z
      chosen true o w z f g = g
      chosen false o w z f g = cc

      passed : (b : Bool) (o w z : Outcome A) → b ≡ false → w ≡ z → cond b o w ≡ z
      passed true o w z f g = cc
      passed false o w z f g = g

      first : Reads p ts a → next_in (starts p) (ts ++ rest) ≡ true
      first r =
          let f = reads-first p ts a e r in rw f.2 (begins-starts p f.0 f.1 (subst (λ w. Begins p w) f.2 (reads-begins p ts a r)))

      last : (us : List Lexeme) → Reads q us a → next_in (when (is_nullable q) (starts p)) rest ≡ false → next_in (starts p) (us ++ rest) ≡ false
      last [] r np = next-when (is_nullable q) (starts p) rest (reads-nil q [] a refl r) np
      last (t ∷ us) r np = apart-has t (starts p) (starts q) h (begins-starts q t us (reads-begins q (t ∷ us) a r))

      of_side : Reads p ts a ⊎ Reads q ts a → next_in (goes_on p) rest ≡ false → next_in (goes_on q) rest ≡ false
          → next_in (when (is_nullable q) (starts p)) rest ≡ false → read (or p q) (ts ++ rest) ≡ Ok (pair a rest)
      of_side (inl r) np nq ns = chosen (next_in (starts p) (ts ++ rest)) _ _ _ (first r) (c ts a rest r np)
      of_side (inr r) np nq ns = passed (next_in (starts p) (ts ++ rest)) _ _ _ (last ts r ns) (d ts a rest r nq)

-- ---- repetition

-- a turn of the loop, by what it reads first
pub many-step : {A : Type 0} (p : Rule A) (fuel : ℕ) (ts mid : List Lexeme) (x : A) → next_in (starts p) ts ≡ true → read p ts ≡ Ok (pair x mid)
    → read_many (read p) (starts p) (suc fuel) ts ≡ and_then (read_many (read p) (starts p) fuel mid) (λ xs end. Ok (pair (x ∷ xs) end))
many-step p fuel ts mid x b e = rw (b, e) refl

pub many-stop : {A : Type 0} (p : Rule A) (fuel : ℕ) (ts : List Lexeme) → next_in (starts p) ts ≡ false → read_many (read p) (starts p) fuel ts ≡ Ok (pair [] ts)
many-stop p zero ts b = refl
many-stop p (suc fuel) ts b = rw b refl

each-first : {A : Type 0} (p : Rule A) (xs : List A) (v : List Lexeme) (t : Lexeme) (ts : List Lexeme) → Each (Reads p) v xs → v ≡ t ∷ ts → has t (starts p) ≡ true
each-first p xs v t ts each e = begins-starts (many p) t ts (subst (λ w. Begins (many p) w) e (reads-begins (many p) v xs each))

complete-fuel : {A : Type 0} (p : Rule A) → is_nullable p ≡ false → apart (goes_on p) (starts p) ≡ true → Complete p
    → (xs : List A) (fuel : ℕ) (ts rest : List Lexeme) → length (ts ++ rest) ≤ fuel → Each (Reads p) ts xs
    → next_in (starts p) rest ≡ false → next_in (goes_on p) rest ≡ false → read_many (read p) (starts p) fuel (ts ++ rest) ≡ Ok (pair xs rest)
complete-fuel p e h c [] fuel ts rest n r ns ng = rw r (many-stop p fuel rest ns)
complete-fuel p e h c (x ∷ xs) zero ts rest n r ns ng =
    let f = reads-first p r.0 x e r.3 in
    let whole : ts ≡ f.0 ∷ (f.1 ++ r.1) = r.2 ∙ ap (λ w. w ++ r.1) f.2 in
    absurd (omega (arith, ap length whole, length-append ts rest))
complete-fuel p e h c (x ∷ xs) (suc fuel) ts rest n r ns ng =
    let f = reads-first p r.0 x e r.3 in
    let whole : ts ++ rest ≡ r.0 ++ (r.1 ++ rest) = rw r.2 (append_assoc r.0 r.1 rest) in
    let start : ts ++ rest ≡ f.0 ∷ (f.1 ++ (r.1 ++ rest)) = whole ∙ ap (λ u. u ++ (r.1 ++ rest)) f.2 in
    let fewer : length (r.1 ++ rest) ≤ fuel = omega (arith, ap length start, length-append f.1 (r.1 ++ rest)) in
    let follow : next_in (goes_on p) (r.1 ++ rest) ≡ false =
    follows p (starts p) r.1 rest h (λ z. ng) (λ t more z. each-first p xs r.1 t more r.4 z) in
    let one : read p (ts ++ rest) ≡ Ok (pair x (r.1 ++ rest)) = subst (λ w. read p w ≡ Ok (pair x (r.1 ++ rest))) (sym whole) (c r.0 x (r.1 ++ rest) r.3 follow) in
    let begun : has f.0 (starts p) ≡ true = begins-starts p f.0 f.1 (subst (λ w. Begins p w) f.2 (reads-begins p r.0 x r.3)) in
    let next : next_in (starts p) (ts ++ rest) ≡ true = subst (λ w. next_in (starts p) w ≡ true) (sym start) begun in
    let more = complete-fuel p e h c xs fuel r.1 rest fewer r.4 ns ng in
    many-step p fuel (ts ++ rest) (r.1 ++ rest) x next one ∙ rw more refl

complete-many : {A : Type 0} (p : Rule A) → is_nullable p ≡ false → apart (goes_on p) (starts p) ≡ true → Complete p → Complete (many p)
complete-many p e h c ts xs rest r n =
    let m = next-neither (starts p) (goes_on p) rest n in
    complete-fuel p e h c xs (length (ts ++ rest)) ts rest (omega arith) r m.0 m.1

pub complete : {A : Type 0} (r : Rule A) → is_predictive r ≡ true → Complete r
complete (token symbol) h = complete-token symbol
complete (parted form) h = complete-parts form
complete (nothing x) h = λ ts a rest r n. rw (r.0, r.1) refl
complete (map f p) h = complete-map f p (complete p h)
complete (both p q) h =
    let c = all_three (is_predictive p) (is_predictive q) (apart (goes_on p) (starts q)) h in complete-both p q c.2 (complete p c.0) (complete q c.1)
complete (or p q) h =
    let c = all_four (is_predictive p) (is_predictive q) (not (is_nullable p)) (apart (starts p) (starts q)) h in
    complete-or p q (not_true (is_nullable p) c.2) c.3 (complete p c.0) (complete q c.1)
complete (many p) h =
    let c = all_three (is_predictive p) (not (is_nullable p)) (apart (goes_on p) (starts p)) h in
    complete-many p (not_true (is_nullable p) c.1) c.2 (complete p c.0)
complete (lined p) h =
    let c = both_true (is_predictive p) (not (is_nullable p)) h in complete-lined p (not_true (is_nullable p) c.1) (complete p c.0)
