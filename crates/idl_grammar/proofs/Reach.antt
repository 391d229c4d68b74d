-- No prefix form of a predictive rule reaches further than its reading does.
use Rattle.std.proofs.Common.{◌≡◌, ◌≤◌, ℕ, zero, suc, Bool, true, false, not, cond, inl, inr, List, [], ◌∷◌, ◌++◌, length, Ok, Err, refl, sym, ◌∙◌, ap, subst, append-nil, append_assoc, arith, length-append}
use Rattle.idl_grammar.specs.declared.terminal.Terminal.{Terminal}
use Rattle.idl_grammar.specs.Spellings.{Parted}
use Rattle.idl_grammar.specs.Terminals.{Lexeme}
use Rattle.idl_grammar.specs.Rule.{Rule, token, parted, nothing, map, both, or, many, lined, line_of, Each, Reads, Begins}
use Rattle.idl_grammar.specs.Read.{Outcome, pair, and_then, read_many, read, left, has, next_in, is_nullable, starts, goes_on, apart, is_predictive}
use Rattle.idl_grammar.proofs.Symbols.{both_true, all_three, all_four, not_true}
use Rattle.idl_grammar.proofs.Sets.{apart-has}
use Rattle.idl_grammar.proofs.Begin.{reads-first, reads-begins, begins-starts}
use Rattle.idl_grammar.proofs.NativeLaws.{had-parts}
use Rattle.idl_grammar.proofs.Sound.{left-read}
use Rattle.idl_grammar.proofs.Complete.{Complete, complete, many-step}

-- behind a prefix form, no more than what follows it is left
abbrev pub Reach : {A : Type 0} → Rule A → Type 0
Reach r = (ts rest : List Lexeme) → Begins r ts → left (read r (ts ++ rest)) ≤ length rest

left-then : {A B : Type 0} (n : ℕ) (o : Outcome A) (f : A → List Lexeme → Outcome B) → left o ≤ n → ((a : A) (rest : List Lexeme) → left (f a rest) ≤ length rest) → left (and_then o f) ≤ n
left-then n (Ok p) f h g = let k = g p.0 p.1 in omega arith
left-then n (Err rest) f h g = h

left-keep : {A B : Type 0} (n : ℕ) (o : Outcome A) (f : A → B) → left o ≤ n → left (and_then o (λ a rest. Ok (pair (f a) rest))) ≤ n
left-keep n (Ok p) f h = h
left-keep n (Err rest) f h = h

pub left-many : {A : Type 0} (p : Rule A) → is_predictive p ≡ true → (fuel : ℕ) (ts : List Lexeme) → left (read_many (read p) (starts p) fuel ts) ≤ length ts
left-many p h zero ts = omega arith
left-many {A} p h (suc fuel) ts = of_test (next_in (starts p) ts) (and_then (read p ts) (λ x rest. and_then (read_many (read p) (starts p) fuel rest) (λ xs end. Ok (pair (x ∷ xs) end)))) (left-then (length ts) (read p ts) _ (left-read p h ts) (λ x rest. left-keep (length rest) (read_many (read p) (starts p) fuel rest) (λ xs. x ∷ xs) (left-many p h fuel rest))) where
  of_test : (b : Bool) (o : Outcome (List A)) → left o ≤ length ts → left (cond b o (Ok (pair [] ts))) ≤ length ts
  of_test true o h = h
  of_test false o h = omega arith

reach-token : (symbol : Terminal) → Reach (token symbol)
reach-token symbol ts rest (inl e) = rw e (left-read (token symbol) refl rest)
reach-token symbol ts rest (inr h) = let r = h.1 in rw (r.1, r.2) (omega arith)

reach-parts : {A : Type 0} (form : Parted A) → Reach (parted form)
reach-parts form ts rest (inl e) = rw e (left-read (parted form) refl rest)
reach-parts form ts rest (inr h) = let r = h.1 in let one = had-parts form r.0.text h.0 r.3 in rw (r.1, r.2, one.0) (omega arith)

reach-lined : {A : Type 0} (p : Rule A) → Reach p → Reach (lined p)
reach-lined p f ts rest b = left-keep (length rest) (read p (ts ++ rest)) (λ a. pair (line_of (ts ++ rest)) a) (f ts rest b)

reach-map : {A B : Type 0} (g : A → B) (p : Rule A) → Reach p → Reach (map g p)
reach-map g p f ts rest b = left-keep (length rest) (read p (ts ++ rest)) g (f ts rest b)

second : {A B : Type 0} → Rule B → A → List Lexeme → Outcome (A × B)
second q a rest = and_then (read q rest) (λ b end. Ok (pair (pair a b) end))

left-second : {A B : Type 0} (q : Rule B) → is_predictive q ≡ true → (a : A) (rest : List Lexeme) → left (second q a rest) ≤ length rest
unfolding second
left-second q h a rest = left-keep (length rest) (read q rest) (λ b. pair a b) (left-read q h rest)

reach-both : {A B : Type 0} (p : Rule A) (q : Rule B) → apart (goes_on p) (starts q) ≡ true → is_predictive q ≡ true → Complete p → Reach p → Reach q → Reach (both p q)
unfolding second
reach-both p q h k c f g ts rest (inl b) = left-then (length rest) (read p (ts ++ rest)) (second q) (f ts rest b) (left-second q k)
reach-both {A} p q h k c f g ts rest (inr b) = of_next b.0 b.1 b.2 b.3.0 b.3.1 b.4 where
  of_next : (u v : List Lexeme) → ts ≡ u ++ v → (a : A) → Reads p u a → Begins q v → left (read (both p q) (ts ++ rest)) ≤ length rest
  of_next u [] e a r b =
      let same : ts ≡ u = rw (e, append-nil) refl in
      rw same (left-then (length rest) (read p (u ++ rest)) (second q) (f u rest (reads-begins p u a r)) (left-second q k))
  of_next u (t ∷ v) e a r b =
      let follow : next_in (goes_on p) ((t ∷ v) ++ rest) ≡ false = apart-has t (goes_on p) (starts q) h (begins-starts q t v b) in
      let first : read p (u ++ ((t ∷ v) ++ rest)) ≡ Ok (pair a ((t ∷ v) ++ rest)) = c u a ((t ∷ v) ++ rest) r follow in
      let whole : ts ++ rest ≡ u ++ ((t ∷ v) ++ rest) = rw e (append_assoc u (t ∷ v) rest) in
      rw (whole, first) (left-keep (length rest) (read q ((t ∷ v) ++ rest)) (λ x. pair a x) (g (t ∷ v) rest b))

reach-or : {A : Type 0} (p q : Rule A) → is_predictive p ≡ true → is_predictive q ≡ true → apart (starts p) (starts q) ≡ true → Reach p → Reach q → Reach (or p q)
reach-or p q i j h f g [] rest b = of_test (next_in (starts p) rest) where
  of_test : (t : Bool) → left (cond t (read p rest) (read q rest)) ≤ length rest
  of_test true = left-read p i rest
  of_test false = left-read q j rest
reach-or p q i j h f g (t ∷ ts) rest (inl b) = rw (begins-starts p t ts b) (f (t ∷ ts) rest b)
reach-or p q i j h f g (t ∷ ts) rest (inr b) = rw (apart-has t (starts p) (starts q) h (begins-starts q t ts b)) (g (t ∷ ts) rest b)

-- ---- repetition

turn : {A : Type 0} → Rule A → ℕ → A → List Lexeme → Outcome (List A)
turn p fuel x rest = and_then (read_many (read p) (starts p) fuel rest) (λ xs end. Ok (pair (x ∷ xs) end))

left-turn : {A : Type 0} (p : Rule A) → is_predictive p ≡ true → (fuel : ℕ) (x : A) (rest : List Lexeme) → left (turn p fuel x rest) ≤ length rest
unfolding turn
left-turn p h fuel x rest = left-keep (length rest) (read_many (read p) (starts p) fuel rest) (λ xs. x ∷ xs) (left-many p h fuel rest)

-- a reading that reaches so far, and then more turns
reach-first : {A : Type 0} (p : Rule A) → is_predictive p ≡ true → (fuel n : ℕ) (ts : List Lexeme) → length ts ≤ fuel → left (read p ts) ≤ n → next_in (starts p) ts ≡ true
    → left (read_many (read p) (starts p) fuel ts) ≤ n
unfolding turn
reach-first p h zero n [] k l b = cc
reach-first p h zero n (t ∷ ts) k l b = absurd (omega arith)
reach-first p h (suc fuel) n ts k l b = rw b (left-then n (read p ts) (turn p fuel) l (left-turn p h fuel))

reach-fuel : {A : Type 0} (p : Rule A) → is_predictive p ≡ true → is_nullable p ≡ false → apart (goes_on p) (starts p) ≡ true → Complete p → Reach p
    → (xs : List A) (fuel : ℕ) (u v rest : List Lexeme) → length (u ++ (v ++ rest)) ≤ fuel → Each (Reads p) u xs → Begins p v
    → left (read_many (read p) (starts p) fuel (u ++ (v ++ rest))) ≤ length rest
reach-fuel p i e h c f [] fuel u [] rest n each b = rw each (left-many p i fuel rest)
reach-fuel p i e h c f [] fuel u (t ∷ v) rest n each b =
    let k : length ((t ∷ v) ++ rest) ≤ fuel = omega (arith, length-append u ((t ∷ v) ++ rest)) in
    rw each (reach-first p i fuel (length rest) ((t ∷ v) ++ rest) k (f (t ∷ v) rest b) (begins-starts p t v b))
reach-fuel p i e h c f (x ∷ xs) zero u v rest n each b =
    let s = reads-first p each.0 x e each.3 in
    let whole : u ≡ s.0 ∷ (s.1 ++ each.1) = each.2 ∙ ap (λ w. w ++ each.1) s.2 in
    absurd (omega (arith, ap length whole, length-append u (v ++ rest)))
reach-fuel {A} p i e h c f (x ∷ xs) (suc fuel) u v rest n each b =
    let s = reads-first p each.0 x e each.3 in
    let whole : u ++ (v ++ rest) ≡ each.0 ++ (each.1 ++ (v ++ rest)) = rw each.2 (append_assoc each.0 each.1 (v ++ rest)) in
    let start : u ++ (v ++ rest) ≡ s.0 ∷ (s.1 ++ (each.1 ++ (v ++ rest))) = whole ∙ ap (λ w. w ++ (each.1 ++ (v ++ rest))) s.2 in
    let begun : has s.0 (starts p) ≡ true = begins-starts p s.0 s.1 (subst (λ w. Begins p w) s.2 (reads-begins p each.0 x each.3)) in
    let next : next_in (starts p) (u ++ (v ++ rest)) ≡ true = subst (λ w. next_in (starts p) w ≡ true) (sym start) begun in
    let fewer : length (each.1 ++ (v ++ rest)) ≤ fuel = omega (arith, ap length start, length-append s.1 (each.1 ++ (v ++ rest))) in
    let more = reach-fuel p i e h c f xs fuel each.1 v rest fewer each.4 b in
    let one : Begins (many p) (each.1 ++ v) = (each.1, v, refl, (xs, each.4), b) in
    of_next (each.1 ++ v) refl one whole next more where
      of_next : (w : List Lexeme) → each.1 ++ v ≡ w → Begins (many p) w → u ++ (v ++ rest) ≡ each.0 ++ (each.1 ++ (v ++ rest)) → next_in (starts p) (u ++ (v ++ rest)) ≡ true
          → left (read_many (read p) (starts p) fuel (each.1 ++ (v ++ rest))) ≤ length rest
          → left (read_many (read p) (starts p) (suc fuel) (u ++ (v ++ rest))) ≤ length rest
      of_next [] z m whole next more =
          let none : each.1 ++ (v ++ rest) ≡ rest = sym (append_assoc each.1 v rest) ∙ ap (λ w. w ++ rest) z in
          let reached : left (read p (u ++ (v ++ rest))) ≤ length rest = rw (whole, none) (f each.0 rest (reads-begins p each.0 x each.3)) in
          reach-first p i (suc fuel) (length rest) (u ++ (v ++ rest)) n reached next
      of_next (t ∷ w) z m whole next more =
          let tail : each.1 ++ (v ++ rest) ≡ (t ∷ w) ++ rest = sym (append_assoc each.1 v rest) ∙ ap (λ w. w ++ rest) z in
          let no : has t (goes_on p) ≡ false = apart-has t (goes_on p) (starts p) h (begins-starts (many p) t w m) in
          let follow : next_in (goes_on p) (each.1 ++ (v ++ rest)) ≡ false = rw tail no in
          let first : read p (u ++ (v ++ rest)) ≡ Ok (pair x (each.1 ++ (v ++ rest))) = rw whole (c each.0 x (each.1 ++ (v ++ rest)) each.3 follow) in
          rw (many-step p fuel (u ++ (v ++ rest)) (each.1 ++ (v ++ rest)) x next first)
          (left-keep (length rest) (read_many (read p) (starts p) fuel (each.1 ++ (v ++ rest))) (λ xs. x ∷ xs) more)

reach-many : {A : Type 0} (p : Rule A) → is_predictive p ≡ true → is_nullable p ≡ false → apart (goes_on p) (starts p) ≡ true → Complete p → Reach p → Reach (many p)
reach-many p i e h c f ts rest b =
    let whole : ts ++ rest ≡ b.0 ++ (b.1 ++ rest) = rw b.2 (append_assoc b.0 b.1 rest) in
    subst (λ w. left (read_many (read p) (starts p) (length w) w) ≤ length rest) (sym whole)
    (reach-fuel p i e h c f b.3.0 (length (b.0 ++ (b.1 ++ rest))) b.0 b.1 rest (omega arith) b.3.1 b.4)

pub reach : {A : Type 0} (r : Rule A) → is_predictive r ≡ true → Reach r
reach (token symbol) h = reach-token symbol
reach (parted form) h = reach-parts form
reach (nothing x) h = λ ts rest b. rw b (omega arith)
reach (map f p) h = reach-map f p (reach p h)
reach (both p q) h =
    let c = all_three (is_predictive p) (is_predictive q) (apart (goes_on p) (starts q)) h in
    reach-both p q c.2 c.1 (complete p c.0) (reach p c.0) (reach q c.1)
reach (or p q) h =
    let c = all_four (is_predictive p) (is_predictive q) (not (is_nullable p)) (apart (starts p) (starts q)) h in
    reach-or p q c.0 c.1 c.3 (reach p c.0) (reach q c.1)
reach (many p) h =
    let c = all_three (is_predictive p) (not (is_nullable p)) (apart (goes_on p) (starts p)) h in
    reach-many p c.0 (not_true (is_nullable p) c.1) c.2 (complete p c.0) (reach p c.0)
reach (lined p) h =
    let c = both_true (is_predictive p) (not (is_nullable p)) h in reach-lined p (reach p c.0)
