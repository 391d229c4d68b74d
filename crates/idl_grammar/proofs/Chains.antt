-- What the readers of expressions keep, which put steps into one list.
use Rattle.std.proofs.Common.{◌≡◌, ◌<◌, ℕ, Bool, true, false, List, [], ◌∷◌, ◌++◌, length, Ok, Err, refl, sym, ◌∙◌, ap, append-nil, append_assoc}
use Rattle.idl_grammar.specs.declared.tree.ExprStep.{ExprStep}
use Rattle.idl_grammar.specs.Terminals.{Lexeme}
use Rattle.idl_grammar.specs.Rule.{Rule, both, many}
use Rattle.idl_grammar.specs.declared.level.Level.TheVariants as level
use Rattle.idl_grammar.specs.declared.terminal.Mark.TheVariants as m
use Rattle.idl_grammar.specs.declared.terminal.Terminal.TheVariants as terminal
use Rattle.idl_grammar.specs.declared.tree.ExprStep.TheVariants as step
use Rattle.idl_grammar.specs.Grammar.{chain, joined, operator, shifts, unions, negation, parentheses}
use Rattle.idl_grammar.specs.Read.{Outcome, pair, and_then, read_token, read, next_in, is_nullable, starts, goes_on, is_predictive}
use Rattle.idl_grammar.specs.Gives.{more, plain}
use Rattle.idl_grammar.proofs.Sound.{shrinks}
use Rattle.idl_grammar.proofs.Loops.{Repeats, many-turn, many-end, many-err}

Steps : Type 0
Steps = List ExprStep

-- what was read, where the list grew
record Grew (s new : List ExprStep) (o : Outcome (List ExprStep)) (rest : List Lexeme) : Type 0 where
  part : List ExprStep
  was : o ≡ Ok (pair part rest)
  grew : new ≡ s ++ part

grew : (s new : List ExprStep) (o : Outcome (List ExprStep)) (rest : List Lexeme) → more plain s o ≡ Ok (pair new rest) → Grew s new o rest
grew s new (Ok p) rest e =
    let q : pair (s ++ p.0) p.1 ≡ pair new rest = cc in
    record { part = p.0; was = ap (λ r. Ok (pair p.0 r)) (ap (λ x. x.1) q); grew = sym (ap (λ x. x.0) q) }
grew s new (Err r) rest e = cc

pub more-err : {A B : Type 0} (join : A → List B) (s : List B) (o : Outcome A) (rest : List Lexeme) → more join s o ≡ Err rest → o ≡ Err rest
more-err join s (Ok p) rest e = cc
more-err join s (Err r) rest e = let q : r ≡ rest = cc in ap (λ x. Err x) q

-- ---- a chain

chain-first-of : (sign : Rule ExprStep) (e : Rule (List ExprStep)) (s new : List ExprStep) (ts rest : List Lexeme) (part : List ExprStep)
    → read e ts ≡ Ok (pair part rest) → new ≡ s ++ part → (o : Outcome (List (ExprStep × List ExprStep))) → read (many (both sign e)) rest ≡ o
    → more plain s (read (chain sign e) ts) ≡ more joined new o
chain-first-of sign e s new ts rest part was n (Ok p) o = rw (was, o, n) (ap (λ x. Ok (pair x p.1)) (sym (append_assoc s part (joined p.0))))
chain-first-of sign e s new ts rest part was n (Err r) o = rw (was, o) refl

pub chain-first : (sign : Rule ExprStep) (e : Rule (List ExprStep)) (s new : List ExprStep) (ts rest : List Lexeme) → more plain s (read e ts) ≡ Ok (pair new rest)
    → more plain s (read (chain sign e) ts) ≡ more joined new (read (many (both sign e)) rest)
chain-first sign e s new ts rest h =
    let g = grew s new (read e ts) rest h in chain-first-of sign e s new ts rest g.part g.was g.grew (read (many (both sign e)) rest) refl

pub chain-first-err : (sign : Rule ExprStep) (e : Rule (List ExprStep)) (s : List ExprStep) (ts rest : List Lexeme) → more plain s (read e ts) ≡ Err rest
    → more plain s (read (chain sign e) ts) ≡ Err rest
chain-first-err sign e s ts rest h = let f = more-err plain s (read e ts) rest h in rw f refl

-- what is repeated in a chain
pub chain-repeats : (sign : Rule ExprStep) (e : Rule (List ExprStep)) → is_predictive sign ≡ true → is_nullable sign ≡ false → goes_on sign ≡ [] → is_predictive e ≡ true
    → Repeats (both sign e)
chain-repeats sign e h i j k = record { predictive = rw (h, k, j) refl; filled = rw i refl }

chain-next : (sign : Rule ExprStep) (e : Rule (List ExprStep)) (ts : List Lexeme) (b : Bool) → is_nullable sign ≡ false → next_in (starts sign) ts ≡ b → next_in (starts (both sign e)) ts ≡ b
chain-next sign e ts b i h = rw (i, append-nil) h

moved : (s new part : List ExprStep) (sign : ExprStep) (o : Outcome (List (ExprStep × List ExprStep))) → new ≡ (s ++ part) ++ sign ∷ []
    → more joined s (and_then o (λ xs end. Ok (pair (pair sign part ∷ xs) end))) ≡ more joined new o
moved s new part sign (Ok p) e =
    let g : s ++ ((part ++ sign ∷ []) ++ joined p.0) ≡ new ++ joined p.0 =
    sym (append_assoc s (part ++ sign ∷ []) (joined p.0)) ∙ ap (λ x. x ++ joined p.0) (sym (append_assoc s part (sign ∷ [])) ∙ sym e) in
    ap (λ x. Ok (pair x p.1)) g
moved s new part sign (Err r) e = refl

pub chain-turn : (sign : Rule ExprStep) (e : Rule (List ExprStep)) → Repeats (both sign e) → is_nullable sign ≡ false → (s mid new : List ExprStep) (ts behind rest : List Lexeme) (step : ExprStep)
    → next_in (starts sign) ts ≡ true → read sign ts ≡ Ok (pair step behind) → more plain s (read e behind) ≡ Ok (pair mid rest) → new ≡ mid ++ step ∷ []
    → more joined s (read (many (both sign e)) ts) ≡ more joined new (read (many (both sign e)) rest)
chain-turn sign e r i s mid new ts behind rest step b h k n =
    let g = grew s mid (read e behind) rest k in
    let one : read (both sign e) ts ≡ Ok (pair (pair step g.part) rest) = one_of g.part g.was in
    ap (λ o. more joined s o) (many-turn (both sign e) r ts rest (pair step g.part) (chain-next sign e ts true i b) one)
    ∙ moved s new g.part step (read (many (both sign e)) rest) (n ∙ ap (λ x. x ++ step ∷ []) g.grew) where
      one_of : (part : List ExprStep) → read e behind ≡ Ok (pair part rest) → read (both sign e) ts ≡ Ok (pair (pair step part) rest)
      one_of part was = rw (h, was) refl

pub chain-smaller : (sign : Rule ExprStep) (e : Rule (List ExprStep)) → Repeats (both sign e) → (s mid : List ExprStep) (ts behind rest : List Lexeme) (step : ExprStep)
    → read sign ts ≡ Ok (pair step behind) → more plain s (read e behind) ≡ Ok (pair mid rest) → length rest < length ts
chain-smaller sign e r s mid ts behind rest step h k =
    let g = grew s mid (read e behind) rest k in shrinks (both sign e) r.predictive r.filled ts rest (pair step g.part) (one_of g.part g.was) where
      one_of : (part : List ExprStep) → read e behind ≡ Ok (pair part rest) → read (both sign e) ts ≡ Ok (pair (pair step part) rest)
      one_of part was = rw (h, was) refl

pub chain-end : (sign : Rule ExprStep) (e : Rule (List ExprStep)) → is_nullable sign ≡ false → (s : List ExprStep) (ts : List Lexeme) → next_in (starts sign) ts ≡ false
    → more joined s (read (many (both sign e)) ts) ≡ Ok (pair s ts)
chain-end sign e i s ts b =
    ap (λ o. more joined s o) (many-end (both sign e) ts (chain-next sign e ts false i b)) ∙ ap (λ xs. Ok (pair xs ts)) (append-nil s)

pub chain-err-operator : (sign : Rule ExprStep) (e : Rule (List ExprStep)) → is_nullable sign ≡ false → (s : List ExprStep) (ts rest : List Lexeme) → next_in (starts sign) ts ≡ true
    → read sign ts ≡ Err rest → more joined s (read (many (both sign e)) ts) ≡ Err rest
chain-err-operator sign e i s ts rest b h =
    ap (λ o. more joined s o) (many-err (both sign e) ts rest (chain-next sign e ts true i b) (rw h refl))

pub chain-err-operand : (sign : Rule ExprStep) (e : Rule (List ExprStep)) → is_nullable sign ≡ false → (s : List ExprStep) (ts behind rest : List Lexeme) (step : ExprStep)
    → next_in (starts sign) ts ≡ true → read sign ts ≡ Ok (pair step behind) → more plain s (read e behind) ≡ Err rest
    → more joined s (read (many (both sign e)) ts) ≡ Err rest
chain-err-operand sign e i s ts behind rest step b h k =
    let f = more-err plain s (read e behind) rest k in
    ap (λ o. more joined s o) (many-err (both sign e) ts rest (chain-next sign e ts true i b) (rw (h, f) refl))

-- ---- a minus, and parentheses

pub negation-ok : (s mid new : List ExprStep) (inner : Rule (List ExprStep)) (ts behind rest : List Lexeme) (text : List ℕ) → read_token (terminal.Mark m.Minus) ts ≡ Ok (pair text behind)
    → more plain s (read inner behind) ≡ Ok (pair mid rest) → new ≡ mid ++ step.Neg ∷ [] → more plain s (read (negation inner) ts) ≡ Ok (pair new rest)
unfolding negation
negation-ok s mid new inner ts behind rest text e h n =
    let g = grew s mid (read inner behind) rest h in of_part g.part g.was g.grew where
      of_part : (part : List ExprStep) → read inner behind ≡ Ok (pair part rest) → mid ≡ s ++ part → more plain s (read (negation inner) ts) ≡ Ok (pair new rest)
      of_part part was grew = rw (e, was, n, grew) (ap (λ x. Ok (pair x rest)) (sym (append_assoc s part (step.Neg ∷ []))))

pub negation-err : (s : List ExprStep) (inner : Rule (List ExprStep)) (ts behind rest : List Lexeme) (text : List ℕ) → read_token (terminal.Mark m.Minus) ts ≡ Ok (pair text behind)
    → more plain s (read inner behind) ≡ Err rest → more plain s (read (negation inner) ts) ≡ Err rest
unfolding negation
negation-err s inner ts behind rest text e h = let f = more-err plain s (read inner behind) rest h in rw (e, f) refl

pub negation-none : (s : List ExprStep) (inner : Rule (List ExprStep)) (ts rest : List Lexeme) → read_token (terminal.Mark m.Minus) ts ≡ Err rest → more plain s (read (negation inner) ts) ≡ Err rest
unfolding negation
negation-none s inner ts rest e = rw e refl

pub parentheses-ok : (s new : List ExprStep) (inner : Rule (List ExprStep)) (ts behind end rest : List Lexeme) (text other : List ℕ) → read_token (terminal.Mark m.LParen) ts ≡ Ok (pair text behind)
    → more plain s (read (unions inner) behind) ≡ Ok (pair new end) → read_token (terminal.Mark m.RParen) end ≡ Ok (pair other rest)
    → more plain s (read (parentheses inner) ts) ≡ Ok (pair new rest)
unfolding parentheses
parentheses-ok s new inner ts behind end rest text other e h f =
    let g = grew s new (read (unions inner) behind) end h in of_part g.part g.was g.grew where
      of_part : (part : List ExprStep) → read (unions inner) behind ≡ Ok (pair part end) → new ≡ s ++ part → more plain s (read (parentheses inner) ts) ≡ Ok (pair new rest)
      of_part part was grew = rw (e, was, f, grew) refl

pub parentheses-open : (s new : List ExprStep) (inner : Rule (List ExprStep)) (ts behind end rest : List Lexeme) (text : List ℕ) → read_token (terminal.Mark m.LParen) ts ≡ Ok (pair text behind)
    → more plain s (read (unions inner) behind) ≡ Ok (pair new end) → read_token (terminal.Mark m.RParen) end ≡ Err rest
    → more plain s (read (parentheses inner) ts) ≡ Err rest
unfolding parentheses
parentheses-open s new inner ts behind end rest text e h f =
    let g = grew s new (read (unions inner) behind) end h in of_part g.part g.was where
      of_part : (part : List ExprStep) → read (unions inner) behind ≡ Ok (pair part end) → more plain s (read (parentheses inner) ts) ≡ Err rest
      of_part part was = rw (e, was, f) refl

pub parentheses-err : (s : List ExprStep) (inner : Rule (List ExprStep)) (ts behind rest : List Lexeme) (text : List ℕ) → read_token (terminal.Mark m.LParen) ts ≡ Ok (pair text behind)
    → more plain s (read (unions inner) behind) ≡ Err rest → more plain s (read (parentheses inner) ts) ≡ Err rest
unfolding parentheses
parentheses-err s inner ts behind rest text e h = let f = more-err plain s (read (unions inner) behind) rest h in rw (e, f) refl

pub parentheses-none : (s : List ExprStep) (inner : Rule (List ExprStep)) (ts rest : List Lexeme) → read_token (terminal.Mark m.LParen) ts ≡ Err rest → more plain s (read (parentheses inner) ts) ≡ Err rest
unfolding parentheses
parentheses-none s inner ts rest e = rw e refl

pub unions-chain : (inner : Rule (List ExprStep)) → unions inner ≡ chain (operator level.Union) (shifts inner)
unfolding unions
unions-chain inner = refl
