-- What loops over repetitions keep. Fuel is dealt with here and nowhere else.
use Rattle.std.proofs.Common.{◌≡◌, ◌≤◌, ◌<◌, ℕ, zero, suc, Bool, true, false, ◌||◌, cond, List, [], ◌∷◌, ◌++◌, length, Ok, Err, refl, sym, ◌∙◌, ap, append-nil, append_assoc, arith}
use Rattle.idl_grammar.specs.declared.terminal.Terminal.{Terminal}
use Rattle.idl_grammar.specs.Terminals.{Lexeme, fits}
use Rattle.idl_grammar.specs.Rule.{Rule, token, map, both, many, each_after}
use Rattle.idl_grammar.specs.Read.{Outcome, pair, and_then, read_token, read_many, read, next_in, is_nullable, starts, is_predictive}
use Rattle.idl_grammar.specs.Gives.{more, plain, passed}
use Rattle.idl_grammar.proofs.Sound.{shrinks}
use Rattle.idl_grammar.proofs.Complete.{many-step, many-stop}

-- a rule whose readings are repeated
pub record Repeats {A : Type 0} (p : Rule A) : Type 0 where
  pub predictive : is_predictive p ≡ true
  pub filled : is_nullable p ≡ false

turn-same : {A : Type 0} (b : Bool) (o : Outcome A) (f g : List Lexeme → Outcome (List A)) (ts : List Lexeme) → ((x : A) (rest : List Lexeme) → o ≡ Ok (pair x rest) → f rest ≡ g rest)
    → cond b (and_then o (λ x rest. and_then (f rest) (λ xs end. Ok (pair (x ∷ xs) end)))) (Ok (pair [] ts))
    ≡ cond b (and_then o (λ x rest. and_then (g rest) (λ xs end. Ok (pair (x ∷ xs) end)))) (Ok (pair [] ts))
turn-same true (Ok p) f g ts h = rw (h p.0 p.1 refl) refl
turn-same true (Err rest) f g ts h = refl
turn-same false o f g ts h = refl

-- enough fuel is as good as more
fuel-same : {A : Type 0} (p : Rule A) → Repeats p → (n m : ℕ) (ts : List Lexeme) → length ts ≤ n → length ts ≤ m
    → read_many (read p) (starts p) n ts ≡ read_many (read p) (starts p) m ts
fuel-same p r zero m [] h i = sym (many-stop p m [] refl)
fuel-same p r zero m (t ∷ ts) h i = absurd (omega arith)
fuel-same p r (suc n) zero [] h i = refl
fuel-same p r (suc n) zero (t ∷ ts) h i = absurd (omega arith)
fuel-same p r (suc n) (suc m) ts h i =
    turn-same (next_in (starts p) ts) (read p ts) (read_many (read p) (starts p) n) (read_many (read p) (starts p) m) ts
    (λ x rest e. let s = shrinks p r.predictive r.filled ts rest x e in fuel-same p r n m rest (omega arith) (omega arith))

pub many-turn : {A : Type 0} (p : Rule A) → Repeats p → (ts rest : List Lexeme) (x : A) → next_in (starts p) ts ≡ true → read p ts ≡ Ok (pair x rest)
    → read (many p) ts ≡ and_then (read (many p) rest) (λ xs end. Ok (pair (x ∷ xs) end))
many-turn p r [] rest x b e = cc
many-turn p r (t ∷ ts) rest x b e =
    let s = shrinks p r.predictive r.filled (t ∷ ts) rest x e in
    many-step p (length ts) (t ∷ ts) rest x b e
    ∙ ap (λ o. and_then o (λ xs end. Ok (pair (x ∷ xs) end))) (fuel-same p r (length ts) (length rest) rest (omega arith) (omega arith))

pub many-end : {A : Type 0} (p : Rule A) (ts : List Lexeme) → next_in (starts p) ts ≡ false → read (many p) ts ≡ Ok (pair [] ts)
many-end p ts b = many-stop p (length ts) ts b

pub many-err : {A : Type 0} (p : Rule A) (ts rest : List Lexeme) → next_in (starts p) ts ≡ true → read p ts ≡ Err rest → read (many p) ts ≡ Err rest
many-err p [] rest b e = cc
many-err p (t ∷ ts) rest b e = rw (b, e) refl

-- ---- lists that grow

more-moved : {A : Type 0} (found new : List A) (x : A) (o : Outcome (List A)) → new ≡ found ++ x ∷ []
    → more plain found (and_then o (λ xs end. Ok (pair (x ∷ xs) end))) ≡ more plain new o
more-moved found new x (Ok p) e = rw (e, append_assoc found (x ∷ []) p.0) refl
more-moved found new x (Err rest) e = refl

pub list-turn : {A : Type 0} (p : Rule A) → Repeats p → (found new : List A) (ts rest : List Lexeme) (x : A) → next_in (starts p) ts ≡ true → read p ts ≡ Ok (pair x rest)
    → new ≡ found ++ x ∷ [] → more plain found (read (many p) ts) ≡ more plain new (read (many p) rest)
list-turn p r found new ts rest x b e n =
    ap (λ o. more plain found o) (many-turn p r ts rest x b e) ∙ more-moved found new x (read (many p) rest) n

pub list-end : {A : Type 0} (p : Rule A) (found : List A) (ts : List Lexeme) → next_in (starts p) ts ≡ false → more plain found (read (many p) ts) ≡ Ok (pair found ts)
list-end p found ts b = ap (λ o. more plain found o) (many-end p ts b) ∙ ap (λ xs. Ok (pair xs ts)) (append-nil found)

pub list-err : {A : Type 0} (p : Rule A) (found : List A) (ts rest : List Lexeme) → next_in (starts p) ts ≡ true → read p ts ≡ Err rest
    → more plain found (read (many p) ts) ≡ Err rest
list-err p found ts rest b e = ap (λ o. more plain found o) (many-err p ts rest b e)

-- ---- readings, each behind a separator

first-of : (symbol : Terminal) (ts mid : List Lexeme) (text : List ℕ) → read_token symbol ts ≡ Ok (pair text mid) → next_in (symbol ∷ []) ts ≡ true
first-of symbol [] mid text e = cc
first-of symbol (t ∷ ts) mid text e = of_test (fits t symbol) e where
  of_test : (b : Bool) → cond b (Ok (pair t.text ts)) (Err (t ∷ ts)) ≡ Ok (pair text mid) → (b || false) ≡ true
  of_test true e = refl
  of_test false e = cc

abbrev after_one : {A : Type 0} → Terminal → Rule A → Rule A
after_one {A} symbol p = map {A = List ℕ × A} (λ r. r.1) (both (token symbol) p)

after-repeats : {A : Type 0} (symbol : Terminal) (p : Rule A) → is_predictive p ≡ true → Repeats (map {A = List ℕ × A} (λ r. r.1) (both (token symbol) p))
after-repeats symbol p h = record { predictive = rw h refl; filled = refl }

after-ok : {A : Type 0} (symbol : Terminal) (p : Rule A) (ts mid rest : List Lexeme) (text : List ℕ) (x : A) → read_token symbol ts ≡ Ok (pair text mid) → read p mid ≡ Ok (pair x rest)
    → read (map {A = List ℕ × A} (λ r. r.1) (both (token symbol) p)) ts ≡ Ok (pair x rest)
after-ok symbol p ts mid rest text x e f = rw (e, f) refl

after-fails : {A : Type 0} (symbol : Terminal) (p : Rule A) (ts mid rest : List Lexeme) (text : List ℕ) → read_token symbol ts ≡ Ok (pair text mid) → read p mid ≡ Err rest
    → read (map {A = List ℕ × A} (λ r. r.1) (both (token symbol) p)) ts ≡ Err rest
after-fails symbol p ts mid rest text e f = rw (e, f) refl

pub after-turn : {A : Type 0} (symbol : Terminal) (p : Rule A) → is_predictive p ≡ true → (found new : List A) (ts mid rest : List Lexeme) (text : List ℕ) (x : A)
    → read_token symbol ts ≡ Ok (pair text mid) → read p mid ≡ Ok (pair x rest) → new ≡ found ++ x ∷ []
    → more plain found (read (each_after (token symbol) p) ts) ≡ more plain new (read (each_after (token symbol) p) rest)
after-turn symbol p h found new ts mid rest text x e f n =
    list-turn (after_one symbol p) (after-repeats symbol p h) found new ts rest x (first-of symbol ts mid text e) (after-ok symbol p ts mid rest text x e f) n

pub after-err : {A : Type 0} (symbol : Terminal) (p : Rule A) (found : List A) (ts mid rest : List Lexeme) (text : List ℕ)
    → read_token symbol ts ≡ Ok (pair text mid) → read p mid ≡ Err rest → more plain found (read (each_after (token symbol) p) ts) ≡ Err rest
after-err symbol p found ts mid rest text e f =
    list-err (after_one symbol p) found ts rest (first-of symbol ts mid text e) (after-fails symbol p ts mid rest text e f)

pub after-end : {A : Type 0} (symbol : Terminal) (p : Rule A) (found : List A) (ts : List Lexeme) → next_in (symbol ∷ []) ts ≡ false
    → more plain found (read (each_after (token symbol) p) ts) ≡ Ok (pair found ts)
after-end symbol p found ts b = list-end (after_one symbol p) found ts b

pub after-smaller : {A : Type 0} (symbol : Terminal) (p : Rule A) → is_predictive p ≡ true → (ts mid rest : List Lexeme) (text : List ℕ) (x : A)
    → read_token symbol ts ≡ Ok (pair text mid) → read p mid ≡ Ok (pair x rest) → length rest < length ts
after-smaller symbol p h ts mid rest text x e f = let r = after-repeats symbol p h in shrinks (after_one symbol p) r.predictive r.filled ts rest x (after-ok symbol p ts mid rest text x e f)

-- ---- readings that are not kept

pub passed-turn : {A : Type 0} (p : Rule A) → Repeats p → (ts rest : List Lexeme) (x : A) → next_in (starts p) ts ≡ true → read p ts ≡ Ok (pair x rest)
    → passed (read (many p) ts) ≡ passed (read (many p) rest)
passed-turn {A} p r ts rest x b e = ap (λ o. passed o) (many-turn p r ts rest x b e) ∙ dropped (read (many p) rest) where
  dropped : (o : Outcome (List A)) → passed (and_then o (λ xs end. Ok (pair (x ∷ xs) end))) ≡ passed o
  dropped (Ok q) = refl
  dropped (Err end) = refl

pub passed-after : {A : Type 0} (symbol : Terminal) (p : Rule A) → is_predictive p ≡ true → (ts mid rest : List Lexeme) (text : List ℕ) (x : A)
    → read_token symbol ts ≡ Ok (pair text mid) → read p mid ≡ Ok (pair x rest)
    → passed (read (each_after (token symbol) p) ts) ≡ passed (read (each_after (token symbol) p) rest)
passed-after symbol p h ts mid rest text x e f =
    passed-turn (after_one symbol p) (after-repeats symbol p h) ts rest x (first-of symbol ts mid text e) (after-ok symbol p ts mid rest text x e f)

pub passed-end : {A : Type 0} (symbol : Terminal) (p : Rule A) (ts : List Lexeme) → next_in (symbol ∷ []) ts ≡ false
    → passed (read (each_after (token symbol) p) ts) ≡ Ok (pair tt ts)
passed-end symbol p ts b = ap (λ o. passed o) (many-end (after_one symbol p) ts b)
