-- What a rule's reading gives is a reading of the rule, and where it fails, the tokens before the first that cannot go on are a
-- prefix form of it.
use Rattle.std.proofs.Common.{◌≡◌, ℕ, zero, suc, Bool, true, false, not, ◌&&◌, cond, inl, inr, List, [], ◌∷◌, ◌++◌, length, ◌<◌, ◌≤◌, Ok, Err, refl, sym, ◌∙◌, ap, subst, append_assoc, arith, length-append}
use Rattle.idl_grammar.specs.declared.terminal.Terminal.{Terminal}
use Rattle.idl_grammar.specs.Spellings.{Parted}
use Rattle.idl_grammar.specs.Terminals.{Lexeme, fits, symbol_of}
use Rattle.idl_grammar.specs.Rule.{Rule, token, parted, nothing, map, both, or, many, lined, line_of, Reads, Begins}
use Rattle.idl_grammar.specs.Read.{Outcome, pair, and_then, has_parts, parts_of, read_many, read, left, next_in, is_nullable, starts, goes_on, apart, is_predictive}
use Rattle.idl_grammar.proofs.Symbols.{both_true, all_three, all_four, not_true}
use Rattle.idl_grammar.proofs.Begin.{reads-nil}
use Rattle.idl_grammar.proofs.NativeLaws.{parts-had}

-- this outcome of reading the tokens is sound
abbrev pub Sound : {A : Type 0} → Rule A → List Lexeme → Outcome A → Type 0
Sound r ts (Ok p) = (u : List Lexeme) × (ts ≡ u ++ p.1) × Reads r u p.0
Sound r ts (Err rest) = (u : List Lexeme) × (ts ≡ u ++ rest) × Begins r u

regroup : (ts u rest v end : List Lexeme) → ts ≡ u ++ rest → rest ≡ v ++ end → ts ≡ (u ++ v) ++ end
regroup ts u rest v end e f = e ∙ ap (λ xs. u ++ xs) f ∙ sym (append_assoc u v end)

sound-token : (symbol : Terminal) (t : Lexeme) (ts : List Lexeme) (b : Bool) → fits t symbol ≡ b
    → Sound (token symbol) (t ∷ ts) (cond b (Ok (pair t.text ts)) (Err (t ∷ ts)))
sound-token symbol t ts true e = (t ∷ [], refl, (t, refl, e, refl))
sound-token symbol t ts false e = ([], refl, inl refl)

sound-parts : {A : Type 0} (form : Parted A) (t : Lexeme) (ts : List Lexeme) (b : Bool) → (fits t (symbol_of form) && has_parts form t.text) ≡ b
    → Sound (parted form) (t ∷ ts) (and_then (cond b (Ok (pair t.text ts)) (Err (t ∷ ts))) (λ text rest. Ok (pair (parts_of form text) rest)))
sound-parts form t ts true e =
    let both = both_true (fits t (symbol_of form)) (has_parts form t.text) e in (t ∷ [], refl, (t, refl, both.0, parts-had form t.text both.1))
sound-parts form t ts false e = ([], refl, inl refl)

sound-map : {A B : Type 0} (f : A → B) (p : Rule A) (ts : List Lexeme) (o : Outcome A) → Sound p ts o
    → Sound (map f p) ts (and_then o (λ a rest. Ok (pair (f a) rest)))
sound-map f p ts (Ok r) s = (s.0, s.1, (r.0, s.2, refl))
sound-map f p ts (Err rest) s = s

sound-second : {A B : Type 0} (p : Rule A) (q : Rule B) (ts u rest : List Lexeme) (a : A) → ts ≡ u ++ rest → Reads p u a
    → (o : Outcome B) → Sound q rest o → Sound (both p q) ts (and_then o (λ b end. Ok (pair (pair a b) end)))
sound-second p q ts u rest a e r (Ok x) s = (u ++ s.0, regroup ts u rest s.0 x.1 e s.1, (u, s.0, refl, r, s.2))
sound-second p q ts u rest a e r (Err end) s = (u ++ s.0, regroup ts u rest s.0 end e s.1, inr (u, s.0, refl, (a, r), s.2))

sound-both : {A B : Type 0} (p : Rule A) (q : Rule B) (ts : List Lexeme) → ((rest : List Lexeme) → Sound q rest (read q rest)) → (o : Outcome A) → Sound p ts o
    → Sound (both p q) ts (and_then o (λ a rest. and_then (read q rest) (λ b end. Ok (pair (pair a b) end))))
sound-both p q ts later (Ok x) s = sound-second p q ts s.0 x.1 x.0 s.1 s.2 (read q x.1) (later x.1)
sound-both p q ts later (Err rest) s = (s.0, s.1, inl s.2)

sound-first : {A : Type 0} (p q : Rule A) (ts : List Lexeme) (o : Outcome A) → Sound p ts o → Sound (or p q) ts o
sound-first p q ts (Ok x) s = (s.0, s.1, inl s.2)
sound-first p q ts (Err rest) s = (s.0, s.1, inl s.2)

sound-last : {A : Type 0} (p q : Rule A) (ts : List Lexeme) (o : Outcome A) → Sound q ts o → Sound (or p q) ts o
sound-last p q ts (Ok x) s = (s.0, s.1, inr s.2)
sound-last p q ts (Err rest) s = (s.0, s.1, inr s.2)

sound-or : {A : Type 0} (p q : Rule A) (ts : List Lexeme) (o w : Outcome A) (b : Bool) → Sound p ts o → Sound q ts w → Sound (or p q) ts (cond b o w)
sound-or p q ts o w true s v = sound-first p q ts o s
sound-or p q ts o w false s v = sound-last p q ts w v

sound-more : {A : Type 0} (p : Rule A) (ts u rest : List Lexeme) (x : A) → ts ≡ u ++ rest → Reads p u x → (o : Outcome (List A)) → Sound (many p) rest o
    → Sound (many p) ts (and_then o (λ xs end. Ok (pair (x ∷ xs) end)))
sound-more p ts u rest x e r (Ok y) s = (u ++ s.0, regroup ts u rest s.0 y.1 e s.1, (u, s.0, refl, r, s.2))
sound-more p ts u rest x e r (Err end) s =
    let b = s.2 in (
      u ++ s.0,
      regroup ts u rest s.0 end e s.1,
      (u ++ b.0, b.1, ap (λ xs. u ++ xs) b.2 ∙ sym (append_assoc u b.0 b.1), (x ∷ b.3.0, (u, b.0, refl, r, b.3.1)), b.4),
    )

sound-one : {A : Type 0} (p : Rule A) (ts : List Lexeme) (f : List Lexeme → Outcome (List A)) → ((rest : List Lexeme) → Sound (many p) rest (f rest))
    → (o : Outcome A) → Sound p ts o → Sound (many p) ts (and_then o (λ x rest. and_then (f rest) (λ xs end. Ok (pair (x ∷ xs) end))))
sound-one p ts f later (Ok x) s = sound-more p ts s.0 x.1 x.0 s.1 s.2 (f x.1) (later x.1)
sound-one p ts f later (Err rest) s = (s.0, s.1, ([], s.0, refl, ([], refl), s.2))

sound-turn : {A : Type 0} (p : Rule A) (ts : List Lexeme) (o : Outcome (List A)) (b : Bool) → Sound (many p) ts o → Sound (many p) ts (cond b o (Ok (pair [] ts)))
sound-turn p ts o true s = s
sound-turn p ts o false s = ([], refl, refl)

sound-many : {A : Type 0} (p : Rule A) → ((ts : List Lexeme) → Sound p ts (read p ts)) → (fuel : ℕ) (ts : List Lexeme)
    → Sound (many p) ts (read_many (read p) (starts p) fuel ts)
sound-many p one zero ts = ([], refl, refl)
sound-many p one (suc fuel) ts =
    sound-turn p ts
    (and_then (read p ts) (λ x rest. and_then (read_many (read p) (starts p) fuel rest) (λ xs end. Ok (pair (x ∷ xs) end))))
    (next_in (starts p) ts)
    (sound-one p ts (read_many (read p) (starts p) fuel) (sound-many p one fuel) (read p ts) (one ts))

first-line : {A : Type 0} (p : Rule A) (u ts rest : List Lexeme) (a : A) → is_nullable p ≡ false → Reads p u a → ts ≡ u ++ rest → line_of ts ≡ line_of u
first-line p [] ts rest a n r e = let f = reads-nil p [] a refl r in cc
first-line p (t ∷ u) ts rest a n r e = rw e refl

sound-lined : {A : Type 0} (p : Rule A) (ts : List Lexeme) → is_nullable p ≡ false → (o : Outcome A) → Sound p ts o
    → Sound (lined p) ts (and_then o (λ a rest. Ok (pair (pair (line_of ts) a) rest)))
sound-lined p ts n (Ok x) s = (s.0, s.1, (s.2, first-line p s.0 ts x.1 x.0 n s.2 s.1))
sound-lined p ts n (Err rest) s = s

pub sound : {A : Type 0} (r : Rule A) → is_predictive r ≡ true → (ts : List Lexeme) → Sound r ts (read r ts)
sound (token symbol) h [] = ([], refl, inl refl)
sound (token symbol) h (t ∷ ts) = sound-token symbol t ts (fits t symbol) refl
sound (parted form) h [] = ([], refl, inl refl)
sound (parted form) h (t ∷ ts) = sound-parts form t ts (fits t (symbol_of form) && has_parts form t.text) refl
sound (nothing x) h ts = ([], refl, (refl, refl))
sound (map f p) h ts = sound-map f p ts (read p ts) (sound p h ts)
sound (both p q) h ts =
    let c = all_three (is_predictive p) (is_predictive q) (apart (goes_on p) (starts q)) h in
    sound-both p q ts (sound q c.1) (read p ts) (sound p c.0 ts)
sound (or p q) h ts =
    let c = all_four (is_predictive p) (is_predictive q) (not (is_nullable p)) (apart (starts p) (starts q)) h in
    sound-or p q ts (read p ts) (read q ts) (next_in (starts p) ts) (sound p c.0 ts) (sound q c.1 ts)
sound (many p) h ts =
    let c = all_three (is_predictive p) (not (is_nullable p)) (apart (goes_on p) (starts p)) h in
    sound-many p (sound p c.0) (length ts) ts
sound (lined p) h ts =
    let c = both_true (is_predictive p) (not (is_nullable p)) h in
    sound-lined p ts (not_true (is_nullable p) c.1) (read p ts) (sound p c.0 ts)

-- ---- a reading of a rule that is never empty takes a token

shorter : (u ts rest : List Lexeme) → ts ≡ u ++ rest → (u ≡ [] → ⊥) → length rest < length ts
shorter [] ts rest e n = absurd (n refl)
shorter (t ∷ u) ts rest e n = rw e (omega (arith, length-append u rest))

taken : {A : Type 0} (r : Rule A) (ts rest : List Lexeme) (x : A) → is_nullable r ≡ false → Sound r ts (Ok (pair x rest)) → length rest < length ts
taken r ts rest x n s = shorter s.0 ts rest s.1 (λ e. let f = reads-nil r s.0 x e s.2 in cc)

pub shrinks : {A : Type 0} (r : Rule A) → is_predictive r ≡ true → is_nullable r ≡ false → (ts rest : List Lexeme) (x : A) → read r ts ≡ Ok (pair x rest) → length rest < length ts
shrinks r h n ts rest x e = taken r ts rest x n (subst (λ o. Sound r ts o) e (sound r h ts))

-- no reading gives more tokens than there were
no_more : (u ts rest : List Lexeme) → ts ≡ u ++ rest → length rest ≤ length ts
no_more u ts rest e = rw e (omega (arith, length-append u rest))

sound-left : {A : Type 0} (r : Rule A) (ts : List Lexeme) (o : Outcome A) → Sound r ts o → left o ≤ length ts
sound-left r ts (Ok p) s = no_more s.0 ts p.1 s.1
sound-left r ts (Err rest) s = no_more s.0 ts rest s.1

pub left-read : {A : Type 0} (r : Rule A) → is_predictive r ≡ true → (ts : List Lexeme) → left (read r ts) ≤ length ts
left-read r h ts = sound-left r ts (read r ts) (sound r h ts)
