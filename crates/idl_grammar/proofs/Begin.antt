-- How readings and prefix forms begin.
use Rattle.std.proofs.Common.{◌≡◌, Bool, true, false, ◌&&◌, ◌||◌, inl, inr, List, [], ◌∷◌, ◌++◌, refl, sym, ◌∙◌, subst, append-nil}
use Rattle.idl_grammar.specs.Terminals.{Lexeme, fits, symbol_of}
use Rattle.idl_grammar.specs.Rule.{Rule, token, parted, nothing, map, both, or, many, lined, Each, Reads, Begins}
use Rattle.idl_grammar.specs.Read.{has, when, is_nullable, starts}
use Rattle.idl_grammar.proofs.Sets.{has-left, has-right, has-when}

-- ---- lists

pub nil-parts : {A : Type 0} (u v : List A) → [] ≡ u ++ v → (u ≡ []) × (v ≡ [])
nil-parts [] v e = (refl, sym e)
nil-parts (x ∷ u) v e = cc

pub same-head : {A : Type 0} (x y : A) (xs ys : List A) → x ∷ xs ≡ y ∷ ys → x ≡ y
same-head x y xs ys e = cc

and-both : (a b : Bool) → a ≡ true → b ≡ true → (a && b) ≡ true
and-both true b e f = f
and-both false b e f = e

or-first : (a b : Bool) → a ≡ true → (a || b) ≡ true
or-first true b e = refl
or-first false b e = cc

or-second : (a b : Bool) → b ≡ true → (a || b) ≡ true
or-second true b e = refl
or-second false b e = e

-- ---- nothing at all

pub reads-nil : {A : Type 0} (r : Rule A) (ts : List Lexeme) (a : A) → ts ≡ [] → Reads r ts a → is_nullable r ≡ true
reads-nil (token symbol) ts a e h = let f = sym e ∙ h.1 in cc
reads-nil (parted form) ts a e h = let f = sym e ∙ h.1 in cc
reads-nil (nothing x) ts a e h = refl
reads-nil (map f p) ts a e h = reads-nil p ts h.0 e h.1
reads-nil (both p q) ts a e h =
    let n = nil-parts h.0 h.1 (sym e ∙ h.2) in and-both (is_nullable p) (is_nullable q) (reads-nil p h.0 a.0 n.0 h.3) (reads-nil q h.1 a.1 n.1 h.4)
reads-nil (or p q) ts a e (inl h) = or-first (is_nullable p) (is_nullable q) (reads-nil p ts a e h)
reads-nil (or p q) ts a e (inr h) = or-second (is_nullable p) (is_nullable q) (reads-nil q ts a e h)
reads-nil (many p) ts a e h = refl
reads-nil (lined p) ts a e h = reads-nil p ts a.1 e h.0

-- a rule that is never empty reads a first token
pub reads-first : {A : Type 0} (r : Rule A) (ts : List Lexeme) (a : A) → is_nullable r ≡ false → Reads r ts a → (t : Lexeme) × (more : List Lexeme) × (ts ≡ t ∷ more)
reads-first r [] a n h = let f = reads-nil r [] a refl h in cc
reads-first r (t ∷ ts) a n h = (t, ts, refl)

-- ---- prefix forms

pub begins-nil : {A : Type 0} (r : Rule A) → Begins r []
begins-nil (token symbol) = inl refl
begins-nil (parted form) = inl refl
begins-nil (nothing x) = refl
begins-nil (map f p) = begins-nil p
begins-nil (both p q) = inl (begins-nil p)
begins-nil (or p q) = inl (begins-nil p)
begins-nil (many p) = ([], [], refl, ([], refl), begins-nil p)
begins-nil (lined p) = begins-nil p

pub reads-begins : {A : Type 0} (r : Rule A) (ts : List Lexeme) (a : A) → Reads r ts a → Begins r ts
reads-begins (token symbol) ts a h = inr (a, h)
reads-begins (parted form) ts a h = inr (a, h)
reads-begins (nothing x) ts a h = h.0
reads-begins (map f p) ts a h = reads-begins p ts h.0 h.1
reads-begins (both p q) ts a h = inr (h.0, h.1, h.2, (a.0, h.3), reads-begins q h.1 a.1 h.4)
reads-begins (or p q) ts a (inl h) = inl (reads-begins p ts a h)
reads-begins (or p q) ts a (inr h) = inr (reads-begins q ts a h)
reads-begins (many p) ts a h = (ts, [], sym (append-nil ts), (a, h), begins-nil p)
reads-begins (lined p) ts a h = reads-begins p ts a.1 h.0

-- the first of readings one behind the other begins as one reading may
starts-each : {A : Type 0} (p : Rule A) → ((t : Lexeme) (ts : List Lexeme) → Begins p (t ∷ ts) → has t (starts p) ≡ true)
    → (xs : List A) (t : Lexeme) (ts us : List Lexeme) → us ≡ t ∷ ts → Each (Reads p) us xs → has t (starts p) ≡ true
starts-each p begun [] t ts us e h = let f = sym e ∙ h in cc
starts-each p begun (x ∷ xs) t ts us e h = of_first h.0 (sym e ∙ h.2) h.3 (λ f. starts-each p begun xs t ts h.1 (sym f) h.4) where
  of_first : (u : List Lexeme) → t ∷ ts ≡ u ++ h.1 → Reads p u x → (t ∷ ts ≡ h.1 → has t (starts p) ≡ true) → has t (starts p) ≡ true
  of_first [] f r later = later f
  of_first (s ∷ u) f r later = rw (same-head t s ts (u ++ h.1) f) (begun s u (reads-begins p (s ∷ u) x r))

pub begins-starts : {A : Type 0} (r : Rule A) (t : Lexeme) (ts : List Lexeme) → Begins r (t ∷ ts) → has t (starts r) ≡ true
begins-starts (token symbol) t ts (inl e) = cc
begins-starts (token symbol) t ts (inr h) = let f = h.1.2 in or-first (fits t symbol) false (rw (same-head t h.1.0 ts [] h.1.1) f)
begins-starts (parted form) t ts (inl e) = cc
begins-starts (parted form) t ts (inr h) = let f = h.1.2 in or-first (fits t (symbol_of form)) false (rw (same-head t h.1.0 ts [] h.1.1) f)
begins-starts (nothing x) t ts h = cc
begins-starts (map f p) t ts h = begins-starts p t ts h
begins-starts (both p q) t ts (inl h) = has-left t (starts p) (when (is_nullable p) (starts q)) (begins-starts p t ts h)
begins-starts (both p q) t ts (inr h) = of_first h.0 h.2 h.3.1 (λ ts b. begins-starts q t ts b) (λ s u b. begins-starts p s u b) where
  of_first : (u : List Lexeme) → t ∷ ts ≡ u ++ h.1 → Reads p u h.3.0 → ((ts : List Lexeme) → Begins q (t ∷ ts) → has t (starts q) ≡ true)
      → ((s : Lexeme) (u : List Lexeme) → Begins p (s ∷ u) → has s (starts p) ≡ true) → has t (starts p ++ when (is_nullable p) (starts q)) ≡ true
  of_first [] e r later first =
      has-right t (starts p) (when (is_nullable p) (starts q))
      (has-when t (is_nullable p) (starts q) (reads-nil p [] h.3.0 refl r) (later ts (subst (λ us. Begins q us) (sym e) h.4)))
  of_first (s ∷ u) e r later first =
      has-left t (starts p) (when (is_nullable p) (starts q)) (rw (same-head t s ts (u ++ h.1) e) (first s u (reads-begins p (s ∷ u) h.3.0 r)))
begins-starts (or p q) t ts (inl h) = has-left t (starts p) (starts q) (begins-starts p t ts h)
begins-starts (or p q) t ts (inr h) = has-right t (starts p) (starts q) (begins-starts q t ts h)
begins-starts (many {A = A} p) t ts h = of_first h.0 h.2 h.3.1 (λ t ts b. begins-starts p t ts b) where
  of_first : (u : List Lexeme) → t ∷ ts ≡ u ++ h.1 → Each (Reads p) u h.3.0 → ((t : Lexeme) (ts : List Lexeme) → Begins p (t ∷ ts) → has t (starts p) ≡ true)
      → has t (starts p) ≡ true
  of_first [] e r begun = begun t ts (subst (λ us. Begins p us) (sym e) h.4)
  of_first (s ∷ u) e r begun = starts-each p begun h.3.0 t u (s ∷ u) (rw (same-head t s ts (u ++ h.1) e) refl) r
begins-starts (lined p) t ts h = begins-starts p t ts h
