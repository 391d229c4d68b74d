-- What holds of whatever a rule reads of spelled tokens: a lemma for each form of rule.
use Rattle.std.proofs.Common.{◌≡◌, ◌≤◌, ◌+◌, ℕ, true, false, List, [], ◌∷◌, ◌++◌, length, All, inl, inr, sym, ap, subst, arith, length-append}
use Rattle.std.proofs.lemmas.List.Elements.{All-nil, All-cons}
use Rattle.idl_lexer.specs.Spelling.{Spells}
use Rattle.idl_grammar.specs.declared.terminal.Terminal.{Terminal}
use Rattle.idl_grammar.specs.Spellings.{Parted, HasParts}
use Rattle.idl_grammar.specs.Terminals.{Lexeme, fits}
use Rattle.idl_grammar.specs.Rule.{Rule, token, parted, nothing, map, both, or, many, lined, Each, Reads}
use Rattle.idl_grammar.specs.Read.{is_nullable}
use Rattle.idl_grammar.specs.Trees.{AreFew}
use Rattle.idl_grammar.proofs.Counts.{each-count}

-- the text is spelled as its kind is
abbrev pub IsSpelled : Lexeme → Type 0
IsSpelled t = (next : List ℕ) × Spells t.kind t.text next

abbrev pub AreSpelled : List Lexeme → Type 0
AreSpelled [] = Unit {0}
AreSpelled (t ∷ ts) = IsSpelled t × AreSpelled ts

-- whatever the rule reads of spelled tokens, of which there are at most so many, has the property
pub record Makes {A : Type 0} (most : ℕ) (r : Rule A) (P : A → Type 0) : Type 0 where
  pub all : (ts : List Lexeme) (a : A) → AreSpelled ts → length ts ≤ most → Reads r ts a → P a

-- ---- parts of spelled tokens

first-spelled : (u v : List Lexeme) → AreSpelled (u ++ v) → AreSpelled u
first-spelled [] v s = tt
first-spelled (t ∷ u) v s = (s.0, first-spelled u v s.1)

second-spelled : (u v : List Lexeme) → AreSpelled (u ++ v) → AreSpelled v
second-spelled [] v s = s
second-spelled (t ∷ u) v s = second-spelled u v s.1

-- the tokens fall into two parts, each spelled and no longer than the whole
pub record Parts (most : ℕ) (u v : List Lexeme) : Type 0 where
  pub first : AreSpelled u
  pub second : AreSpelled v
  pub front : length u ≤ most
  pub behind : length v ≤ most

pub parts : (most : ℕ) (ts u v : List Lexeme) → ts ≡ u ++ v → AreSpelled ts → length ts ≤ most → Parts most u v
parts most ts u v e s few =
    let here = subst AreSpelled e s in
    record {
      first = first-spelled u v here;
      second = second-spelled u v here;
      front = omega (arith, ap length e, length-append u v);
      behind = omega (arith, ap length e, length-append u v);
    }

-- ---- forms of rules

pub makes_any : {A : Type 0} {most : ℕ} {r : Rule A} → Makes most r (λ _. Unit {0})
makes_any = record { all = λ ts a s few reads. tt }

pub makes_token : {most : ℕ} {P : List ℕ → Type 0} (symbol : Terminal)
    → ((t : Lexeme) → IsSpelled t → fits t symbol ≡ true → P t.text) → Makes most (token symbol) P
makes_token {P = P} symbol f =
    record { all = λ ts a s few reads. let here = subst AreSpelled reads.1 s in subst P (sym reads.3) (f reads.0 here.0 reads.2) }

pub makes_parts : {A : Type 0} {most : ℕ} (form : Parted A) → Makes most (parted form) (λ parts. (spelling : List ℕ) × HasParts form spelling parts)
makes_parts form = record { all = λ ts parts s few reads. (reads.0.text, reads.3) }

pub makes_nothing : {A : Type 0} {most : ℕ} {P : A → Type 0} (x : A) → P x → Makes most (nothing x) P
makes_nothing {P = P} x p = record { all = λ ts a s few reads. subst P (sym reads.1) p }

pub makes_map : {A B : Type 0} {most : ℕ} {p : Rule A} {P : A → Type 0} {Q : B → Type 0} {f : A → B}
    → Makes most p P → ((a : A) → P a → Q (f a)) → Makes most (map f p) Q
makes_map {Q = Q} m g =
    record { all = λ ts b s few reads. subst Q (sym reads.2) (g reads.0 (m.all ts reads.0 s few reads.1)) }

pub makes_both : {A B : Type 0} {most : ℕ} {p : Rule A} {q : Rule B} {P : A → Type 0} {Q : B → Type 0}
    → Makes most p P → Makes most q Q → Makes most (both p q) (λ r. P r.0 × Q r.1)
makes_both {most = most} m n =
    record {
      all = λ ts ab s few reads.
          let both = parts most ts reads.0 reads.1 reads.2 s few in
          (m.all reads.0 ab.0 both.first both.front reads.3, n.all reads.1 ab.1 both.second both.behind reads.4);
    }

pub makes_or : {A : Type 0} {most : ℕ} {p q : Rule A} {P : A → Type 0} → Makes most p P → Makes most q P → Makes most (or p q) P
makes_or {A = A} {most = most} {p = p} {q = q} {P = P} m n = record { all = either } where
  either : (ts : List Lexeme) (a : A) → AreSpelled ts → length ts ≤ most → Reads (or p q) ts a → P a
  either ts a s few (inl reads) = m.all ts a s few reads
  either ts a s few (inr reads) = n.all ts a s few reads

pub each-made : {A : Type 0} (most : ℕ) (p : Rule A) (P : A → Type 0) → Makes most p P → (ts : List Lexeme) (xs : List A)
    → AreSpelled ts → length ts ≤ most → Each (Reads p) ts xs → All P xs
each-made most p P m ts [] s few each = All-nil P
each-made most p P m ts (x ∷ xs) s few each =
    let both = parts most ts each.0 each.1 each.2 s few in
    All-cons P x xs (m.all each.0 x both.first both.front each.3) (each-made most p P m each.1 xs both.second both.behind each.4)

pub makes_many : {A : Type 0} {most : ℕ} {p : Rule A} {P : A → Type 0} → is_nullable p ≡ false → Makes most p P → Makes most (many p) (AreFew most P)
makes_many {most = most} {p = p} {P = P} filled m =
    record {
      all = λ ts xs s few reads.
          let count = each-count p filled ts xs reads in
          record { each = each-made most p P m ts xs s few reads; few = omega arith };
    }

pub makes_lined : {A : Type 0} {most : ℕ} {p : Rule A} {P : A → Type 0} → Makes most p P → Makes most (lined p) (λ r. P r.1)
makes_lined m = record { all = λ ts a s few reads. m.all ts a.1 s few reads.0 }
