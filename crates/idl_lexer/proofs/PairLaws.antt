-- What ends at the first pair of two bytes.
use Rattle.std.proofs.Common.{◌≡◌, ℕ, Bool, true, false, ◌&&◌, ◌⊎◌, inl, inr, List, [], ◌∷◌, ◌++◌, Some, refl, sym, ◌∙◌, ap, append_assoc, eq-eqb}
use Rattle.std.proofs.lemmas.Bool.Decides.{Decides-eqb}
use Rattle.std.specs.Prelude.{option_and_then, ◌==◌}
use Rattle.idl_lexer.specs.Spelling.{Holds, IsEnclosed}
use Rattle.idl_lexer.specs.Reading.{after_literal, after_pair}
use Rattle.idl_lexer.proofs.Basics.{chosen, bound, both_true, consed}
use Rattle.idl_lexer.proofs.PartLaws.{literal-reads, literal-again}

-- what holds the pair in its tail holds it
tail-holds : (c : ℕ) (text part : List ℕ) → Holds text part → Holds (c ∷ text) part
tail-holds c text part h = (c ∷ h.0, h.1, ap (λ xs. c ∷ xs) h.2)

-- where a text of a head and a tail holds the pair, its head begins it or its tail holds it
holds-head : (a b c : ℕ) (text before behind : List ℕ) → c ∷ text ≡ before ++ (a ∷ b ∷ []) ++ behind
    → ((c ≡ a) × (text ≡ b ∷ behind)) ⊎ Holds text (a ∷ b ∷ [])
holds-head a b c text [] behind e = inl (cc, cc)
holds-head a b c text (x ∷ before) behind e = inr (before, behind, cc)

none-held : (a b : ℕ) → Holds [] (a ∷ b ∷ []) → ⊥
none-held a b h = empty h.0 h.1 h.2 where
  empty : (before behind : List ℕ) → [] ≡ before ++ (a ∷ b ∷ []) ++ behind → ⊥
  empty [] behind e = cc
  empty (x ∷ before) behind e = cc

is_pair : (a b c d : ℕ) → (c == a && d == b) ≡ true → (c ≡ a) × (d ≡ b)
is_pair a b c d t = let p = both_true (c == a) (d == b) t in ((Decides-eqb c a).0 p.0, (Decides-eqb d b).0 p.1)

is_no_pair : (a b c d : ℕ) → (c == a && d == b) ≡ false → c ≡ a → d ≡ b → ⊥
is_no_pair a b c d t p q = let e : (c == a && d == b) ≡ true = rw (p, q, eq-eqb a a refl, eq-eqb b b refl) refl in cc

not-held : (a b c d : ℕ) (body more rest : List ℕ) → (c == a && d == b) ≡ false → d ∷ more ≡ body ++ (a ∷ b ∷ []) ++ rest → (Holds body (a ∷ b ∷ []) → ⊥)
    → Holds (c ∷ body) (a ∷ b ∷ []) → ⊥
not-held a b c d body more rest t e n h = by_head (holds-head a b c body h.0 h.1 h.2) where
  first : {xs : List ℕ} → body ≡ b ∷ xs → d ≡ b
  first {xs} s = let m : d ∷ more ≡ (b ∷ xs) ++ (a ∷ b ∷ []) ++ rest = e ∙ ap (λ zs. zs ++ (a ∷ b ∷ []) ++ rest) s in cc

  by_head : ((c ≡ a) × (body ≡ b ∷ h.1)) ⊎ Holds body (a ∷ b ∷ []) → ⊥
  by_head (inl p) = is_no_pair a b c d t p.0 (first p.1)
  by_head (inr k) = n k

pub pair-reads : (a b : ℕ) (bytes rest : List ℕ) → after_pair a b bytes ≡ Some rest
    → (body : List ℕ) × (bytes ≡ body ++ (a ∷ b ∷ []) ++ rest) × (Holds body (a ∷ b ∷ []) → ⊥)
pair-reads a b [] rest e = cc
pair-reads a b (c ∷ []) rest e = cc
pair-reads a b (c ∷ d ∷ more) rest e =
    let t = chosen (c == a && d == b) (Some more) (after_pair a b (d ∷ more)) (Some rest) e in
    elim t [ inl p ↦ here p.0 p.1 | inr p ↦ (later p.0 (pair-reads a b (d ∷ more) rest p.1)) ] where
      here : (c == a && d == b) ≡ true → Some more ≡ Some rest → (body : List ℕ) × (c ∷ d ∷ more ≡ body ++ (a ∷ b ∷ []) ++ rest) × (Holds body (a ∷ b ∷ []) → ⊥)
      here t m = let p = is_pair a b c d t in ([], consed c a (d ∷ more) (b ∷ rest) p.0 (consed d b more rest p.1 (cc)), none-held a b)

      later : (c == a && d == b) ≡ false → ((body : List ℕ) × (d ∷ more ≡ body ++ (a ∷ b ∷ []) ++ rest) × (Holds body (a ∷ b ∷ []) → ⊥))
          → (body : List ℕ) × (c ∷ d ∷ more ≡ body ++ (a ∷ b ∷ []) ++ rest) × (Holds body (a ∷ b ∷ []) → ⊥)
      later t m = (c ∷ m.0, ap (λ xs. c ∷ xs) m.1, not-held a b c d m.0 more rest t m.1 m.2)

at-pair : (a b c d : ℕ) (more : List ℕ) → c ≡ a → d ≡ b → after_pair a b (c ∷ d ∷ more) ≡ Some more
at-pair a b c d more p q = rw (p, q, eq-eqb a a refl, eq-eqb b b refl) refl

past-byte : (a b c d : ℕ) (more : List ℕ) → (c ≡ a → d ≡ b → ⊥) → after_pair a b (c ∷ d ∷ more) ≡ after_pair a b (d ∷ more)
past-byte a b c d more n = by_test (c == a && d == b) refl where
  by_test : (t : Bool) → (c == a && d == b) ≡ t → after_pair a b (c ∷ d ∷ more) ≡ after_pair a b (d ∷ more)
  by_test true e = let p = is_pair a b c d e in absurd (n p.0 p.1)
  by_test false e = rw e refl

pub pair-again : (a b : ℕ) (body rest : List ℕ) → (a ≡ b → ⊥) → (Holds body (a ∷ b ∷ []) → ⊥) → after_pair a b (body ++ (a ∷ b ∷ []) ++ rest) ≡ Some rest
pair-again a b [] rest apart n = at-pair a b a b rest refl refl
pair-again a b (c ∷ []) rest apart n = past-byte a b c a (b ∷ rest) (λ p q. apart q) ∙ at-pair a b a b rest refl refl
pair-again a b (c ∷ d ∷ body) rest apart n =
    past-byte a b c d (body ++ (a ∷ b ∷ []) ++ rest) (λ p q. n ([], body, consed c a (d ∷ body) (b ∷ body) p (consed d b body body q refl)))
    ∙ pair-again a b (d ∷ body) rest apart (λ h. n (tail-holds c (d ∷ body) (a ∷ b ∷ []) h))

-- ---- what stands between an opening text and the first pair behind it

regrouped : (xs ys zs us : List ℕ) → xs ++ (ys ++ zs ++ us) ≡ xs ++ ys ++ zs ++ us
regrouped xs ys zs us = simp append_assoc

pub enclosed-reads : (opening : List ℕ) (a b : ℕ) (bytes rest : List ℕ) → option_and_then (after_pair a b) (after_literal opening bytes) ≡ Some rest
    → (text : List ℕ) × (bytes ≡ text ++ rest) × IsEnclosed opening (a ∷ b ∷ []) text
enclosed-reads opening a b bytes rest e =
    let o = bound (after_pair a b) (after_literal opening bytes) rest e in
    let w = literal-reads opening bytes o.0 o.1 in
    let p = pair-reads a b o.0 rest o.2 in
    (opening ++ p.0 ++ (a ∷ b ∷ []), w ∙ ap (λ xs. opening ++ xs) p.1 ∙ regrouped opening p.0 (a ∷ b ∷ []) rest, (p.0, refl, p.2))

pub enclosed-again : (opening : List ℕ) (a b : ℕ) (text next : List ℕ) → (a ≡ b → ⊥) → IsEnclosed opening (a ∷ b ∷ []) text
    → option_and_then (after_pair a b) (after_literal opening (text ++ next)) ≡ Some next
enclosed-again opening a b text next apart m =
    let e : text ++ next ≡ opening ++ (m.0 ++ (a ∷ b ∷ []) ++ next) = rw m.1 (sym (regrouped opening m.0 (a ∷ b ∷ []) next)) in
    rw (e, literal-again opening (m.0 ++ (a ∷ b ∷ []) ++ next)) (pair-again a b m.0 next apart m.2)
