-- What a reading of all tokens tells: it is the only tree, or there is none, and so far do prefix forms reach.
use Rattle.std.proofs.Common.{◌≡◌, ◌≤◌, ◌-◌, ℕ, zero, suc, List, [], ◌∷◌, ◌++◌, length, take, drop, Ok, Err, refl, sym, ◌∙◌, ap, subst, append-nil, arith, length-append, length-drop, true}
use Rattle.idl_grammar.specs.Terminals.{Lexeme}
use Rattle.idl_grammar.specs.Rule.{Rule, Reads, Begins}
use Rattle.idl_grammar.specs.Read.{Outcome, pair, read, left, is_predictive}
use Rattle.idl_grammar.specs.Gives.{whole, alone}
use Rattle.idl_grammar.specs.Places.{IsOnlyTree, HasNoTree, IsReach, line_or, last_line, line_at}
use Rattle.idl_grammar.proofs.Begin.{reads-begins}
use Rattle.idl_grammar.proofs.Sound.{Sound, sound}
use Rattle.idl_grammar.proofs.Complete.{complete}
use Rattle.idl_grammar.proofs.Reach.{reach}

alone-ok : {A : Type 0} (a b : A) (ts rest : List Lexeme) → alone a ts ≡ Ok (pair b rest) → (a ≡ b) × (ts ≡ [])
alone-ok a b [] rest e = let q : pair a [] ≡ pair b rest = cc in (ap (λ p. p.0) q, refl)
alone-ok a b (t ∷ ts) rest e = cc

whole-ok : {A : Type 0} (o : Outcome A) (a : A) (rest : List Lexeme) → whole o ≡ Ok (pair a rest) → o ≡ Ok (pair a [])
whole-ok (Ok p) a rest e = let f = alone-ok p.0 a p.1 rest e in ap (λ r. Ok (pair p.0 r)) f.1 ∙ ap (λ x. Ok (pair x [])) f.0
whole-ok (Err r) a rest e = cc

some_alike : {A : Type 0} (a b : A) (xs ys : List Lexeme) → ◌≡◌ {A = Outcome A} (Ok (pair a xs)) (Ok (pair b ys)) → pair a xs ≡ pair b ys
some_alike a b xs ys e = cc

pub complete-whole : {A : Type 0} (r : Rule A) → is_predictive r ≡ true → (ts : List Lexeme) (a : A) → Reads r ts a → read r ts ≡ Ok (pair a [])
complete-whole r h ts a reads = subst (λ us. read r us ≡ Ok (pair a [])) (append-nil ts) (complete r h ts a [] reads refl)

only-of : {A : Type 0} (r : Rule A) → is_predictive r ≡ true → (ts : List Lexeme) (a : A) → read r ts ≡ Ok (pair a []) → Sound r ts (read r ts) → IsOnlyTree r ts a
only-of {A} r h ts a e s =
    record { reads = of_sound (subst (λ o. Sound r ts o) e s); only = λ other reads. ap (λ p. p.0) (some_alike other a [] [] (sym (complete-whole r h ts other reads) ∙ e)) } where
      of_sound : Sound r ts (Ok (pair a [])) → Reads r ts a
      of_sound s = subst (λ us. Reads r us a) (sym (s.1 ∙ append-nil s.0)) s.2

pub only-tree : {A : Type 0} (r : Rule A) → is_predictive r ≡ true → (ts : List Lexeme) (a : A) (rest : List Lexeme) → whole (read r ts) ≡ Ok (pair a rest) → IsOnlyTree r ts a
only-tree r h ts a rest e = only-of r h ts a (whole-ok (read r ts) a rest e) (sound r h ts)

-- ---- where there is no tree

-- the tokens before these are a prefix form, and these are left
record Stopped {A : Type 0} (r : Rule A) (ts : List Lexeme) (o : Outcome A) (rest : List Lexeme) : Type 0 where
  front : List Lexeme
  whole : ts ≡ front ++ rest
  begins : Begins r front
  remains : left o ≡ length rest
  no_tree : (a : A) → o ≡ Ok (pair a []) → ⊥

alone-err : {A : Type 0} (a : A) (ts rest : List Lexeme) → alone a ts ≡ Err rest → (ts ≡ rest) × (ts ≡ [] → ⊥)
alone-err a [] rest e = cc
alone-err a (t ∷ ts) rest e = let q : t ∷ ts ≡ rest = cc in (q, λ n. cc)

stopped : {A : Type 0} (r : Rule A) (ts rest : List Lexeme) (o : Outcome A) → whole o ≡ Err rest → Sound r ts o → Stopped r ts o rest
stopped {A} r ts rest (Ok p) e s =
    let f = alone-err p.0 p.1 rest e in
    record {
      front = s.0;
      whole = s.1 ∙ ap (λ xs. s.0 ++ xs) f.0;
      begins = reads-begins r s.0 p.0 s.2;
      remains = ap length f.0;
      no_tree = λ a g. f.1 (ap (λ q. q.1) (some_alike p.0 a p.1 [] g));
    }
stopped r ts rest (Err x) e s =
    let q : x ≡ rest = cc in record { front = s.0; whole = s.1 ∙ ap (λ xs. s.0 ++ xs) q; begins = s.2; remains = ap length q; no_tree = λ a g. cc }

stopped-read : {A : Type 0} (r : Rule A) → is_predictive r ≡ true → (ts rest : List Lexeme) → whole (read r ts) ≡ Err rest → Stopped r ts (read r ts) rest
stopped-read r h ts rest e = stopped r ts rest (read r ts) e (sound r h ts)

pub no-tree : {A : Type 0} (r : Rule A) → is_predictive r ≡ true → (ts rest : List Lexeme) → whole (read r ts) ≡ Err rest → HasNoTree r ts
no-tree r h ts rest e a reads = let s = stopped-read r h ts rest e in s.no_tree a (complete-whole r h ts a reads)

take-front : (u v : List Lexeme) → take (length u) (u ++ v) ≡ u
take-front [] v = refl
take-front (t ∷ u) v = ap (λ xs. t ∷ xs) (take-front u v)

drop-front : (u v : List Lexeme) → drop (length u) (u ++ v) ≡ v
drop-front [] v = refl
drop-front (t ∷ u) v = drop-front u v

take-drop : (n : ℕ) (ts : List Lexeme) → take n ts ++ drop n ts ≡ ts
take-drop zero ts = refl
take-drop (suc n) [] = refl
take-drop (suc n) (t ∷ ts) = ap (λ xs. t ∷ xs) (take-drop n ts)

pub reach-of : {A : Type 0} (r : Rule A) → is_predictive r ≡ true → (ts rest : List Lexeme) → whole (read r ts) ≡ Err rest → IsReach r ts (length ts - length rest)
reach-of r h ts rest e =
    let s = stopped-read r h ts rest e in
    let n : length ts - length rest ≡ length s.front = omega (arith, ap length s.whole, length-append s.front rest) in
    let front : take (length s.front) ts ≡ s.front = ap (λ xs. take (length s.front) xs) s.whole ∙ take-front s.front rest in
    record {
      within = omega arith;
      begins = subst (λ xs. Begins r xs) (sym (ap (λ k. take k ts) n ∙ front)) s.begins;
      most = λ m l b.
          let far : left (read r ts) ≤ length (drop m ts) = subst (λ xs. left (read r xs) ≤ length (drop m ts)) (take-drop m ts) (reach r h (take m ts) (drop m ts) b) in
          omega (arith, length-drop m ts, s.remains);
    }

pub line-of : {A : Type 0} (r : Rule A) → is_predictive r ≡ true → (ts rest : List Lexeme) → whole (read r ts) ≡ Err rest
    → line_at ts (length ts - length rest) ≡ line_or (last_line ts) rest
line-of r h ts rest e =
    let s = stopped-read r h ts rest e in
    let n : length ts - length rest ≡ length s.front = omega (arith, ap length s.whole, length-append s.front rest) in
    let behind : drop (length s.front) ts ≡ rest = ap (λ xs. drop (length s.front) xs) s.whole ∙ drop-front s.front rest in
    ap (λ k. line_at ts k) n ∙ ap (λ xs. line_or (last_line ts) xs) behind

pub left-of : {A : Type 0} (r : Rule A) → is_predictive r ≡ true → (ts rest : List Lexeme) → whole (read r ts) ≡ Err rest → length rest ≤ length ts
left-of r h ts rest e = let s = stopped-read r h ts rest e in omega (arith, ap length s.whole, length-append s.front rest)
