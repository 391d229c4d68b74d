-- The reader of pieces gives the one piece at a place, and nothing where no piece begins.
use Rattle.std.proofs.Common.{◌≡◌, ◌<◌, ℕ, Bool, true, false, cond, ◌⊎◌, inl, inr, List, [], ◌∷◌, ◌++◌, length, Option, Some, None, refl, ◌∙◌, ap, subst, arith, append-nil, length-append, codes}
use Rattle.std.proofs.lemmas.Bool.Decides.{Decides-eqb}
use Rattle.std.specs.Prelude.{◌==◌, option_and_then}
use Rattle.std.specs.Option.{option_map}
use Rattle.idl_lexer.specs.declared.class.Class.TheVariants.{Blank, InLine}
use Rattle.idl_lexer.specs.declared.token.Kind.{Kind}
use Rattle.idl_lexer.specs.Classes.{is_in, IsOver}
use Rattle.idl_lexer.specs.Parts.{run, IsMadeOf, any}
use Rattle.idl_lexer.specs.Pieces.{line_comment, IsComment, IsPiece}
use Rattle.idl_lexer.specs.Reading.{behind, after_literal, after_run, after, after_pair, token_at, after_comment, piece_at}
use Rattle.idl_lexer.proofs.Basics.{bound, mapped, either_of, pair, some_alike}
use Rattle.idl_lexer.proofs.PartLaws.{behind-over, behind-whole, parts-read, run-reads, run-again}
use Rattle.idl_lexer.proofs.PairLaws.{enclosed-reads, enclosed-again}
use Rattle.idl_lexer.proofs.TokenLaws.{token-sound, token-again, no_token-at-blank, no_token-at-slash, no_token-at-end, spelled-filled}

-- ---- comments

line-reads : (bytes rest : List ℕ) → after line_comment bytes ≡ Some rest → (text : List ℕ) × (bytes ≡ text ++ rest) × IsMadeOf line_comment text × IsOver InLine rest
unfolding line_comment
line-reads bytes rest e =
    let r = parts-read line_comment bytes rest e in
    let b = bound (after (run InLine any ∷ [])) (after_literal (codes "//") bytes) rest e in
    let f = bound (after []) (after_run InLine any b.0) rest b.2 in
    let m = run-reads InLine any b.0 f.0 f.1 in
    let left : behind InLine b.0 ≡ rest = m.1 ∙ some_alike f.2 in
    (r.0, r.1, r.2, rw (← left) (behind-over InLine b.0))

line-again : (text next : List ℕ) → IsMadeOf line_comment text → IsOver InLine next → after line_comment (text ++ next) ≡ Some next
unfolding line_comment any
line-again text next m o =
    let n = m.2 in
    let e : text ++ next ≡ codes "//" ++ (n.0 ++ next) = rw (m.1, n.2, n.5, append-nil n.0) refl in
    rw (e, run-again InLine any (n.0 ++ next) refl, behind-whole InLine n.0 next n.3 o) refl

comment-reads : (bytes rest : List ℕ) → after_comment bytes ≡ Some rest → (text : List ℕ) × (bytes ≡ text ++ rest) × IsComment text rest
unfolding after_comment
comment-reads bytes rest e = of_either (either_of (after line_comment bytes) (option_and_then (after_pair 42 47) (after_literal (codes "/*") bytes)) rest e) where
  of_either : (after line_comment bytes ≡ Some rest) ⊎ ((after line_comment bytes ≡ None) × (option_and_then (after_pair 42 47) (after_literal (codes "/*") bytes) ≡ Some rest))
      → (text : List ℕ) × (bytes ≡ text ++ rest) × IsComment text rest
  of_either (inl p) = let r = line-reads bytes rest p in (r.0, r.1, inl (r.2, r.3))
  of_either (inr p) = let r = enclosed-reads (codes "/*") 42 47 bytes rest p.1 in (r.0, r.1, inr r.2)

no_line-at-star : (cs : List ℕ) → after line_comment (47 ∷ 42 ∷ cs) ≡ None
unfolding line_comment
no_line-at-star cs = refl

comment-again : (text next : List ℕ) → IsComment text next → after_comment (text ++ next) ≡ Some next
unfolding after_comment
comment-again text next (inl m) = rw (line-again text next m.0 m.1) refl
comment-again text next (inr m) =
    let e : text ++ next ≡ 47 ∷ 42 ∷ (m.0 ++ codes "*/" ++ next) = ap (λ xs. xs ++ next) m.1 in
    let none : after line_comment (text ++ next) ≡ None = rw e (no_line-at-star (m.0 ++ codes "*/" ++ next)) in
    rw none (enclosed-again (codes "/*") 42 47 text next (λ same. omega arith) m)

comment-first : (text next : List ℕ) → IsComment text next → (cs : List ℕ) × (text ≡ 47 ∷ cs)
unfolding line_comment
comment-first text next (inl m) = let w = m.0 in (47 ∷ w.0, w.1)
comment-first text next (inr m) = ((42 ∷ m.0) ++ codes "*/", m.1)

-- ---- pieces

-- whichever way a test went, and that it went so
by_cond : {A : Type 0} (b : Bool) (x y z : A) (P : Type 0) → cond b x y ≡ z → (b ≡ true → x ≡ z → P) → (y ≡ z → P) → P
by_cond true x y z P e f g = f refl e
by_cond false x y z P e f g = g e

abbrev pub IsFound : List ℕ → Option Kind → List ℕ → Type 0
IsFound bytes what rest = (text : List ℕ) × (bytes ≡ text ++ rest) × IsPiece what text rest

pub piece-sound : (bytes rest : List ℕ) (what : Option Kind) → piece_at bytes ≡ Some (what, rest) → IsFound bytes what rest
unfolding piece_at
piece-sound [] rest what e = cc
piece-sound (c ∷ cs) rest what e =
    by_cond (is_in Blank c) _ _ _ (IsFound (c ∷ cs) what rest) e blank
    (λ e. by_cond (c == 47) _ _ _ (IsFound (c ∷ cs) what rest) e comment token) where
      moved : (k : Option Kind) (left : List ℕ) → pair k left ≡ pair what rest → IsFound (c ∷ cs) k left → IsFound (c ∷ cs) what rest
      moved k left p f = subst (λ q. IsFound (c ∷ cs) q.0 q.1) p f

      blank : is_in Blank c ≡ true → Some (pair None cs) ≡ Some (pair what rest) → IsFound (c ∷ cs) what rest
      blank h e = moved None cs (some_alike e) (c ∷ [], refl, inl (c, refl, h))

      comment : (c == 47) ≡ true → option_map (λ rest. pair None rest) (after_comment (c ∷ cs)) ≡ Some (pair what rest) → IsFound (c ∷ cs) what rest
      comment h e =
          let m = mapped (λ rest. pair None rest) (after_comment (c ∷ cs)) (pair what rest) e in
          let r = comment-reads (c ∷ cs) m.0 m.1 in
          moved None m.0 m.2 (r.0, r.1, inr r.2)

      token : option_map (λ (t : Kind × List ℕ). pair (Some t.0) t.1) (token_at (c ∷ cs)) ≡ Some (pair what rest) → IsFound (c ∷ cs) what rest
      token e =
          let m = mapped (λ (t : Kind × List ℕ). pair (Some t.0) t.1) (token_at (c ∷ cs)) (pair what rest) e in
          let r = token-sound (c ∷ cs) m.0.1 m.0.0 m.1 in
          moved (Some m.0.0) m.0.1 m.2 (r.0, r.1, r.2)

at-blank : (c : ℕ) (cs : List ℕ) → is_in Blank c ≡ true → piece_at (c ∷ cs) ≡ Some (None, cs)
unfolding piece_at
at-blank c cs h = rw h refl

at-slash : (cs : List ℕ) → piece_at (47 ∷ cs) ≡ option_map (λ rest. (None, rest)) (after_comment (47 ∷ cs))
unfolding piece_at is_in
at-slash cs = refl

none_some : {A : Type 0} (o : Option A) (x : A) (P : Type 0) → o ≡ None → o ≡ Some x → P
none_some None x P n s = cc
none_some (Some y) x P n s = cc

-- where a token stands its first byte is no blank and no slash
at-token : (bytes next : List ℕ) (k : Kind) → token_at bytes ≡ Some (k, next) → piece_at bytes ≡ Some (Some k, next)
unfolding piece_at
at-token [] next k e = none_some (token_at []) (k, next) _ no_token-at-end e
at-token (c ∷ cs) next k e = by_tests (is_in Blank c) (c == 47) refl refl where
  by_tests : (b s : Bool) → is_in Blank c ≡ b → (c == 47) ≡ s
      → ◌≡◌ {A = Option (Option Kind × List ℕ)}
      (cond b (Some (None, cs)) (cond s (option_map (λ rest. (None, rest)) (after_comment (c ∷ cs))) (option_map (λ t. (Some t.0, t.1)) (token_at (c ∷ cs)))))
      (Some (Some k, next))
  by_tests true s h q = none_some (token_at (c ∷ cs)) (k, next) _ (no_token-at-blank c cs h) e
  by_tests false true h q = none_some (token_at (c ∷ cs)) (k, next) _ (rw ((Decides-eqb c 47).0 q) (no_token-at-slash cs)) e
  by_tests false false h q = rw e refl

pub piece-again : (what : Option Kind) (text next : List ℕ) → IsPiece what text next → piece_at (text ++ next) ≡ Some (what, next)
piece-again None text next (inl b) = rw b.1 (at-blank b.0 next b.2)
piece-again None text next (inr m) =
    let f = comment-first text next m in
    let e : piece_at (text ++ next) ≡ option_map (λ rest. (None, rest)) (after_comment (text ++ next)) = rw f.1 (at-slash (f.0 ++ next)) in
    e ∙ rw (comment-again text next m) refl
piece-again (Some k) text next t = at-token (text ++ next) next k (token-again k text next t)

-- no piece is empty
pub piece-filled : (what : Option Kind) (text next : List ℕ) → IsPiece what text next → 0 < length text
piece-filled None text next (inl b) = omega (arith, ap length b.1)
piece-filled None text next (inr m) = let f = comment-first text next m in omega (arith, ap length f.1)
piece-filled (Some k) text next t = spelled-filled k text next t.spelled

-- each piece leaves less of the text
pub piece-shrinks : (bytes rest : List ℕ) (what : Option Kind) → piece_at bytes ≡ Some (what, rest) → length rest < length bytes
piece-shrinks bytes rest what e =
    let f = piece-sound bytes rest what e in
    let l : 0 < length f.0 = piece-filled what f.0 rest f.2 in
    omega (arith, ap length f.1, length-append f.0 rest)
