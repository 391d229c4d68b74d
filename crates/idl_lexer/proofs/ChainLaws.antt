-- A text has one chain of pieces, and it reaches the end or a place at which no piece begins.
use Rattle.std.proofs.Common.{◌≡◌, ◌≢◌, ◌≤◌, ◌<◌, ℕ, zero, suc, ◌⊎◌, inl, inr, List, [], ◌∷◌, ◌++◌, length, Option, Some, None, refl, sym, ◌∙◌, ap, subst, arith, append_assoc, append-nil, length-append}
use Rattle.idl_lexer.specs.declared.token.Kind.{Kind}
use Rattle.idl_lexer.specs.declared.token.Token.{Token}
use Rattle.idl_lexer.specs.Pieces.{Piece, IsPiece, text_of, IsChain}
use Rattle.idl_lexer.specs.Tokens.{tokens_behind, AreTokens, IsStuck, IsNoToken}
use Rattle.idl_lexer.specs.Reading.{piece_at}
use Rattle.idl_lexer.proofs.Basics.{same_length, pair, some_alike}
use Rattle.idl_lexer.proofs.PieceLaws.{piece-sound, piece-again, piece-filled}

-- ---- a place that no piece begins

pub piece-at-end : piece_at [] ≡ None
unfolding piece_at
piece-at-end = refl

none_some : {A : Type 0} (o : Option A) (x : A) (P : Type 0) → o ≡ None → o ≡ Some x → P
none_some None x P n s = cc
none_some (Some y) x P n s = cc

pub stuck-none : (rest : List ℕ) → IsStuck rest → piece_at rest ≡ None
stuck-none rest h = by_answer (piece_at rest) refl where
  by_answer : (o : Option (Option Kind × List ℕ)) → piece_at rest ≡ o → o ≡ None
  by_answer None e = refl
  by_answer (Some p) e = let f = piece-sound rest p.1 p.0 e in absurd (h.1 p.0 f.0 p.1 f.1 f.2)

pub none-stuck : (rest : List ℕ) → rest ≢ [] → piece_at rest ≡ None → IsStuck rest
none-stuck rest h e = (h, λ what text next same p. none_some (piece_at rest) (what, next) ⊥ e (rw same (piece-again what text next p)))

-- ---- one chain

made : Option Kind → List ℕ → Piece
made what text = record { kind = what; text = text }

pieces_alike : (p q : Piece) → p.kind ≡ q.kind → p.text ≡ q.text → p ≡ q
unfolding made
pieces_alike p q k t = ap (λ what. made what p.text) k ∙ ap (λ text. made q.kind text) t

consed_pieces : (p q : Piece) (ps qs : List Piece) → p ≡ q → ps ≡ qs → p ∷ ps ≡ q ∷ qs
consed_pieces p q ps qs e f = cc

-- where a chain goes on, a piece begins
goes-on : (p : Piece) (ps : List Piece) (rest : List ℕ) → IsChain (p ∷ ps) rest → piece_at (text_of (p ∷ ps) ++ rest) ≡ Some (p.kind, text_of ps ++ rest)
goes-on p ps rest c = rw append_assoc (piece-again p.kind p.text (text_of ps ++ rest) c.0)

pub one_chain : (ps qs : List Piece) (r s : List ℕ) → IsChain ps r → IsChain qs s → text_of ps ++ r ≡ text_of qs ++ s → piece_at r ≡ None → piece_at s ≡ None
    → (ps ≡ qs) × (r ≡ s)
one_chain [] [] r s a b e m n = (refl, e)
one_chain [] (q ∷ qs) r s a b e m n = none_some (piece_at r) (q.kind, text_of qs ++ s) _ m (rw e (goes-on q qs s b))
one_chain (p ∷ ps) [] r s a b e m n = none_some (piece_at s) (p.kind, text_of ps ++ r) _ n (rw (← e) (goes-on p ps r a))
one_chain (p ∷ ps) (q ∷ qs) r s a b e m n =
    let g : pair p.kind (text_of ps ++ r) ≡ pair q.kind (text_of qs ++ s) = some_alike (sym (goes-on p ps r a) ∙ ap piece_at e ∙ goes-on q qs s b) in
    let rests : text_of ps ++ r ≡ text_of qs ++ s = ap (λ x. x.1) g in
    let whole : p.text ++ (text_of ps ++ r) ≡ q.text ++ (text_of qs ++ s) = sym (append_assoc p.text (text_of ps) r) ∙ e ∙ append_assoc q.text (text_of qs) s in
    let texts = same_length p.text q.text (text_of ps ++ r) (text_of qs ++ s) whole (ap length rests) in
    let more = one_chain ps qs r s a.1 b.1 rests m n in
    (consed_pieces p q ps qs (pieces_alike p q (ap (λ x. x.0) g) texts.0) more.0, more.1)

-- ---- and each text has one

abbrev Reaches : List ℕ → Type 0
Reaches bytes = (ps : List Piece) × (rest : List ℕ) × (bytes ≡ text_of ps ++ rest) × IsChain ps rest × (piece_at rest ≡ None)

reaches-more : (what : Option Kind) (text left bytes : List ℕ) → bytes ≡ text ++ left → IsPiece what text left → Reaches left → Reaches bytes
reaches-more what text left bytes e p r = (
  record { kind = what; text = text } ∷ r.0,
  r.1,
  e ∙ ap (λ xs. text ++ xs) r.2 ∙ sym (append_assoc text (text_of r.0) r.1),
  (subst (λ xs. IsPiece what text xs) r.2 p, r.3),
  r.4,
)

reaches : (n : ℕ) (bytes : List ℕ) → length bytes ≤ n → Reaches bytes
reaches zero [] h = ([], [], refl, tt, piece-at-end)
reaches zero (c ∷ cs) h = absurd (omega arith)
reaches (suc n) bytes h = by_answer (piece_at bytes) refl (λ left l. reaches n left l) where
  by_answer : (o : Option (Option Kind × List ℕ)) → piece_at bytes ≡ o → ((left : List ℕ) → length left ≤ n → Reaches left) → Reaches bytes
  by_answer None e more = ([], bytes, refl, tt, e)
  by_answer (Some p) e more =
      let f = piece-sound bytes p.1 p.0 e in
      let l : 0 < length f.0 = piece-filled p.0 f.0 p.1 f.2 in
      let shorter : length p.1 ≤ n = omega (arith, ap length f.1, length-append f.0 p.1) in
      reaches-more p.0 f.0 p.1 bytes f.1 f.2 (more p.1 shorter)

-- ---- the tokens and the place

whole-nil : (text : List ℕ) (ps : List Piece) → text ≡ text_of ps → text ≡ text_of ps ++ []
whole-nil text ps e = e ∙ sym (append-nil (text_of ps))

-- a text has at most one list of tokens
pub one_list : (text : List ℕ) (ts us : List Token) → AreTokens text ts → AreTokens text us → ts ≡ us
one_list text ts us a b =
    let c = one_chain a.pieces b.pieces [] [] a.chain b.chain (sym (whole-nil text a.pieces a.whole) ∙ whole-nil text b.pieces b.whole) piece-at-end piece-at-end in
    a.among ∙ ap (λ ps. tokens_behind [] ps) c.0 ∙ sym b.among

-- and at most one place that no piece begins
pub one_place : (text : List ℕ) (m n : ℕ) → IsNoToken text m → IsNoToken text n → m ≡ n
one_place text m n a b =
    let c = one_chain a.pieces b.pieces a.rest b.rest a.chain b.chain (sym a.whole ∙ b.whole) (stuck-none a.rest a.stuck) (stuck-none b.rest b.stuck) in
    a.reached ∙ ap (λ ps. length (text_of ps)) c.0 ∙ sym b.reached

-- never both
pub not_both : (text : List ℕ) (ts : List Token) (n : ℕ) → AreTokens text ts → IsNoToken text n → ⊥
not_both text ts n a b =
    let c = one_chain a.pieces b.pieces [] b.rest a.chain b.chain (sym (whole-nil text a.pieces a.whole) ∙ b.whole) piece-at-end (stuck-none b.rest b.stuck) in
    b.stuck.0 (sym c.1)

-- and always one of them
pub either : (text : List ℕ) → ((ts : List Token) × AreTokens text ts) ⊎ ((n : ℕ) × IsNoToken text n)
either text = of_reached (reaches (length text) text (omega arith)) where
  of_reached : Reaches text → ((ts : List Token) × AreTokens text ts) ⊎ ((n : ℕ) × IsNoToken text n)
  of_reached (ps, [], e, c, n) = inl (tokens_behind [] ps, record { pieces = ps; whole = e ∙ append-nil (text_of ps); chain = c; among = refl })
  of_reached (ps, b ∷ bs, e, c, n) =
      inr (length (text_of ps), record { pieces = ps; rest = b ∷ bs; whole = e; chain = c; reached = refl; stuck = none-stuck (b ∷ bs) (λ same. cc) n })
