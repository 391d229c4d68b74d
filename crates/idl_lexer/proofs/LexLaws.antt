-- How far a text was read: a chain of pieces, the tokens among them, and what is left.
use Rattle.std.proofs.Common.{◌≡◌, ◌≢◌, ◌≤◌, ◌<◌, ◌+◌, ◌-◌, ℕ, Bool, false, cond, List, [], ◌∷◌, ◌++◌, length, take, drop, Option, Some, None, refl, sym, ◌∙◌, ap, subst, arith, append_assoc, append-nil, length-append, add_assoc, count_by}
use Rattle.std.specs.Prelude.{◌==◌, Result, Err}
use Rattle.std.proofs.lemmas.List.{take_at, drop_at}
use Rattle.std.proofs.lemmas.List.Sums.{sum_by-append, count_by-le-length}
use Rattle.std.proofs.lemmas.List.Elements.{All-nil, All-cons}
use Rattle.std.specs.List.{All}
use Rattle.idl_lexer.specs.declared.token.Kind.{Kind}
use Rattle.idl_lexer.specs.declared.token.Token.{Token}
use Rattle.idl_lexer.specs.Pieces.{Piece, IsPiece, text_of, IsChain}
use Rattle.idl_lexer.specs.Tokens.{tokens_behind, with_token, AreTokens, IsNoToken, StandInOrder, line_behind, HasOneReading, IsGiven, IfAt, IsTokenOf}
use Rattle.idl_lexer.specs.Spelling.{IsToken}
use Rattle.idl_lexer.specs.declared.token.Tokens.{Tokens}
use Rattle.idl_lexer.specs.declared.token.LexError.{LexError}
use Rattle.idl_lexer.specs.declared.token.LexError.TheVariants as fault
use Rattle.idl_lexer.specs.Reading.{piece_at}
use Rattle.idl_lexer.proofs.PieceLaws.{piece-sound, piece-filled}
use Rattle.idl_lexer.proofs.ChainLaws.{none-stuck, one_list, one_place, not_both, either}

-- a text was read up to `rest`, which is on this line, and these are the tokens before it
pub record IsReadTo (text : List ℕ) (list : List Token) (rest : List ℕ) (line : ℕ) : Type 0 where
  pub pieces : List Piece
  pub whole : text ≡ text_of pieces ++ rest
  pub chain : IsChain pieces rest
  pub among : list ≡ tokens_behind [] pieces
  pub on_line : line ≡ line_behind (text_of pieces)

unfoldable pub feeds : List ℕ → ℕ
feeds text = count_by (λ c. c == 10) text

-- ---- a chain that goes on by a piece

text_of-more : (ps : List Piece) (p : Piece) → text_of (ps ++ p ∷ []) ≡ text_of ps ++ p.text
text_of-more [] p = append-nil p.text
text_of-more (q ∷ ps) p = ap (λ xs. q.text ++ xs) (text_of-more ps p) ∙ sym (append_assoc q.text (text_of ps) p.text)

chain-more : (ps : List Piece) (p : Piece) (rest : List ℕ) → IsChain ps (p.text ++ rest) → IsPiece p.kind p.text rest → IsChain (ps ++ p ∷ []) rest
chain-more [] p rest c h = (h, tt)
chain-more (q ∷ ps) p rest c h =
    let e : text_of ps ++ (p.text ++ rest) ≡ text_of (ps ++ p ∷ []) ++ rest = rw (text_of-more ps p) (sym (append_assoc (text_of ps) p.text rest)) in
    (subst (λ xs. IsPiece q.kind q.text xs) e c.0, chain-more ps p rest c.1 h)

with_token-more : (before : List ℕ) (what : Option Kind) (text : List ℕ) (ts us : List Token) → with_token before what text (ts ++ us) ≡ with_token before what text ts ++ us
with_token-more before None text ts us = refl
with_token-more before (Some k) text ts us = refl

tokens_behind-more : (before : List ℕ) (ps : List Piece) (p : Piece)
    → tokens_behind before (ps ++ p ∷ []) ≡ tokens_behind before ps ++ with_token (before ++ text_of ps) p.kind p.text []
tokens_behind-more before [] p = rw append-nil refl
tokens_behind-more before (q ∷ ps) p =
    ap (λ ts. with_token before q.kind q.text ts) (tokens_behind-more (before ++ q.text) ps p)
    ∙ rw append_assoc (with_token-more before q.kind q.text (tokens_behind (before ++ q.text) ps) _)

feeds-append : (xs ys : List ℕ) → feeds (xs ++ ys) ≡ feeds xs + feeds ys
unfolding feeds
feeds-append xs ys = sum_by-append (λ c. cond (c == 10) 1 0) xs ys

line_behind-append : (xs ys : List ℕ) → line_behind (xs ++ ys) ≡ line_behind xs + feeds ys
unfolding feeds
line_behind-append xs ys = ap (λ n. 1 + n) (feeds-append xs ys) ∙ sym (add_assoc 1 (feeds xs) (feeds ys))

-- ---- reading on

pub read-start : (text : List ℕ) → IsReadTo text [] text 1
read-start text = record { pieces = []; whole = refl; chain = tt; among = refl; on_line = refl }

pub read-left : (text : List ℕ) (list : List Token) (rest : List ℕ) (line : ℕ) → IsReadTo text list rest line → length rest ≤ length text
read-left text list rest line r = omega (arith, ap length r.whole, length-append (text_of r.pieces) rest)

-- a line is at most as far as its place
pub read-line : (text : List ℕ) (list : List Token) (rest : List ℕ) (line : ℕ) → IsReadTo text list rest line → line + length rest ≤ length text + 1
read-line text list rest line r =
    omega (arith, r.on_line, ap length r.whole, length-append (text_of r.pieces) rest, count_by-le-length (λ c. c == 10) (text_of r.pieces))

-- the text of the piece that leaves `next` of `rest`
unfoldable pub piece_text : List ℕ → List ℕ → List ℕ
piece_text rest next = take (length rest - length next) rest

piece_text-front : (text next : List ℕ) → piece_text (text ++ next) next ≡ text
unfolding piece_text
piece_text-front text next = take_at text next _ (omega (arith, length-append text next))

read-more : (text : List ℕ) (list : List Token) (rest : List ℕ) (line : ℕ) (what : Option Kind) (next : List ℕ) → (r : IsReadTo text list rest line)
    → piece_at rest ≡ Some (what, next)
    → IsReadTo text (list ++ with_token (text_of r.pieces) what (piece_text rest next) []) next (line + feeds (piece_text rest next))
read-more text list rest line what next r e =
    let f = piece-sound rest next what e in
    let front : f.0 ≡ piece_text rest next = sym (ap (λ xs. piece_text xs next) f.1 ∙ piece_text-front f.0 next) in
    subst (λ t. IsReadTo text (list ++ with_token (text_of r.pieces) what t []) next (line + feeds t)) front (of_text f.0 f.1 f.2) where
      of_text : (t : List ℕ) → rest ≡ t ++ next → IsPiece what t next → IsReadTo text (list ++ with_token (text_of r.pieces) what t []) next (line + feeds t)
      of_text t same p =
          let more = text_of-more r.pieces (record { kind = what; text = t }) in
          record {
            pieces = r.pieces ++ record { kind = what; text = t } ∷ [];
            whole = r.whole ∙ ap (λ xs. text_of r.pieces ++ xs) same ∙ sym (append_assoc (text_of r.pieces) t next) ∙ ap (λ xs. xs ++ next) (sym more);
            chain = chain-more r.pieces (record { kind = what; text = t }) next (subst (λ xs. IsChain r.pieces xs) same r.chain) p;
            among = ap (λ ts. ts ++ with_token (text_of r.pieces) what t []) r.among ∙ sym (tokens_behind-more [] r.pieces (record { kind = what; text = t }));
            on_line = ap (λ n. n + feeds t) r.on_line ∙ sym (line_behind-append (text_of r.pieces) t) ∙ ap line_behind (sym more);
          }

pub read-blank : (text : List ℕ) (list : List Token) (rest : List ℕ) (line : ℕ) (next : List ℕ) → IsReadTo text list rest line → piece_at rest ≡ Some (None, next)
    → IsReadTo text list next (line + feeds (piece_text rest next))
read-blank text list rest line next r e =
    subst (λ ts. IsReadTo text ts next (line + feeds (piece_text rest next))) (append-nil list) (read-more text list rest line None next r e)

unfoldable pub token_from : Kind → ℕ → ℕ → ℕ → Token
token_from what start end line = record { kind = what; start = start; end = end; line = line }

read-token-at : (text : List ℕ) (list : List Token) (rest : List ℕ) (line : ℕ) (what : Kind) (next : List ℕ) → (r : IsReadTo text list rest line)
    → piece_at rest ≡ Some (Some what, next)
    → with_token (text_of r.pieces) (Some what) (piece_text rest next) [] ≡ token_from what (length text - length rest) (length text - length next) line ∷ []
unfolding token_from
read-token-at text list rest line what next r e =
    let f = piece-sound rest next (Some what) e in
    let front : piece_text rest next ≡ f.0 = ap (λ xs. piece_text xs next) f.1 ∙ piece_text-front f.0 next in
    let here : length text - length rest ≡ length (text_of r.pieces) = omega (arith, ap length r.whole, length-append (text_of r.pieces) rest) in
    let there : length text - length next ≡ length (text_of r.pieces) + length (piece_text rest next) =
    omega (arith, ap length r.whole, length-append (text_of r.pieces) rest, ap length f.1, length-append f.0 next, ap length front) in
    let same : token_from what (length (text_of r.pieces)) (length (text_of r.pieces) + length (piece_text rest next)) (line_behind (text_of r.pieces))
    ≡ token_from what (length text - length rest) (length text - length next) line =
    ap (λ n. token_from what n (length (text_of r.pieces) + length (piece_text rest next)) (line_behind (text_of r.pieces))) (sym here)
    ∙ ap (λ n. token_from what (length text - length rest) n (line_behind (text_of r.pieces))) (sym there)
    ∙ ap (λ n. token_from what (length text - length rest) (length text - length next) n) (sym r.on_line) in
    ap (λ t. t ∷ []) same

pub read-token : (text : List ℕ) (list : List Token) (rest : List ℕ) (line : ℕ) (what : Kind) (next : List ℕ) → IsReadTo text list rest line
    → piece_at rest ≡ Some (Some what, next)
    → IsReadTo text (list ++ token_from what (length text - length rest) (length text - length next) line ∷ []) next (line + feeds (piece_text rest next))
read-token text list rest line what next r e =
    subst (λ ts. IsReadTo text (list ++ ts) next (line + feeds (piece_text rest next))) (read-token-at text list rest line what next r e)
    (read-more text list rest line (Some what) next r e)

-- ---- the end

pub read-whole : (text : List ℕ) (list : List Token) (line : ℕ) → IsReadTo text list [] line → AreTokens text list
read-whole text list line r = record { pieces = r.pieces; whole = r.whole ∙ append-nil (text_of r.pieces); chain = r.chain; among = r.among }

pub read-stuck : (text : List ℕ) (list : List Token) (rest : List ℕ) (line : ℕ) → IsReadTo text list rest line → rest ≢ [] → piece_at rest ≡ None
    → IsNoToken text (length text - length rest) × (line ≡ line_behind (take (length text - length rest) text))
read-stuck text list rest line r h e =
    let here : length text - length rest ≡ length (text_of r.pieces) = omega (arith, ap length r.whole, length-append (text_of r.pieces) rest) in
    let before : take (length text - length rest) text ≡ text_of r.pieces =
    ap (λ xs. take (length text - length rest) xs) r.whole ∙ take_at (text_of r.pieces) rest _ (sym here) in (
      record { pieces = r.pieces; rest = rest; whole = r.whole; chain = r.chain; reached = here; stuck = none-stuck rest h e },
      r.on_line ∙ ap line_behind (sym before),
    )

-- ---- the tokens stand in order

in_order-from : (from to : ℕ) (ts : List Token) (below : ℕ) → below ≤ from → StandInOrder from ts to → StandInOrder below ts to
in_order-from from to [] below h s = omega arith
in_order-from from to (t ∷ ts) below h s = (omega (arith, s.0), s.1, s.2)

in_order-more : (before : List ℕ) (what : Option Kind) (text : List ℕ) (ts : List Token) (to : ℕ) → 0 < length text
    → StandInOrder (length (before ++ text)) ts to → StandInOrder (length before) (with_token before what text ts) to
in_order-more before None text ts to h s = in_order-from (length (before ++ text)) to ts (length before) (omega (arith, length-append before text)) s
in_order-more before (Some k) text ts to h s =
    (omega arith, omega arith, subst (λ n. StandInOrder n ts to) (length-append before text) s)

chain-in_order : (before : List ℕ) (ps : List Piece) (rest : List ℕ) → IsChain ps rest → StandInOrder (length before) (tokens_behind before ps) (length (before ++ text_of ps))
chain-in_order before [] rest c = omega (arith, length-append before [])
chain-in_order before (p ∷ ps) rest c =
    let more = chain-in_order (before ++ p.text) ps rest c.1 in
    in_order-more before p.kind p.text (tokens_behind (before ++ p.text) ps) _ (piece-filled p.kind p.text (text_of ps ++ rest) c.0)
    (subst (λ xs. StandInOrder (length (before ++ p.text)) (tokens_behind (before ++ p.text) ps) (length xs)) (append_assoc before p.text (text_of ps)) more)

pub tokens-in_order : (text : List ℕ) (list : List Token) → AreTokens text list → StandInOrder 0 list (length text)
tokens-in_order text list a =
    subst (λ ts. StandInOrder 0 ts (length text)) (sym a.among)
    (subst (λ xs. StandInOrder 0 (tokens_behind [] a.pieces) (length xs)) (sym a.whole) (chain-in_order [] a.pieces [] a.chain))

pub one_reading : (text : List ℕ) → HasOneReading text
one_reading text = record { one_list = one_list text; one_place = one_place text; not_both = not_both text; either = either text }

pub not_empty : (rest : List ℕ) (b : Bool) → b ≡ (length rest == 0) → b ≡ false → rest ≢ []
not_empty [] b e f = λ h. cc
not_empty (c ∷ cs) b e f = λ h. cc

-- an error other than want of memory comes only where there are no tokens
pub only_memory : (text : List ℕ) (e : LexError) → IfAt e (λ at line. IsNoToken text at × (line ≡ line_behind (take at text))) → (ts : List Token) → AreTokens text ts → e ≡ fault.Memory
only_memory text (fault.At at line) h ts a = absurd (not_both text ts at a h.0)
only_memory text fault.Memory h ts a = refl

pub memory_given : (text : List ℕ) (answer : Result Tokens LexError) (e : LexError) → answer ≡ Err e
    → IfAt e (λ at line. IsNoToken text at × (line ≡ line_behind (take at text))) → IsGiven text answer
memory_given text answer e same h = λ ts a. rw same (only_memory text e h ts a)

-- ---- a turn of the loop

pub token-turn : (text : List ℕ) (list : List Token) (rest : List ℕ) (line : ℕ) (k : Option Kind) (what : Kind) (next : List ℕ) (start end count : ℕ) (new : List Token)
    → IsReadTo text list rest line → piece_at rest ≡ Some (k, next) → k ≡ Some what → start ≡ length text - length rest → end ≡ length text - length next
    → count ≡ feeds (piece_text rest next) → new ≡ list ++ token_from what start end line ∷ [] → IsReadTo text new next (line + count)
token-turn text list rest line k what next start end count new r e is s t n w =
    rw (w, s, t, n) (read-token text list rest line what next r (rw is at e))

pub blank-turn : (text : List ℕ) (list : List Token) (rest : List ℕ) (line : ℕ) (k : Option Kind) (next : List ℕ) (count : ℕ) (new : List Token)
    → IsReadTo text list rest line → piece_at rest ≡ Some (k, next) → k ≡ None → count ≡ feeds (piece_text rest next) → new ≡ list → IsReadTo text new next (line + count)
blank-turn text list rest line k next count new r e is n w = rw (w, n) (read-blank text list rest line next r (rw is at e))

-- there are no more tokens than bytes
in_order-count : (from : ℕ) (ts : List Token) (to : ℕ) → StandInOrder from ts to → from + length ts ≤ to
in_order-count from [] to s = omega arith
in_order-count from (t ∷ ts) to s = omega (arith, in_order-count t.end ts to s.2, s.0, s.1)

pub tokens-count : (text : List ℕ) (list : List Token) → AreTokens text list → length list ≤ length text
tokens-count text list a = omega (arith, in_order-count 0 list (length text) (tokens-in_order text list a))

-- ---- each token

each-token : (before text next : List ℕ) (what : Kind) → IsToken what text next
    → IsTokenOf (before ++ (text ++ next)) (token_from what (length before) (length before + length text) (line_behind before))
unfolding token_from
each-token before text next what t =
    let start : drop (length before) (before ++ (text ++ next)) ≡ text ++ next = drop_at before (text ++ next) _ refl in
    let size : length before + length text - length before ≡ length text = omega arith in
    let spelling : take (length before + length text - length before) (drop (length before) (before ++ (text ++ next))) ≡ text =
    ap (λ xs. take (length before + length text - length before) xs) start ∙ take_at text next _ (sym size) in
    let behind : drop (length before + length text) (before ++ (text ++ next)) ≡ next =
    ap (λ xs. drop (length before + length text) xs) (sym (append_assoc before text next)) ∙ drop_at (before ++ text) next _ (length-append before text) in
    let front : take (length before) (before ++ (text ++ next)) ≡ before = take_at before (text ++ next) _ refl in
    let size_is_some : 0 < length text = piece-filled (Some what) text next t in
    record {
      filled = omega arith;
      within = omega (arith, length-append before (text ++ next), length-append text next);
      spelled = rw (spelling, behind) t;
      on_line = ap line_behind (sym front);
    }

each-more : (text before : List ℕ) (what : Option Kind) (piece next : List ℕ) (ts : List Token) → text ≡ before ++ (piece ++ next) → IsPiece what piece next
    → All (IsTokenOf text) ts → All (IsTokenOf text) (with_token before what piece ts)
unfolding token_from
each-more text before None piece next ts e p h = h
each-more text before (Some k) piece next ts e p h = All-cons (IsTokenOf text) _ ts (subst (λ xs. IsTokenOf xs (token_from k (length before) (length before + length piece) (line_behind before))) (sym e) (each-token before piece next k p)) h

chain-each : (text before : List ℕ) (ps : List Piece) (rest : List ℕ) → text ≡ before ++ (text_of ps ++ rest) → IsChain ps rest → All (IsTokenOf text) (tokens_behind before ps)
chain-each text before [] rest e c = All-nil (IsTokenOf text)
chain-each text before (p ∷ ps) rest e c =
    let here : text ≡ before ++ (p.text ++ (text_of ps ++ rest)) = e ∙ ap (λ xs. before ++ xs) (append_assoc p.text (text_of ps) rest) in
    each-more text before p.kind p.text (text_of ps ++ rest) (tokens_behind (before ++ p.text) ps) here c.0
    (chain-each text (before ++ p.text) ps rest (here ∙ sym (append_assoc before p.text (text_of ps ++ rest))) c.1)

pub tokens-each : (text : List ℕ) (list : List Token) → AreTokens text list → All (IsTokenOf text) list
tokens-each text list a =
    subst (λ ts. All (IsTokenOf text) ts) (sym a.among)
    (chain-each text [] a.pieces [] (a.whole ∙ sym (append-nil (text_of a.pieces))) a.chain)
