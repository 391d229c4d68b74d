-- The tokens of the text of `big`, and its tree.
use Rattle.std.proofs.Common.{◌≡◌, ℕ, zero, suc, ◌+◌, ◌*◌, ◌-◌, ◌<◌, ◌≤◌, ◌==◌, List, [], ◌∷◌, ◌++◌, length, take, drop, Option, Some, None, Ok, refl, sym, ap, subst, ◌∙◌, arith, append_assoc, append-nil, count_by, cond, take_at, drop_at}
use Rattle.std.proofs.lemmas.List.Sums.{sum_by-append}
use Rattle.std.specs.Fmt.{digits}
use Rattle.idl_lexer.specs.declared.token.Kind.{Kind}
use Rattle.idl_lexer.specs.declared.token.Token.{Token}
use Rattle.idl_lexer.specs.Classes.{is_in}
use Rattle.idl_lexer.specs.Parts.{any, some, short, is_name, keys, is_key, is_word}
use Rattle.idl_lexer.specs.Spelling.{iid, native, hexadecimal, decimal, include, language}
use Rattle.idl_lexer.specs.Reading.{piece_at, token_at, numbered_at, lettered_at, name_at, after_mark, after_number, after_run, after_comment, is_whole}
use Rattle.idl_lexer.specs.Pieces.{Piece, IsPiece, IsChain, text_of}
use Rattle.idl_lexer.specs.Tokens.{line_behind, with_token, tokens_behind}
use Rattle.idl_grammar.specs.Grammar as g
use Rattle.idl_grammar.specs.Grammar.{one_item, file}
use Rattle.idl_grammar.specs.Read.{Outcome, pair, read}
use Rattle.idl_grammar.specs.Rule.{Reads, Each}
use Rattle.idl_grammar.specs.Terminals as terminals
use Rattle.idl_grammar.specs.Terminals.{Lexeme, lexemes_of, same_kind}
use Rattle.idl_grammar.specs.Texts.{HasTree}
use Rattle.idl_grammar.specs.declared.tree.Item.{Item}
use Rattle.idl_grammar.proofs.Predictive.{item-predictive}
use Rattle.idl_grammar.proofs.Sound.{Sound, sound}
use Rattle.big_texts.specs.Idl.{iface_text}
use Rattle.big_texts.specs.Pieces.{pieces}
use Rattle.big_laws.specs.Trees.{listed, big_item, big_tree}
use Rattle.big_laws.proofs.Below.{same_at}
use Rattle.big_laws.proofs.Lexed.{iface_pieces, iface_chain, iface_whole}

-- ---- the pieces of a file

abbrev pub pieces_from : (i n : ℕ) → List Piece
pieces_from i zero = []
pieces_from i (suc n) = iface_pieces i ++ pieces_from (suc i) n

text_append : (ps qs : List Piece) → text_of (ps ++ qs) ≡ text_of ps ++ text_of qs
text_append [] qs = refl
text_append (p ∷ ps) qs =
    ap (λ t. p.text ++ t) (text_append ps qs) ∙ sym (append_assoc p.text (text_of ps) (text_of qs))

chain_append : (ps qs : List Piece) (next : List ℕ) → IsChain ps (text_of qs ++ next)
    → IsChain qs next → IsChain (ps ++ qs) next
chain_append [] qs next one other = other
chain_append (p ∷ ps) qs next one other =
    let same : text_of ps ++ (text_of qs ++ next) ≡ text_of (ps ++ qs) ++ next =
    sym (ap (λ t. t ++ next) (text_append ps qs) ∙ append_assoc (text_of ps) (text_of qs) next) in
    (subst (λ t. IsPiece p.kind p.text t) same one.0, chain_append ps qs next one.1 other)

pub from_chain : (n i : ℕ) → i + n ≤ 250 → (next : List ℕ) → IsChain (pieces_from i n) next
from_chain zero i within next = tt
from_chain (suc n) i within next =
    chain_append (iface_pieces i) (pieces_from (suc i) n) next
    (iface_chain i (omega (arith, within)) (text_of (pieces_from (suc i) n) ++ next))
    (from_chain n (suc i) (omega (arith, within)) next)

pub from_text : (n i : ℕ) → i + n ≤ 250
    → pieces iface_text i ++ text_of (pieces_from i n) ≡ pieces iface_text (i + n)
from_text zero i within =
    let same : i ≡ i + 0 = omega arith in
    append-nil (pieces iface_text i) ∙ ap (pieces iface_text) same
from_text (suc n) i within =
    let whole = iface_whole i (omega (arith, within)) in
    let here : pieces iface_text i ++ text_of (iface_pieces i ++ pieces_from (suc i) n)
    ≡ pieces iface_text (suc i) ++ text_of (pieces_from (suc i) n) =
    ap (λ t. pieces iface_text i ++ t) (text_append (iface_pieces i) (pieces_from (suc i) n))
    ∙ ap (λ t. pieces iface_text i ++ (t ++ text_of (pieces_from (suc i) n))) whole
    ∙ sym (append_assoc (pieces iface_text i) (iface_text i) (text_of (pieces_from (suc i) n))) in
    let same : suc i + n ≡ i + suc n = omega arith in
    here ∙ from_text n (suc i) (omega (arith, within)) ∙ ap (pieces iface_text) same

-- ---- their tokens, as the grammar knows them

abbrev feeds : List ℕ → ℕ
feeds text = count_by (λ c. c == 10) text

feeds_append : (xs ys : List ℕ) → feeds (xs ++ ys) ≡ feeds xs + feeds ys
feeds_append xs ys = sum_by-append (λ c. cond (c == 10) 1 0) xs ys

abbrev with_lexeme : Option Kind → List ℕ → ℕ → List Lexeme → List Lexeme
with_lexeme None text line more = more
with_lexeme (Some k) text line more = record { kind = k; text = text; line = line } ∷ more

-- the tokens among pieces, of which the first stands on this line
abbrev lexed : (line : ℕ) → List Piece → List Lexeme
lexed line [] = []
lexed line (p ∷ ps) = with_lexeme p.kind p.text line (lexed (line + feeds p.text) ps)

with_append : (kind : Option Kind) (text : List ℕ) (line : ℕ) (a b : List Lexeme)
    → with_lexeme kind text line (a ++ b) ≡ with_lexeme kind text line a ++ b
with_append None text line a b = refl
with_append (Some k) text line a b = refl

lexed_append : (line : ℕ) (ps qs : List Piece)
    → lexed line (ps ++ qs) ≡ lexed line ps ++ lexed (line + feeds (text_of ps)) qs
lexed_append line [] qs =
    let same : line ≡ line + 0 = omega arith in ap (λ l. lexed l qs) same
lexed_append line (p ∷ ps) qs =
    let far : line + feeds p.text + feeds (text_of ps) ≡ line + feeds (p.text ++ text_of ps) =
    omega (arith, feeds_append p.text (text_of ps)) in
    ap (with_lexeme p.kind p.text line)
    (lexed_append (line + feeds p.text) ps qs
    ∙ ap (λ l. lexed (line + feeds p.text) ps ++ lexed l qs) far)
    ∙ with_append p.kind p.text line (lexed (line + feeds p.text) ps)
    (lexed (line + feeds (p.text ++ text_of ps)) qs)

with_same : (whole before : List ℕ) (kind : Option Kind) (text : List ℕ) (ts : List Token)
    (line : ℕ) (more : List Lexeme)
    → take (length before + length text - length before) (drop (length before) whole) ≡ text
    → line_behind before ≡ line → lexemes_of whole ts ≡ more
    → lexemes_of whole (with_token before kind text ts) ≡ with_lexeme kind text line more
with_same whole before None text ts line more spelled on same = same
with_same whole before (Some k) text ts line more spelled on same =
    λ j. record { kind = k; text = spelled j; line = on j } ∷ same j

pub lexed_among : (whole before : List ℕ) (ps : List Piece) (line : ℕ)
    → whole ≡ before ++ text_of ps → line_behind before ≡ line
    → lexemes_of whole (tokens_behind before ps) ≡ lexed line ps
lexed_among whole before [] line is on = refl
lexed_among whole before (p ∷ ps) line is on =
    let start : drop (length before) whole ≡ p.text ++ text_of ps =
    ap (drop (length before)) is ∙ drop_at before (p.text ++ text_of ps) _ refl in
    let size : length before + length p.text - length before ≡ length p.text = omega arith in
    let spelled : take (length before + length p.text - length before) (drop (length before) whole)
    ≡ p.text =
    ap (take (length before + length p.text - length before)) start
    ∙ take_at p.text (text_of ps) _ (sym size) in
    let further : line_behind (before ++ p.text) ≡ line + feeds p.text =
    omega (arith, feeds_append before p.text, on) in
    with_same whole before p.kind p.text (tokens_behind (before ++ p.text) ps) line
    (lexed (line + feeds p.text) ps) spelled on
    (lexed_among whole (before ++ p.text) ps (line + feeds p.text)
    (is ∙ sym (append_assoc before p.text (text_of ps))) further)

-- ---- the tree

pub item_read : (i : ℕ) → i < 250 → Reads one_item (lexed (4 * i + 1) (iface_pieces i)) (big_item i)
unfolding iface_pieces digits is_in any some short is_name keys is_key is_word iid native hexadecimal decimal include language piece_at token_at numbered_at lettered_at name_at after_mark after_number after_run after_comment is_whole g.long_type g.unsigned_type g.wide_type g.type_name g.attribute_name g.attribute_word g.attribute_value g.one_attribute g.attribute_list g.attributes g.any_attributes g.direction g.parameter g.parameter_list g.parameters g.passed_names g.any_raises g.any_readonly g.attribute g.method g.marked_member g.constant g.member_body g.one_member g.forward g.parent g.definition g.interface g.native g.marked_item g.typedef g.item_body g.one_item same_kind terminals.is_symbol
item_read i within = whole (read one_item (lexed (4 * i + 1) (iface_pieces i))) is
    (sound one_item item-predictive (lexed (4 * i + 1) (iface_pieces i)))
  where
    is : read one_item (lexed (4 * i + 1) (iface_pieces i)) ≡ Ok (pair (big_item i) [])
    is = same_at (λ k. read one_item (lexed (4 * k + 1) (iface_pieces k))) (λ k. Ok (pair (big_item k) [])) 250 refl i within

    whole : (o : Outcome Item) → o ≡ Ok (pair (big_item i) [])
        → Sound one_item (lexed (4 * i + 1) (iface_pieces i)) o
        → Reads one_item (lexed (4 * i + 1) (iface_pieces i)) (big_item i)
    whole o same s =
        let t = subst (Sound one_item (lexed (4 * i + 1) (iface_pieces i))) same s in
        subst (λ ts. Reads one_item ts (big_item i)) (sym (t.1 ∙ append-nil t.0)) t.2

four_lines : (i : ℕ) → i < 250 → feeds (text_of (iface_pieces i)) ≡ 4
unfolding digits
four_lines i within = ap feeds (iface_whole i within) ∙ same_at (λ k. feeds (iface_text k)) (λ k. 4) 250 refl i within

pub items_read : (n i : ℕ) → i + n ≤ 250
    → Each (Reads one_item) (lexed (4 * i + 1) (pieces_from i n)) (listed big_item i n)
items_read zero i within = refl
items_read (suc n) i within =
    let far : 4 * i + 1 + feeds (text_of (iface_pieces i)) ≡ 4 * suc i + 1 =
    omega (arith, four_lines i (omega (arith, within))) in (
      lexed (4 * i + 1) (iface_pieces i),
      lexed (4 * suc i + 1) (pieces_from (suc i) n),
      lexed_append (4 * i + 1) (iface_pieces i) (pieces_from (suc i) n)
          ∙ ap (λ l. lexed (4 * i + 1) (iface_pieces i) ++ lexed l (pieces_from (suc i) n)) far,
      item_read i (omega (arith, within)),
      items_read n (suc i) (omega (arith, within)),
    )

pub has_tree : (count : ℕ) → count ≤ 250 → HasTree (pieces iface_text count) (big_tree count)
unfolding file
has_tree count few =
    let whole : text_of (pieces_from 0 count) ≡ pieces iface_text count =
    from_text count 0 (omega (arith, few)) ∙ ap (pieces iface_text) (zero_plus count) in
    let among = lexed_among (pieces iface_text count) [] (pieces_from 0 count) 1 (sym whole) refl in
    record {
      tokens = tokens_behind [] (pieces_from 0 count);
      spelled = record {
        pieces = pieces_from 0 count;
        whole = sym whole;
        chain = from_chain count 0 (omega (arith, few)) [];
        among = refl;
      };
      read = subst (λ ts. Reads file ts (big_tree count)) (sym among)
          (listed big_item 0 count, items_read count 0 (omega (arith, few)), refl);
    }
  where
    zero_plus : (n : ℕ) → 0 + n ≡ n
    zero_plus n = omega arith
