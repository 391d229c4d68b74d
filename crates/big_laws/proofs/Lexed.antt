-- The pieces of the text of `big`.
use Rattle.std.proofs.Common.{◌≡◌, ℕ, zero, suc, ◌-◌, ◌<◌, List, [], ◌∷◌, ◌++◌, length, get_or, take, Option, Some, None, refl, sym, ap, subst}
use Rattle.std.proofs.lemmas.List.{append_cancel_right}
use Rattle.std.specs.Fmt.{digits}
use Rattle.idl_lexer.specs.declared.token.Kind.{Kind}
use Rattle.idl_lexer.specs.Classes.{is_in}
use Rattle.idl_lexer.specs.Parts.{any, some, short, is_name, keys, is_key, is_word}
use Rattle.idl_lexer.specs.Spelling.{iid, native, hexadecimal, decimal, include, language}
use Rattle.idl_lexer.specs.Reading.{piece_at, token_at, numbered_at, lettered_at, name_at, after_mark, after_number, after_run, after_comment}
use Rattle.idl_lexer.specs.Pieces.{Piece, IsPiece, IsChain, text_of}
use Rattle.idl_lexer.proofs.PieceLaws.{piece-sound}
use Rattle.big_texts.specs.Idl.{iface_text}
use Rattle.big_laws.proofs.Below.{same_at}

-- what the lexer finds at the front of a text, and then in what is left
abbrev with_found : List ℕ → Option (Option Kind × List ℕ) → (List ℕ → List Piece) → List Piece
with_found text None more = []
with_found text (Some found) more =
    record { kind = found.0; text = take (length text - length found.1) text } ∷ more found.1

-- the pieces that the lexer finds in a text
abbrev pub scanned : (fuel : ℕ) → List ℕ → List Piece
scanned zero text = []
scanned (suc fuel) text = with_found text (piece_at text) (scanned fuel)

-- the pieces of the interface i
unfoldable pub iface_pieces : ℕ → List Piece
iface_pieces i = scanned (length (iface_text i)) (iface_text i)

-- what the lexer finds at each piece before some text, and what it should find
abbrev finds : List Piece → List ℕ → List (Option (Option Kind × List ℕ))
finds [] next = []
finds (p ∷ ps) next = piece_at (p.text ++ (text_of ps ++ next)) ∷ finds ps next

abbrev should_find : List Piece → List ℕ → List (Option (Option Kind × List ℕ))
should_find [] next = []
should_find (p ∷ ps) next = Some (p.kind, text_of ps ++ next) ∷ should_find ps next

abbrev the_rest : {A : Type 0} → List A → List A
the_rest [] = []
the_rest (x ∷ xs) = xs

chained : (ps : List Piece) (next : List ℕ) → finds ps next ≡ should_find ps next → IsChain ps next
chained [] next same = tt
chained (p ∷ ps) next same =
    let first : piece_at (p.text ++ (text_of ps ++ next)) ≡ Some (p.kind, text_of ps ++ next) =
    ap (λ xs. get_or xs 0 None) same in
    let found = piece-sound (p.text ++ (text_of ps ++ next)) (text_of ps ++ next) p.kind first in
    let text : found.0 ≡ p.text =
    sym (append_cancel_right p.text found.0 (text_of ps ++ next) found.1) in (
      subst (λ t. IsPiece p.kind t (text_of ps ++ next)) text found.2,
      chained ps next (ap the_rest same),
    )

-- each interface is a chain of its pieces, whatever follows it
pub iface_chain : (i : ℕ) → i < 250 → (next : List ℕ) → IsChain (iface_pieces i) next
unfolding iface_pieces digits is_in any some short is_name keys is_key is_word iid native hexadecimal decimal include language piece_at token_at numbered_at lettered_at name_at after_mark after_number after_run after_comment
iface_chain i within next =
    chained (iface_pieces i) next
    (same_at (λ k. finds (iface_pieces k) next) (λ k. should_find (iface_pieces k) next) 250 refl i within)

pub iface_whole : (i : ℕ) → i < 250 → text_of (iface_pieces i) ≡ iface_text i
unfolding iface_pieces digits is_in any some short is_name keys is_key is_word iid native hexadecimal decimal include language piece_at token_at numbered_at lettered_at name_at after_mark after_number after_run after_comment
iface_whole i within =
    same_at (λ k. text_of (iface_pieces k)) iface_text 250 refl i within
