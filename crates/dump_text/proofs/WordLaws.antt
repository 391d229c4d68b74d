-- A type's word with its arguments.
use Rattle.std.proofs.Common.{◌≡◌, ℕ, List, ◌∷◌, ◌++◌, sym, ap, ◌∙◌, append_assoc}
use Rattle.std.specs.Prelude.{codes}
use Rattle.std.specs.List.{join_with_byte}
use Rattle.dump_text.specs.Words.{applied}
use Rattle.dump_text.specs.declared.words.TheConstants.{COMMA}
use Rattle.dump_text.proofs.LineLaws.{behind, joined}

-- the first argument, and the others behind their separators, in parentheses
pub applied_is : (word first text : List ℕ) (others all : List (List ℕ)) → others ≡ all → text ≡ word ++ codes "(" ++ first ++ behind COMMA others → text ++ codes ")" ≡ applied word (first ∷ all)
applied_is word first text others all same is =
    let flat : word ++ codes "(" ++ first ++ behind COMMA all ≡ word ++ codes "(" ++ join_with_byte COMMA (first ∷ all) = append_assoc (word ++ codes "(") first (behind COMMA all) ∙ ap (λ t. word ++ codes "(" ++ t) (sym (joined COMMA first all)) in
    ap (λ t. t ++ codes ")") (is ∙ ap (λ o. word ++ codes "(" ++ first ++ behind COMMA o) same ∙ flat)
