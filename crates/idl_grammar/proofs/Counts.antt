-- A rule that is never empty reads at least a token for each reading.
use Rattle.std.proofs.Common.{◌≡◌, ◌≤◌, ℕ, false, List, [], ◌∷◌, length, refl, ap, arith, length-append}
use Rattle.std.proofs.lemmas.List.{length-map}
use Rattle.idl_lexer.specs.declared.token.Token.{Token}
use Rattle.idl_grammar.specs.declared.tree.IdlFile.{IdlFile}
use Rattle.idl_grammar.specs.Grammar.{file, one_item}
use Rattle.idl_grammar.specs.Read.{is_nullable}
use Rattle.idl_grammar.specs.Rule.{Rule, Each, Reads}
use Rattle.idl_grammar.specs.Terminals.{Lexeme, lexeme_of, lexemes_of}
use Rattle.idl_grammar.proofs.Begin.{reads-first}
use Rattle.idl_grammar.proofs.Predictive.{item-repeats}

pub each-count : {A : Type 0} (p : Rule A) → is_nullable p ≡ false → (ts : List Lexeme) (xs : List A) → Each (Reads p) ts xs → length xs ≤ length ts
each-count p filled ts [] each = omega arith
each-count p filled ts (x ∷ xs) each =
    let first = reads-first p each.0 x filled each.3 in
    let others = each-count p filled each.1 xs each.4 in
    omega (arith, ap length each.2, length-append each.0 each.1, ap length first.2)

-- there are no more items than tokens
pub item-count : (source : List ℕ) (tokens : List Token) (tree : IdlFile) → Reads file (lexemes_of source tokens) tree → length tree.items ≤ length tokens
unfolding file
item-count source tokens tree reads =
    omega (arith, each-count one_item item-repeats.filled (lexemes_of source tokens) reads.0 reads.1, ap (λ (t : IdlFile). length t.items) reads.2, length-map tokens (lexeme_of source))
