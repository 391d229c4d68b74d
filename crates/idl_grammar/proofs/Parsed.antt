-- What parse answers.
use Rattle.std.proofs.Common.{◌≡◌, ◌≢◌, ◌≤◌, ◌<◌, ◌-◌, ◌^◌, ℕ, suc, List, [], ◌∷◌, length, get_or, Err, refl, sym, ◌∙◌, ap, subst, arith}
use Rattle.std.proofs.lemmas.List.{length-map}
use Rattle.idl_lexer.specs.declared.token.Token.{Token}
use Rattle.idl_grammar.specs.declared.cursor.Stop.{Stop}
use Rattle.idl_grammar.specs.declared.cursor.Stop.TheVariants as stop
use Rattle.idl_grammar.specs.declared.syntax_error.SyntaxError.{SyntaxError}
use Rattle.idl_lexer.specs.Tokens.{AreTokens}
use Rattle.idl_grammar.specs.declared.tree.IdlFile.{IdlFile}
use Rattle.idl_grammar.specs.Texts.{IsLawfulFile}
use Rattle.idl_grammar.specs.Terminals.{Lexeme, lexeme_of, lexemes_of}
use Rattle.idl_grammar.specs.Grammar.{file}
use Rattle.idl_grammar.specs.Read.{read}
use Rattle.idl_grammar.specs.Gives.{whole}
use Rattle.idl_grammar.specs.Places.{HasNoTree, IfAt, IsReach, IsOnlyTree, fault_before, last_line, line_at}
use Rattle.idl_grammar.proofs.Answered.{no-tree, reach-of, line-of, left-of}
use Rattle.idl_grammar.proofs.Predictive.{file-predictive}

pub last-line : (source : List ℕ) (ts : List Token) (default : Token) → 1 ≤ length ts → (get_or ts (length ts - 1) default).line ≡ last_line (lexemes_of source ts)
last-line source [] d h = absurd (omega arith)
last-line source (t ∷ []) d h = refl
last-line source (t ∷ u ∷ ts) d h =
    let n : length (t ∷ u ∷ ts) - 1 ≡ suc (length (u ∷ ts) - 1) = omega arith in
    ap (λ k. (get_or (t ∷ u ∷ ts) k d).line) n ∙ last-line source (u ∷ ts) d (omega arith)

pub opened : (from source : List ℕ) (listed tokens : List Token) (ts : List Lexeme) → from ≡ source → listed ≡ tokens → ts ≡ lexemes_of from listed → ts ≡ lexemes_of source tokens
opened from source listed tokens ts e f g = g ∙ ap (λ s. lexemes_of s listed) e ∙ ap (λ l. lexemes_of source l) f

as_many : (source : List ℕ) (tokens : List Token) → length (lexemes_of source tokens) ≡ length tokens
as_many source tokens = length-map tokens (lexeme_of source)

pub syntax-stops : (e : Stop) → e ≡ stop.Syntax → e ≢ stop.Memory
syntax-stops e h = λ i. let f : stop.Syntax ≡ stop.Memory = sym h ∙ i in cc

pub fault-left : (source : List ℕ) (tokens : List Token) (rest : List Lexeme) → whole (read file (lexemes_of source tokens)) ≡ Err rest → length rest ≤ length tokens
fault-left source tokens rest e = let l = left-of file file-predictive (lexemes_of source tokens) rest e in omega (arith, as_many source tokens)

abbrev the_fault : List ℕ → List Token → List Lexeme → SyntaxError
the_fault source tokens rest = fault_before (length tokens) (last_line (lexemes_of source tokens)) rest

pub fault-none : (source : List ℕ) (tokens : List Token) (rest : List Lexeme) (f : SyntaxError) → f ≡ the_fault source tokens rest → whole (read file (lexemes_of source tokens)) ≡ Err rest
    → IfAt f (λ at line. HasNoTree file (lexemes_of source tokens))
fault-none source tokens rest f h e =
    subst (λ g. IfAt g (λ at line. HasNoTree file (lexemes_of source tokens))) (sym h) (no-tree file file-predictive (lexemes_of source tokens) rest e)

pub fault-place : (source : List ℕ) (tokens : List Token) (rest : List Lexeme) (f : SyntaxError) → f ≡ the_fault source tokens rest → whole (read file (lexemes_of source tokens)) ≡ Err rest
    → IfAt f (λ at line. IsReach file (lexemes_of source tokens) at)
fault-place source tokens rest f h e =
    subst (λ g. IfAt g (λ at line. IsReach file (lexemes_of source tokens) at)) (sym h)
    (subst (λ n. IsReach file (lexemes_of source tokens) (n - length rest)) (as_many source tokens) (reach-of file file-predictive (lexemes_of source tokens) rest e))

pub fault-line : (source : List ℕ) (tokens : List Token) (rest : List Lexeme) (f : SyntaxError) → f ≡ the_fault source tokens rest → whole (read file (lexemes_of source tokens)) ≡ Err rest
    → IfAt f (λ at line. line ≡ line_at (lexemes_of source tokens) at)
fault-line source tokens rest f h e =
    subst (λ g. IfAt g (λ at line. line ≡ line_at (lexemes_of source tokens) at)) (sym h)
    (sym (ap (λ n. line_at (lexemes_of source tokens) (n - length rest)) (sym (as_many source tokens)) ∙ line-of file file-predictive (lexemes_of source tokens) rest e))

-- the one tree of tokens that are those of their text
pub lawful-tree : (source : List ℕ) (tokens : List Token) (tree : IdlFile) → length tokens < 2 ^ 32 → IsOnlyTree file (lexemes_of source tokens) tree → AreTokens source tokens → IsLawfulFile tree
lawful-tree source tokens tree few only spelled =
    record { bytes = source; has = record { tokens = tokens; spelled = spelled; read = only.reads }; few = few }
