-- Each text says one thing.
use Rattle.std.proofs.Common.{◌≡◌, ◌-◌, ◌⊎◌, inl, inr, ℕ, List, [], length, take, Ok, Err, refl, sym, ◌∙◌, ap, subst, append-nil, arith}
use Rattle.idl_lexer.specs.declared.token.Token.{Token}
use Rattle.idl_lexer.specs.Tokens.{AreTokens, IsNoToken, line_behind}
use Rattle.idl_lexer.proofs.LexLaws.{one_reading}
use Rattle.idl_grammar.specs.declared.tree.IdlFile.{IdlFile}
use Rattle.idl_grammar.specs.Gives.{whole}
use Rattle.idl_grammar.specs.Grammar.{file}
use Rattle.idl_grammar.specs.Places.{IsReach, line_at}
use Rattle.idl_grammar.specs.Read.{Outcome, pair, read}
use Rattle.idl_grammar.specs.Rule.{Reads}
use Rattle.idl_grammar.specs.Terminals.{Lexeme, lexemes_of}
use Rattle.idl_grammar.specs.Texts.{HasTree, LacksToken, LacksTree, Reading, Tree, NoToken, NoTree, Says, IsReadable}
use Rattle.idl_grammar.proofs.Answered.{complete-whole, only-tree, no-tree, reach-of}
use Rattle.idl_grammar.proofs.Predictive.{file-predictive}

-- ---- a text says something

of_reading : (bytes : List ℕ) (tokens : List Token) → AreTokens bytes tokens → (o : Outcome IdlFile) → whole (read file (lexemes_of bytes tokens)) ≡ o → (r : Reading) × Says bytes r
of_reading bytes tokens spelled (Ok p) e =
    let only = only-tree file file-predictive (lexemes_of bytes tokens) p.0 p.1 e in
    (Tree p.0, record { tokens = tokens; spelled = spelled; read = only.reads })
of_reading bytes tokens spelled (Err rest) e =
    let ts = lexemes_of bytes tokens in
    let at = length ts - length rest in (
      NoTree (line_at ts at),
      record {
        tokens = tokens;
        spelled = spelled;
        none = no-tree file file-predictive ts rest e;
        at = at;
        reach = reach-of file file-predictive ts rest e;
        on_line = refl;
      },
    )

some_said : (bytes : List ℕ) → ((ts : List Token) × AreTokens bytes ts) ⊎ ((n : ℕ) × IsNoToken bytes n) → (r : Reading) × Says bytes r
some_said bytes (inl tokens) = of_reading bytes tokens.0 tokens.1 _ refl
some_said bytes (inr place) = (NoToken (line_behind (take place.0 bytes)), (place.0, place.1, refl))

-- ---- and one thing alone

tokens_once : (bytes : List ℕ) (ts us : List Token) → AreTokens bytes ts → AreTokens bytes us → ts ≡ us
tokens_once bytes = (one_reading bytes).one_list

same_tree : (a b : IdlFile) (xs ys : List Lexeme) → ◌≡◌ {A = Outcome IdlFile} (Ok (pair a xs)) (Ok (pair b ys)) → a ≡ b
same_tree a b xs ys e = let same : pair a xs ≡ pair b ys = cc in ap (λ p. p.0) same

reads_once : (ts : List Lexeme) (a b : IdlFile) → Reads file ts a → Reads file ts b → a ≡ b
reads_once ts a b one two =
    same_tree a b [] [] (sym (complete-whole file file-predictive ts a one) ∙ complete-whole file file-predictive ts b two)

-- a reading of any tokens of the text is one of these
reads_at : (bytes : List ℕ) (ts us : List Token) (tree : IdlFile) → AreTokens bytes ts → AreTokens bytes us → Reads file (lexemes_of bytes us) tree → Reads file (lexemes_of bytes ts) tree
reads_at bytes ts us tree here there reads = subst (λ list. Reads file (lexemes_of bytes list) tree) (tokens_once bytes us ts there here) reads

pub tree_once : (bytes : List ℕ) (a b : IdlFile) → HasTree bytes a → HasTree bytes b → a ≡ b
tree_once bytes a b one two = reads_once _ a b one.read (reads_at bytes one.tokens two.tokens b one.spelled two.spelled two.read)

-- prefix forms of a file reach one length
reach_once : (ts : List Lexeme) (m n : ℕ) → IsReach file ts m → IsReach file ts n → m ≡ n
reach_once ts m n one two = omega (arith, one.most n two.within two.begins, two.most m one.within one.begins)

token_alone : (bytes : List ℕ) (line : ℕ) (tokens : List Token) → LacksToken bytes line → AreTokens bytes tokens → ⊥
token_alone bytes line tokens lacks spelled = (one_reading bytes).not_both tokens lacks.0 spelled lacks.1

tree_alone : (bytes : List ℕ) (line : ℕ) (tree : IdlFile) → LacksTree bytes line → HasTree bytes tree → ⊥
tree_alone bytes line tree lacks has = lacks.none tree (reads_at bytes lacks.tokens has.tokens tree lacks.spelled has.spelled has.read)

token_line_once : (bytes : List ℕ) (m n : ℕ) → LacksToken bytes m → LacksToken bytes n → m ≡ n
token_line_once bytes m n one two =
    let same = (one_reading bytes).one_place one.0 two.0 one.1 two.1 in one.2 ∙ ap (λ at. line_behind (take at bytes)) same ∙ sym two.2

tree_line_once : (bytes : List ℕ) (m n : ℕ) → LacksTree bytes m → LacksTree bytes n → m ≡ n
tree_line_once bytes m n one two =
    let same = tokens_once bytes two.tokens one.tokens two.spelled one.spelled in
    let there = subst (λ list. IsReach file (lexemes_of bytes list) two.at) same two.reach in
    let reach = reach_once (lexemes_of bytes one.tokens) one.at two.at one.reach there in
    one.on_line ∙ ap (λ at. line_at (lexemes_of bytes one.tokens) at) reach ∙ ap (λ list. line_at (lexemes_of bytes list) two.at) (sym same) ∙ sym two.on_line

pub said_once : (bytes : List ℕ) (r q : Reading) → Says bytes r → Says bytes q → r ≡ q
said_once bytes (Tree a) (Tree b) one two = ap Tree (tree_once bytes a b one two)
said_once bytes (Tree a) (NoToken n) one two = absurd (token_alone bytes n one.tokens two one.spelled)
said_once bytes (Tree a) (NoTree n) one two = absurd (tree_alone bytes n a two one)
said_once bytes (NoToken m) (Tree b) one two = absurd (token_alone bytes m two.tokens one two.spelled)
said_once bytes (NoToken m) (NoToken n) one two = ap NoToken (token_line_once bytes m n one two)
said_once bytes (NoToken m) (NoTree n) one two = absurd (token_alone bytes m two.tokens one two.spelled)
said_once bytes (NoTree m) (Tree b) one two = absurd (tree_alone bytes m b one two)
said_once bytes (NoTree m) (NoToken n) one two = absurd (token_alone bytes n one.tokens two one.spelled)
said_once bytes (NoTree m) (NoTree n) one two = ap NoTree (tree_line_once bytes m n one two)

pub readable : (bytes : List ℕ) → IsReadable bytes
readable bytes = record { some = some_said bytes (one_reading bytes).either; one = said_once bytes }
