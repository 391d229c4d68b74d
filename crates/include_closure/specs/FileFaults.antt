-- The faults of a file, and with its name those of a closure.
use Rattle.std.specs.Prelude.{ℕ, List}
use Rattle.xp_base.specs.declared.sources.SourceError.{SourceError}
use Rattle.xp_base.specs.declared.sources.SourceError.TheVariants as source
use Rattle.idl_lexer.specs.declared.token.LexError.{LexError}
use Rattle.idl_lexer.specs.declared.token.LexError.TheVariants as lexer
use Rattle.idl_grammar.specs.declared.syntax_error.SyntaxError.{SyntaxError}
use Rattle.idl_grammar.specs.declared.syntax_error.SyntaxError.TheVariants as parser
use Rattle.include_closure.specs.declared.closure_error.ClosureError.{ClosureError}
use Rattle.include_closure.specs.declared.closure_error.ClosureError.TheVariants as error
use Rattle.include_closure.specs.declared.file_error.FileError.{FileError}
use Rattle.include_closure.specs.declared.file_error.FileError.TheVariants as file

-- the fault of the file of this name
abbrev pub named : List ℕ → FileError → ClosureError
named name file.Failed = error.SourceFault name
named name file.Missing = error.NoFile name
named name file.TooLong = error.TooLong name
named name (file.Token line) = error.Lex name line
named name (file.Syntax line) = error.Syntax name line
named name file.Memory = error.Memory

-- what the answers of the source, the lexer and the parser come to

abbrev pub of_source : SourceError → FileError
of_source source.Failed = file.Failed
of_source source.Memory = file.Memory

abbrev pub of_lexer : LexError → FileError
of_lexer (lexer.At at line) = file.Token line
of_lexer lexer.Memory = file.Memory

abbrev pub of_parser : SyntaxError → FileError
of_parser (parser.At at line) = file.Syntax line
of_parser parser.Memory = file.Memory
