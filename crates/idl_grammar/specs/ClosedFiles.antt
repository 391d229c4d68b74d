-- Files that are read together.
use Rattle.std.specs.Prelude.{ℕ, All, List, length, sum_by}
use Rattle.idl_grammar.specs.declared.tree.ClosedFile.{ClosedFile}
use Rattle.idl_grammar.specs.Texts.{IsLawfulFile}

-- how many items files have together
abbrev pub items_of : List ClosedFile → ℕ
items_of files = sum_by (λ (one : ClosedFile). length one.file.items) files

-- each of the files is one that a text can have
abbrev pub AreLawfulFiles : List ClosedFile → Type 0
AreLawfulFiles files = All (λ (one : ClosedFile). IsLawfulFile one.file) files
