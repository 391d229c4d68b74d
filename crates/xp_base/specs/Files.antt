-- What a source tells of its files.
use Rattle.std.specs.Prelude.{ℕ, ◌≡◌, ◌+◌, List, ◌∷◌, Option, None, Some, Result, IfOk, take, find}
use Rattle.std.specs.Option.{option_map}
use Rattle.std.specs.Str.{bytes_eq}
use Rattle.xp_base.specs.declared.named_file.NamedFile.{NamedFile}
use Rattle.xp_base.specs.declared.sources.SourceError.{SourceError}
use Rattle.xp_base.specs.declared.sources.Fetched.{Fetched}
use Rattle.xp_base.specs.declared.sources.Fetched.TheVariants.{Found, Missing}

-- Files by name: of several files with one name the first counts.
abbrev pub Files : Type 0
Files = List NamedFile

-- the bytes of the file of this name
abbrev pub file_in : Files → List ℕ → Option (List ℕ)
file_in files name =
    option_map (λ file. file.bytes) (find (λ file. bytes_eq file.name name) files)

-- the files, once the file of this name is set
abbrev pub with_file : Files → (name bytes : List ℕ) → Files
with_file files name bytes = record { name = name; bytes = bytes } ∷ files

-- What a fetch finds: one byte more than the limit is enough to show that a file is longer.
abbrev pub fetched : Option (List ℕ) → (limit : ℕ) → Fetched
fetched None limit = Missing
fetched (Some bytes) limit = Found (take (limit + 1) bytes)

-- A fetch of this name finds what the files have, where the source tells them.
abbrev pub FetchedFrom : Option Files → List ℕ → ℕ → Result Fetched SourceError → Type 0
FetchedFrom files name limit result =
    (told : Files) → files ≡ Some told
    → IfOk result (λ found. found ≡ fetched (file_in told name) limit)
