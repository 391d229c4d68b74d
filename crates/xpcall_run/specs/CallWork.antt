-- The work of `call`: the transcript of a script's calls over a typelib, under a convention.
use Rattle.std.specs.Prelude.{◌≡◌, ◌≤◌, ◌⊎◌, ℕ, List, length, Option, Some}
use Rattle.xp_base.specs.Files.{Files}
use Rattle.xp_base.specs.declared.limits.TheConstants.{MAX_TEXT, MAX_TYPELIB}
use Rattle.call_model.specs.declared.places.Conv.{Conv}
use Rattle.call_model.specs.declared.tables.Table.{Table}
use Rattle.lib_model.specs.declared.contents.Library.{Library}
use Rattle.lib_model.specs.Denotes.{Denotes}
use Rattle.lib_model.specs.Table.{table_of}
use Rattle.call_scripts.specs.declared.error.ScriptError.TheVariants as script
use Rattle.call_scripts.specs.declared.script.Line.{Line}
use Rattle.call_scripts.specs.declared.script.Script as spelled
use Rattle.call_scripts.specs.Lines.{Blames, IsScript}
use Rattle.script_meaning.specs.Transcript.{sights, static}
use Rattle.xpcall_run.specs.declared.failures.FileFault.TheVariants.{Script}
use Rattle.xpcall_run.specs.declared.failures.Refusal.{Refusal}
use Rattle.xpcall_run.specs.declared.failures.Refusal.TheVariants.{OfFile}
use Rattle.xpcall_run.specs.Sides.{Given}
use Rattle.xpcall_run.specs.TypelibWork.{RefusesTypelib}
use Rattle.xpcall_run.specs.Works.{Work, Finds, settles, takes}

-- the bytes denote a library
abbrev pub HasLibrary : List ℕ → Type 0
HasLibrary bytes = (lib : Library) × Denotes bytes lib

-- the transcript of the static calls of a table's prototypes, and what they show a bench
abbrev pub calls_given : Table → Conv → List Line → Given
calls_given table conv lines =
    record { text = static table conv lines; sights = sights table conv lines }

-- What is given is the transcript of the calls of a script, which the script's bytes spell, over
-- the table of the library that the typelib's bytes denote.
pub record WritesCalls (conv : Conv) (typelib_bytes script_bytes : List ℕ) (given : Given)
    : Type 0 where
  pub lib : Library
  pub denoted : Denotes typelib_bytes lib
  pub script : spelled.Script
  pub spelled : IsScript script_bytes script
  pub transcript : given ≡ calls_given (table_of lib) conv script.lines

-- the script of this name is refused: this line of its bytes is the first that has no reading
abbrev pub RefusesScript : (name bytes : List ℕ) → Refusal → Type 0
RefusesScript name bytes refusal =
    (line : ℕ) × Blames bytes (script.Fault line) × (refusal ≡ OfFile name (Script line))

-- the typelib is refused; or it is not, and the script is
abbrev pub RefusesCalls : (typelib script typelib_bytes script_bytes : List ℕ) → Refusal → Type 0
RefusesCalls typelib script typelib_bytes script_bytes refusal =
    RefusesTypelib typelib typelib_bytes refusal
    ⊎ (HasLibrary typelib_bytes × RefusesScript script script_bytes refusal)

-- what is done with the bytes of the typelib and of the script of these names
abbrev pub play_work : Conv → (typelib script typelib_bytes script_bytes : List ℕ) → Work
play_work conv typelib script typelib_bytes script_bytes =
    settles (WritesCalls conv typelib_bytes script_bytes)
    (RefusesCalls typelib script typelib_bytes script_bytes)

-- what is done once the typelib's bytes are there: the script is fetched
abbrev pub script_work : Conv → (typelib script typelib_bytes : List ℕ) → Work
script_work conv typelib script typelib_bytes =
    takes MAX_TEXT script (play_work conv typelib script typelib_bytes)

abbrev pub call_work : Conv → (typelib script : List ℕ) → Work
call_work conv typelib script = takes MAX_TYPELIB typelib (script_work conv typelib script)

-- the typelib and the script were found, and within their limits
pub record HasBoth (files : Option Files)
    (typelib script typelib_bytes script_bytes : List ℕ) : Type 0 where
  pub finds_typelib : Finds files typelib (Some typelib_bytes)
  pub typelib_within : length typelib_bytes ≤ MAX_TYPELIB
  pub finds_script : Finds files script (Some script_bytes)
  pub script_within : length script_bytes ≤ MAX_TEXT
