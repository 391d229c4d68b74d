-- The headline in the words of the IDL: what is compiled, and what is called.
use Rattle.std.specs.Prelude.{◌≡◌, ℕ, ◌<◌, ◌^◌, List, Option, Some}
use Rattle.xp_base.specs.Files.{Files}
use Rattle.call_model.specs.declared.places.Conv.{Conv}
use Rattle.call_scripts.specs.declared.script.Script as spelled
use Rattle.call_scripts.specs.Lines.{IsScript}
use Rattle.idl_grammar.specs.declared.tree.ClosedFile.{ClosedFile}
use Rattle.idl_grammar.specs.ClosedFiles.{AreLawfulFiles, items_of}
use Rattle.idl_meaning.specs.Scopes.{scope_of}
use Rattle.include_closure.specs.Closure.{IsClosure}
use Rattle.lib_model.specs.Denotes.{Denotes}
use Rattle.lib_model.specs.Emit.{emit}
use Rattle.prototype_lowering.specs.StaticTable.{static_table}
use Rattle.xpcall_run.specs.declared.commands.Command.{Command}
use Rattle.xpcall_run.specs.declared.commands.Command.TheVariants.{Call, Compile}
use Rattle.xpcall_run.specs.CallWork.{HasBoth, calls_given}
use Rattle.prototype_lowering.specs.Accepted.{IsAccepted, library_in}
use Rattle.xpcall_run.specs.Sides.{Given, text_alone}

-- ---- compiles

-- the files of a compile, and the names that it is asked for
pub record CompileOf : Type 0 where
  pub idl : List ClosedFile
  pub roots : List (List ℕ)

-- the words ask for it; the source tells its files, and those of the closure of the names are
-- these, which are accepted
pub record IsCompileOf (c : CompileOf) (command : Option Command) (files : Option Files)
    : Type 0 where
  pub asked : command ≡ Some (Compile c.roots)
  pub told : Files
  pub tells : files ≡ Some told
  pub closed : IsClosure told c.roots c.idl
  pub accepted : IsAccepted c.idl

-- the emitted bytes of the library of the files
abbrev pub typelib_given : CompileOf → Given
typelib_given c = text_alone (emit (library_in c.idl))

-- ---- calls

-- IDL files; the bytes of a typelib of them, in whatever layout; and a script, with its bytes
pub record CallOf : Type 0 where
  pub idl : List ClosedFile
  pub conv : Conv
  pub typelib : List ℕ
  pub script : spelled.Script
  pub script_bytes : List ℕ

-- The words ask for it; the source tells its files, and has both; the IDL files are such as
-- closures give, lawful and few, and accepted; the typelib denotes their library, and the script's
-- bytes spell the script.
pub record IsCallOf (c : CallOf) (command : Option Command) (files : Option Files) : Type 0 where
  pub typelib_name : List ℕ
  pub script_name : List ℕ
  pub asked : command ≡ Some (Call c.conv typelib_name script_name)
  pub told : Files
  pub tells : files ≡ Some told
  pub has : HasBoth files typelib_name script_name c.typelib c.script_bytes
  pub lawful : AreLawfulFiles c.idl
  pub few : items_of c.idl < 2 ^ 32
  pub accepted : IsAccepted c.idl
  pub denoted : Denotes c.typelib (library_in c.idl)
  pub spelled : IsScript c.script_bytes c.script

-- the transcript of the static calls of the prototypes of the IDL, and the sights of these calls.
-- No flag and no tag of a typelib enters it
abbrev pub static_given : CallOf → Given
static_given c = calls_given (static_table (scope_of c.idl)) c.conv c.script.lines
