-- What a run of `compile` has written where it ends well.
use Rattle.std.specs.Prelude.{ℕ, List, Option, Some, None}
use Rattle.xp_base.specs.Files.{Files}
use Rattle.idl_grammar.specs.declared.tree.ClosedFile.{ClosedFile}
use Rattle.xpcall_run.specs.declared.commands.Command.{Command}
use Rattle.xpcall_run.specs.declared.commands.Command.TheVariants.{Compile, Dump, Call, Big}
use Rattle.xpcall_run.specs.ClosureWork.{CanClose}
use Rattle.xpcall_run.specs.CompileWork.{StandsFor, WritesLibrary}
use Rattle.xpcall_run.specs.Sides.{Side, Got}

-- a typelib of files that can be the closure of the roots, and are accepted; it stands for them
pub record IsTypelibOf (files : Option Files) (roots : List (List ℕ)) (typelib : List ℕ)
    : Type 0 where
  pub list : List ClosedFile
  pub closed : CanClose files roots list
  pub written : WritesLibrary list typelib
  pub stands : StandsFor list typelib

-- the output gained such a typelib
pub record HasCompiled (files : Option Files) (roots : List (List ℕ)) (out : Side) : Type 0 where
  pub typelib : List ℕ
  pub of_closure : IsTypelibOf files roots typelib
  pub got : Got out typelib

-- so it is where the command is `compile`
abbrev pub IsCompiled : Command → Option Files → (out : Side) → Type 0
IsCompiled (Compile roots) files out = HasCompiled files roots out
IsCompiled (Dump typelib) files out = Unit {0}
IsCompiled (Call conv typelib script) files out = Unit {0}
IsCompiled (Big last) files out = Unit {0}

abbrev pub IsCompiledBy : Option Command → Option Files → (out : Side) → Type 0
IsCompiledBy None files out = Unit {0}
IsCompiledBy (Some command) files out = IsCompiled command files out
