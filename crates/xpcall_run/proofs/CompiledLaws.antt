-- What a run of `compile` writes, by what its parts give.
use Rattle.std.proofs.Common.{ℕ, List, Option, Result, Ok, Err, IfOk, refl}
use Rattle.xp_base.specs.Files.{Files}
use Rattle.idl_grammar.specs.declared.tree.ClosedFile.{ClosedFile}
use Rattle.xpcall_run.specs.declared.failures.Failure.{Failure}
use Rattle.xpcall_run.specs.ClosureWork.{CanClose}
use Rattle.xpcall_run.specs.CompileWork.{StandsFor, WritesLibrary, compile_work, library_work}
use Rattle.xpcall_run.specs.Compiled.{IsTypelibOf}
use Rattle.xpcall_run.specs.Sides.{text_alone}
use Rattle.xpcall_run.specs.Works.{Written}
use Rattle.xpcall_run.proofs.ClosureLaws.{closes_comes}

pub typelib_made : (files : Option Files) (roots : List (List ℕ)) (list : List ClosedFile)
    (result : Result (List ℕ) Failure) → CanClose files roots list
    → IfOk result (WritesLibrary list) → IfOk result (StandsFor list)
    → IfOk result (IsTypelibOf files roots)
typelib_made files roots list (Ok text) closed written stands =
    record { list = list; closed = closed; written = written; stands = stands }
typelib_made files roots list (Err f) closed written stands = tt

pub typelib_comes : (files : Option Files) (roots : List (List ℕ)) (text : List ℕ)
    → IsTypelibOf files roots text → (compile_work roots).comes files (Written (text_alone text))
typelib_comes files roots text is =
    closes_comes files roots library_work is.list (Written (text_alone text)) is.closed (is.written, refl)
