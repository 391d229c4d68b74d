-- The header of an accepted scope declares it.
use Rattle.std.proofs.Common.{◌<◌, ◌^◌, List}
use Rattle.idl_grammar.specs.declared.tree.ClosedFile.{ClosedFile}
use Rattle.idl_grammar.specs.ClosedFiles.{AreLawfulFiles, items_of}
use Rattle.idl_meaning.specs.declared.scope.Scope.{Scope}
use Rattle.idl_meaning.specs.Accepted.{IsAcceptedScope}
use Rattle.idl_meaning.specs.Scopes.{scope_of}
use Rattle.idl_meaning.proofs.WholeScope.{scope-accepted}
use Rattle.prototype_lowering.specs.Accepted.{IsFaultless}
use Rattle.prototype_lowering.specs.Limits.{KeepsLimits}
use Rattle.header_model.specs.Declares.{Declares}
use Rattle.header_text.specs.Header.{header_text}
use Rattle.header_text.specs.Meaning.{declared}
use Rattle.header_text.proofs.FitLaws.{scope-fits}
use Rattle.header_text.proofs.Said.{header_said}
use Rattle.header_text.proofs.StepLaws.{steps-header}
use Rattle.header_text.proofs.ToldLaws.{header-said}

pub scope-declared : (s : Scope) → IsAcceptedScope s → KeepsLimits s → Declares (header_text s) (declared s)
scope-declared s ok limits = (header_said s, header-said s ok limits, steps-header s (scope-fits s ok limits))

pub files-declared : (files : List ClosedFile) → AreLawfulFiles files → items_of files < 2 ^ 32 → IsFaultless files → KeepsLimits (scope_of files)
    → Declares (header_text (scope_of files)) (declared (scope_of files))
files-declared files lawful few faultless limits = scope-declared (scope_of files) (scope-accepted files lawful few faultless) limits
