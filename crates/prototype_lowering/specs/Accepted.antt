-- What it is that files are accepted.
use Rattle.std.specs.Prelude.{◌≡◌, ◌≤◌, List, [], length}
use Rattle.xp_base.specs.declared.limits.TheConstants.{MAX_TYPELIB}
use Rattle.idl_grammar.specs.declared.tree.ClosedFile.{ClosedFile}
use Rattle.idl_meaning.specs.declared.scope.ScopeIface.{ScopeIface}
use Rattle.idl_meaning.specs.Faults.{faults_of}
use Rattle.idl_meaning.specs.Scopes.{scope_of}
use Rattle.lib_model.specs.declared.contents.Library.{Library}
use Rattle.lib_model.specs.Emit.{emit}
use Rattle.prototype_lowering.specs.Limits.{KeepsLimits}
use Rattle.prototype_lowering.specs.Lowering.{library_of}

-- the library of what the files declare, and the interfaces that they do
abbrev pub library_in : List ClosedFile → Library
library_in files = library_of (scope_of files)

abbrev pub ifaces_in : List ClosedFile → List ScopeIface
ifaces_in files = (scope_of files).ifaces

-- no condition of the codes 1 to 14 holds at any place
abbrev pub IsFaultless : List ClosedFile → Type 0
IsFaultless files = faults_of files ≡ []

-- The files are accepted: they are without faults, a typelib has room for what they declare, and it
-- is no longer than a typelib may be.
pub record IsAccepted (files : List ClosedFile) : Type 0 where
  pub faultless : IsFaultless files
  pub roomy : KeepsLimits (scope_of files)
  pub short : length (emit (library_in files)) ≤ MAX_TYPELIB
