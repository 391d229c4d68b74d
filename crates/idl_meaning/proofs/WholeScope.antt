-- The scope of files without faults is accepted.
use Rattle.std.proofs.Common.{◌≡◌, ◌<◌, ◌^◌, ℕ, List, [], Some, arith, sym, subst}
use Rattle.idl_grammar.specs.declared.tree.ClosedFile.{ClosedFile}
use Rattle.idl_meaning.specs.declared.scope.ScopeIface.{ScopeIface}
use Rattle.idl_grammar.specs.ClosedFiles.{AreLawfulFiles, items_of}
use Rattle.idl_meaning.specs.Meaning.{Names}
use Rattle.idl_meaning.specs.Scopes.{nothing_known, after_files, scope_of}
use Rattle.idl_meaning.specs.Faults.{faults_of}
use Rattle.idl_meaning.specs.Accepted.{AreNamedOnce, IsAcceptedScope}
use Rattle.idl_meaning.proofs.Good.{as_iface, IsGood}
use Rattle.idl_meaning.proofs.AcceptedScope.{files-good, nothing-good}
use Rattle.idl_meaning.proofs.Identified.{identified-once}
use Rattle.idl_meaning.proofs.Spotted.{none-circles, scope-placed}
use Rattle.idl_meaning.proofs.Few.{scope-few}
use Rattle.idl_meaning.proofs.Lawful.{scope-lawful}

once : (names : Names) (ifaces : List ScopeIface) → IsGood names ifaces → AreNamedOnce ifaces
once names ifaces good j k a b at there same =
    let one : as_iface (names a.name) ≡ Some j = good.numbered j a at in
    let two : as_iface (names a.name) ≡ Some k =
    subst (λ (n : List ℕ). as_iface (names n) ≡ Some k) (sym same) (good.numbered k b there) in
    cc

pub scope-accepted : (files : List ClosedFile) → AreLawfulFiles files → items_of files < 2 ^ 32
    → faults_of files ≡ [] → IsAcceptedScope (scope_of files)
scope-accepted files lawful counted none =
    let good = files-good files 0 nothing_known nothing-good none in
    let places = scope-placed files none in
    record {
      few = let declared = scope-few files in omega arith;
      each = good.each;
      lawful = scope-lawful files lawful;
      named_once = once (after_files 0 nothing_known files).names
          (after_files 0 nothing_known files).ifaces good;
      identified_once = identified-once files none;
      apart = places.apart;
      parents_first = places.parents_first;
      no_circle = none-circles (after_files 0 nothing_known files).ifaces places.parents_first;
    }
