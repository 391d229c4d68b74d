use Rattle.std.proofs.Common.{◌≡◌, ◌≤◌, ◌+◌, drop, length}
use Rattle.idl_meaning.specs.Scopes as scopes
use Rattle.idl_meaning.specs.Faults as spec
use Rattle.idl_grammar.specs.ClosedFiles.{items_of}
use Rattle.idl_meaning.specs.Counted.{AreCountedFiles}
use Rattle.idl_names.specs.States.{view}
use Rattle.idl_names.proofs.resolution.take_files.Given as goal

abbrev pub invariant-loop-i : goal.invariant-loop-i
invariant-loop-i l = record {
  same_faults : spec.faults_from 0 (view l.initial.state) l.files ≡ spec.faults_from l.i (view l.state) (drop l.i l.files);
  same_end : scopes.after_files 0 (view l.initial.state) l.files ≡ scopes.after_files l.i (view l.state) (drop l.i l.files);
  few : length (view l.state).ifaces + items_of (drop l.i l.files) ≤ length (view l.initial.state).ifaces + items_of l.files;
  counted : AreCountedFiles (drop l.i l.files);
  within : l.i ≤ length l.files;
}
