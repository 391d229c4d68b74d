use Rattle.std.proofs.Common.{◌≡◌, ◌≤◌, ◌+◌, length, drop, Some}
use Rattle.xp_base.specs.Files.{Files}
use Rattle.include_closure.specs.declared.visited.TheConstants.{MAX_TOGETHER}
use Rattle.include_closure.specs.Closure.{Outcome, Visits, nothing}
use Rattle.idl_grammar.specs.ClosedFiles.{AreLawfulFiles, items_of}
use Rattle.include_closure.proofs.closures.closure.Given as goal

abbrev pub invariant-roots : goal.invariant-roots
invariant-roots g l = record {
  same_files : g.S.Source.files l.files ≡ g.S.Source.files l.fn.files;
  same_faults : g.S.Source.faults l.files ≡ g.S.Source.faults l.fn.files;
  leads_back : (told : Files) → g.S.Source.files l.fn.files ≡ Some told → (o : Outcome) → Visits told (drop l.root-index l.fn.roots) l.visited o → Visits told l.fn.roots nothing o;
  room : l.visited.size ≤ MAX_TOGETHER;
  few_files : length l.visited.closed ≤ l.root-index + l.visited.size;
  few_items : items_of l.visited.closed ≤ l.visited.size;
  lawful : AreLawfulFiles l.visited.closed;
}
