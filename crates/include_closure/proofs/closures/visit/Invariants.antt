use Rattle.std.proofs.Common.{◌≡◌, ◌≤◌, List, [], ◌∷◌, Some}
use Rattle.xp_base.specs.Files.{Files}
use Rattle.include_closure.proofs.CountLaws.{Counts, to_do}
use Rattle.include_closure.proofs.StepLaws.{LeadsBack}
use Rattle.include_closure.proofs.closures.visit.Given as goal

abbrev pub invariant-turns : goal.invariant-turns
invariant-turns g l = record {
  same_files : g.S.Source.files l.files ≡ g.S.Source.files l.fn.files;
  same_faults : g.S.Source.faults l.files ≡ g.S.Source.faults l.fn.files;
  leads_back : (told : Files) → g.S.Source.files l.fn.files ≡ Some told → LeadsBack told l.open_files.items l.visited (l.fn.name ∷ []) l.fn.visited;
  counts : Counts l.fn.visited l.open_files.items l.visited;
}

abbrev pub decreases-turns : goal.decreases-turns
decreases-turns g l = to_do l.visited l.open_files.items
