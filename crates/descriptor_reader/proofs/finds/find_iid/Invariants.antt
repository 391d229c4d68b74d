use Rattle.std.proofs.Common.{◌≡◌, ◌<◌, ℕ, false}
use Rattle.descriptor_reader.specs.Views.{entry_after, has_iid}
use Rattle.descriptor_reader.proofs.finds.find_iid.Given as goal

abbrev pub invariant-loop-before : goal.invariant-loop-before
invariant-loop-before l = (j : ℕ) → j < l.before → has_iid l.iid (entry_after l.checked.file.bytes.now j) ≡ false
