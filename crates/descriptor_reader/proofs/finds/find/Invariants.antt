use Rattle.std.proofs.Common.{◌≡◌, ◌<◌, ℕ, false}
use Rattle.descriptor_reader.specs.Views.{entry_after, is_named}
use Rattle.descriptor_reader.proofs.finds.find.Given as goal

abbrev pub invariant-loop-before : goal.invariant-loop-before
invariant-loop-before l = (j : ℕ) → j < l.before → is_named l.name (entry_after l.checked.file.bytes.now j) ≡ false
