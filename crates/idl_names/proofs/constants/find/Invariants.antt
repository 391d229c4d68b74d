use Rattle.std.proofs.Common.{◌≡◌}
use Rattle.idl_meaning.specs.Scopes.{constants_at}
use Rattle.idl_names.specs.Views.{seen}
use Rattle.idl_names.proofs.Seen.{above}
use Rattle.idl_names.proofs.constants.find.Given as goal

abbrev pub invariant-up : goal.invariant-up
invariant-up l = constants_at (seen l.constants) l.initial.at l.name ≡ constants_at (seen l.constants) l.at l.name

abbrev pub decreases-up : goal.decreases-up
decreases-up l = above l.at
