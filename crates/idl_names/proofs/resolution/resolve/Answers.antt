use Rattle.std.proofs.Common.{sym, subst}
use Rattle.idl_meaning.specs.declared.scope.Scope.{Scope}
use Rattle.idl_meaning.specs.Accepted.{IsAcceptedScope}
use Rattle.idl_meaning.proofs.CountedLaws.{files-counted}
use Rattle.idl_meaning.proofs.Sorted.{none-is_fault, first-is_least}
use Rattle.idl_meaning.proofs.WholeScope.{scope-accepted}
use Rattle.idl_names.proofs.resolution.resolve.Goals as goal

pub resolve_counted-requires-clause-counted : goal.resolve_counted-requires-clause-counted
resolve_counted-requires-clause-counted c = files-counted c.args.files.now c.requires.lawful

pub returns-in-Ok-clause-accepted : goal.returns-in-Ok-clause-accepted
returns-in-Ok-clause-accepted c = none-is_fault c.args.files.now c.in-Ok.ensures.none

pub returns-in-Ok-clause-sound : goal.returns-in-Ok-clause-sound
returns-in-Ok-clause-sound c = subst (λ (s : Scope). IsAcceptedScope s) (sym c.in-Ok.ensures.scope) (scope-accepted c.args.files.now c.requires.lawful c.requires.items c.in-Ok.ensures.none)

pub returns-in-Err-clause-least : goal.returns-in-Err-clause-least
returns-in-Err-clause-least c = first-is_least c.args.files.now c.in-Err.error c.in-Err.ensures.fault
