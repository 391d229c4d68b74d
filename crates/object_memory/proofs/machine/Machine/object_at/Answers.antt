-- The search goes over numbers that rise.
use Rattle.std.proofs.Common.{◌<◌, ◌≡◌, Err, subst, sym, ap, ◌∙◌}
use Rattle.std.specs.List.{AllPairs, Contains}
use Rattle.std.proofs.lemmas.Bool.{false≢true}
use Rattle.std.proofs.lemmas.List.Sorted.{searched}
use Rattle.object_memory.specs.Memory.{MachineView}
use Rattle.object_memory.proofs.Search.{numbers_rise, not_there}
use Rattle.object_memory.proofs.machine.Machine.object_at.Goals as goal

pub returns-in-Err-clause-found : goal.returns-in-Err-clause-found
returns-in-Err-clause-found c =
    let xs = c.deref.result.now in
    let same : xs ≡ c.args.self.now.objects = c.deref.ensures.value ∙ ap (λ (k : MachineView). k.objects) c.self.view_is in
    let rising = subst (AllPairs (λ a b. a < b)) (sym c.deref.ensures.value) c.self.invariant.rising in
    let rise = numbers_rise xs rising in
    let place = searched xs c.args.address (Err c.in-Err.field-0) c.in-Err.ensures.position (λ i j le lt. rise i j 0 le lt) in
    (λ t. absurd (false≢true t), λ held. absurd (not_there xs c.args.address c.in-Err.field-0 place (subst (λ l. Contains l c.args.address) (sym same) held)))
