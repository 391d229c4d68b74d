use Rattle.std.proofs.Common.{rules, ◌≡◌, ◌≤◌, ◌∙◌, ℕ, ℤ, pos, negsuc, Option, Some, None, ap, refl, subst, sym, arith}
use Rattle.std.specs.Prelude.{IsNone, is_some, slice_get}
use Rattle.std.specs.Int.{w128}
use Rattle.std.proofs.lemmas.Bool.{false≢true}
use Rattle.std.proofs.lemmas.Int.{to_z-of_z}
use Rattle.lib_model.specs.Table.{table_of}
use Rattle.object_memory.specs.Heap.{heap_at}
use Rattle.script_meaning.specs.Members.{object_of}
use Rattle.script_meaning.specs.State.{State, number_in, object_at, object_numbered}
use Rattle.script_objects.proofs.Among.{objects-stand}
use Rattle.script_stage.specs.declared.stages.Stage.{Stage}
use Rattle.script_stage.specs.Finding.{Finds}
use Rattle.script_stage.specs.Standing.{Stands}
use Rattle.script_stage.proofs.Held.{begin-low}
use Rattle.script_stage.proofs.Numbers.{at-number, begins_at, contained, found-begins, found-numbered, none-found}
use Rattle.script_stage.proofs.stages.Stage.object_at.Goals as goal

none-so : (o : Option ℕ) → o ≡ None → IsNone o
none-so o is = subst IsNone (sym is) refl

-- no object begins where no address is
none-beyond : (stage : Stage) (state : State) → Stands stage state → (number : ℤ)
    → ((n : ℕ) → number ≡ pos n → 18446744073709551616 ≤ n) → object_at state number ≡ None
none-beyond stage state stands (pos a) beyond =
    none-found (begins_at a) state.blocks (λ b is.
    absurd (omega (
      arith,
      beyond a refl,
      begin-low stage.machine.conv state.blocks stands.lawful.blocks (begins_at a) b is,
      (found-begins a state.blocks b is).1,
    )))
none-beyond stage state stands (negsuc n) beyond = refl

pub returns-in_default : goal.returns-in_default
returns-in_default c = λ state stands.
    ap (object_of (table_of c.args.typelib.now) c.args.iface)
    (none-beyond c.args.self.now state stands c.args.address (λ n is.
    c.address_in.ensures.none (none-so c.address_in.result c.in_default.is) n
    (to_z-of_z w128 c.args.address (search rules) ∙ is)))

pub returns-in_default-object_at : goal.returns-in_default-object_at
returns-in_default-object_at c = λ state stands.
    let machine = c.args.self.now.machine in
    let a = c.in-Some.address in
    let none : object_at state (pos a) ≡ None =
    none-found (begins_at a) state.blocks (λ b is.
    let begins = found-begins a state.blocks b is in
    let numbered = found-numbered 0 state.blocks stands.lawful.blocks.numbered (begins_at a) b is begins.0 in
    let there : slice_get machine.objects (number_in b.held) ≡ Some a =
    objects-stand machine state.blocks stands.holds stands.lawful.blocks (number_in b.held) b numbered
    ∙ ap Some begins.1 in
    false≢true (sym (ap is_some c.in_default-object_at.is)
    ∙ c.object_at.ensures.found.1 (contained machine.objects (number_in b.held) a there))) in
    ap (object_of (table_of c.args.typelib.now) c.args.iface)
    (ap (object_at state) (sym (to_z-of_z w128 c.args.address (search rules)) ∙ c.in-Some.ensures.some) ∙ none)

pub returns : goal.returns
returns c = λ state stands.
    let machine = c.args.self.now.machine in
    let a = c.in-Some.address in
    let n = c.in-Some-object_at.number in
    let there = at-number machine.conv 0 (heap_at machine.conv) state.blocks stands.holds.placed
    stands.lawful.blocks.numbered n a
    (ap (λ l. slice_get l n) (sym stands.holds.heap.objects) ∙ c.in-Some-object_at.ensures.number) in
    subst (λ o. Finds state (object_of (table_of c.args.typelib.now) c.args.iface o) c.of_iface.result)
    (sym (ap (object_at state) (sym (to_z-of_z w128 c.args.address (search rules)) ∙ c.in-Some.ensures.some) ∙ there.here))
    (c.of_iface.ensures state there.block stands
    (subst (λ k. object_numbered state.blocks k ≡ Some there.block) (omega arith) there.numbered))
