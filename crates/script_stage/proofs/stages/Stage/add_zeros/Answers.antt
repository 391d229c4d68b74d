use Rattle.std.proofs.Common.{◌≡◌, ◌∙◌, ap, refl, replicate, subst, sym, is_some, arith}
use Rattle.call_scripts.specs.declared.script.Fill.TheVariants.{Given, Zeros}
use Rattle.script_meaning.specs.State.{occupied_by}
use Rattle.script_meaning.specs.Step.{new_data}
use Rattle.script_stage.specs.Standing.{Does, TellsAddress}
use Rattle.script_stage.proofs.Added.{full, taken, too-many, zeros-given}
use Rattle.script_stage.proofs.stages.Stage.add_zeros.Goals as goal

pub returns-then-is_some : goal.returns-then-is_some
returns-then-is_some c = (
  refl,
  λ state stands. taken c.args.self.now.machine.conv state c.args.name.now (Zeros c.args.count)
      (ap is_some (sym (c.named.ensures state stands)) ∙ sym c.if-is_some.ensures),
)

pub returns-then-count : goal.returns-then-count
returns-then-count c = (
  refl,
  λ state stands. full c.args.self.now.machine.conv state c.args.name.now (Zeros c.args.count)
      (ap is_some (sym (c.named.ensures state stands)) ∙ sym c.if-is_some.ensures)
      (too-many c.args.count (occupied_by c.args.self.now.machine.conv state.blocks)
      (omega (arith, c.if-count.true))),
)

pub returns : goal.returns
returns c =
    let old = c.args.self.now in
    let zeros : c.as_slice.result.now ≡ replicate c.args.count 0 =
    c.as_slice.ensures.value ∙ c.in_ok-bytes.ensures.items_if_clones_equal (λ y same. same) in
    subst (λ asked. Does TellsAddress asked old c.add_bytes.new.self c.add_bytes.result)
    (zeros-given old.machine.conv c.args.name.now c.args.count)
    (subst (λ bytes. Does TellsAddress
    (λ state. new_data old.machine.conv state c.args.name.now (Given bytes))
    old c.add_bytes.new.self c.add_bytes.result)
    zeros c.add_bytes.ensures)
