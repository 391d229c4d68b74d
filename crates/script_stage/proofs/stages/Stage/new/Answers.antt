use Rattle.std.proofs.Common.{ap, refl}
use Rattle.object_memory.specs.Memory.{MachineView}
use Rattle.script_meaning.proofs.Lawfulness.{empty-lawful}
use Rattle.script_stage.proofs.stages.Stage.new.Goals as goal

pub returns-clause-stands : goal.returns-clause-stands
returns-clause-stands c = record {
  lawful = empty-lawful c.in_ok-new.field-0.conv;
  holds = record { heap = c.in_ok-new.ensures.holds; placed = tt };
  cells = ap (λ (m : MachineView). m.cells) c.in_ok-new.ensures.fresh;
  blocks = c.new-2.ensures;
  variables = c.new-3.ensures;
  objects = c.new-4.ensures.known c.in_ok-new.field-0.conv;
  rules = c.new-5.ensures;
  context = refl;
}
