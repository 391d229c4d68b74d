use Rattle.std.proofs.Common.{◌∙◌, ap, subst}
use Rattle.uuid.specs.Parts.{swap_fields}
use Rattle.call_scripts.specs.declared.script.Fill.TheVariants.{Given}
use Rattle.script_meaning.specs.Step.{new_data}
use Rattle.script_stage.specs.Standing.{Does, TellsAddress}
use Rattle.script_stage.proofs.stages.Stage.add_iid.Goals as goal

pub returns : goal.returns
unfolding new_data
returns c =
    subst (λ bytes. Does TellsAddress
    (λ state. new_data c.args.self.now.machine.conv state c.args.name.now (Given bytes))
    c.args.self.now c.add_bytes.new.self c.add_bytes.result)
    (c.to_bytes_le-bytes.ensures ∙ ap swap_fields c.from_bytes.ensures)
    c.add_bytes.ensures
