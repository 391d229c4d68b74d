use Rattle.call_model.proofs.CoreRegisters.{follows-aapcs32}
use Rattle.call_model.proofs.laws.the_core_registers_are_filled_as_aapcs32_says.Goals as goal

pub returns : goal.returns
returns c = follows-aapcs32
