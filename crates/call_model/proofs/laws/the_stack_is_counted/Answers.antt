use Rattle.call_model.proofs.Counted.{counts-overflow-sysv64, counts-overflow-aapcs64}
use Rattle.call_model.proofs.laws.the_stack_is_counted.Goals as goal

pub returns : goal.returns
returns c = record { sysv64 = counts-overflow-sysv64; aapcs64 = counts-overflow-aapcs64 }
