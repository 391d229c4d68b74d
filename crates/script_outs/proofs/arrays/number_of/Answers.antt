use Rattle.std.proofs.Common.{◌∙◌}
use Rattle.script_outs.proofs.Numbers.{number_is}
use Rattle.script_outs.proofs.arrays.number_of.Goals as goal

pub returns : goal.returns
returns c = c.read_uint.ensures ∙ number_is c.args.bytes.now
