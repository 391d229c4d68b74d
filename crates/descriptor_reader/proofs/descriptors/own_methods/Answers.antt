use Rattle.std.proofs.Common.{ap}
use Rattle.lib_model.specs.Table.{methods_in}
use Rattle.descriptor_reader.proofs.descriptors.own_methods.Goals as goal

pub returns-in-None-clause-are : goal.returns-in-None-clause-are
returns-in-None-clause-are c = ap methods_in c.in-None.ensures.body
