use Rattle.std.proofs.Common.{ap}
use Rattle.descriptor_reader.specs.Views.{constants_in}
use Rattle.descriptor_reader.proofs.descriptors.own_constants.Goals as goal

pub returns-in-None-clause-are : goal.returns-in-None-clause-are
returns-in-None-clause-are c = ap constants_in c.in-None.ensures.body
