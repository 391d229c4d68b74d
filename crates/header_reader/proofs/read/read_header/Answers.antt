use Rattle.header_reader.proofs.Refusals.{comes_declared, comes_only, comes_blamed}
use Rattle.header_reader.proofs.read.read_header.Goals as goal

pub returns-clause-ok : goal.returns-clause-ok
returns-clause-ok c = comes_declared c.args.text.now c.come_to.result c.come_to.ensures

pub returns-clause-only : goal.returns-clause-only
returns-clause-only c = comes_only c.args.text.now c.come_to.result c.come_to.ensures

pub returns-clause-err : goal.returns-clause-err
returns-clause-err c = comes_blamed c.args.text.now c.come_to.result c.come_to.ensures
