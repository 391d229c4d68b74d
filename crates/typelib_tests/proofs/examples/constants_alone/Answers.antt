use Rattle.std.proofs.Common.{arith, refl}
use Rattle.typelib_tests.proofs.ConstantLibraries.{constants_valid, interface_name}
use Rattle.typelib_tests.proofs.examples.constants_alone.Goals as goal

pub returns : goal.returns
returns c =
    rw
    (c.in_ok-push.ensures.ok, c.new-ifaces.ensures, c.in_ok-copy.ensures, c.new.ensures)
    (constants_valid _ _ _ interface_name refl c.in_ok-constants.ensures.all
    (omega (arith, c.in_ok-constants.ensures.count)))
