use Rattle.lib_model.proofs.Examples.{one_method_is_valid}
use Rattle.typelib_tests.proofs.examples.one_method.Goals as goal

pub returns : goal.returns
returns c =
    rw (
      c.in_ok-push-3.ensures.ok,
      c.new-ifaces.ensures,
      c.in_ok-push-2.ensures.ok,
      c.new-methods.ensures,
      c.in_ok-push.ensures.ok,
      c.new-params.ensures,
      c.in_ok-copy.ensures,
      c.in_ok-copy-2.ensures,
      c.new.ensures,
    )
    one_method_is_valid
