use Rattle.std.proofs.Common.{ap, arith, length, length-append}
use Rattle.std.proofs.lemmas.List.Elements.{All-push}
use Rattle.lib_model.specs.Valid.{IsConstant}
use Rattle.typelib_tests.proofs.ConstantLibraries.{ten_named}
use Rattle.typelib_tests.proofs.examples.constants_of.Goals as goal

pub loop-preserved : goal.loop-preserved
loop-preserved c = record {
  all =
      rw c.in_ok-push.ensures.ok
      (All-push IsConstant c.loop.constants _ c.loop.invariant.all
      (ten_named _ _ c.in_ok-copy.ensures c.requires));
  count =
      omega
      (arith, simp length-append at (ap length c.in_ok-push.ensures.ok), c.loop.invariant.count);
}
