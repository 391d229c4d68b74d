use Rattle.std.proofs.Common.{◌≡◌, length}
use Rattle.std.specs.Prelude.{All}
use Rattle.lib_model.specs.Valid.{IsConstant}
use Rattle.typelib_tests.proofs.examples.constants_of.Given as goal

-- the constants so far are lawful, and as many as the steps that were taken
abbrev pub invariant-loop : goal.invariant-loop
invariant-loop l = record {
  all : All IsConstant l.constants;
  count : length l.constants ≡ l.counter;
}
