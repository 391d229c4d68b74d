use Rattle.std.proofs.Common.{◌≡◌, ◌≤◌, ◌++◌, length}
use Rattle.invoke_by_index.specs.Arguments.{parameters}
use Rattle.invoke_by_index.specs.Methods.{prototype}
use Rattle.invoke_by_index.proofs.FirstFaults.{Judged}
use Rattle.invoke_by_index.proofs.fits.count_given_in_pairs.Given as goal

-- the arguments of the parameters so far are judged
abbrev pub invariant-loop-param : goal.invariant-loop-param
invariant-loop-param l = record {
  whole : l.yielded ++ l.param-iterator ≡ prototype l.method;
  counted : l.k ≡ length (parameters l.yielded);
  few : l.given ≤ l.k;
  judged : Judged l.conv (parameters (prototype l.method)) l.args l.k l.left_out l.given l.out_of_range;
}
