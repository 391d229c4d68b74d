use Rattle.std.proofs.Common.{◌≡◌, ◌<◌, ◌^◌, drop, pos}
use Rattle.std.specs.Str.Parse.{digits_value, digits_value_after}
use Rattle.idl_meaning.specs.Constants.{ranged}
use Rattle.idl_names.proofs.numbers.natural.Given as goal

abbrev pub invariant-loop-byte : goal.invariant-loop-byte
invariant-loop-byte l = record {
  same : ranged (pos (digits_value l.radix l.digits)) ≡ ranged (pos (digits_value_after l.radix l.value (drop l.byte-index l.digits)));
  small : l.value < 2 ^ 63;
}
