use Rattle.std.proofs.Common.{◌≡◌, ◌<◌, ◌^◌, take}
use Rattle.std.specs.Str.Parse.{AllDigits, digits_value}
use Rattle.xp_base.proofs.numbers.natural.Given as goal

abbrev pub invariant-loop-byte : goal.invariant-loop-byte
invariant-loop-byte l =
    (l.value ≡ digits_value l.radix (take l.byte-index l.text)) × AllDigits l.radix (take l.byte-index l.text) × (l.value < l.radix ^ l.byte-index)
