use Rattle.std.proofs.Common.{◌≡◌, Some, ap, sym, ◌∙◌, arith}
use Rattle.std.proofs.Common.{to_z, of_z, rules}
use Rattle.std.specs.Int.{w128}
use Rattle.std.proofs.lemmas.Int.{to_z-of_z}
use Rattle.std.specs.Option.{option_map}
use Rattle.std.specs.Prelude.{unsigned_abs}
use Rattle.call_scripts.specs.Reading.{digits_of}
use Rattle.call_scripts.proofs.Numerals.{digits_too_long, digits_within, minus_no_digits, plain_digits}
use Rattle.call_scripts.proofs.spellings.digits.Goals as goal

pub returns-then-longest-word-clause-value : goal.returns-then-longest-word-clause-value
returns-then-longest-word-clause-value c = sym (digits_too_long 10 c.args.longest c.args.word.now c.if-longest-word.true)

pub returns-then-has_minus-clause-value : goal.returns-then-has_minus-clause-value
returns-then-has_minus-clause-value c = sym (minus_no_digits 10 c.args.longest c.args.word.now (omega arith) (sym c.if-has_minus.ensures))

pub returns-in_err-decimal-clause-value : goal.returns-in_err-decimal-clause-value
returns-in_err-decimal-clause-value c =
    rw c.from_residual.ensures
    (ap (λ number. option_map unsigned_abs number) c.in_err-decimal.ensures ∙ plain_digits c.args.longest c.args.word.now (sym c.if-has_minus.ensures) c.if-longest-word.false c.requires)

-- the number, whose size is what was read
pub returns : goal.returns
returns c =
    let number = c.in_ok-decimal.field-0 in
    let kept : to_z w128 (of_z w128 number) ≡ number = to_z-of_z w128 number (search rules) in
    let value : Some c.unsigned_abs.result ≡ digits_of 10 c.args.longest c.args.word.now =
    rw (c.unsigned_abs.ensures.value, kept)
    (ap (λ number. option_map unsigned_abs number) c.in_ok-decimal.ensures ∙ plain_digits c.args.longest c.args.word.now (sym c.if-has_minus.ensures) c.if-longest-word.false c.requires) in
    record { value = value; bound = digits_within 10 c.args.longest c.args.word.now (Some c.unsigned_abs.result) (omega arith) value }
