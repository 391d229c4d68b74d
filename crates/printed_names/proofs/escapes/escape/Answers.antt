use Rattle.xp_base.proofs.ByteDigits.{hex_byte}
use Rattle.printed_names.proofs.escapes.escape.Goals as goal

pub returns : goal.returns
returns c =
    let digits = hex_byte c.args.byte c.ranges.byte.fits in
    let high = c.hex_digit.ensures in
    let low = c.hex_digit-2.ensures in cc
