use Rattle.std.proofs.Common.{arith}
use Rattle.transcript_text.proofs.HexLaws.{two_digits_each}
use Rattle.transcript_text.proofs.frames.hex_of_bytes.Goals as goal

pub returns : goal.returns
returns c =
    let digits = two_digits_each c.args.bytes.now (λ k. omega (arith, c.type_inv.bytes k)) in
    rw (c.as_bytes.ensures.value, c.in_ok-word.ensures, digits) at c.copy.ensures
