use Rattle.std.proofs.Common.{◌≡◌, ◌++◌, ◌-◌, length, ap, ◌∙◌, arith}
use Rattle.std.proofs.lemmas.List.{take-replicate}
use Rattle.xp_base.specs.Digits.{hex_digits, hex_digits_fixed}
use Rattle.xp_base.proofs.Lengths.{length_fixed}
use Rattle.xp_base.proofs.numbers.hex_fixed.Goals as goal

-- the sixteen zeros, cut to those that are wanted
pub returns : goal.returns
returns c =
    let digits = hex_digits c.args.value in
    let text : c.append.new.self ≡ hex_digits_fixed c.args.digits c.args.value =
    rw (c.in_ok-append.ensures.ok, c.in_ok-text.ensures, c.saturating_sub-leading.ensures, c.as_slice.ensures, c.as_slice-2.ensures, c.in_ok-shortest.ensures)
    (ap (λ zeros. zeros ++ digits) (take-replicate (c.args.digits - length digits) 16 48 (omega arith))) in
    record { text = text; length = ap length text ∙ length_fixed c.args.digits c.args.value c.requires.least c.requires.fits }
