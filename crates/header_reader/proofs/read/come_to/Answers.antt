use Rattle.std.proofs.Common.{◌≡◌, Some, None, ap, sym, refl, ◌∙◌, arith, length, length-append}
use Rattle.line_words.proofs.Marks.{cut_gives}
use Rattle.header_reader.specs.Reading.{behind_of}
use Rattle.header_reader.proofs.Fits.{behind_few}
use Rattle.header_reader.proofs.Outcomes.{end_open, outcome_cut, outcome_end, outcome_open}
use Rattle.header_reader.proofs.read.come_to.Goals as goal

pub returns-in_default : goal.returns-in_default
returns-in_default c =
    sym c.loop-rest.invariant.0 ∙ outcome_open c.loop-rest.state c.loop-rest.number c.loop-rest.rest.now (sym c.in_default.ensures) (sym c.loop-rest-test.ensures)

pub returns-in-Err-NoReading : goal.returns-in-Err-NoReading
returns-in-Err-NoReading c =
    let none : behind_of c.loop-rest.state c.in-Some.line.now ≡ None = rw c.in-Err-NoReading.field-0-is at c.in-Err-NoReading.ensures.next in
    sym c.loop-rest.invariant.0 ∙ (outcome_cut c.loop-rest.state c.loop-rest.number c.loop-rest.rest.now c.in-Some.line.now c.in-Some.more.now (sym c.in-Some.ensures) ∙ rw none refl)

pub loop-rest-smaller : goal.loop-rest-smaller
loop-rest-smaller c =
    let parts = cut_gives 10 c.loop-rest.rest.now c.in-Some.line.now c.in-Some.more.now (sym c.in-Some.ensures) in
    omega (arith, simp length-append at (ap length parts.0))

pub loop-rest-preserved : goal.loop-rest-preserved
loop-rest-preserved c =
    let parts = cut_gives 10 c.loop-rest.rest.now c.in-Some.line.now c.in-Some.more.now (sym c.in-Some.ensures) in
    let next : behind_of c.loop-rest.state c.in-Some.line.now ≡ Some c.in-Ok.next = c.in-Ok.ensures.next in
    let before = outcome_cut c.loop-rest.state c.loop-rest.number c.loop-rest.rest.now c.in-Some.line.now c.in-Some.more.now (sym c.in-Some.ensures) in (
      sym (before ∙ rw next refl) ∙ c.loop-rest.invariant.0,
      omega (arith, c.loop-rest.invariant.1, simp length-append at (ap length parts.0)),
      behind_few c.loop-rest.number c.loop-rest.state c.in-Some.line.now c.in-Ok.next c.loop-rest.invariant.2 next,
      c.in-Ok.ensures.known,
    )

pub returns-in-Between : goal.returns-in-Between
returns-in-Between c =
    let end = outcome_end c.loop-rest.state c.loop-rest.number c.loop-rest.rest.now (sym c.loop-rest-test.ensures) in
    sym c.loop-rest.invariant.0 ∙ (end ∙ rw c.in-Between.is refl)

pub returns : goal.returns
returns c =
    let end = outcome_end c.loop-rest.state c.loop-rest.number c.loop-rest.rest.now (sym c.loop-rest-test.ensures) in
    sym c.loop-rest.invariant.0 ∙ (end ∙ end_open c.loop-rest.state c.loop-rest.number c.in_default-state.not-Between)
