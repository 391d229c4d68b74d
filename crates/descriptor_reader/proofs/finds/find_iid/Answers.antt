use Rattle.std.proofs.Common.{arith, false, sym, true, ◌∙◌, ◌≡◌, ℕ}
use borrow.Author.Count.{below_more}
use Rattle.descriptor_reader.specs.Views.{entry_after, has_iid}
use Rattle.descriptor_reader.proofs.ViewLaws.{entry_tests, first_is, first_none}
use Rattle.descriptor_reader.proofs.finds.find_iid.Goals as goal

pub returns-then-has_iid : goal.returns-then-has_iid
returns-then-has_iid c =
    let f = c.args.checked.now.file in
    let here = entry_tests f.bytes.now (has_iid c.args.iid.now) f.directory c.loop-before.before c.place_of_entry-entry.result true f.directory_is c.place_of_entry-entry.ensures (sym c.has_iid.ensures ∙ c.if-has_iid.true) in
    sym (first_is f.bytes.now (has_iid c.args.iid.now) c.loop-before.before (omega (arith, f.count_is)) c.loop-before.invariant here)

pub loop-before-preserved : goal.loop-before-preserved
loop-before-preserved c =
    let f = c.args.checked.now.file in
    below_more (λ (j : ℕ). has_iid c.args.iid.now (entry_after f.bytes.now j) ≡ false) c.loop-before.before c.loop-before.invariant
    (entry_tests f.bytes.now (has_iid c.args.iid.now) f.directory c.loop-before.before c.place_of_entry-entry.result false f.directory_is c.place_of_entry-entry.ensures (sym c.has_iid.ensures ∙ c.if-has_iid.false))

pub returns : goal.returns
returns c =
    let f = c.args.checked.now.file in
    sym (first_none f.bytes.now (has_iid c.args.iid.now) (λ j low. c.loop-before.invariant j (omega (arith, f.count_is, low))))
