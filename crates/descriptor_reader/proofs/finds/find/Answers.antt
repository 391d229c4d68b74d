use Rattle.std.proofs.Common.{arith, false, sym, true, ◌+◌, ◌∙◌, ◌≡◌, ℕ}
use borrow.Author.Count.{below_more}
use Rattle.descriptor_reader.specs.Views.{entry_after, is_named}
use Rattle.descriptor_reader.proofs.ViewLaws.{entry_tests, first_is, first_none, name_known}
use Rattle.descriptor_reader.proofs.finds.find.Goals as goal

pub has_name-requires-clause-fine : goal.has_name-requires-clause-fine
has_name-requires-clause-fine c =
    let f = c.args.checked.now.file in
    name_known f.bytes.now f.directory (c.loop-before.before + 1) c.place_of_entry-entry.result c.args.checked.now.is_fine f.directory_is (omega arith) (omega (arith, f.count_is)) c.place_of_entry-entry.ensures

pub returns-then-has_name : goal.returns-then-has_name
returns-then-has_name c =
    let f = c.args.checked.now.file in
    let here = entry_tests f.bytes.now (is_named c.args.name.now) f.directory c.loop-before.before c.place_of_entry-entry.result true f.directory_is c.place_of_entry-entry.ensures (sym c.has_name.ensures ∙ c.if-has_name.true) in
    sym (first_is f.bytes.now (is_named c.args.name.now) c.loop-before.before (omega (arith, f.count_is)) c.loop-before.invariant here)

pub loop-before-preserved : goal.loop-before-preserved
loop-before-preserved c =
    let f = c.args.checked.now.file in
    below_more (λ (j : ℕ). is_named c.args.name.now (entry_after f.bytes.now j) ≡ false) c.loop-before.before c.loop-before.invariant
    (entry_tests f.bytes.now (is_named c.args.name.now) f.directory c.loop-before.before c.place_of_entry-entry.result false f.directory_is c.place_of_entry-entry.ensures (sym c.has_name.ensures ∙ c.if-has_name.false))

pub returns : goal.returns
returns c =
    let f = c.args.checked.now.file in
    sym (first_none f.bytes.now (is_named c.args.name.now) (λ j low. c.loop-before.invariant j (omega (arith, f.count_is, low))))
