use Rattle.std.proofs.Common.{List, None, Some, ap, arith, sym, ◌∙◌, ◌≡◌}
use Rattle.std.specs.List.{position}
use Rattle.lib_model.specs.declared.contents.Method.{Method}
use Rattle.lib_model.specs.Table.{methods_in}
use Rattle.lib_model.specs.Valid.{body_of}
use Rattle.std.specs.Prelude.{slice_get}
use Rattle.typelib_faults.specs.Places.{entries_of, method_at}
use Rattle.descriptor_reader.proofs.SearchLaws.{is_wanted, own_is, searching_ended, searching_found, searching_on, searching_over, searching_split}
use Rattle.descriptor_reader.proofs.ViewLaws.{directory_known}
use Rattle.descriptor_reader.proofs.members.member.Goals as goal

pub returns-then-at-eq0-clause-slot : goal.returns-then-at-eq0-clause-slot
returns-then-at-eq0-clause-slot c = sym (searching_ended c.loop.invariant c.if-at-eq0.true)

pub overflow_sub-end : goal.overflow_sub-end
overflow_sub-end c =
    let x = c.args.checked.now.file.bytes.now in
    let m = c.own_methods-methods in
    let own = own_is x m.result.from.place m.result.count (entries_of x) c.loop.at m.ensures.are in
    omega (arith, searching_split m.result.count c.loop.invariant (omega arith) c.if-at-eq0.false own)

pub returns-in-Some-clause-slot : goal.returns-in-Some-clause-slot
returns-in-Some-clause-slot c =
    let x = c.args.checked.now.file.bytes.now in
    let m = c.own_methods-methods in
    let own = own_is x m.result.from.place m.result.count (entries_of x) c.loop.at m.ensures.are in
    let first : position (is_wanted c.args.kind c.args.name.now) (methods_in (body_of (entries_of x) c.loop.at)) ≡ Some c.in-Some.found.slot = ap (position (is_wanted c.args.kind c.args.name.now)) (sym m.ensures.are) ∙ sym c.in-Some.ensures.first in
    let there : slice_get (methods_in (body_of (entries_of x) c.loop.at)) c.in-Some.found.slot ≡ Some (method_at x c.in-Some.found.at.place) = ap (λ (ms : List Method). slice_get ms c.in-Some.found.slot) (sym m.ensures.are) ∙ c.in-Some.ensures.method in
    (searching_found m.result.count c.in-Some.found.slot (method_at x c.in-Some.found.at.place) c.loop.invariant (omega arith) c.if-at-eq0.false own first there).0

pub returns-in-Some-clause-method : goal.returns-in-Some-clause-method
returns-in-Some-clause-method c =
    let x = c.args.checked.now.file.bytes.now in
    let m = c.own_methods-methods in
    let own = own_is x m.result.from.place m.result.count (entries_of x) c.loop.at m.ensures.are in
    let first : position (is_wanted c.args.kind c.args.name.now) (methods_in (body_of (entries_of x) c.loop.at)) ≡ Some c.in-Some.found.slot = ap (position (is_wanted c.args.kind c.args.name.now)) (sym m.ensures.are) ∙ sym c.in-Some.ensures.first in
    let there : slice_get (methods_in (body_of (entries_of x) c.loop.at)) c.in-Some.found.slot ≡ Some (method_at x c.in-Some.found.at.place) = ap (λ (ms : List Method). slice_get ms c.in-Some.found.slot) (sym m.ensures.are) ∙ c.in-Some.ensures.method in
    (searching_found m.result.count c.in-Some.found.slot (method_at x c.in-Some.found.at.place) c.loop.invariant (omega arith) c.if-at-eq0.false own first there).1

pub links-at-requires-clause-fine : goal.links-at-requires-clause-fine
links-at-requires-clause-fine c = directory_known c.args.checked.now.file.bytes.now c.args.checked.now.is_fine

pub loop-preserved : goal.loop-preserved
loop-preserved c =
    let x = c.args.checked.now.file.bytes.now in
    let m = c.own_methods-methods in
    let own = own_is x m.result.from.place m.result.count (entries_of x) c.loop.at m.ensures.are in
    let missing : position (is_wanted c.args.kind c.args.name.now) (methods_in (body_of (entries_of x) c.loop.at)) ≡ None = ap (position (is_wanted c.args.kind c.args.name.now)) (sym m.ensures.are) ∙ sym c.in-None.ensures.first in
    searching_on c.links-at.result.0 m.result.count c.loop.invariant (omega arith) c.if-at-eq0.false c.links-at.ensures.parent own c.links-at.ensures.within missing

pub returns-clause-slot : goal.returns-clause-slot
returns-clause-slot c = sym (searching_over c.loop.invariant (omega arith))
