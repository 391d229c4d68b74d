use Rattle.std.proofs.Common.{◌∙◌, ◌++◌, length, ap}
use Rattle.lib_model.specs.Table.{table_of}
use Rattle.made_calls.proofs.Made.{called-so, cells-of-called, entered-so, of-error, saw-whole, values-paired}
use Rattle.made_calls.proofs.making.make_call.Goals as goal

pub returns-in_err-append-clause-err : goal.returns-in_err-append-clause-err
returns-in_err-append-clause-err g c = λ state call can.
    of-error _ _ (saw-whole _ _ _ (c.in_ok-answered.ensures.saw state call can.calling.has))

pub returns-then-begun-clause-made : goal.returns-then-begun-clause-made
returns-then-begun-clause-made g c = λ state call can.
    let answered = c.in_ok-answered.answered in
    let ensures = c.in_ok-answered.ensures in
    entered-so (table_of c.args.typelib.now) c.args.stage.now state c.args.begun c.args.method.now call can
    c.answer.new.machine answered (ensures.answered state call can.calling.has) c.answer.new.rules ensures.rules
    c.args.words.now _ _ (ensures.saw state call can.calling.has) c.slot.result c.slot.ensures
    c.in_ok-text.text c.append.new.self c.in_ok-text.ensures
    (c.in_ok-append.ensures.ok ∙ ap (λ l. c.in_ok-text.text ++ l) c.as_slice.ensures) c.if-begun.true

pub bring_out-requires-clause-paired : goal.bring_out-requires-clause-paired
bring_out-requires-clause-paired g c =
    let state = c.requires.begun.0 in
    let call = c.requires.begun.1.0 in
    let can = c.requires.begun.1.1 in
    let ensures = c.in_ok-answered.ensures in
    ap length c.as_slice-values.ensures
    ∙ values-paired (table_of c.args.typelib.now) c.args.stage.now state c.args.begun c.args.method.now call can
    c.answer.new.machine c.in_ok-answered.answered (ensures.answered state call can.calling.has)
    c.answer.new.rules ensures.rules

pub bring_out-requires-clause-cells : goal.bring_out-requires-clause-cells
bring_out-requires-clause-cells g c =
    let state = c.requires.begun.0 in
    let call = c.requires.begun.1.0 in
    let can = c.requires.begun.1.1 in
    let ensures = c.in_ok-answered.ensures in
    cells-of-called (table_of c.args.typelib.now) c.args.stage.now state c.args.begun c.args.method.now call can
    c.answer.new.machine c.in_ok-answered.answered (ensures.answered state call can.calling.has)
    c.answer.new.rules ensures.rules c.if-begun.false

pub returns-in_err-bring_out-clause-err : goal.returns-in_err-bring_out-clause-err
returns-in_err-bring_out-clause-err g c = λ state call can.
    of-error _ _ (saw-whole _ _ _ (c.in_ok-answered.ensures.saw state call can.calling.has))

pub returns-clause-made : goal.returns-clause-made
returns-clause-made g c = λ state call can.
    let answered = c.in_ok-answered.answered in
    let ensures = c.in_ok-answered.ensures in
    let made = ensures.answered state call can.calling.has in
    called-so (table_of c.args.typelib.now) c.args.stage.now state c.args.begun c.args.method.now call can
    c.answer.new.machine answered made c.answer.new.rules ensures.rules
    c.args.words.now _ _ (ensures.saw state call can.calling.has) c.slot.result c.slot.ensures
    c.in_ok-text.text c.append.new.self c.in_ok-text.ensures
    (c.in_ok-append.ensures.ok ∙ ap (λ l. c.in_ok-text.text ++ l) c.as_slice.ensures) c.if-begun.false
    c.as_slice-values.result.now c.as_slice-values.ensures c.bring_out.new.stage c.bring_out.new.text
    (c.in_ok-bring_out.ensures _ made.replied.holds)
