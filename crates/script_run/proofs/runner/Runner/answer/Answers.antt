use Rattle.std.proofs.Common.{◌∙◌, None, Some, ap, sym}
use Rattle.script_meaning.specs.Step.{new_context, new_data, new_forwarder, new_object, new_rule, outcome, poked, shown_block, shown_variable}
use Rattle.script_run.specs.Runners.{table_in}
use Rattle.script_run.proofs.Quietly.{quietly}
use Rattle.script_run.proofs.runner.Runner.answer.Goals as goal

pub returns-in-Block-clause-comes : goal.returns-in-Block-clause-comes
unfolding outcome
returns-in-Block-clause-comes g c =
    let table = table_in c.args.self.now in
    let stage = c.args.self.now.stage in
    let conv = stage.machine.conv in
    quietly table (λ state. new_data conv state c.as_slice.result.now c.in-Block.fill)
    (λ state. outcome table conv state c.args.act.now)
    stage c.add_data.new.stage (g.B.Bench.seen c.args.bench.now) c.add_data.result
    (λ state. ap (outcome table conv state) c.in-Block.is ∙ (λ j. new_data conv state (sym c.as_slice.ensures j) c.in-Block.fill))
    c.add_data.ensures

pub returns-in-Object-clause-comes : goal.returns-in-Object-clause-comes
unfolding outcome
returns-in-Object-clause-comes g c =
    let table = table_in c.args.self.now in
    let stage = c.args.self.now.stage in
    let conv = stage.machine.conv in
    quietly table (λ state. new_object table conv state c.as_slice-in-Object.result.now c.as_slice-in-Object-2.result.now)
    (λ state. outcome table conv state c.args.act.now)
    stage c.add_object.new.stage (g.B.Bench.seen c.args.bench.now) c.add_object.result
    (λ state. ap (outcome table conv state) c.in-Object.is
    ∙ (λ j. new_object table conv state (sym c.as_slice-in-Object.ensures j) (sym c.as_slice-in-Object-2.ensures j)))
    c.add_object.ensures

pub returns-in-Proxy-clause-comes : goal.returns-in-Proxy-clause-comes
unfolding outcome
returns-in-Proxy-clause-comes g c =
    let table = table_in c.args.self.now in
    let stage = c.args.self.now.stage in
    let conv = stage.machine.conv in
    quietly table (λ state. new_forwarder conv state c.as_slice-in-Proxy.result.now c.as_slice-in-Proxy-2.result.now None)
    (λ state. outcome table conv state c.args.act.now)
    stage c.add_forwarder.new.stage (g.B.Bench.seen c.args.bench.now) c.add_forwarder.result
    (λ state. ap (outcome table conv state) c.in-Proxy.is
    ∙ (λ j. new_forwarder conv state (sym c.as_slice-in-Proxy.ensures j) (sym c.as_slice-in-Proxy-2.ensures j) None))
    c.add_forwarder.ensures

pub returns-in-Bridge-clause-comes : goal.returns-in-Bridge-clause-comes
unfolding outcome
returns-in-Bridge-clause-comes g c =
    let table = table_in c.args.self.now in
    let stage = c.args.self.now.stage in
    let conv = stage.machine.conv in
    quietly table (λ state. new_forwarder conv state c.as_slice-in-Bridge.result.now c.as_slice-in-Bridge-2.result.now (Some c.in-Bridge.conv))
    (λ state. outcome table conv state c.args.act.now)
    stage c.add_forwarder-in-Bridge.new.stage (g.B.Bench.seen c.args.bench.now) c.add_forwarder-in-Bridge.result
    (λ state. ap (outcome table conv state) c.in-Bridge.is
    ∙ (λ j. new_forwarder conv state (sym c.as_slice-in-Bridge.ensures j) (sym c.as_slice-in-Bridge-2.ensures j) (Some c.in-Bridge.conv)))
    c.add_forwarder-in-Bridge.ensures

pub returns-in-Reply-clause-comes : goal.returns-in-Reply-clause-comes
unfolding outcome
returns-in-Reply-clause-comes g c =
    let table = table_in c.args.self.now in
    let stage = c.args.self.now.stage in
    let conv = stage.machine.conv in
    quietly table (λ state. new_rule table state c.as_slice-in-Reply.result.now c.in-Reply.member c.as_slice-in-Reply-2.result.now)
    (λ state. outcome table conv state c.args.act.now)
    stage c.reply.new.self.stage (g.B.Bench.seen c.args.bench.now) c.reply.result
    (λ state. ap (outcome table conv state) c.in-Reply.is
    ∙ (λ j. new_rule table state (sym c.as_slice-in-Reply.ensures j) c.in-Reply.member (sym c.as_slice-in-Reply-2.ensures j)))
    c.reply.ensures.does

pub returns-in-ShowBlock-clause-comes : goal.returns-in-ShowBlock-clause-comes
unfolding outcome
returns-in-ShowBlock-clause-comes g c =
    let table = table_in c.args.self.now in
    let stage = c.args.self.now.stage in
    let conv = stage.machine.conv in
    quietly table (λ state. shown_block state c.as_slice-in-ShowBlock.result.now)
    (λ state. outcome table conv state c.args.act.now)
    stage stage (g.B.Bench.seen c.args.bench.now) c.show_block.result
    (λ state. ap (outcome table conv state) c.in-ShowBlock.is ∙ (λ j. shown_block state (sym c.as_slice-in-ShowBlock.ensures j)))
    c.show_block.ensures

pub returns-in-ShowValue-clause-comes : goal.returns-in-ShowValue-clause-comes
unfolding outcome
returns-in-ShowValue-clause-comes g c =
    let table = table_in c.args.self.now in
    let stage = c.args.self.now.stage in
    let conv = stage.machine.conv in
    quietly table (λ state. shown_variable state c.as_slice-in-ShowValue.result.now)
    (λ state. outcome table conv state c.args.act.now)
    stage stage (g.B.Bench.seen c.args.bench.now) c.show_variable.result
    (λ state. ap (outcome table conv state) c.in-ShowValue.is ∙ (λ j. shown_variable state (sym c.as_slice-in-ShowValue.ensures j)))
    c.show_variable.ensures

pub returns-in-Poke-clause-comes : goal.returns-in-Poke-clause-comes
unfolding outcome
returns-in-Poke-clause-comes g c =
    let table = table_in c.args.self.now in
    let stage = c.args.self.now.stage in
    let conv = stage.machine.conv in
    quietly table (λ state. poked state c.as_slice-in-Poke.result.now c.in-Poke.offset c.as_slice-in-Poke-2.result.now)
    (λ state. outcome table conv state c.args.act.now)
    stage c.poke.new.stage (g.B.Bench.seen c.args.bench.now) c.poke.result
    (λ state. ap (outcome table conv state) c.in-Poke.is
    ∙ (λ j. poked state (sym c.as_slice-in-Poke.ensures j) c.in-Poke.offset (sym c.as_slice-in-Poke-2.ensures j)))
    c.poke.ensures

pub returns-in-Context-clause-comes : goal.returns-in-Context-clause-comes
unfolding outcome
returns-in-Context-clause-comes g c =
    let table = table_in c.args.self.now in
    let stage = c.args.self.now.stage in
    let conv = stage.machine.conv in
    quietly table (λ state. new_context conv state c.in-Context.value)
    (λ state. outcome table conv state c.args.act.now)
    stage c.set_context.new.stage (g.B.Bench.seen c.args.bench.now) c.set_context.result
    (λ state. ap (outcome table conv state) c.in-Context.is)
    c.set_context.ensures
