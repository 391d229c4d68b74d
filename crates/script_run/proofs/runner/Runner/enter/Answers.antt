use Rattle.std.proofs.Common.{◌∙◌, [], is_some, Ok, ap, refl, sym}
use Rattle.call_scripts.specs.declared.script.Act.TheVariants as acts
use Rattle.lib_model.specs.declared.contents.Library.{Library}
use Rattle.lib_model.specs.Table.{table_of}
use Rattle.transcript_text.specs.declared.refusals.Refusal.TheVariants as refusal
use Rattle.script_meaning.specs.Members.{member_named}
use Rattle.script_meaning.specs.Refusing.{◌then◌}
use Rattle.script_meaning.specs.State.{named}
use Rattle.script_meaning.specs.Step.{made_by, outcome}
use Rattle.script_members.specs.Remembered.{shown}
use Rattle.script_stage.proofs.Targets.{named-none, named-some}
use Rattle.begun_calls.specs.Calling.{enter_begun}
use Rattle.made_calls.proofs.Begun.{enter-can}
use Rattle.script_run.specs.Runners.{table_in}
use Rattle.script_run.proofs.Called.{enter-no-member, enter-no-name, enter-so}
use Rattle.script_run.proofs.Coming.{comes-cut, comes-refused, hands-refused, made-cut, made-did, not-entered}
use Rattle.script_run.proofs.runner.Runner.enter.Goals as goal

pub returns-then-is_none-clause-comes : goal.returns-then-is_none-clause-comes
returns-then-is_none-clause-comes g c =
    let table = table_in c.args.self.now in
    let stage = c.args.self.now.stage in
    let conv = stage.machine.conv in
    comes-refused table (λ state. outcome table conv state (acts.Enter c.args.name.now c.args.member.now c.args.items.now))
    stage stage (g.B.Bench.seen c.args.bench.now) refusal.NoName refl
    (λ state at. (
      enter-no-name table conv state c.args.name.now c.args.member.now c.args.items.now
          (named-none (named state c.args.name.now)
          (ap is_some (sym (c.named.ensures state at.stands)) ∙ c.if-is_none.ensures)),
      at,
    ))

pub returns-in_err-found-clause-comes : goal.returns-in_err-found-clause-comes
returns-in_err-found-clause-comes g c =
    let table = table_in c.args.self.now in
    let stage = c.args.self.now.stage in
    let conv = stage.machine.conv in
    let lib = c.in_ok-remember.ensures.library ∙ c.requires.members in
    hands-refused table (λ state. outcome table conv state (acts.Enter c.args.name.now c.args.member.now c.args.items.now))
    stage stage (g.B.Bench.seen c.args.bench.now) c.from_residual-in_err-found.result
    c.in_err-found.field-0.0 c.from_residual-in_err-found.ensures.1 refl
    (λ state at.
    let b = named-some (named state c.args.name.now)
    (ap is_some (sym (c.named.ensures state at.stands)) ∙ c.if-is_none.ensures) in (
      enter-no-member table conv state c.args.name.now c.args.member.now c.args.items.now b.block
          c.in_err-found.field-0.0 b.is
          (ap (λ (l : Library). member_named (table_of l) c.args.member.now) (sym lib) ∙ c.in_err-found.ensures.member),
      at,
    ))

pub returns-in_err-begun-clause-comes : goal.returns-in_err-begun-clause-comes
returns-in_err-begun-clause-comes g c =
    let table = table_in c.args.self.now in
    let stage = c.args.self.now.stage in
    let conv = stage.machine.conv in
    let lib = c.in_ok-remember.ensures.library ∙ c.requires.members in
    let m = shown c.in_ok-found.found.now in
    let name = c.args.name.now in
    not-entered table (λ state. enter_begun table conv state name c.as_slice.result.now m)
    (λ state. outcome table conv state (acts.Enter name c.args.member.now c.args.items.now))
    stage c.begin_enter.new.stage c.in_ok-found.found.now.method (g.B.Bench.seen c.args.bench.now)
    c.from_residual-in_err-begun.result
    c.in_err-begun.field-0.0 c.from_residual-in_err-begun.ensures.1 c.in_err-begun.ensures
    (λ state at r is.
    let b = named-some (named state name)
    (ap is_some (sym (c.named.ensures state at.stands)) ∙ c.if-is_none.ensures) in
    enter-so table conv state name c.args.member.now c.args.items.now c.as_slice.result.now b.block m b.is
    c.as_slice.ensures
    (ap (λ (l : Library). member_named (table_of l) c.args.member.now) (sym lib) ∙ c.in_ok-found.ensures.member)
    ∙ ap (λ begins. begins then λ call. Ok (made_by table conv state [] call)) is)

pub make_call-requires : goal.make_call-requires
make_call-requires g c =
    let table = table_in c.args.self.now in
    let stage = c.args.self.now.stage in
    let state = c.requires.at.0 in
    let has = c.in_ok-begun.ensures state c.requires.at.1 in
    record {
      begun = (
        state,
        (
          has.call,
          enter-can table stage.machine.conv stage c.begin_enter.new.stage state c.in_ok-begun.begun
              c.in_ok-found.found.now.method c.args.name.now c.as_slice.result.now (shown c.in_ok-found.found.now) has,
        ),
      );
    }

pub returns-in_err-text-clause-comes : goal.returns-in_err-text-clause-comes
returns-in_err-text-clause-comes g c =
    let table = table_in c.args.self.now in
    let stage = c.args.self.now.stage in
    let conv = stage.machine.conv in
    let mid = c.begin_enter.new.stage in
    let lib = c.in_ok-remember.ensures.library ∙ c.requires.members in
    let m = shown c.in_ok-found.found.now in
    let method = c.in_ok-found.found.now.method in
    let name = c.args.name.now in
    let before = g.B.Bench.seen c.args.bench.now in
    let after = g.B.Bench.seen c.make_call.new.bench in
    comes-cut table (λ state. outcome table conv state (acts.Enter name c.args.member.now c.args.items.now))
    stage c.make_call.new.stage before after c.from_residual-in_err-text.result
    c.from_residual-in_err-text.ensures.1
    (λ state at.
    let has = c.in_ok-begun.ensures state at in
    let can = enter-can table conv stage mid state c.in_ok-begun.begun method name c.as_slice.result.now m has in
    let b = named-some (named state name)
    (ap is_some (sym (c.named.ensures state at.stands)) ∙ c.if-is_none.ensures) in
    let so = enter-so table conv state name c.args.member.now c.args.items.now c.as_slice.result.now b.block m b.is
    c.as_slice.ensures
    (ap (λ (l : Library). member_named (table_of l) c.args.member.now) (sym lib) ∙ c.in_ok-found.ensures.member) in
    made-cut table stage mid state c.in_ok-begun.begun method (enter_begun table conv state name c.as_slice.result.now m)
    (outcome table conv state (acts.Enter name c.args.member.now c.args.items.now)) [] has so before after
    (c.in_err-text.ensures.err state has.call can))

pub returns-clause-comes : goal.returns-clause-comes
returns-clause-comes g c = λ state at.
    let table = table_in c.args.self.now in
    let stage = c.args.self.now.stage in
    let conv = stage.machine.conv in
    let mid = c.begin_enter.new.stage in
    let lib = c.in_ok-remember.ensures.library ∙ c.requires.members in
    let m = shown c.in_ok-found.found.now in
    let method = c.in_ok-found.found.now.method in
    let name = c.args.name.now in
    let before = g.B.Bench.seen c.args.bench.now in
    let after = g.B.Bench.seen c.make_call.new.bench in
    let has = c.in_ok-begun.ensures state at in
    let can = enter-can table conv stage mid state c.in_ok-begun.begun method name c.as_slice.result.now m has in
    let b = named-some (named state name)
    (ap is_some (sym (c.named.ensures state at.stands)) ∙ c.if-is_none.ensures) in
    let so = enter-so table conv state name c.args.member.now c.args.items.now c.as_slice.result.now b.block m b.is
    c.as_slice.ensures
    (ap (λ (l : Library). member_named (table_of l) c.args.member.now) (sym lib) ∙ c.in_ok-found.ensures.member) in
    made-did table stage mid c.make_call.new.stage state c.in_ok-begun.begun method
    (enter_begun table conv state name c.as_slice.result.now m)
    (outcome table conv state (acts.Enter name c.args.member.now c.args.items.now)) [] has so before after c.in_ok-text.text
    (c.in_ok-text.ensures.made state has.call can)
