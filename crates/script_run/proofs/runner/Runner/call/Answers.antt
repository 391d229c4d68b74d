use Rattle.std.proofs.Common.{◌∙◌, List, Ok, ap, of_z, refl, rules, subst, sym, to_z}
use Rattle.std.specs.Int.{w128}
use Rattle.std.proofs.lemmas.Int.{to_z-of_z}
use Rattle.call_scripts.specs.declared.script.Act.TheVariants as acts
use Rattle.call_scripts.specs.declared.script.ArgWord.{ArgWord}
use Rattle.lib_model.specs.declared.contents.Library.{Library}
use Rattle.lib_model.specs.Table.{table_of}
use Rattle.machine_bench.specs.Seen.{SawPrefix}
use Rattle.transcript_text.specs.declared.refusals.Refusal.TheVariants as refusal
use Rattle.script_meaning.specs.Members.{member_named}
use Rattle.script_meaning.specs.Refusing.{◌then◌}
use Rattle.script_meaning.specs.Step.{made_by, outcome}
use Rattle.script_meaning.specs.Words.{args_of}
use Rattle.script_members.specs.Remembered.{shown}
use Rattle.begun_calls.specs.Calling.{call_begun}
use Rattle.made_calls.specs.Making.{IsMade}
use Rattle.made_calls.proofs.Begun.{call-can}
use Rattle.script_run.specs.Runners.{table_in}
use Rattle.script_run.proofs.Called.{call-no-args, call-no-member, call-no-target, call-so}
use Rattle.script_run.proofs.Coming.{comes-cut, comes-refused, hands-refused, made-cut, made-did}
use Rattle.script_run.proofs.runner.Runner.call.Goals as goal

pub returns-in_default-clause-comes : goal.returns-in_default-clause-comes
returns-in_default-clause-comes g c =
    let table = table_in c.args.self.now in
    let stage = c.args.self.now.stage in
    let conv = stage.machine.conv in
    comes-refused table (λ state. outcome table conv state (acts.Call c.args.target.now c.args.member.now c.args.words.now))
    stage stage (g.B.Bench.seen c.args.bench.now) refusal.NoName refl
    (λ state at. (
      call-no-target table conv state c.args.target.now c.args.member.now c.args.words.now
          (sym (c.number_of_target.ensures state at.stands) ∙ c.in_default.is),
      at,
    ))

pub returns-in_default-2-clause-comes : goal.returns-in_default-2-clause-comes
returns-in_default-2-clause-comes g c =
    let table = table_in c.args.self.now in
    let stage = c.args.self.now.stage in
    let conv = stage.machine.conv in
    comes-refused table (λ state. outcome table conv state (acts.Call c.args.target.now c.args.member.now c.args.words.now))
    stage stage (g.B.Bench.seen c.args.bench.now) refusal.NoName refl
    (λ state at. (
      call-no-args table conv state c.args.target.now c.args.member.now c.args.words.now c.in-Some.this
          (sym (c.number_of_target.ensures state at.stands) ∙ c.in-Some.is)
          (ap (args_of state) (sym c.as_slice.ensures) ∙ sym (c.in_ok-args.ensures state at.stands) ∙ c.in_default-2.is),
      at,
    ))

pub returns-in_err-found-clause-comes : goal.returns-in_err-found-clause-comes
returns-in_err-found-clause-comes g c =
    let table = table_in c.args.self.now in
    let stage = c.args.self.now.stage in
    let conv = stage.machine.conv in
    let lib = c.in_ok-remember.ensures.library ∙ c.requires.members in
    hands-refused table (λ state. outcome table conv state (acts.Call c.args.target.now c.args.member.now c.args.words.now))
    stage stage (g.B.Bench.seen c.args.bench.now) c.from_residual-in_err-found.result
    c.in_err-found.field-0.0 c.from_residual-in_err-found.ensures.1 refl
    (λ state at. (
      call-no-member table conv state c.args.target.now c.args.member.now c.args.words.now c.in-Some.this c.in-Some-2.args
          c.in_err-found.field-0.0
          (sym (c.number_of_target.ensures state at.stands) ∙ c.in-Some.is)
          (ap (args_of state) (sym c.as_slice.ensures) ∙ sym (c.in_ok-args.ensures state at.stands) ∙ c.in-Some-2.is)
          (ap (λ (l : Library). member_named (table_of l) c.args.member.now) (sym lib) ∙ c.in_err-found.ensures.member),
      at,
    ))

pub returns-in_err-begun-clause-comes : goal.returns-in_err-begun-clause-comes
returns-in_err-begun-clause-comes g c =
    let table = table_in c.args.self.now in
    let stage = c.args.self.now.stage in
    let conv = stage.machine.conv in
    let lib = c.in_ok-remember.ensures.library ∙ c.requires.members in
    let m = shown c.in_ok-found.found.now in
    let passed = to_z w128 (of_z w128 c.in-Some.this) in
    let words = c.args.words.now in
    hands-refused table (λ state. outcome table conv state (acts.Call c.args.target.now c.args.member.now words))
    stage c.begin_call.new.stage (g.B.Bench.seen c.args.bench.now) c.from_residual-in_err-begun.result
    c.in_err-begun.field-0.0 c.from_residual-in_err-begun.ensures.1 c.in_err-begun.ensures.0
    (λ state at. (
      call-so table conv state c.args.target.now c.args.member.now words c.in-Some.this passed c.in-Some-2.args
          c.as_slice-2.result.now m
          (sym (c.number_of_target.ensures state at.stands) ∙ c.in-Some.is)
          (to_z-of_z w128 c.in-Some.this (search rules))
          (ap (args_of state) (sym c.as_slice.ensures) ∙ sym (c.in_ok-args.ensures state at.stands) ∙ c.in-Some-2.is)
          c.as_slice-2.ensures
          (ap (λ (l : Library). member_named (table_of l) c.args.member.now) (sym lib) ∙ c.in_ok-found.ensures.member)
          ∙ ap (λ begins. begins then λ call. Ok (made_by table conv state words call)) (c.in_err-begun.ensures.1 state at).0,
      (c.in_err-begun.ensures.1 state at).1,
    ))

pub make_call-requires : goal.make_call-requires
make_call-requires g c =
    let table = table_in c.args.self.now in
    let stage = c.args.self.now.stage in
    let state = c.requires.at.0 in
    let passed = to_z w128 (of_z w128 c.in-Some.this) in
    let has = c.in_ok-begun.ensures state c.requires.at.1 in
    record {
      begun = (
        state,
        (
          has.call,
          call-can table stage.machine.conv stage c.begin_call.new.stage state c.in_ok-begun.begun
              c.in_ok-found.found.now.method passed c.as_slice-2.result.now (shown c.in_ok-found.found.now) has,
        ),
      );
    }

pub returns-in_err-text-clause-comes : goal.returns-in_err-text-clause-comes
returns-in_err-text-clause-comes g c =
    let table = table_in c.args.self.now in
    let stage = c.args.self.now.stage in
    let conv = stage.machine.conv in
    let mid = c.begin_call.new.stage in
    let lib = c.in_ok-remember.ensures.library ∙ c.requires.members in
    let m = shown c.in_ok-found.found.now in
    let passed = to_z w128 (of_z w128 c.in-Some.this) in
    let method = c.in_ok-found.found.now.method in
    let words = c.args.words.now in
    let before = g.B.Bench.seen c.args.bench.now in
    let after = g.B.Bench.seen c.make_call.new.bench in
    comes-cut table (λ state. outcome table conv state (acts.Call c.args.target.now c.args.member.now words))
    stage c.make_call.new.stage before after c.from_residual-in_err-text.result
    c.from_residual-in_err-text.ensures.1
    (λ state at.
    let has = c.in_ok-begun.ensures state at in
    let can = call-can table conv stage mid state c.in_ok-begun.begun method passed c.as_slice-2.result.now m has in
    let so = call-so table conv state c.args.target.now c.args.member.now words c.in-Some.this passed c.in-Some-2.args
    c.as_slice-2.result.now m
    (sym (c.number_of_target.ensures state at.stands) ∙ c.in-Some.is)
    (to_z-of_z w128 c.in-Some.this (search rules))
    (ap (args_of state) (sym c.as_slice.ensures) ∙ sym (c.in_ok-args.ensures state at.stands) ∙ c.in-Some-2.is)
    c.as_slice-2.ensures
    (ap (λ (l : Library). member_named (table_of l) c.args.member.now) (sym lib) ∙ c.in_ok-found.ensures.member) in
    made-cut table stage mid state c.in_ok-begun.begun method (call_begun table conv state passed c.as_slice-2.result.now m)
    (outcome table conv state (acts.Call c.args.target.now c.args.member.now words)) words has so before after
    (subst (λ (ws : List ArgWord). SawPrefix before after (made_by table mid.machine.conv state ws has.call).sights)
    c.as_slice-3.ensures (c.in_err-text.ensures.err state has.call can)))

pub returns-clause-comes : goal.returns-clause-comes
returns-clause-comes g c = λ state at.
    let table = table_in c.args.self.now in
    let stage = c.args.self.now.stage in
    let conv = stage.machine.conv in
    let mid = c.begin_call.new.stage in
    let lib = c.in_ok-remember.ensures.library ∙ c.requires.members in
    let m = shown c.in_ok-found.found.now in
    let passed = to_z w128 (of_z w128 c.in-Some.this) in
    let method = c.in_ok-found.found.now.method in
    let words = c.args.words.now in
    let before = g.B.Bench.seen c.args.bench.now in
    let after = g.B.Bench.seen c.make_call.new.bench in
    let has = c.in_ok-begun.ensures state at in
    let can = call-can table conv stage mid state c.in_ok-begun.begun method passed c.as_slice-2.result.now m has in
    let so = call-so table conv state c.args.target.now c.args.member.now words c.in-Some.this passed c.in-Some-2.args
    c.as_slice-2.result.now m
    (sym (c.number_of_target.ensures state at.stands) ∙ c.in-Some.is)
    (to_z-of_z w128 c.in-Some.this (search rules))
    (ap (args_of state) (sym c.as_slice.ensures) ∙ sym (c.in_ok-args.ensures state at.stands) ∙ c.in-Some-2.is)
    c.as_slice-2.ensures
    (ap (λ (l : Library). member_named (table_of l) c.args.member.now) (sym lib) ∙ c.in_ok-found.ensures.member) in
    made-did table stage mid c.make_call.new.stage state c.in_ok-begun.begun method
    (call_begun table conv state passed c.as_slice-2.result.now m)
    (outcome table conv state (acts.Call c.args.target.now c.args.member.now words)) words has so before after c.in_ok-text.text
    (subst (λ (ws : List ArgWord). IsMade mid c.make_call.new.stage before after c.in_ok-text.text (made_by table mid.machine.conv state ws has.call))
    c.as_slice-3.ensures (c.in_ok-text.ensures.made state has.call can))
