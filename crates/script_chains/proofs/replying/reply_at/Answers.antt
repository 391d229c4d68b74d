use Rattle.std.proofs.Common.{◌∙◌, ◌++◌, length, ap, refl, sym, subst}
use Rattle.std.proofs.lemmas.List.{append_assoc}
use Rattle.invoke_by_index.specs.Methods.{prototype}
use Rattle.stub_dispatch.specs.Calls.{IsObject}
use Rattle.call_replies.specs.Repliers.{new_replier}
use Rattle.script_objects.specs.Ruling.{known_rules}
use Rattle.script_chains.proofs.Frames.{length-received}
use Rattle.script_meaning.specs.Calls.{got_text}
use Rattle.transcript_text.specs.Texts.{result_text}
use Rattle.script_objects.specs.Ruling.{without}
use Rattle.script_chains.specs.Replying.{given_back}
use Rattle.script_chains.proofs.Replied.{keeps-rest, keeps-rule, keeps-values, makes-reply, whole-again}
use Rattle.script_chains.proofs.Stops.{at-ok}
use Rattle.script_chains.proofs.replying.reply_at.Goals as goal

pub got_values-requires : goal.got_values-requires
got_values-requires c =
    let m = c.args.machine.now in
    let rules = c.args.rules.now in
    let at = c.requires.at.1.1.1 in
    let rule = c.take-rule.ensures.rule ∙ ap (known_rules rules c.args.visit.number) c.slot.ensures in
    let fresh = c.in_ok-replier.ensures ∙ ap (λ r. new_replier c.args.entered r c.positions.result) rule in
    let reacts = at-ok _ _ _ c.unwrap-result.ensures c.dispatch_under.ensures.called c.args.visit.number
    (subst (λ a. IsObject m a c.args.visit.number) (sym at.this) at.object) in
    let received = keeps-values m rules c.args.method.now c.args.visit c.args.entered c.requires.at.0 c.requires.at.1.0 c.requires.at.1.1.0 at
    c.in_ok-replier.replier c.dispatch_under.new.callee c.dispatch_under.new.machine c.unwrap-result.result c.positions.result
    fresh (sym c.positions.ensures.length) reacts in
    record {
      paired = ap length (c.as_slice.ensures ∙ c.in_ok-values.ensures ∙ c.received.ensures ∙ received ∙ sym at.receives)
          ∙ length-received c.args.visit.conv (prototype c.args.method.now) m.frame;
    }

pub returns-clause-replied : goal.returns-clause-replied
returns-clause-replied c = λ blocks b values at.
    let m = c.args.machine.now in
    let rules = c.args.rules.now in
    let proto = prototype c.args.method.now in
    let rule = c.take-rule.ensures.rule ∙ ap (known_rules rules c.args.visit.number) c.slot.ensures in
    let fresh = c.in_ok-replier.ensures ∙ ap (λ r. new_replier c.args.entered r c.positions.result) rule in
    let reacts = at-ok _ _ _ c.unwrap-result.ensures c.dispatch_under.ensures.called c.args.visit.number
    (subst (λ a. IsObject m a c.args.visit.number) (sym at.this) at.object) in
    let received = c.in_ok-values.ensures ∙ c.received.ensures
    ∙ keeps-values m rules c.args.method.now c.args.visit c.args.entered blocks b values at
    c.in_ok-replier.replier c.dispatch_under.new.callee c.dispatch_under.new.machine c.unwrap-result.result c.positions.result
    fresh (sym c.positions.ensures.length) reacts in
    let got = c.as_slice-2.ensures ∙ c.in_ok-got.ensures ∙ ap (got_text proto) (c.as_slice.ensures ∙ received) in
    let line = c.as_slice-3.ensures ∙ c.in_ok-line.ensures in
    let first = c.in_ok-append.ensures.ok ∙ ap (λ l. c.args.text ++ l) got in
    record {
      replied = makes-reply m rules c.args.method.now c.args.visit c.args.entered blocks b values at
          c.in_ok-replier.replier c.dispatch_under.new.callee c.dispatch_under.new.machine c.unwrap-result.result c.positions.result
          fresh (sym c.positions.ensures.length) reacts;
      rest_stays = keeps-rest m rules c.args.method.now c.args.visit c.args.entered blocks b values at
          c.in_ok-replier.replier c.dispatch_under.new.callee c.dispatch_under.new.machine c.unwrap-result.result c.positions.result
          fresh (sym c.positions.ensures.length) reacts;
      values_are = received;
      text = c.in_ok-append-2.ensures.ok
          ∙ (λ i. first i ++ line i)
          ∙ append_assoc c.args.text (got_text proto values) (result_text c.unwrap-result.result);
    }

pub returns-clause-rules : goal.returns-clause-rules
returns-clause-rules c =
    let m = c.args.machine.now in
    let rules = c.args.rules.now in
    let number = c.args.visit.number in
    let at = c.requires.at.1.1.1 in
    let rule = c.take-rule.ensures.rule ∙ ap (known_rules rules number) c.slot.ensures in
    let fresh = c.in_ok-replier.ensures ∙ ap (λ r. new_replier c.args.entered r c.positions.result) rule in
    let reacts = at-ok _ _ _ c.unwrap-result.ensures c.dispatch_under.ensures.called number
    (subst (λ a. IsObject m a number) (sym at.this) at.object) in
    let kept = c.into_rule.ensures
    ∙ keeps-rule m rules c.args.method.now c.args.visit c.args.entered c.requires.at.0 c.requires.at.1.0 c.requires.at.1.1.0 at
    c.in_ok-replier.replier c.dispatch_under.new.callee c.dispatch_under.new.machine c.unwrap-result.result c.positions.result
    fresh (sym c.positions.ensures.length) reacts in
    let left = c.take-rule.ensures.left ∙ ap (without (known_rules rules) number) c.slot.ensures in
    c.in_ok-put_back.ensures
    ∙ (λ i. given_back (left i) number (c.slot-2.ensures i) (kept i))
    ∙ whole-again (known_rules rules) number c.args.method.now.slot (known_rules rules number c.args.method.now.slot) refl
