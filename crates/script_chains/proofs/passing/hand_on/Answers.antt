use Rattle.std.proofs.Common.{◌∙◌, ◌++◌, length, option_map, ap, sym, subst}
use Rattle.std.specs.Prelude.{is_some}
use Rattle.std.specs.List.{Contains}
use Rattle.std.proofs.lemmas.Option.{same_Some}
use Rattle.invoke_by_index.specs.Methods.{prototype}
use Rattle.transcript_text.specs.Texts.{frame_text, slot_text}
use Rattle.script_calls.specs.Forwarders.{new_forwarder}
use Rattle.stub_dispatch.specs.Calls.{IsObject}
use Rattle.script_meaning.specs.Calls.{got_text}
use Rattle.script_objects.specs.Known.{kept}
use Rattle.script_chains.specs.declared.visit.Visit.{Visit}
use Rattle.script_chains.specs.Passing.{IsHandedOn}
use Rattle.script_chains.proofs.Frames.{length-received}
use Rattle.script_chains.proofs.Stops.{at-ok, is-among, is-object, left-handed, left-received, target}
use Rattle.script_chains.proofs.passing.hand_on.Goals as goal

pub unwrap-target-requires : goal.unwrap-target-requires
unwrap-target-requires c =
    let m = c.args.machine.now in
    let at = c.requires.at.1.1.1 in
    let t = target m c.args.objects.now c.args.method.now c.args.visit c.requires.at.0 c.requires.at.1.0 c.requires.at.1.1.0 at c.args.forward c.requires.forward in
    ap is_some (c.get.ensures.known m.conv c.requires.at.0 at.lawful at.known ∙ ap (option_map kept) t.object)

pub dispatch_under-requires-clause-object : goal.dispatch_under-requires-clause-object
dispatch_under-requires-clause-object c =
    let m = c.args.machine.now in
    let at = c.requires.at.1.1.1 in
    subst (Contains m.objects) (sym at.this)
    (is-among m c.requires.at.1.0.at c.args.visit.number
    (is-object m c.args.objects.now c.args.method.now c.args.visit c.requires.at.0 c.requires.at.1.0 c.requires.at.1.1.0 at))

-- the target's address; the link is a fresh one; what it did
pub got_values-requires : goal.got_values-requires
got_values-requires c =
    let m = c.args.machine.now in
    let at = c.requires.at.1.1.1 in
    let t = target m c.args.objects.now c.args.method.now c.args.visit c.requires.at.0 c.requires.at.1.0 c.requires.at.1.1.0 at c.args.forward c.requires.forward in
    let found = same_Some c.unwrap-target.result (kept t.block)
    (sym c.unwrap-target.ensures ∙ c.get.ensures.known m.conv c.requires.at.0 at.lawful at.known ∙ ap (option_map kept) t.object) in
    let object = is-object m c.args.objects.now c.args.method.now c.args.visit c.requires.at.0 c.requires.at.1.0 c.requires.at.1.1.0 at in
    let fresh = c.in_ok-link.ensures ∙ (λ i. new_forwarder (c.unwrap_or-conv.ensures i) ((found i).at) c.positions.result) in
    let handed = at-ok _ _ _ c.unwrap.ensures c.dispatch_under.ensures.called c.args.visit.number
    (subst (λ a. IsObject m a c.args.visit.number) (sym at.this) object) in
    let received = left-received m c.args.objects.now c.args.method.now c.args.visit c.requires.at.0 c.requires.at.1.0 c.requires.at.1.1.0 at c.args.forward c.requires.forward
    c.in_ok-link.link c.dispatch_under.new.callee c.dispatch_under.new.machine c.unwrap.result c.positions.result fresh (sym c.positions.ensures.length) handed in
    record {
      paired = ap length (c.received.ensures ∙ received ∙ sym at.receives)
          ∙ length-received c.args.visit.conv (prototype c.args.method.now) m.frame;
    }

pub returns-clause-handed : goal.returns-clause-handed
returns-clause-handed c = λ blocks b values at.
    let m = c.args.machine.now in
    let proto = prototype c.args.method.now in
    let told = c.args.text.now in
    let t = target m c.args.objects.now c.args.method.now c.args.visit blocks b values at c.args.forward c.requires.forward in
    let found = same_Some c.unwrap-target.result (kept t.block)
    (sym c.unwrap-target.ensures ∙ c.get.ensures.known m.conv blocks at.lawful at.known ∙ ap (option_map kept) t.object) in
    let object = is-object m c.args.objects.now c.args.method.now c.args.visit blocks b values at in
    let fresh = c.in_ok-link.ensures ∙ (λ i. new_forwarder (c.unwrap_or-conv.ensures i) ((found i).at) c.positions.result) in
    let handed = at-ok _ _ _ c.unwrap.ensures c.dispatch_under.ensures.called c.args.visit.number
    (subst (λ a. IsObject m a c.args.visit.number) (sym at.this) object) in
    let received = left-received m c.args.objects.now c.args.method.now c.args.visit blocks b values at c.args.forward c.requires.forward
    c.in_ok-link.link c.dispatch_under.new.callee c.dispatch_under.new.machine c.unwrap.result c.positions.result fresh (sym c.positions.ensures.length) handed in
    let got = c.as_slice.ensures ∙ c.in_ok-got.ensures ∙ ap (got_text proto) (c.received.ensures ∙ received) in
    let slot = c.as_slice-3.ensures ∙ c.in_ok-slot_line.ensures ∙ ap slot_text c.slot.ensures in
    let frame = c.as_slice-5.ensures ∙ c.in_ok-frame_lines.ensures ∙ (λ i. frame_text (c.unwrap_or-conv.ensures i) (c.frame.ensures i)) in
    let first = c.in_ok-append.ensures.ok ∙ ap (λ l. told ++ l) got in
    let second = c.in_ok-append-2.ensures.ok ∙ (λ i. first i ++ slot i) in
    let third = c.in_ok-append-3.ensures.ok ∙ (λ i. second i ++ frame i) in
    subst
    (λ (v : Visit). IsHandedOn m c.dispatch_under.new.machine c.args.objects.now c.args.method.now c.args.visit v blocks b values told c.append-3.new.self)
    (λ i. record { number = c.args.forward.target; conv = sym c.unwrap_or-conv.ensures i; entry = sym c.entry.ensures i })
    (left-handed m c.args.objects.now c.args.method.now c.args.visit blocks b values at c.args.forward c.requires.forward
    c.in_ok-link.link c.dispatch_under.new.callee c.dispatch_under.new.machine c.unwrap.result c.positions.result fresh (sym c.positions.ensures.length) handed
    told c.append-3.new.self third)
