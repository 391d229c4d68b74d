use Rattle.std.proofs.Common.{◌≡◌, ◌∙◌, ◌<◌, ◌≤◌, true, false, is_some, nat_lt, ap, sym, arith}
use Rattle.std.proofs.lemmas.Grind.{common_steps}
use Rattle.proxy_objects.specs.declared.forwards.TheConstants.{MOST_FORWARDERS}
use Rattle.script_meaning.specs.Chain.{chain_of, depth}
use Rattle.script_meaning.specs.State.{named}
use Rattle.script_meaning.specs.Step.{has_depth, joins}
use Rattle.script_stage.proofs.Targets.{an-object, its-number, kept-none, kept-some, named-numbered, not-object-by, target-data, target-depth, target-found, target-taken, target-unnamed, target-word}
use Rattle.script_stage.proofs.stages.Stage.forwarder_target.Goals as goal

pub returns-then-is_some : goal.returns-then-is_some
returns-then-is_some c = λ state stands.
    target-taken c.args.self.now.machine.conv state c.args.name.now c.args.target.now c.args.own
    (ap is_some (sym (c.named.ensures state stands)) ∙ sym c.if-is_some.ensures)

pub returns-in_default : goal.returns-in_default
returns-in_default c = λ state stands.
    target-unnamed c.args.self.now.machine.conv state c.args.name.now c.args.target.now c.args.own
    (ap is_some (sym (c.named.ensures state stands)) ∙ sym c.if-is_some.ensures)
    (kept-none (named state c.args.target.now) (sym c.in_default.is ∙ c.named-2.ensures state stands))

pub returns-in_default-kind : goal.returns-in_default-kind
returns-in_default-kind c = λ state stands.
    let b = kept-some (named state c.args.target.now) c.in-Some.found (sym c.in-Some.is ∙ c.named-2.ensures state stands) in
    target-data c.args.self.now.machine.conv state c.args.name.now c.args.target.now c.args.own
    (ap is_some (sym (c.named.ensures state stands)) ∙ sym c.if-is_some.ensures) b.block b.is
    (not-object-by b.block c.in-Some.found b.noted c.in_default-kind.not-Object)

pub returns-then-not-joins : goal.returns-then-not-joins
returns-then-not-joins c = λ state stands.
    let conv = c.args.self.now.machine.conv in
    let own = c.args.own in
    let b = kept-some (named state c.args.target.now) c.in-Some.found (sym c.in-Some.is ∙ c.named-2.ensures state stands) in
    let object = an-object b.block c.in-Some.found c.in-Object.number c.in-Object.iface b.noted c.in-Object.is in
    let apart : joins conv own ≡ false =
    ap (λ k. joins k own) (sym c.conv.ensures) ∙ sym c.joins.ensures ∙ c.if-not-joins.true in
    target-word conv state c.args.name.now c.args.target.now own
    (ap is_some (sym (c.named.ensures state stands)) ∙ sym c.if-is_some.ensures) b.block b.is object apart

pub returns-then-depth-ge-MOST_FORWARDERS : goal.returns-then-depth-ge-MOST_FORWARDERS
returns-then-depth-ge-MOST_FORWARDERS c = λ state stands.
    let stage = c.args.self.now in
    let conv = stage.machine.conv in
    let target = c.args.target.now in
    let own = c.args.own in
    let b = kept-some (named state target) c.in-Some.found (sym c.in-Some.is ∙ c.named-2.ensures state stands) in
    let object = an-object b.block c.in-Some.found c.in-Object.number c.in-Object.iface b.noted c.in-Object.is in
    let number = its-number b.block c.in-Some.found c.in-Object.number c.in-Object.iface b.noted c.in-Object.is in
    let numbered = named-numbered stage state stands target b.block b.is object c.in-Object.number number in
    let joined : joins conv own ≡ true =
    ap (λ k. joins k own) (sym c.conv.ensures) ∙ sym c.joins.ensures ∙ c.if-not-joins.false in
    let count : c.depth.result ≡ depth (chain_of state.blocks conv b.block) =
    c.depth.ensures conv state.blocks stands.lawful.blocks stands.objects conv b.block numbered in
    let many : MOST_FORWARDERS ≤ c.depth.result = c.if-depth-ge-MOST_FORWARDERS.true in
    let test : nat_lt c.depth.result MOST_FORWARDERS ≡ false = grind (arith, common_steps) in
    let deep : has_depth conv state b.block ≡ false =
    ap (λ n. nat_lt n MOST_FORWARDERS) (sym count) ∙ test in
    target-depth conv state c.args.name.now target own
    (ap is_some (sym (c.named.ensures state stands)) ∙ sym c.if-is_some.ensures) b.block b.is object joined deep

pub returns : goal.returns
returns c = λ state stands.
    let stage = c.args.self.now in
    let conv = stage.machine.conv in
    let target = c.args.target.now in
    let own = c.args.own in
    let b = kept-some (named state target) c.in-Some.found (sym c.in-Some.is ∙ c.named-2.ensures state stands) in
    let object = an-object b.block c.in-Some.found c.in-Object.number c.in-Object.iface b.noted c.in-Object.is in
    let number = its-number b.block c.in-Some.found c.in-Object.number c.in-Object.iface b.noted c.in-Object.is in
    let numbered = named-numbered stage state stands target b.block b.is object c.in-Object.number number in
    let joined : joins conv own ≡ true =
    ap (λ k. joins k own) (sym c.conv.ensures) ∙ sym c.joins.ensures ∙ c.if-not-joins.false in
    let count : c.depth.result ≡ depth (chain_of state.blocks conv b.block) =
    c.depth.ensures conv state.blocks stands.lawful.blocks stands.objects conv b.block numbered in
    let few : c.depth.result < MOST_FORWARDERS = c.if-depth-ge-MOST_FORWARDERS.false in
    let test : nat_lt c.depth.result MOST_FORWARDERS ≡ true = grind (arith, common_steps) in
    let short : has_depth conv state b.block ≡ true =
    ap (λ n. nat_lt n MOST_FORWARDERS) (sym count) ∙ test in
    record {
      object = b.block;
      is = target-found conv state c.args.name.now target own
          (ap is_some (sym (c.named.ensures state stands)) ∙ sym c.if-is_some.ensures) b.block b.is object joined short;
      numbered = numbered;
    }
