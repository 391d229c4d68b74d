use Rattle.std.proofs.Common.{◌≡◌, ◌<◌, ◌≤◌, ◌∙◌, ◌+◌, ◌++◌, ◌∷◌, [], option_map, Some, Err, IfOk, ap, refl, subst, sym, arith}
use Rattle.std.proofs.lemmas.Bool.{true≢false}
use Rattle.std.proofs.lemmas.Option.{same_Some}
use Rattle.std.specs.Prelude.{codes}
use Rattle.object_memory.specs.declared.layout.TheConstants.{HEAP_LIMIT}
use Rattle.object_memory.specs.Heap.{HoldsMore, Object as ObjectContent}
use Rattle.object_memory.specs.Memory.{MachineView, occupied}
use Rattle.transcript_text.specs.Texts.{ended}
use Rattle.xp_base.specs.Digits.{hex_digits}
use Rattle.call_replies.specs.Blocks.{Forwarder}
use Rattle.script_meaning.specs.Lawful.{IsLawful}
use Rattle.script_meaning.specs.State.{iface_in, learned, next_at, next_number, number_in, occupied_by, with_block}
use Rattle.script_meaning.specs.Step.{forwarder_to, new_forwarder, placed_block}
use Rattle.script_meaning.proofs.Lawfulness.{forwarder-keeps}
use Rattle.script_objects.specs.Known.{AreKnown, kept}
use Rattle.script_objects.specs.declared.objects.Object.{Object}
use Rattle.script_objects.proofs.Depths.{numbered-so}
use Rattle.script_objects.proofs.Kept.{objects-few}
use Rattle.script_stage.specs.declared.placed.Kind.TheVariants as kinds
use Rattle.script_stage.specs.declared.stages.Stage.{Stage}
use Rattle.script_stage.specs.Finding.{Finds, IsNumberOf, target_of}
use Rattle.script_stage.specs.Standing.{TellsAddress, known}
use Rattle.script_stage.proofs.Added.{end-is, not_full, occupied-is, stands-more}
use Rattle.script_stage.proofs.Counted.{forwarder-full, forwarder-made, forwarder-refused, known-count, machine-count}
use Rattle.script_stage.proofs.Doing.{does-forward, does-full, does-refused}
use Rattle.script_stage.proofs.Numbers.{within}
use Rattle.script_stage.proofs.Targets.{target-free, target-parts}
use Rattle.script_stage.proofs.stages.Stage.add_forwarder.Goals as goal

pub returns-in_err-target : goal.returns-in_err-target
returns-in_err-target c =
    let old = c.args.self.now in
    let conv = old.machine.conv in
    let name = c.args.name.now in
    let target = c.args.target.now in
    let own = c.args.own in
    does-refused TellsAddress (λ state. new_forwarder conv state name target own) old c.from_residual.result
    c.in_err-target.field-0.0 c.from_residual.ensures.1
    (λ state stands. forwarder-refused conv state name target own c.in_err-target.field-0.0
    (subst (Finds state (target_of conv state name target own)) c.in_err-target.was
    (c.forwarder_target.ensures state stands)))

pub returns-in_err-at : goal.returns-in_err-at
returns-in_err-at c =
    let old = c.args.self.now in
    let conv = old.machine.conv in
    let name = c.args.name.now in
    let target = c.args.target.now in
    let own = c.args.own in
    does-full TellsAddress (λ state. new_forwarder conv state name target own) old
    (record old { machine = c.add_object.new.self }) c.from_residual-in_err-at.result c.in_err-at.field-0.0
    c.from_residual-in_err-at.ensures.1
    (λ none. (
      ap (λ (m : MachineView). record old { machine = m }) c.in_err-at.ensures.err,
      λ state stands.
          let over : HEAP_LIMIT < occupied old.machine + 16 = c.add_object.ensures.full.0 (c.in_err-at.was ∙ ap Err none) in
          let found : IsNumberOf state (target_of conv state name target own) c.in_ok-target.target =
          subst (Finds state (target_of conv state name target own)) c.in_ok-target.was
          (c.forwarder_target.ensures state stands) in
          forwarder-full conv state name target own found.object found.is
          (omega (arith, over, occupied-is old.machine state.blocks stands.holds)),
    ))

pub add_forwarder-requires-clause-few : goal.add_forwarder-requires-clause-few
add_forwarder-requires-clause-few c =
    let old = c.args.self.now in
    let state = c.requires.0 in
    let stands = c.requires.1 in
    omega (arith, objects-few old.machine.conv old.objects state.blocks stands.lawful.blocks stands.objects)

pub add_forwarder-requires-clause-below : goal.add_forwarder-requires-clause-below
add_forwarder-requires-clause-below c =
    let old = c.args.self.now in
    let conv = old.machine.conv in
    let state = c.requires.0 in
    let stands = c.requires.1 in
    let asked = target_of conv state c.args.name.now c.args.target.now c.args.own in
    let found : IsNumberOf state asked c.in_ok-target.target =
    subst (Finds state asked) c.in_ok-target.was (c.forwarder_target.ensures state stands) in
    within old.objects.objects c.in_ok-target.target (kept found.object)
    (sym c.get.ensures.kept ∙ c.get.ensures.known conv state.blocks stands.lawful.blocks stands.objects
    ∙ ap (option_map kept) found.numbered)

pub returns-in_err-number : goal.returns-in_err-number
returns-in_err-number c =
    let old = c.args.self.now in
    let conv = old.machine.conv in
    let name = c.args.name.now in
    let target = c.args.target.now in
    let own = c.args.own in
    let state = c.requires.0 in
    let stands = c.requires.1 in
    let found : IsNumberOf state (target_of conv state name target own) c.in_ok-target.target =
    subst (Finds state (target_of conv state name target own)) c.in_ok-target.was
    (c.forwarder_target.ensures state stands) in
    does-forward TellsAddress (λ state. new_forwarder conv state name target own) old
    (record old { machine = c.add_object.new.self; objects = c.add_forwarder.new.self })
    c.from_residual-in_err-number.result c.in_err-number.field-0.0 c.from_residual-in_err-number.ensures.1
    (λ deep. true≢false
    (sym (target-parts conv state name target own found.object found.is).1
    ∙ (c.add_forwarder.ensures.depth conv state stands.lawful.blocks stands.objects found.object found.numbered).0
    (c.in_err-number.was ∙ ap Err deep)))

pub returns : goal.returns
returns c = λ state stands.
    let old = c.args.self.now in
    let conv = old.machine.conv in
    let name = c.args.name.now in
    let own = c.args.own in
    let asked = target_of conv state name c.args.target.now own in
    let found : IsNumberOf state asked c.in_ok-target.target =
    subst (Finds state asked) c.in_ok-target.was (c.forwarder_target.ensures state stands) in
    let object = found.object in
    let held = forwarder_to state object own in
    let new : Stage = record {
      machine = c.add_object.new.self;
      blocks = c.put.new.self;
      variables = old.variables;
      objects = c.add_forwarder.new.self;
      rules = old.rules;
      context = old.context;
    } in
    let room : occupied_by conv state.blocks + 16 ≤ HEAP_LIMIT =
    omega (
      arith,
      not_full c.in_ok-at.at _ _ c.in_ok-at.ensures.full,
      occupied-is old.machine state.blocks stands.holds,
    ) in
    let is = forwarder-made conv state name c.args.target.now own object found.is room in
    let lawful : IsLawful conv (with_block conv state name held) =
    subst (λ r. IfOk r (λ stepped. IsLawful conv stepped.state)) is
    (forwarder-keeps conv state stands.lawful name c.args.target.now own) in
    let at : c.in_ok-at.at ≡ next_at conv state =
    c.in_ok-at.ensures.address ∙ end-is old.machine state.blocks stands.holds in
    let number : c.in_ok-number.number ≡ next_number state =
    c.in_ok-number.ensures.number ∙ known-count conv old.objects state stands.objects in
    let there : c.get.result ≡ Some (kept object) =
    c.get.ensures.known conv state.blocks stands.lawful.blocks stands.objects ∙ ap (option_map kept) found.numbered in
    let iface : c.unwrap-iface.result.iface ≡ iface_in object.held =
    ap (λ (o : Object). o.iface) (same_Some c.unwrap-iface.result (kept object) (sym c.unwrap-iface.ensures ∙ there)) in
    let target : c.in_ok-target.target ≡ number_in object.held =
    sym (numbered-so state.blocks stands.lawful.blocks.down c.in_ok-target.target object found.numbered).0 in
    let more : HoldsMore old.machine new.machine (ObjectContent (next_number state)) =
    subst (λ n. HoldsMore old.machine new.machine (ObjectContent n)) (machine-count old.machine state stands.holds)
    c.in_ok-at.ensures.holds in
    let known_more : AreKnown conv new.objects (state.blocks ++ record {
      name = name;
      at = c.in_ok-at.at;
      held = Forwarder c.in_ok-number.number c.unwrap-iface.result.iface c.in_ok-target.target own;
    } ∷ []) =
    c.in_ok-number.ensures.known conv state.blocks stands.objects
    (target-parts conv state name c.args.target.now own object found.is).0 name in
    let objects : AreKnown conv new.objects (with_block conv state name held).blocks =
    subst (λ a. AreKnown conv new.objects (state.blocks ++ record { name = name; at = a; held = held } ∷ [])) at
    (subst (λ h. AreKnown conv new.objects (state.blocks ++ record { name = name; at = c.in_ok-at.at; held = h } ∷ []))
    (λ j. Forwarder (number j) (iface j) (target j) own)
    known_more) in
    let same : known new.blocks ≡ learned (known old.blocks) name _ =
    c.in_ok-put.ensures.ok
    ∙ (λ j. learned (known old.blocks) name (record { at = at j; kind = kinds.Object (number j) (iface j) })) in
    record {
      stepped = placed_block conv state name held;
      is = is;
      stands = stands-more old new state stands name held
          (ap (λ (m : MachineView). m.conv) c.in_ok-at.ensures.added)
          more
          (ap (λ (m : MachineView). m.cells) c.in_ok-at.ensures.added)
          same refl objects refl refl
          (target-free conv state name c.args.target.now own object found.is)
          lawful;
      conv = ap (λ (m : MachineView). m.conv) c.in_ok-at.ensures.added;
      tells = ap (λ k. ended (codes "at " ++ hex_digits k)) (sym at);
      quiet = refl;
    }
