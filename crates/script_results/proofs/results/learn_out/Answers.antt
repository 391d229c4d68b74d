use Rattle.std.proofs.Common.{◌≡◌, ◌∙◌, OnOk, Some, ap, rules, sym, subst}
use Rattle.std.proofs.lemmas.Int.{to_z-of_z}
use Rattle.std.specs.Prelude.{option_and_then, slice_get}
use Rattle.std.specs.Int.{w128}
use Rattle.std.specs.Option.{option_copied, option_map_or}
use Rattle.invoke_by_index.specs.Methods.{prototype}
use Rattle.script_meaning.specs.Calls.{variable_at}
use Rattle.script_meaning.specs.Outs.{number_after}
use Rattle.script_meaning.specs.State.{Name, learned}
use Rattle.script_meaning.specs.Words.{variable_of}
use Rattle.script_outs.specs.Held.{after_on}
use Rattle.script_stage.specs.Standing.{known}
use Rattle.script_results.proofs.results.learn_out.Goals as goal

pub returns-in-Some : goal.returns-in-Some
returns-in-Some c = λ held.
    let proto = prototype c.args.method.now in
    let conv = c.args.machine.now.conv in
    let words = c.args.words.now in
    let k = c.args.k in
    let name = c.in-Some.name.now in
    let old = known c.args.variables.now in
    let number = number_after conv (after_on c.args.machine.now held proto c.args.values.now) k in
    let found : variable_at proto words k ≡ Some name =
    sym (ap (λ n. option_and_then variable_of (slice_get words n)) c.requires.param)
    ∙ sym c.variable_at.ensures ∙ ap option_copied c.in-Some.is in
    subst (λ t. OnOk c.put.result (known c.put.new.self ≡ t))
    (ap (learned old name) (to_z-of_z w128 c.number_after.result (search rules) ∙ c.number_after.ensures held)
    ∙ sym (ap (λ o. option_map_or (λ (n : Name). learned old n number) o old) found))
    c.put.ensures.ok
