use Rattle.std.proofs.Common.{◌≡◌, ◌∷◌, [], ap, sym, ◌∙◌, rules, to_z, of_z}
use Rattle.std.specs.Int.{w128}
use Rattle.std.proofs.lemmas.Int.{to_z-of_z}
use Rattle.invoke_by_index.specs.Methods.{prototype}
use Rattle.lib_model.specs.Table.{table_of}
use Rattle.script_meaning.specs.Outs.{array_word, beside, iid_word, number_after, pattern_after}
use Rattle.script_outs.specs.Held.{after_on}
use Rattle.script_outs.proofs.lines.beside.Goals as goal
use Rattle.script_outs.proofs.lines.beside.Goals.{in-Count+in_ok-word-in-Count, in-IidAt+in_ok-word-in-IidAt, in-IfaceOf+in_ok-word-in-IfaceOf}

pub returns : goal.returns
returns c = λ held h.
    let table = table_of c.args.typelib.now in
    let conv = c.args.machine.now.conv in
    let after = after_on c.args.machine.now held (prototype c.args.method.now) c.args.values.now in
    elim c.match-note.branch [
      | in-Count+in_ok-word-in-Count w ↦
          let sized : to_z w128 (of_z w128 w.number_after-size.result) ≡ w.number_after-size.result =
          to_z-of_z w128 w.number_after-size.result (search rules) in
          let counted : to_z w128 (of_z w128 w.number_after-count.result) ≡ w.number_after-count.result =
          to_z-of_z w128 w.number_after-count.result (search rules) in
          let size = sized ∙ w.number_after-size.ensures held ∙ ap (number_after conv after) w.from.ensures in
          let count = counted ∙ w.number_after-count.ensures held ∙ ap (number_after conv after) w.from-in-Count.ensures in
          ap (λ x. x ∷ [])
          (w.word-is ∙ w.in_ok-word-in-Count.ensures held h
          ∙ (λ j. array_word conv held w.in-Count.elem c.args.value (size j) (count j)))
          ∙ sym (ap (λ note. beside table conv after note c.args.value) w.in-Count.is)
      | in-IidAt+in_ok-word-in-IidAt w ↦
          let address = w.pattern_after-address.ensures held ∙ ap (pattern_after conv after) w.from-in-IidAt.ensures in
          ap (λ x. x ∷ [])
          (w.word-is ∙ w.in_ok-word-in-IidAt.ensures held h ∙ ap (iid_word table held) address)
          ∙ sym (ap (λ note. beside table conv after note c.args.value) w.in-IidAt.is)
      | in-IfaceOf+in_ok-word-in-IfaceOf w ↦
          ap (λ x. x ∷ []) (w.word-is ∙ w.in_ok-word-in-IfaceOf.ensures)
          ∙ sym (ap (λ note. beside table conv after note c.args.value) w.in-IfaceOf.is)
    ]
