use Rattle.std.proofs.Common.{arith, ◌+◌, sym, ◌∙◌, ◌≡◌, ℕ, ap}
use Rattle.lib_model.specs.Denotes.{half_at, place_of}
use Rattle.typelib_faults.proofs.ChainLaws.{links_known, links_none}
use Rattle.typelib_check.proofs.chains.links.Goals as goal

pub returns-then-offset-eq0-clause-parent : goal.returns-then-offset-eq0-clause-parent
returns-then-offset-eq0-clause-parent c =
    let f = c.args.file.now in
    sym (links_none f.bytes.now f.directory c.args.number c.word-offset.result c.place_of_entry.result f.directory_is c.requires.above (omega (arith, f.count_is, c.requires.below)) c.place_of_entry.ensures c.word-offset.ensures c.if-offset-eq0.true).0

pub returns-then-offset-eq0-clause-slots : goal.returns-then-offset-eq0-clause-slots
returns-then-offset-eq0-clause-slots c =
    let f = c.args.file.now in
    sym (links_none f.bytes.now f.directory c.args.number c.word-offset.result c.place_of_entry.result f.directory_is c.requires.above (omega (arith, f.count_is, c.requires.below)) c.place_of_entry.ensures c.word-offset.ensures c.if-offset-eq0.true).1

pub half-requires : goal.half-requires
half-requires c =
    let f = c.args.file.now in
    let k = links_known f.bytes.now f.directory c.args.number c.word-offset.result c.place_of_entry.result f.directory_is c.requires.fine c.requires.above (omega (arith, f.count_is, c.requires.below)) c.place_of_entry.ensures c.word-offset.ensures c.if-offset-eq0.false in
    omega (arith, k.inside, c.place_of_offset-place.ensures)

pub half-requires-2 : goal.half-requires-2
half-requires-2 c =
    let f = c.args.file.now in
    let k = links_known f.bytes.now f.directory c.args.number c.word-offset.result c.place_of_entry.result f.directory_is c.requires.fine c.requires.above (omega (arith, f.count_is, c.requires.below)) c.place_of_entry.ensures c.word-offset.ensures c.if-offset-eq0.false in
    omega (arith, k.inside, c.place_of_offset-place.ensures)

pub returns-clause-parent : goal.returns-clause-parent
returns-clause-parent c =
    let f = c.args.file.now in
    let k = links_known f.bytes.now f.directory c.args.number c.word-offset.result c.place_of_entry.result f.directory_is c.requires.fine c.requires.above (omega (arith, f.count_is, c.requires.below)) c.place_of_entry.ensures c.word-offset.ensures c.if-offset-eq0.false in
    c.half.ensures ∙ (ap (λ (p : ℕ). half_at f.bytes.now p) c.place_of_offset-place.ensures ∙ sym k.parent)

pub returns-clause-slots : goal.returns-clause-slots
returns-clause-slots c =
    let f = c.args.file.now in
    let k = links_known f.bytes.now f.directory c.args.number c.word-offset.result c.place_of_entry.result f.directory_is c.requires.fine c.requires.above (omega (arith, f.count_is, c.requires.below)) c.place_of_entry.ensures c.word-offset.ensures c.if-offset-eq0.false in
    c.half-2.ensures ∙ (ap (λ (p : ℕ). half_at f.bytes.now (p + 2)) c.place_of_offset-place.ensures ∙ sym k.slots)

pub returns-clause-within : goal.returns-clause-within
returns-clause-within c =
    let f = c.args.file.now in
    let k = links_known f.bytes.now f.directory c.args.number c.word-offset.result c.place_of_entry.result f.directory_is c.requires.fine c.requires.above (omega (arith, f.count_is, c.requires.below)) c.place_of_entry.ensures c.word-offset.ensures c.if-offset-eq0.false in
    let same : c.half.result ≡ half_at f.bytes.now (place_of f.bytes.now c.word-offset.result) = c.half.ensures ∙ ap (λ (p : ℕ). half_at f.bytes.now p) c.place_of_offset-place.ensures in
    omega (arith, k.low, f.count_is, same)
