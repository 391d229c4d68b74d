use Rattle.std.proofs.Common.{arith, ap, ◌+◌, ◌∙◌, ◌≡◌, ℕ}
use Rattle.lib_model.specs.Denotes.{half_at}
use Rattle.typelib_faults.specs.declared.cursor.Cursor.{Cursor}
use Rattle.typelib_faults.specs.Faults.{constant_fault, constant_next, constants_cursor, methods_reach}
use Rattle.typelib_faults.specs.Places.{methods_end}
use Rattle.typelib_faults.specs.Walk.{walk}
use Rattle.typelib_faults.proofs.IfaceLaws.{methods_place}
use Rattle.descriptor_reader.specs.Views.{first_at}
use Rattle.descriptor_reader.proofs.MethodLaws.{constants_are, descriptor_parts, methods_ended}
use Rattle.descriptor_reader.proofs.descriptors.constants_of_descriptor.Goals as goal

pub half-count-requires : goal.half-count-requires
half-count-requires c =
    let x = c.args.file.now.bytes.now in
    let m = c.methods_of_descriptor in
    let ended = methods_ended x c.args.place m.result.count m.result.from c.methods_behind-end.result m.ensures.from m.ensures.count c.methods_behind-end.ensures in
    omega (arith, (descriptor_parts x (first_at c.args.place) c.requires).counted, ap (λ (s : Cursor). s.place) ended)

pub overflow_add-from : goal.overflow_add-from
overflow_add-from c =
    let x = c.args.file.now.bytes.now in
    let m = c.methods_of_descriptor in
    let ended = methods_ended x c.args.place m.result.count m.result.from c.methods_behind-end.result m.ensures.from m.ensures.count c.methods_behind-end.ensures in
    omega (arith, (descriptor_parts x (first_at c.args.place) c.requires).counted, ap (λ (s : Cursor). s.place) ended, c.args.file.now.is_short)

pub returns-clause-from : goal.returns-clause-from
returns-clause-from c =
    let x = c.args.file.now.bytes.now in
    let m = c.methods_of_descriptor in
    ap constants_cursor (methods_ended x c.args.place m.result.count m.result.from c.methods_behind-end.result m.ensures.from m.ensures.count c.methods_behind-end.ensures)

pub returns-clause-count : goal.returns-clause-count
returns-clause-count c =
    let x = c.args.file.now.bytes.now in
    let m = c.methods_of_descriptor in
    c.half-count.ensures ∙ ap (λ (s : Cursor). half_at x s.place) (methods_ended x c.args.place m.result.count m.result.from c.methods_behind-end.result m.ensures.from m.ensures.count c.methods_behind-end.ensures)

pub returns-clause-fine : goal.returns-clause-fine
returns-clause-fine c =
    let x = c.args.file.now.bytes.now in
    let m = c.methods_of_descriptor in
    let ended = methods_ended x c.args.place m.result.count m.result.from c.methods_behind-end.result m.ensures.from m.ensures.count c.methods_behind-end.ensures in
    let counted = c.half-count.ensures ∙ ap (λ (s : Cursor). half_at x s.place) ended in
    ap (λ (n : ℕ). walk (constant_fault x) (constant_next x) (constants_cursor c.methods_behind-end.result) n) counted
    ∙ (ap (λ (s : Cursor). walk (constant_fault x) (constant_next x) (constants_cursor s) (half_at x (methods_reach x (first_at c.args.place)).place)) ended ∙ (descriptor_parts x (first_at c.args.place) c.requires).constants)

pub returns-clause-are : goal.returns-clause-are
returns-clause-are c =
    let x = c.args.file.now.bytes.now in
    let m = c.methods_of_descriptor in
    let ended = methods_ended x c.args.place m.result.count m.result.from c.methods_behind-end.result m.ensures.from m.ensures.count c.methods_behind-end.ensures in
    let place : c.methods_behind-end.result.place ≡ methods_end x c.args.place = ap (λ (s : Cursor). s.place) ended ∙ methods_place x (first_at c.args.place) in
    constants_are x c.args.place c.half-count.result (c.methods_behind-end.result.place + 2) (ap (λ (q : ℕ). q + 2) place) (c.half-count.ensures ∙ ap (half_at x) place)
