use Rattle.std.proofs.Common.{List, ap, arith, length, sym, ◌∙◌, ◌<◌}
use Rattle.std.specs.Prelude.{slice_get}
use Rattle.call_model.specs.declared.prototypes.ProtoArg.{ProtoArg}
use Rattle.lib_model.specs.Table.{slot_of, status_of}
use Rattle.typelib_faults.specs.Places.{method_at}
use Rattle.descriptor_reader.proofs.ArgLaws.{called, dropped}
use Rattle.descriptor_reader.proofs.arg_iter.ArgIterIterator.next.Goals as goal

pub returns-clause-steps : goal.returns-clause-steps
returns-clause-steps c =
    let s = c.self.inside in
    let m = method_at s.file.bytes.now s.method.place in
    let low : s.position < length (slot_of m).proto = omega (arith, c.if-self.false, c.self.invariant.ends) in
    let arg = ap (λ (args : List ProtoArg). slice_get args s.position) (called (status_of m) m s.position low) ∙ c.next_arg-place.ensures.arg in
    sym c.self.view_is ∙ dropped (slot_of m).proto s.position c.next_arg-place.result.0 arg
