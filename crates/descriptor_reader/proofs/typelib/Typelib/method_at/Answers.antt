use Rattle.std.proofs.Common.{List, ap, arith, sym, ◌∙◌}
use Rattle.std.specs.Prelude.{slice_get}
use Rattle.lib_model.specs.declared.contents.Library.{Library}
use Rattle.lib_model.specs.declared.contents.Method.{Method}
use Rattle.lib_model.specs.Table.{methods_of}
use Rattle.typelib_faults.specs.Places.{count_of, directory_of, entries_of, entry_at, entry_end}
use Rattle.typelib_faults.proofs.WalkFacts.{length_values}
use Rattle.descriptor_reader.proofs.SearchLaws.{methods_past}
use Rattle.descriptor_reader.proofs.ViewLaws.{methods_of_library}
use Rattle.descriptor_reader.proofs.typelib.Typelib.method_at.Goals as goal

pub returns-then-k-self-clause-method : goal.returns-then-k-self-clause-method
returns-then-k-self-clause-method c =
    let f = c.self.inside.checked.file in
    let x = f.bytes.now in
    sym (methods_past (entries_of x) 249 c.args.k c.args.slot (omega (arith, f.count_is, length_values (entry_at x) entry_end (directory_of x) (count_of x))))
    ∙ (ap (λ (ms : List Method). slice_get ms c.args.slot) (methods_of_library x c.args.k) ∙ ap (λ (lib : Library). slice_get (methods_of lib c.args.k) c.args.slot) c.self.view_is)

pub returns-in-Some-clause-method : goal.returns-in-Some-clause-method
returns-in-Some-clause-method c =
    c.in-Some.ensures.method
    ∙ (ap (λ (ms : List Method). slice_get ms c.args.slot) (methods_of_library c.self.inside.checked.file.bytes.now c.args.k) ∙ ap (λ (lib : Library). slice_get (methods_of lib c.args.k) c.args.slot) c.self.view_is)

pub returns-in-None-clause-method : goal.returns-in-None-clause-method
returns-in-None-clause-method c =
    c.in-None.ensures.method
    ∙ (ap (λ (ms : List Method). slice_get ms c.args.slot) (methods_of_library c.self.inside.checked.file.bytes.now c.args.k) ∙ ap (λ (lib : Library). slice_get (methods_of lib c.args.k) c.args.slot) c.self.view_is)
