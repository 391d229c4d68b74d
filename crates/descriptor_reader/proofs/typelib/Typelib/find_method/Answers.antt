use Rattle.std.proofs.Common.{List, ap, arith, sym, ◌∙◌}
use Rattle.std.specs.Prelude.{slice_get}
use Rattle.call_model.specs.Tables.{member_of}
use Rattle.lib_model.specs.declared.contents.Library.{Library}
use Rattle.lib_model.specs.declared.contents.Method.{Method}
use Rattle.lib_model.specs.Table.{methods_of, table_of}
use Rattle.typelib_faults.specs.Places.{count_of, directory_of, entries_of, entry_at, entry_end}
use Rattle.typelib_faults.proofs.WalkFacts.{length_values}
use Rattle.descriptor_reader.proofs.SearchLaws.{member_past}
use Rattle.descriptor_reader.proofs.ViewLaws.{member_is, methods_of_library}
use Rattle.descriptor_reader.proofs.typelib.Typelib.find_method.Goals as goal

pub returns-then-k-self-clause-slot : goal.returns-then-k-self-clause-slot
returns-then-k-self-clause-slot c =
    let f = c.self.inside.checked.file in
    let x = f.bytes.now in
    sym (member_past c.args.kind c.args.name.now (entries_of x) 249 c.args.k (omega (arith, f.count_is, length_values (entry_at x) entry_end (directory_of x) (count_of x))))
    ∙ (member_is x c.args.kind c.args.name.now c.args.k ∙ ap (λ (lib : Library). member_of (table_of lib) c.args.k c.args.kind c.args.name.now) c.self.view_is)

pub returns-in-Some-clause-slot : goal.returns-in-Some-clause-slot
returns-in-Some-clause-slot c =
    c.in-Some.ensures.slot
    ∙ (member_is c.self.inside.checked.file.bytes.now c.args.kind c.args.name.now c.args.k ∙ ap (λ (lib : Library). member_of (table_of lib) c.args.k c.args.kind c.args.name.now) c.self.view_is)

pub returns-in-None-clause-slot : goal.returns-in-None-clause-slot
returns-in-None-clause-slot c =
    c.in-None.ensures.slot
    ∙ (member_is c.self.inside.checked.file.bytes.now c.args.kind c.args.name.now c.args.k ∙ ap (λ (lib : Library). member_of (table_of lib) c.args.k c.args.kind c.args.name.now) c.self.view_is)

pub returns-in-Some-clause-method : goal.returns-in-Some-clause-method
returns-in-Some-clause-method c =
    ap (λ (lib : Library). slice_get (methods_of lib c.args.k) c.in-Some.found.slot) (sym c.self.view_is)
    ∙ (ap (λ (ms : List Method). slice_get ms c.in-Some.found.slot) (sym (methods_of_library c.self.inside.checked.file.bytes.now c.args.k)) ∙ c.in-Some.ensures.method)
