-- The flags of a slot by what is written before its member, and its method.
use Rattle.std.specs.Prelude.{ℕ, List}
use Rattle.call_model.specs.declared.prototypes.MemberKind.{MemberKind}
use Rattle.lib_model.specs.declared.contents.Method.{Method}
use Rattle.lib_model.specs.declared.param_types.Param.{Param}
use Rattle.prototype_lowering.specs.declared.marks.Marks.{Marks}
use Rattle.prototype_lowering.specs.Lowering.{slot_flags}

abbrev pub flags_with : MemberKind → Marks → ℕ
flags_with kind marks = slot_flags kind marks.notxpcom marks.hidden marks.argc marks.context

abbrev pub method_with : List ℕ → MemberKind → Marks → List Param → Method
method_with name kind marks params = record {
  name = name;
  flags = record { bits = flags_with kind marks };
  params = params;
}
