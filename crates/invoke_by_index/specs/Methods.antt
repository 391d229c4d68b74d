-- The prototype of a method.
use Rattle.std.specs.Prelude.{List}
use Rattle.call_model.specs.declared.prototypes.ProtoArg.{ProtoArg}
use Rattle.descriptor_reader.specs.Views.{MethodOf}
use Rattle.lib_model.specs.Table.{slot_of}

-- the prototype of the method that a view shows, without the object's address
abbrev pub prototype : MethodOf → List ProtoArg
prototype m = (slot_of m.method).proto
