-- The types that a prototype passes.
use Rattle.std.specs.Prelude.{List, ◌∷◌, map}
use Rattle.call_model.specs.declared.ctypes.CType.{CType}
use Rattle.call_model.specs.declared.ctypes.CType.TheVariants.{Ptr}
use Rattle.call_model.specs.declared.prototypes.Pass.{Pass}
use Rattle.call_model.specs.declared.prototypes.Pass.TheVariants.{ByValue, ByRef, ByCell}
use Rattle.call_model.specs.declared.prototypes.ProtoArg.{ProtoArg}

-- what stands in the call for an argument of this passing and type: the value itself, or an address
abbrev pub passed_type : Pass → CType → CType
passed_type ByValue t = t
passed_type ByRef _ = Ptr
passed_type (ByCell _) _ = Ptr

-- the types of a call's arguments: the object's address, then each argument of the prototype
abbrev pub types_of : List ProtoArg → List CType
types_of proto = Ptr ∷ map (λ (a : ProtoArg). passed_type a.pass a.ty) proto
