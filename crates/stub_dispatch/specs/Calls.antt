-- A call, as the object that is called is handed it.
use Rattle.std.specs.Prelude.{◌≡◌, ℕ, ◌+◌, ◌<◌, List, [], length, slice_get, slice_index, Some}
use Rattle.call_model.specs.declared.ctypes.CType.TheVariants.{Ptr}
use Rattle.call_model.specs.declared.places.Conv.{Conv}
use Rattle.call_model.specs.declared.prototypes.ProtoArg.{ProtoArg}
use Rattle.call_model.specs.Placement.{place, type_at, word_of}
use Rattle.call_model.specs.Prototype.{types_of}
use Rattle.call_model.specs.Values.{FrameView, canon, own_at}
use Rattle.descriptor_reader.specs.Views.{MethodOf}
use Rattle.invoke_by_index.specs.Methods.{prototype}
use Rattle.object_memory.specs.Memory.{MachineView}
use Rattle.stub_dispatch.specs.Cells.{received_cells}

-- the number of the object, the slot and the prototype of its method, and the cells of the call
pub record Call : Type 0 where
  pub object : ℕ
  pub slot : ℕ
  pub proto : List ProtoArg
  pub cells : List ℕ

-- there is a cell for each argument of the prototype, and each is its own canonical pattern
pub record AreCanonical (conv : Conv) (proto : List ProtoArg) (cells : List ℕ) : Type 0 where
  pub paired : length cells ≡ length proto
  pub each : (i : ℕ) → i < length cells
      → canon conv (type_at (types_of proto) (i + 1)) (slice_index cells i) ≡ slice_index cells i

-- the address that a frame passes before all arguments: that of the object that it calls
abbrev pub this_in : Conv → FrameView → ℕ
this_in conv frame = own_at frame (word_of conv) (place conv [] Ptr)

-- the object of this number begins at the address
abbrev pub IsObject : MachineView → (address number : ℕ) → Type 0
IsObject m address number = slice_get m.objects number ≡ Some address

-- the call of a method of the object of this number, with these cells
abbrev pub call_of : MethodOf → (object : ℕ) → (cells : List ℕ) → Call
call_of method object cells =
    record { object = object; slot = method.slot; proto = prototype method; cells = cells }

-- the call of a method that a frame makes of the object of this number
abbrev pub call_by : Conv → FrameView → MethodOf → (object : ℕ) → Call
call_by conv frame method object =
    call_of method object (received_cells conv (prototype method) frame)
