-- The cells of a call, recovered from its frame.
use Rattle.std.specs.Prelude.{◌≡◌, ℕ, ◌+◌, ◌<◌, List, ◌∷◌, length, map}
use Rattle.std.specs.List.{range_with_len}
use Rattle.call_model.specs.declared.ctypes.CType.{CType}
use Rattle.call_model.specs.declared.ctypes.CType.TheVariants.{Ptr}
use Rattle.call_model.specs.declared.places.Conv.{Conv}
use Rattle.call_model.specs.declared.prototypes.ProtoArg.{ProtoArg}
use Rattle.call_model.specs.declared.ctypes.CType.{CType}
use Rattle.call_model.specs.Placement.{stack_len_of}
use Rattle.call_model.specs.Prototype.{types_of}
use Rattle.stub_dispatch.specs.declared.recovery.FrameShort.{FrameShort}
use Rattle.call_model.specs.Values.{FrameView, Conforms, canon, canon_all, received}

-- the values that the one who is called receives for a prototype, without the object's address
abbrev pub received_cells : Conv → List ProtoArg → FrameView → List ℕ
received_cells conv proto frame =
    map (λ i. received conv (types_of proto) frame (i + 1)) (range_with_len 0 (length proto))

-- every frame that conforms to values gives the canonical pattern of each, whatever stands in the
-- free bits and bytes
abbrev pub GivesCanonical : Conv → List ProtoArg → FrameView → (cells : List ℕ) → Type 0
GivesCanonical conv proto frame cells =
    (this : ℕ) (values : List ℕ)
    → Conforms conv (types_of proto) (this ∷ values) frame
    → canon conv Ptr this ∷ cells ≡ canon_all conv (types_of proto) (this ∷ values)

-- the stack of a frame is shorter than arguments of these types need, and both lengths are told
pub record IsShort (conv : Conv) (types : List CType) (frame : FrameView) (short : FrameShort)
    : Type 0 where
  pub shorter : length frame.stack < stack_len_of conv types
  pub needs : short.needs ≡ stack_len_of conv types
  pub has : short.has ≡ length frame.stack
