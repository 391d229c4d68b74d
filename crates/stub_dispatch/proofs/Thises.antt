-- Where a frame has the address of the object that it calls.
use Rattle.std.proofs.Common.{◌≡◌, ℕ, ◌≤◌, List, [], ◌∷◌, length, map, arith}
use Rattle.call_model.specs.declared.ctypes.CType.TheVariants.{Ptr}
use Rattle.call_model.specs.declared.places.Conv.{Conv}
use Rattle.call_model.specs.declared.places.Loc.{Loc}
use Rattle.call_model.specs.declared.prototypes.ProtoArg.{ProtoArg}
use Rattle.call_model.specs.Placement.{place, space_of, stack_len_of, word_of, PlacesWithin, StackGrows}
use Rattle.call_model.specs.Prototype.{types_of}
use Rattle.call_model.specs.Values.{FrameView, Conforms, canon, placed}
use Rattle.call_model.proofs.Conforming.{placed-conforms, receives-canonical}
use Rattle.call_model.proofs.Patterns.{own-fits}
use Rattle.object_memory.specs.Frames.{IsPlace}
use Rattle.invoke_by_index.proofs.Prototypes.{passed}
use Rattle.stub_dispatch.specs.Calls.{this_in}
use Rattle.stub_dispatch.proofs.Recovered.{has-place, space-le}

-- a stack that is long enough for all arguments is so for the address
pub enough-for-this : (conv : Conv) (proto : List ProtoArg) (frame : FrameView) → StackGrows conv
    → stack_len_of conv (types_of proto) ≤ length frame.stack → stack_len_of conv (Ptr ∷ []) ≤ length frame.stack
enough-for-this conv proto frame grows enough = omega (arith, grows (Ptr ∷ []) (map passed proto), enough)

-- and then the frame has the place of the address
pub has-this : (conv : Conv) (frame : FrameView) (at : Loc) → PlacesWithin conv → at ≡ place conv [] Ptr
    → stack_len_of conv (Ptr ∷ []) ≤ length frame.stack → IsPlace frame at (word_of conv)
has-this conv frame at within is enough =
    rw is (has-place conv frame (stack_len_of conv (Ptr ∷ [])) (place conv [] Ptr) (space_of conv Ptr) (word_of conv) (within [] Ptr []) (own-fits conv Ptr) (space-le conv Ptr) enough)

-- a frame that conforms to values has the object's address there
pub this-of-conforming : (conv : Conv) (proto : List ProtoArg) (this : ℕ) (values : List ℕ) (frame : FrameView)
    → Conforms conv (types_of proto) (this ∷ values) frame → this_in conv frame ≡ canon conv Ptr this
this-of-conforming conv proto this values frame conforms =
    receives-canonical conv (types_of proto) (this ∷ values) frame conforms 0 (omega arith)

-- and so has the frame of a call
pub this-of-placed : (conv : Conv) (proto : List ProtoArg) (this : ℕ) (values : List ℕ) → length (types_of proto) ≡ length (this ∷ values)
    → this_in conv (placed conv (types_of proto) (this ∷ values)) ≡ canon conv Ptr this
this-of-placed conv proto this values paired =
    this-of-conforming conv proto this values (placed conv (types_of proto) (this ∷ values)) (placed-conforms conv (types_of proto) (this ∷ values) paired)
