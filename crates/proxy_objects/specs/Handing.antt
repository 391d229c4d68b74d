-- A call that is handed on, in the words of the call that was received.
use Rattle.std.specs.Prelude.{◌≡◌, ℕ, List, ◌∷◌}
use Rattle.call_model.specs.declared.places.Conv.{Conv}
use Rattle.call_model.specs.declared.prototypes.ProtoArg.{ProtoArg}
use Rattle.call_model.specs.Placement.{word_of}
use Rattle.call_model.specs.Prototype.{types_of}
use Rattle.call_model.specs.Values.{FrameView, Conforms, placed}
use Rattle.stub_dispatch.specs.Cells.{received_cells}

-- where the cells were received from a frame that conforms to values under a convention with the
-- same word, the frame that is left is the one of a call of the target with these very values,
-- whatever stood in the bits that the first convention leaves free
abbrev pub HandsOn : (to : Conv) → List ProtoArg → (target : ℕ) → (cells : List ℕ)
    → (left : FrameView) → Type 0
HandsOn to proto target cells left =
    (from : Conv) (frame : FrameView) (this : ℕ) (values : List ℕ)
    → word_of from ≡ word_of to
    → Conforms from (types_of proto) (this ∷ values) frame
    → cells ≡ received_cells from proto frame
    → left ≡ placed to (types_of proto) (target ∷ values)
