-- A frame while the items of a line are put into it.
use Rattle.std.specs.Prelude.{◌≡◌, ℕ, ◌<◌, ◌++◌, List, length, slice_index}
use Rattle.call_model.specs.declared.places.Conv.{Conv}
use Rattle.call_model.specs.Values.{FrameView, frame_registers}
use Rattle.call_scripts.specs.declared.script.EnterItem.{EnterItem}
use Rattle.script_meaning.specs.Enters.{entered_fpr, entered_gpr, fpr_after, gpr_after, pushed_this}

-- the frame holds the object's address, what the items give for registers, zeros in the others, and
-- these bytes on the stack
pub record HoldsItems (conv : Conv) (this : ℕ) (items : List EnterItem) (bytes : List ℕ)
    (frame : FrameView) : Type 0 where
  pub gprs_len : length frame.gprs ≡ frame_registers
  pub fprs_len : length frame.fprs ≡ frame_registers
  pub gprs :
      (r : ℕ) → r < frame_registers → slice_index frame.gprs r ≡ entered_gpr conv this items r
  pub fprs : (r : ℕ) → r < frame_registers → slice_index frame.fprs r ≡ entered_fpr conv items r
  pub stack : frame.stack ≡ pushed_this conv this ++ bytes

-- an item has given its register its value, and nothing else changed
pub record Takes (conv : Conv) (item : EnterItem) (old new : FrameView) : Type 0 where
  pub gprs_stay : length new.gprs ≡ length old.gprs
  pub fprs_stay : length new.fprs ≡ length old.fprs
  pub gprs :
      (r : ℕ) → r < length old.gprs
      → slice_index new.gprs r ≡ gpr_after conv r (slice_index old.gprs r) item
  pub fprs :
      (r : ℕ) → r < length old.fprs
      → slice_index new.fprs r ≡ fpr_after conv r (slice_index old.fprs r) item
  pub stack : new.stack ≡ old.stack
