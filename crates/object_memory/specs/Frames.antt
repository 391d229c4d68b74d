-- What a write to a frame changes.
use Rattle.std.specs.Prelude.{◌≡◌, ℕ, ◌+◌, ◌<◌, ◌≤◌, List, length, replicate, slice_index}
use Rattle.call_model.specs.declared.places.Loc.{Loc}
use Rattle.call_model.specs.declared.places.Loc.TheVariants.{Gpr, Fpr, Stack}
use Rattle.call_model.specs.Values.{FrameView, frame_registers, gpr_at, fpr_at, byte_at}
use Rattle.raw_block.specs.Bytes.{overwritten}

-- the location is a register, or so many bytes within the stack
abbrev pub IsPlace : FrameView → Loc → (space : ℕ) → Type 0
IsPlace frame (Gpr r) space = r < 8
IsPlace frame (Fpr r) space = r < 8
IsPlace frame (Stack at) space = (space ≤ 8) × (at + space ≤ length frame.stack)

-- the pattern was put at the location, and nothing else changed
pub record Puts (old new : FrameView) (at : Loc) (space pattern : ℕ) : Type 0 where
  pub gprs_stay : length new.gprs ≡ length old.gprs
  pub fprs_stay : length new.fprs ≡ length old.fprs
  pub stack_stays : length new.stack ≡ length old.stack
  pub gpr :
      (r : ℕ) → r < length old.gprs
      → slice_index new.gprs r ≡ gpr_at r (slice_index old.gprs r) at pattern
  pub fpr :
      (r : ℕ) → r < length old.fprs
      → slice_index new.fprs r ≡ fpr_at r (slice_index old.fprs r) at pattern
  pub byte :
      (b : ℕ) → b < length old.stack
      → slice_index new.stack b ≡ byte_at b (slice_index old.stack b) at space pattern

-- the stack after bytes were written from byte `at` on; the registers are as before
abbrev pub with_stack_bytes : FrameView → ℕ → List ℕ → FrameView
with_stack_bytes frame at bytes = record frame { stack = overwritten frame.stack at bytes }

-- registers of zeros, and a stack of so many zeros
abbrev pub zero_frame : (stack_len : ℕ) → FrameView
zero_frame stack_len = record {
  gprs = replicate frame_registers 0;
  fprs = replicate frame_registers 0;
  stack = replicate stack_len 0;
}
