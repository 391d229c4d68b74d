use Rattle.std.proofs.Common.{◌≡◌, ◌≤◌, length, take}
use Rattle.call_model.specs.Values.{frame_registers}
use Rattle.machine_bench.proofs.looking.float_registers.Given as goal

-- the registers so far; a frame that was read tells how many it has
abbrev pub invariant-loop-i : goal.invariant-loop-i
invariant-loop-i l =
    (l.registers ≡ take l.i l.frame.fprs)
    × (1 ≤ l.i → length l.frame.fprs ≡ frame_registers)
