-- Writes that are lawful leave the memory that the definitions say.
use Rattle.std.proofs.Common.{◌≡◌, ℕ, ◌+◌, ◌-◌, ◌<◌, ◌≤◌, Bool, true, false, cond, List, [], ◌∷◌, ◌++◌, length, refl, sym, ap, subst, ◌∙◌, arith}
use Rattle.std.specs.Prelude.{fold, AllPairs}
use Rattle.raw_block.specs.Bytes.{overwritten}
use Rattle.object_memory.specs.declared.layout.TheConstants.{VTABLE_AT, CELLS_AT}
use Rattle.object_memory.specs.Memory as machines
use Rattle.object_memory.specs.Memory.{MachineView, InCells, InMemory, Inside, IsLaidOut, is_within, with_cells, with_memory}
use Rattle.object_memory.proofs.Access.{written-cells, written-memory}
use Rattle.object_memory.proofs.Held.{inside-memory}
use Rattle.object_memory.proofs.Lists.{length-overwritten}
use Rattle.std.proofs.lemmas.Grind.{common_steps}
use Rattle.std.specs.Prelude.{nat_le}
use Rattle.std.proofs.Common.{◌&&◌}
use Rattle.call_replies.specs.Blocks.{HoldsBlocks, blocks_after, contents}
use Rattle.call_replies.specs.Reply.{Memory, Write, written}
use Rattle.call_replies.specs.Writes.{after_writes, SameButBytes}
use Rattle.call_replies.proofs.Looked.{holds_blocks-written}

-- ---- what no write changes

pub record Keeps (m k : MachineView) : Type 0 where
  pub conv_is : k.conv ≡ m.conv
  pub blocks_are : k.blocks ≡ m.blocks
  pub objects_are : k.objects ≡ m.objects
  pub frame_is : k.frame ≡ m.frame
  pub memory_len : length k.memory ≡ length m.memory
  pub cells_len : length k.cells ≡ length m.cells

pub keeps-same : (m : MachineView) → Keeps m m
keeps-same m = record { conv_is = refl; blocks_are = refl; objects_are = refl; frame_is = refl; memory_len = refl; cells_len = refl }

keeps-next : (m k l : MachineView) → Keeps m k → Keeps k l → Keeps m l
keeps-next m k l p q = record {
  conv_is = q.conv_is ∙ p.conv_is;
  blocks_are = q.blocks_are ∙ p.blocks_are;
  objects_are = q.objects_are ∙ p.objects_are;
  frame_is = q.frame_is ∙ p.frame_is;
  memory_len = q.memory_len ∙ p.memory_len;
  cells_len = q.cells_len ∙ p.cells_len;
}

-- a write goes to vtable and heap, or to cells, or nowhere
pub by_place : (P : MachineView → Type 0) (m : MachineView) (at : ℕ) (w : List ℕ)
    → (is_within VTABLE_AT m.memory at (length w) ≡ true → P (with_memory m at w))
    → (is_within CELLS_AT m.cells at (length w) ≡ true → P (with_cells m at w))
    → P m → P (machines.written m at w)
by_place P m at w memory cells none = choose (is_within VTABLE_AT m.memory at (length w)) (is_within CELLS_AT m.cells at (length w)) memory cells
  where
    choose : (s t : Bool) → (s ≡ true → P (with_memory m at w)) → (t ≡ true → P (with_cells m at w)) → P (cond s (with_memory m at w) (cond t (with_cells m at w) m))
    choose true t p q = p refl
    choose false true p q = q refl
    choose false false p q = none

both_of : (a b c d : ℕ) → (nat_le a b && nat_le c d) ≡ true → (a ≤ b) × (c ≤ d)
both_of a b c d is = (grind (arith, common_steps, is), grind (arith, common_steps, is))

-- what lies within a range begins behind its start, and ends before its end
pub within_is : (start : ℕ) (bytes : List ℕ) (at n : ℕ) → is_within start bytes at n ≡ true → (start ≤ at) × (at + n ≤ start + length bytes)
within_is start bytes at n is = both_of start at (at + n) (start + length bytes) is

written_len : (start : ℕ) (bytes : List ℕ) (at : ℕ) (w : List ℕ) → is_within start bytes at (length w) ≡ true → length (overwritten bytes (at - start) w) ≡ length bytes
written_len start bytes at w is = let here = within_is start bytes at (length w) is in length-overwritten bytes (at - start) w (omega (arith, here.0, here.1))

pub keeps-written : (m : MachineView) (at : ℕ) (w : List ℕ) → Keeps m (machines.written m at w)
keeps-written m at w =
    by_place (Keeps m) m at w
    (λ is. record { conv_is = refl; blocks_are = refl; objects_are = refl; frame_is = refl; memory_len = written_len VTABLE_AT m.memory at w is; cells_len = refl })
    (λ is. record { conv_is = refl; blocks_are = refl; objects_are = refl; frame_is = refl; memory_len = refl; cells_len = written_len CELLS_AT m.cells at w is })
    (keeps-same m)

pub keeps-writes : (m : MachineView) (writes : List Write) → Keeps m (after_writes m writes)
keeps-writes m [] = keeps-same m
keeps-writes m (w ∷ writes) =
    let next = machines.written m w.at w.bytes in keeps-next m next (after_writes next writes) (keeps-written m w.at w.bytes) (keeps-writes next writes)

pub rest-stays : (m k : MachineView) → Keeps m k → SameButBytes m k
rest-stays m k keeps = record {
  same = λ i. record {
    conv = keeps.conv_is i;
    memory = k.memory;
    blocks = keeps.blocks_are i;
    objects = keeps.objects_are i;
    cells = k.cells;
    frame = keeps.frame_is i;
  };
  memory_len = keeps.memory_len;
  cells_len = keeps.cells_len;
}

-- ---- lawful writes

-- a write to a cell lies in the pushed cells, and one to data in one data block
abbrev pub IsAllowed : MachineView → (to_cell : Bool) → (at n : ℕ) → Type 0
IsAllowed m true at n = InCells m at n × (1 ≤ n)
IsAllowed m false at n = Inside m.blocks at n

abbrev pub AreAllowed : MachineView → List Write → Type 0
AreAllowed m [] = Unit {0}
AreAllowed m (w ∷ writes) = IsAllowed m w.to_cell w.at (length w.bytes) × AreAllowed m writes

is_allowed-along : (m k : MachineView) (to_cell : Bool) (at n : ℕ) → Keeps m k → IsAllowed m to_cell at n → IsAllowed k to_cell at n
is_allowed-along m k true at n keeps allowed = ((allowed.0.0, subst (λ l. at + n ≤ CELLS_AT + l) (sym keeps.cells_len) allowed.0.1), allowed.1)
is_allowed-along m k false at n keeps allowed = subst (λ blocks. Inside blocks at n) (sym keeps.blocks_are) allowed

are_allowed-along : (m k : MachineView) (writes : List Write) → Keeps m k → AreAllowed m writes → AreAllowed k writes
are_allowed-along m k [] keeps allowed = tt
are_allowed-along m k (w ∷ writes) keeps allowed =
    (is_allowed-along m k w.to_cell w.at (length w.bytes) keeps allowed.0, are_allowed-along m k writes keeps allowed.1)

pub are_allowed-append : (m : MachineView) (now later : List Write) → AreAllowed m now → AreAllowed m later → AreAllowed m (now ++ later)
are_allowed-append m [] later first rest = rest
are_allowed-append m (w ∷ now) later first rest = (first.0, are_allowed-append m now later first.1 rest)

laid_out-along : (m k : MachineView) → Keeps m k → IsLaidOut m → IsLaidOut k
laid_out-along m k keeps laid = record {
  below_cells = omega (arith, keeps.memory_len, laid.below_cells);
  most_cells = omega (arith, keeps.cells_len, laid.most_cells);
  rising = subst (λ objects. AllPairs (λ a b. a < b) objects) (sym keeps.objects_are) laid.rising;
}

-- the machine has these cells, and holds these blocks
pub record IsMemory (m : MachineView) (memory : Memory) : Type 0 where
  pub cells_are : m.cells ≡ memory.cells
  pub holds : HoldsBlocks m memory.blocks

abbrev after_one : Memory → (to_cell : Bool) → (at : ℕ) → (w : List ℕ) → Memory
after_one memory to_cell at w =
    cond to_cell (record memory { cells = overwritten memory.cells (at - CELLS_AT) w }) (record memory { blocks = blocks_after memory.blocks at w })

is_memory-cell : (m : MachineView) (memory : Memory) (at : ℕ) (w : List ℕ) → IsLaidOut m → IsMemory m memory → InCells m at (length w) → 1 ≤ length w
    → IsMemory (machines.written m at w) (record memory { cells = overwritten memory.cells (at - CELLS_AT) w })
is_memory-cell m memory at w laid is inside some =
    let out : InMemory m at (length w) → ⊥ = λ in_memory. absurd (omega (arith, laid.below_cells, inside.0, in_memory.1, some)) in
    subst (λ (k : MachineView). IsMemory k (record memory { cells = overwritten memory.cells (at - CELLS_AT) w })) (sym (written-cells m at w out inside))
    (record {
      cells_are = ap (λ cells. overwritten cells (at - CELLS_AT) w) is.cells_are;
      holds = record {
        heap = record { memory = is.holds.heap.memory; blocks = is.holds.heap.blocks; objects = is.holds.heap.objects };
        placed = is.holds.placed;
      };
    })

is_memory-data : (m : MachineView) (memory : Memory) (at : ℕ) (w : List ℕ) → IsMemory m memory → Inside m.blocks at (length w)
    → IsMemory (machines.written m at w) (record memory { blocks = blocks_after memory.blocks at w })
is_memory-data m memory at w is inside = record {
  cells_are = ap (λ (k : MachineView). k.cells) (written-memory m at w (inside-memory m (contents memory.blocks) at (length w) inside is.holds.heap)) ∙ is.cells_are;
  holds = holds_blocks-written m memory.blocks at w is.holds inside (keeps-written m at w).conv_is;
}

is_memory-one : (m : MachineView) (memory : Memory) (to_cell : Bool) (at : ℕ) (w : List ℕ) → IsLaidOut m → IsMemory m memory → IsAllowed m to_cell at (length w)
    → IsMemory (machines.written m at w) (after_one memory to_cell at w)
is_memory-one m memory true at w laid is allowed = is_memory-cell m memory at w laid is allowed.0 allowed.1
is_memory-one m memory false at w laid is allowed = is_memory-data m memory at w is allowed

-- lawful writes leave on the machine what they leave in the memory of the definitions
pub is_memory-writes : (m : MachineView) (memory : Memory) (writes : List Write) → IsLaidOut m → IsMemory m memory → AreAllowed m writes
    → IsMemory (after_writes m writes) (fold written memory writes)
is_memory-writes m memory [] laid is allowed = is
is_memory-writes m memory (w ∷ writes) laid is allowed =
    let next = machines.written m w.at w.bytes in
    let keeps : Keeps m next = keeps-written m w.at w.bytes in
    is_memory-writes next (written memory w) writes (laid_out-along m next keeps laid)
    (is_memory-one m memory w.to_cell w.at w.bytes laid is allowed.0) (are_allowed-along m next writes keeps allowed.1)
