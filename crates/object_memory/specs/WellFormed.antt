-- What is true of the parts of every machine.
use Rattle.std.specs.Prelude.{◌≡◌, ℕ, ◌+◌, ◌-◌, ◌*◌, ◌<◌, ◌≤◌, List, length, take, drop, replicate, All, AllPairs}
use Rattle.call_model.specs.declared.places.Conv.{Conv}
use Rattle.object_memory.specs.declared.data_block.DataBlock.{DataBlock}
use Rattle.object_memory.specs.declared.layout.TheConstants.{VTABLE_AT, HEAP_LIMIT, MOST_CELLS}
use Rattle.object_memory.specs.Layout.{vtable_space}

-- the heap's bytes, of which `used` are in use; those behind them are zeros
pub record HasSpare (heap : List ℕ) (used : ℕ) : Type 0 where
  pub fits : used ≤ length heap
  pub zeros : drop used heap ≡ replicate (length heap - used) 0

-- the bytes in use stay, and there are so many more behind them
pub record Grown (old new : List ℕ) (used more : ℕ) : Type 0 where
  pub same : take used new ≡ take used old
  pub spare : HasSpare new used
  pub enough : used + more ≤ length new

-- a block lies in the heap, which ends at `end`
abbrev pub IsPlaced : (start end : ℕ) → DataBlock → Type 0
IsPlaced start end block =
    (VTABLE_AT + start ≤ block.address) × (block.address + block.length ≤ VTABLE_AT + end)

-- a block ends before a later one begins
abbrev pub EndsBefore : DataBlock → DataBlock → Type 0
EndsBefore block later = block.address + block.length ≤ later.address

pub record IsWellFormed
    (conv : Conv)
    (heap : List ℕ)
    (used : ℕ)
    (blocks : List DataBlock)
    (objects cells : List ℕ)
    (pushed : ℕ)
    : Type 0 where
  pub spare : HasSpare heap used
  pub starts : vtable_space conv ≤ used
  pub limited : used ≤ vtable_space conv + HEAP_LIMIT
  pub counted : vtable_space conv + 16 * (length blocks + length objects) ≤ used
  pub placed : All (IsPlaced (vtable_space conv) used) blocks
  pub apart : AllPairs EndsBefore blocks
  pub below : All (λ address. address < VTABLE_AT + used) objects
  pub rising : AllPairs (λ a b. a < b) objects
  pub all_cells : length cells ≡ 8 * MOST_CELLS
  pub in_cells : pushed ≤ MOST_CELLS
