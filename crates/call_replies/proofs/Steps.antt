-- What the code asks a machine is what the definitions ask the blocks that it holds.
use Rattle.std.proofs.Common.{◌≡◌, ℕ, zero, suc, ◌+◌, ◌<◌, ◌≤◌, Bool, true, false, not, ◌||◌, List, [], ◌∷◌, length, Option, Some, None, refl, sym, ap, ◌∙◌, inl, inr, cond, arith}
use Rattle.std.specs.Prelude.{◌↔◌, IsTrue, is_some, nat_le, option_and_then, option_map, slice_get}
use Rattle.std.specs.Option.{option_map_or}
use Rattle.std.proofs.lemmas.Bool.{false≢true}
use Rattle.std.proofs.lemmas.Grind.{common_steps}
use Rattle.call_model.specs.declared.ctypes.CType.{CType}
use Rattle.call_model.specs.declared.places.Conv.{Conv}
use Rattle.call_model.specs.declared.prototypes.ProtoArg.{ProtoArg}
use Rattle.call_model.specs.Values.{canon}
use Rattle.object_memory.specs.declared.layout.TheConstants.{CELLS_AT}
use Rattle.object_memory.specs.Heap.{ReadsBlockNumber}
use Rattle.object_memory.specs.Memory.{MachineView, Inside, IsLaidOut, IsReadable}
use Rattle.xp_base.specs.LittleEndian.{number_of}
use Rattle.xp_base.proofs.LittleEndian.{length-low_bytes}
use Rattle.call_scripts.specs.declared.script.ReplyItem.TheVariants as items
use Rattle.call_scripts.specs.declared.script.Term.{Term}
use Rattle.call_replies.specs.Blocks.{Block, HoldsBlocks, contents, data_at}
use Rattle.call_replies.specs.Reply.{Asked, Memory, cell_write, is_lawful, item_writes, lawful, own_len_in, sum_value, value_in}
use Rattle.call_replies.specs.Writes.{planned_for}
use Rattle.call_replies.proofs.Looked.{from-inside, heap_bytes-is, inside-from}

module _ (m : MachineView) (blocks : List Block) (held : HoldsBlocks m blocks) (a n : ℕ) where
  pub is_inside : (b : Bool) → (IsTrue b ↔ Inside m.blocks a n) → b ≡ is_some (data_at blocks a n)
  is_inside true iff = sym (from-inside m blocks held a n (iff.0 refl))
  is_inside false iff = by_test (is_some (data_at blocks a n)) refl
    where
      by_test : (t : Bool) → is_some (data_at blocks a n) ≡ t → false ≡ t
      by_test true e = absurd (false≢true (iff.1 (inside-from m blocks held a n e)))
      by_test false e = refl

  pub none-outside : (Inside m.blocks a n → ⊥) → data_at blocks a n ≡ None
  none-outside out = by_found (data_at blocks a n) refl
    where
      by_found : (o : Option (List ℕ)) → data_at blocks a n ≡ o → o ≡ None
      by_found None e = refl
      by_found (Some x) e = absurd (out (inside-from m blocks held a n (ap is_some e)))

  pub read-block : (r : Option ℕ) → Inside m.blocks a n → ReadsBlockNumber m a n r → r ≡ option_map number_of (data_at blocks a n)
  read-block r inside reads = reads inside (contents blocks) held.heap ∙ ap (option_map number_of) (heap_bytes-is m blocks held a n inside)

-- a test that passes for the argument at a position finds one there
pub position-inside : (test : ProtoArg → Bool) (proto : List ProtoArg) (k : ℕ) → option_map_or test (slice_get proto k) false ≡ true → k < length proto
position-inside test [] zero h = absurd (false≢true h)
position-inside test [] (suc k) h = absurd (false≢true h)
position-inside test (p ∷ proto) zero h = omega arith
position-inside test (p ∷ proto) (suc k) h = omega (arith, position-inside test proto k h)

pub there-inside : (proto : List ProtoArg) (k : ℕ) → is_some (slice_get proto k) ≡ true → k < length proto
there-inside [] zero h = absurd (false≢true h)
there-inside [] (suc k) h = absurd (false≢true h)
there-inside (p ∷ proto) zero h = omega arith
there-inside (p ∷ proto) (suc k) h = omega (arith, there-inside proto k h)

-- 8 bytes from CELLS_AT on can be read exactly where a pushed cell ends behind them
pub reads-cell : (m : MachineView) (at : ℕ) (r : Bool) → IsLaidOut m → ((r ≡ true) ↔ IsReadable m at 8) → CELLS_AT ≤ at
    → r ≡ nat_le (at + 8) (CELLS_AT + length m.cells)
reads-cell m at r laid iff low = by_test (nat_le (at + 8) (CELLS_AT + length m.cells)) refl r iff
  where
    by_test : (t : Bool) → nat_le (at + 8) (CELLS_AT + length m.cells) ≡ t → (r : Bool) → ((r ≡ true) ↔ IsReadable m at 8) → r ≡ t
    by_test true e r iff = let within : at + 8 ≤ CELLS_AT + length m.cells = grind (arith, common_steps) in iff.1 (inr (low, within))
    by_test false e true iff = absurd (out (iff.0 refl))
      where
        out : IsReadable m at 8 → ⊥
        out (inl in_memory) = omega (arith, laid.below_cells, in_memory.1, low)
        out (inr in_cells) = let within : at + 8 ≤ CELLS_AT + length m.cells = in_cells.1 in grind (arith, common_steps)
    by_test false e false iff = refl

-- the value of bytes that were read as a number
pub mapped-value : (conv : Conv) (t : CType) (o : Option (List ℕ)) (r : Option ℕ) → r ≡ option_map number_of o
    → option_map (canon conv t) r ≡ option_map (λ bytes. canon conv t (number_of bytes)) o
mapped-value conv t o r is = ap (option_map (canon conv t)) is ∙ by_bytes o
  where
    by_bytes : (o : Option (List ℕ)) → option_map (canon conv t) (option_map number_of o) ≡ option_map (λ bytes. canon conv t (number_of bytes)) o
    by_bytes None = refl
    by_bytes (Some x) = refl

-- ---- what an item writes

module _ (conv : Conv) (call : Asked) (memory : Memory) (k : ℕ) where
  -- whether a cell may be written does not depend on the value
  pub cell-lawful : (value : ℕ) (inside : Bool) → inside ≡ is_some (data_at memory.blocks (value_in call k) (own_len_in conv call k))
      → (not call.entered || inside) ≡ is_lawful memory (cell_write conv call k value)
  cell-lawful value inside is =
      ap (λ t. not call.entered || t) (is ∙ ap (λ n. is_some (data_at memory.blocks (value_in call k) n)) (sym (length-low_bytes (own_len_in conv call k) value)))

  pub set-unlawful : (first : Term) (second : Option Term) → ((value : ℕ) → false ≡ is_lawful memory (cell_write conv call k value))
      → None ≡ item_writes conv call memory (items.Set k first second)
  set-unlawful first second out = by_sum (sum_value conv call memory first second)
    where
      by_sum : (o : Option ℕ) → None ≡ option_and_then (λ value. lawful memory (cell_write conv call k value)) o
      by_sum None = refl
      by_sum (Some value) = ap (λ t. cond t (Some (cell_write conv call k value ∷ [])) None) (out value)

  pub set-lawful : (first : Term) (second : Option Term) (o : Option ℕ) → o ≡ sum_value conv call memory first second
      → ((value : ℕ) → true ≡ is_lawful memory (cell_write conv call k value))
      → option_map (planned_for conv call (items.Set k first second)) o ≡ item_writes conv call memory (items.Set k first second)
  set-lawful first second o is within = by_sum o ∙ ap (λ sum. option_and_then (λ value. lawful memory (cell_write conv call k value)) sum) is
    where
      by_sum : (o : Option ℕ) → option_map (planned_for conv call (items.Set k first second)) o ≡ option_and_then (λ value. lawful memory (cell_write conv call k value)) o
      by_sum None = refl
      by_sum (Some value) = ap (λ t. cond t (Some (cell_write conv call k value ∷ [])) None) (within value)
