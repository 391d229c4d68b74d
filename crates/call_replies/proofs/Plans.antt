-- The writes of a rule that suits a call are lawful.
use Rattle.std.proofs.Common.{◌≡◌, ℕ, zero, suc, ◌+◌, ◌%◌, ◌≤◌, Bool, true, false, not, ◌&&◌, ◌||◌, cond, eqb, List, [], ◌∷◌, ◌++◌, length, Option, Some, None, refl, sym, ap, subst, arith}
use Rattle.std.specs.Prelude.{is_some, nat_le, option_and_then, option_map, slice_index}
use Rattle.std.proofs.lemmas.Bool.{false≢true}
use Rattle.std.proofs.lemmas.Grind.{common_steps}
use Rattle.std.proofs.lemmas.Option.{none-some, same_Some}
use Rattle.call_model.specs.declared.ctypes.CType.{CType}
use Rattle.call_model.specs.declared.ctypes.CType.TheVariants.{I8, I16, I32, I64, U8, U16, U32, U64, F32, F64, Char, WChar, Ptr}
use Rattle.call_model.specs.declared.ctypes.CType.TheVariants.{Bool as BoolType}
use Rattle.call_model.specs.declared.places.Conv.{Conv}
use Rattle.call_model.specs.declared.places.Conv.TheVariants.{SysV64, I386, Aapcs64, Ms64, Aapcs32}
use Rattle.call_model.specs.declared.prototypes.ProtoArg.{ProtoArg}
use Rattle.call_model.specs.Values.{own_len}
use Rattle.call_scripts.specs.declared.script.ReplyItem.{ReplyItem}
use Rattle.call_scripts.specs.declared.script.ReplyItem.TheVariants as items
use Rattle.object_memory.specs.declared.layout.TheConstants.{CELLS_AT}
use Rattle.object_memory.specs.Memory.{MachineView, InCells}
use Rattle.xp_base.proofs.LittleEndian.{length-low_bytes}
use Rattle.call_replies.specs.Blocks.{Block, HoldsBlocks, data_at}
use Rattle.call_replies.specs.Items.{is_by_cell, passes_cell, takes_item, takes_items, takes_term, takes_second}
use Rattle.call_replies.specs.Reply.{Asked, Memory, Write, cell_write, data_write, is_lawful, item_writes, lawful, own_len_in, sum_value, type_in, writes_of}
use Rattle.call_replies.specs.Writes.{has_cells, have_cells, is_pushed, memory_of}
use Rattle.call_replies.proofs.Looked.{inside-from}
use Rattle.call_replies.proofs.Lawful.{AreAllowed, IsAllowed, are_allowed-append}

pub both : (a b : Bool) → (a && b) ≡ true → (a ≡ true) × (b ≡ true)
both true true h = (refl, refl)
both true false h = absurd (false≢true h)
both false b h = absurd (false≢true h)

-- a value has 1 to 8 bytes of its own
len-some : (conv : Conv) (t : CType) → (1 ≤ own_len conv t) × (own_len conv t ≤ 8)
len-some conv I8 = (omega arith, omega arith)
len-some conv I16 = (omega arith, omega arith)
len-some conv I32 = (omega arith, omega arith)
len-some conv I64 = (omega arith, omega arith)
len-some conv U8 = (omega arith, omega arith)
len-some conv U16 = (omega arith, omega arith)
len-some conv U32 = (omega arith, omega arith)
len-some conv U64 = (omega arith, omega arith)
len-some conv F32 = (omega arith, omega arith)
len-some conv F64 = (omega arith, omega arith)
len-some conv BoolType = (omega arith, omega arith)
len-some conv Char = (omega arith, omega arith)
len-some conv WChar = (omega arith, omega arith)
len-some SysV64 Ptr = (omega arith, omega arith)
len-some I386 Ptr = (omega arith, omega arith)
len-some Aapcs64 Ptr = (omega arith, omega arith)
len-some Ms64 Ptr = (omega arith, omega arith)
len-some Aapcs32 Ptr = (omega arith, omega arith)

-- ---- cells

either : (a b : Bool) → (not a || b) ≡ true → a ≡ true → b ≡ true
either true b h is = h
either false b h is = absurd (false≢true is)

-- each value that is passed in a cell is passed in a pushed one
pub cell-pushed : (cells values : List ℕ) (j : ℕ) (proto : List ProtoArg) (k : ℕ) → have_cells cells values j proto ≡ true → passes_cell proto k ≡ true
    → is_pushed cells (slice_index values (j + k)) ≡ true
cell-pushed cells values j [] zero have passes = absurd (false≢true passes)
cell-pushed cells values j [] (suc k) have passes = absurd (false≢true passes)
cell-pushed cells values j (p ∷ proto) zero have passes =
    let here = both (not (is_by_cell p.pass) || is_pushed cells (slice_index values j)) (have_cells cells values (j + 1) proto) have in
    let same : j ≡ j + 0 = omega arith in
    subst (λ i. is_pushed cells (slice_index values i) ≡ true) same (either (is_by_cell p.pass) (is_pushed cells (slice_index values j)) here.0 passes)
cell-pushed cells values j (p ∷ proto) (suc k) have passes =
    let here = both (not (is_by_cell p.pass) || is_pushed cells (slice_index values j)) (have_cells cells values (j + 1) proto) have in
    let same : j + 1 + k ≡ j + suc k = omega arith in
    subst (λ i. is_pushed cells (slice_index values i) ≡ true) same (cell-pushed cells values (j + 1) proto k here.1 passes)

pushed_is : (cells : List ℕ) (at : ℕ) → is_pushed cells at ≡ true → (CELLS_AT ≤ at) × (at + 8 ≤ CELLS_AT + length cells)
pushed_is cells at is =
    let last = both (nat_le CELLS_AT at && eqb (at % 8) 0) (nat_le (at + 8) (CELLS_AT + length cells)) is in
    let first = both (nat_le CELLS_AT at) (eqb (at % 8) 0) last.0 in
    (le_of CELLS_AT at first.0, le_of (at + 8) (CELLS_AT + length cells) last.1)
  where
    le_of : (a b : ℕ) → nat_le a b ≡ true → a ≤ b
    le_of a b h = grind (arith, common_steps)

-- the own bytes of a cell lie in the pushed cells
pub in-cells : (m : MachineView) (conv : Conv) (proto : List ProtoArg) (values : List ℕ) (k n : ℕ)
    → have_cells m.cells values 0 proto ≡ true → passes_cell proto k ≡ true → n ≤ 8 → InCells m (slice_index values k) n
in-cells m conv proto values k n have passes few =
    let same : 0 + k ≡ k = omega arith in
    let here = pushed_is m.cells (slice_index values k) (subst (λ i. is_pushed m.cells (slice_index values i) ≡ true) same (cell-pushed m.cells values 0 proto k have passes)) in
    (here.0, omega (arith, here.1, few))

-- ---- the writes of a rule

module _ (m : MachineView) (blocks : List Block) (held : HoldsBlocks m blocks) (conv : Conv) (call : Asked) where
  abbrev memory : Memory
  memory = memory_of m blocks

  allowed_data : (w : Write) (writes : List Write) → w.to_cell ≡ false → lawful memory w ≡ Some writes → AreAllowed m writes
  allowed_data w writes to_data is = by_test (is_lawful memory w) refl is
    where
      by_test : (t : Bool) → is_lawful memory w ≡ t → cond t (Some (w ∷ [])) None ≡ Some writes → AreAllowed m writes
      by_test false e h = absurd (none-some writes h)
      by_test true e h =
          let found : is_some (data_at blocks w.at (length w.bytes)) ≡ true = subst (λ t. (t || is_some (data_at blocks w.at (length w.bytes))) ≡ true) to_data e in
          subst (AreAllowed m) (same_Some (w ∷ []) writes h)
          (subst (λ t. IsAllowed m t w.at (length w.bytes)) (sym to_data) (inside-from m blocks held w.at (length w.bytes) found), tt)

  allowed_cell : (k value : ℕ) (writes : List Write) → has_cells call m.cells ≡ true → passes_cell call.proto k ≡ true
      → lawful memory (cell_write conv call k value) ≡ Some writes → AreAllowed m writes
  allowed_cell k value writes cells passes is = by_kind call.entered refl
    where
      by_kind : (t : Bool) → call.entered ≡ t → AreAllowed m writes
      by_kind true e = allowed_data (cell_write conv call k value) writes (ap not e) is
      by_kind false e =
          let w = cell_write conv call k value in
          let to_cell : w.to_cell ≡ true = ap not e in
          let have : have_cells m.cells call.values 0 call.proto ≡ true = subst (λ t. (t || have_cells m.cells call.values 0 call.proto) ≡ true) e cells in
          let n : length w.bytes ≡ own_len_in conv call k = length-low_bytes (own_len_in conv call k) value in
          let bounds = len-some conv (type_in call k) in
          let inside : InCells m w.at (length w.bytes) = in-cells m conv call.proto call.values k (length w.bytes) have passes (omega (arith, n, bounds.1)) in
          let test : is_lawful memory w ≡ true = ap (λ t. t || is_some (data_at blocks w.at (length w.bytes))) to_cell in
          let made : w ∷ [] ≡ writes = same_Some (w ∷ []) writes (subst (λ t. cond t (Some (w ∷ [])) None ≡ Some writes) test is) in
          subst (AreAllowed m) made (subst (λ t. IsAllowed m t w.at (length w.bytes)) (sym to_cell) (inside, omega (arith, n, bounds.0)), tt)

  item_allowed : (item : ReplyItem) (writes : List Write) → has_cells call m.cells ≡ true → takes_item call.proto item ≡ true
      → item_writes conv call memory item ≡ Some writes → AreAllowed m writes
  item_allowed (items.Result n) writes cells takes is = subst (AreAllowed m) (same_Some [] writes is) tt
  item_allowed (items.Set k first second) writes cells takes is =
      let passes = (both (passes_cell call.proto k) (takes_term call.proto first) (both (passes_cell call.proto k && takes_term call.proto first) (takes_second call.proto second) takes).0).0 in
      by_sum (sum_value conv call memory first second) is passes
    where
      by_sum : (o : Option ℕ) → option_and_then (λ value. lawful memory (cell_write conv call k value)) o ≡ Some writes → passes_cell call.proto k ≡ true → AreAllowed m writes
      by_sum None h passes = absurd (none-some writes h)
      by_sum (Some value) h passes = allowed_cell k value writes cells passes h
  item_allowed (items.Fill k offset bytes) writes cells takes is = allowed_data (data_write call k offset bytes) writes refl is

  pub rule_allowed : (rule : List ReplyItem) (writes : List Write) → has_cells call m.cells ≡ true → takes_items call.proto rule ≡ true
      → writes_of conv call memory rule ≡ Some writes → AreAllowed m writes
  rule_allowed [] writes cells takes is = subst (AreAllowed m) (same_Some [] writes is) tt
  rule_allowed (item ∷ rule) writes cells takes is =
      let suits = both (takes_item call.proto item) (takes_items call.proto rule) takes in
      by_item (item_writes conv call memory item) (writes_of conv call memory rule) (λ now. item_allowed item now cells suits.0) (λ later. rule_allowed rule later cells suits.1) is
    where
      by_item : (first rest : Option (List Write)) → ((now : List Write) → first ≡ Some now → AreAllowed m now) → ((later : List Write) → rest ≡ Some later → AreAllowed m later)
          → option_and_then (λ now. option_map (λ later. now ++ later) rest) first ≡ Some writes → AreAllowed m writes
      by_item None rest f g h = absurd (none-some writes h)
      by_item (Some now) None f g h = absurd (none-some writes h)
      by_item (Some now) (Some later) f g h =
          subst (AreAllowed m) (same_Some (now ++ later) writes h) (are_allowed-append m now later (f now refl) (g later refl))
