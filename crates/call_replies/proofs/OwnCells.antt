-- A call that begins from cells of its own has its cells, and blocks are held whatever the cells are.
use Rattle.std.proofs.Common.{◌≡◌, ℕ, ◌+◌, ◌*◌, ◌%◌, ◌^◌, ◌<◌, ◌≤◌, Bool, true, false, not, ◌&&◌, ◌||◌, eqb, List, [], ◌∷◌, ◌++◌, length, drop, map, refl, sym, ap, ◌∙◌, arith, append_assoc}
use Rattle.std.specs.Prelude.{nat_le, slice_index}
use Rattle.std.proofs.lemmas.Bool.{false≢true}
use Rattle.std.proofs.lemmas.Grind.{common_steps}
use Rattle.std.proofs.lemmas.List.{get_or-append-add, length_push}
use Rattle.call_model.specs.declared.ctypes.CType.{CType}
use Rattle.call_model.specs.declared.ctypes.CType.TheVariants.{Ptr}
use Rattle.call_model.specs.declared.places.Conv.{Conv}
use Rattle.call_model.specs.declared.places.Conv.TheVariants.{SysV64, I386, Aapcs64, Ms64, Aapcs32}
use Rattle.call_model.specs.declared.prototypes.Pass.{Pass}
use Rattle.call_model.specs.declared.prototypes.Pass.TheVariants.{ByValue, ByRef, ByCell}
use Rattle.call_model.specs.declared.prototypes.ProtoArg.{ProtoArg}
use Rattle.call_model.specs.Prototype.{passed_type, types_of}
use Rattle.call_model.specs.Values.{FrameView, canon, canon_all, placed}
use Rattle.call_model.proofs.Conforming.{placed-conforms}
use Rattle.invoke_by_index.specs.Calls.{passed_value, values_in}
use Rattle.invoke_by_index.proofs.CellValues.{length-values_in}
use Rattle.invoke_by_index.proofs.Prototypes.{length-types_of, passed}
use Rattle.object_memory.specs.declared.layout.TheConstants.{CELLS_AT}
use Rattle.object_memory.specs.Memory.{MachineView, InCells, IsLaidOut}
use Rattle.stub_dispatch.specs.Cells.{received_cells}
use Rattle.stub_dispatch.proofs.Recovered.{gives-canonical}
use Rattle.call_replies.specs.Blocks.{Block, HoldsBlocks}
use Rattle.call_replies.specs.Items.{is_by_cell}
use Rattle.call_replies.specs.Writes.{have_cells, is_pushed}

pub holds_blocks-beside : (m : MachineView) (blocks : List Block) (cells : List ℕ) (frame : FrameView) → HoldsBlocks m blocks
    → HoldsBlocks (record m { cells = cells; frame = frame }) blocks
holds_blocks-beside m blocks cells frame held = record {
  heap = record { memory = held.heap.memory; blocks = held.heap.blocks; objects = held.heap.objects };
  placed = held.placed;
}

-- an address of 32 bits is its own pattern
low-address : (conv : Conv) (at : ℕ) → at < 2 ^ 32 → canon conv Ptr at ≡ at
low-address SysV64 at low = omega (arith, low)
low-address I386 at low = omega (arith, low)
low-address Aapcs64 at low = omega (arith, low)
low-address Ms64 at low = omega (arith, low)
low-address Aapcs32 at low = omega (arith, low)

all-three : (a b c : Bool) → a ≡ true → b ≡ true → c ≡ true → (a && b && c) ≡ true
all-three a b c p q r = λ i. p i && q i && r i

pushed-at : (cells : List ℕ) (at : ℕ) → CELLS_AT ≤ at → at % 8 ≡ 0 → at + 8 ≤ CELLS_AT + length cells → is_pushed cells at ≡ true
pushed-at cells at low even fits =
    let p : nat_le CELLS_AT at ≡ true = grind (arith, common_steps) in
    let q : eqb (at % 8) 0 ≡ true = grind (arith, common_steps) in
    let r : nat_le (at + 8) (CELLS_AT + length cells) ≡ true = grind (arith, common_steps) in
    all-three (nat_le CELLS_AT at) (eqb (at % 8) 0) (nat_le (at + 8) (CELLS_AT + length cells)) p q r

either-way : (a b : Bool) → (a ≡ true → b ≡ true) → (not a || b) ≡ true
either-way true b h = h refl
either-way false b h = refl

-- the value that is passed for a value in a cell is the cell's address
cell-passed : (conv : Conv) (m : MachineView) (pass : Pass) (ty : CType) (at : ℕ) → at < 2 ^ 32 → is_by_cell pass ≡ true
    → canon conv (passed_type pass ty) (passed_value m pass at) ≡ at
cell-passed conv m ByValue ty at low is = absurd (false≢true is)
cell-passed conv m ByRef ty at low is = absurd (false≢true is)
cell-passed conv m (ByCell inward) ty at low is = low-address conv at low

-- from position `length front` on, where the cells stand from `base` on
own-cells : (conv : Conv) (m : MachineView) (front : List ℕ) (base : ℕ) (proto : List ProtoArg) → CELLS_AT ≤ base → base % 8 ≡ 0
    → base + 8 * length proto ≤ CELLS_AT + length m.cells → CELLS_AT + length m.cells < 2 ^ 32
    → have_cells m.cells (front ++ canon_all conv (map passed proto) (values_in m base proto)) (length front) proto ≡ true
own-cells conv m front base [] low even fits few = refl
own-cells conv m front base (p ∷ proto) low even fits few =
    let v = canon conv (passed p) (passed_value m p.pass base) in
    let rest = canon_all conv (map passed proto) (values_in m (base + 8) proto) in
    let none : length front ≡ length front + 0 = omega arith in
    let here : slice_index (front ++ v ∷ rest) (length front) ≡ v
    = ap (λ k. slice_index (front ++ v ∷ rest) k) none ∙ get_or-append-add front (v ∷ rest) 0 0 in
    let below : base < 2 ^ 32 = omega (arith, fits, few) in
    let ends : base + 8 ≤ CELLS_AT + length m.cells = omega (arith, fits) in
    let pushed : is_by_cell p.pass ≡ true → is_pushed m.cells (slice_index (front ++ v ∷ rest) (length front)) ≡ true
    = λ is. ap (is_pushed m.cells) (here ∙ cell-passed conv m p.pass p.ty base below is) ∙ pushed-at m.cells base low even ends in
    let further : (base + 8) % 8 ≡ 0 = omega (arith, even) in
    let later : have_cells m.cells ((front ++ v ∷ []) ++ rest) (length (front ++ v ∷ [])) proto ≡ true
    = own-cells conv m (front ++ v ∷ []) (base + 8) proto (omega (arith, low)) further (omega (arith, fits)) few in
    let same : have_cells m.cells (front ++ v ∷ rest) (length front + 1) proto ≡ have_cells m.cells ((front ++ v ∷ []) ++ rest) (length (front ++ v ∷ [])) proto
    = λ i. have_cells m.cells (sym (append_assoc front (v ∷ []) rest) i) (sym (length_push front v) i) proto in
    let first = either-way (is_by_cell p.pass) (is_pushed m.cells (slice_index (front ++ v ∷ rest) (length front))) pushed in
    λ i. first i && (same ∙ later) i

-- a call from cells of its own has its cells
pub has-own-cells : (conv : Conv) (m : MachineView) (base : ℕ) (proto : List ProtoArg) (this : ℕ) → IsLaidOut m → InCells m base (8 * length proto) → base % 8 ≡ 0
    → have_cells m.cells (received_cells conv proto (placed conv (types_of proto) (this ∷ values_in m base proto))) 0 proto ≡ true
has-own-cells conv m base proto this laid inside even =
    let values = values_in m base proto in let frame = placed conv (types_of proto) (this ∷ values) in
    let paired : length (types_of proto) ≡ length (this ∷ values) = omega (arith, length-types_of proto, length-values_in m base proto) in
    let received : received_cells conv proto frame ≡ canon_all conv (map passed proto) values
    = ap (drop 1) (gives-canonical conv proto frame this values (placed-conforms conv (types_of proto) (this ∷ values) paired)) in
    let few : CELLS_AT + length m.cells < 2 ^ 32 = omega (arith, laid.most_cells) in
    ap (λ vs. have_cells m.cells vs 0 proto) received ∙ own-cells conv m [] base proto inside.0 even inside.1 few
