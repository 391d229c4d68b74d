-- The cells of a prototype, filled one after the other.
use Rattle.std.proofs.Common.{◌≡◌, ℕ, ◌+◌, ◌-◌, ◌*◌, ◌≤◌, List, [], ◌∷◌, ◌++◌, length, map, take, refl, sym, ap, ◌∙◌, arith, length-append}
use Rattle.std.specs.List.{range_with_len}
use Rattle.std.proofs.lemmas.List.{length_push, take_at}
use Rattle.std.proofs.lemmas.List.FromFn.{length-map-range_with_len, map-range_with_len_more}
use Rattle.std.proofs.Math.Seq.{get_or-append_seam}
use Rattle.call_model.specs.declared.prototypes.ProtoArg.{ProtoArg}
use Rattle.object_memory.specs.declared.layout.TheConstants.{CELLS_AT}
use Rattle.object_memory.specs.Memory.{MachineView, InCells, with_cells}
use Rattle.object_memory.proofs.Lists.{overwritten_none}
use Rattle.xp_base.specs.LittleEndian.{low_bytes}
use Rattle.invoke_by_index.specs.declared.args.Arg.{Arg}
use Rattle.invoke_by_index.specs.Arguments.{cell_at, cell_by, given_at, given_count, parameters, proto_at, value_by, value_for}
use Rattle.invoke_by_index.specs.Cells.{with_numbers}
use Rattle.invoke_by_index.proofs.FilledCells.{filled-more, length-filled}

-- the first n cells hold their numbers
abbrev pub filled_to : MachineView → (base context : ℕ) → List ProtoArg → List Arg → (n : ℕ) → MachineView
filled_to m base context proto args n =
    with_numbers m base (map (cell_at m.conv base context proto args) (range_with_len 0 n))

pub filled-none : (m : MachineView) (base context : ℕ) (proto : List ProtoArg) (args : List Arg) → m ≡ filled_to m base context proto args 0
filled-none m base context proto args = ap (λ (l : List ℕ). record m { cells = l }) (sym (overwritten_none m.cells (base - CELLS_AT)))

-- the next cell
module _ (m : MachineView) (base context : ℕ) (proto : List ProtoArg) (args : List Arg) (front : List ProtoArg) (p : ProtoArg) (back : List ProtoArg) (whole : front ++ p ∷ back ≡ proto)
    (room : InCells m base (8 * length proto)) (cell : ℕ) (place : cell ≡ base + 8 * length front) where
  longer : length front + 1 ≤ length proto
  longer = omega (arith, ap length whole, length-append front (p ∷ back))

  count : length (map (cell_at m.conv base context proto args) (range_with_len 0 (length front))) ≡ length front
  count = length-map-range_with_len (cell_at m.conv base context proto args) 0 (length front)

  -- is pushed
  pub next-in-cells : (old : MachineView) → old ≡ filled_to m base context proto args (length front) → InCells old cell 8
  next-in-cells old old-is =
      let values = map (cell_at m.conv base context proto args) (range_with_len 0 (length front)) in
      let part : InCells m base (8 * length values) = (room.0, omega (arith, room.1, count, longer)) in
      let same : length old.cells ≡ length m.cells = ap (λ (k : MachineView). length k.cells) old-is ∙ length-filled m base values part in
      (omega (arith, room.0, place), omega (arith, room.1, place, longer, same))

  -- gets its number
  pub next-number : (k given : ℕ) (x : Arg) → k ≡ length (parameters front) → x ≡ given_at args k → given ≡ given_count (parameters proto) args
      → cell_by m.conv p.pass p.ty x (value_for p.note given context (value_by p.pass cell x)) ≡ cell_at m.conv base context proto args (length front)
  next-number k given x k-is x-is given-is =
      let there : p ≡ proto_at proto (length front) = sym (get_or-append_seam front p back (proto_at [] 0)) ∙ ap (λ l. proto_at l (length front)) whole in
      let before : front ≡ take (length front) proto = sym (take_at front (p ∷ back) (length front) refl) ∙ ap (take (length front)) whole in
      let arg : x ≡ given_at args (length (parameters (take (length front) proto))) = x-is ∙ ap (given_at args) (k-is ∙ ap (λ l. length (parameters l)) before) in
      (λ i. cell_by m.conv (there i).pass (there i).ty (arg i) (value_for (there i).note (given-is i) context (value_by (there i).pass (place i) (arg i))))

  -- and then one more holds its own
  pub next-filled : (number : ℕ) (old new : MachineView) → number ≡ cell_at m.conv base context proto args (length front) → old ≡ filled_to m base context proto args (length front)
      → new ≡ with_cells old cell (low_bytes 8 number) → new ≡ filled_to m base context proto args (length (front ++ p ∷ []))
  next-filled number old new number-is old-is new-is =
      let f = cell_at m.conv base context proto args in let n = length front in
      let values = map f (range_with_len 0 n) in
      let part : InCells m base (8 * (length values + 1)) = (room.0, omega (arith, room.1, count, longer)) in
      let there : cell ≡ base + 8 * length values = omega (arith, place, count) in
      let push : values ++ f n ∷ [] ≡ map f (range_with_len 0 (length (front ++ p ∷ [])))
      = sym (map-range_with_len_more f 0 n n (omega arith)) ∙ ap (λ j. map f (range_with_len 0 j)) (sym (length_push front p)) in
      new-is ∙ (λ i. with_cells (old-is i) cell (low_bytes 8 (number-is i)))
      ∙ filled-more m base cell values (f n) part there
      ∙ ap (with_numbers m base) push
