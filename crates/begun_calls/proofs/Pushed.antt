-- The cells of a call: pushed, filled with its arguments, and taken away again.
use Rattle.std.proofs.Common.{◌≡◌, ◌∙◌, ◌≤◌, ℕ, ◌+◌, ◌-◌, ◌*◌, List, [], ◌++◌, length, replicate, take, ap, arith, sym, length-append}
use Rattle.std.proofs.lemmas.List.{append-nil, drop_all, length-replicate}
use Rattle.std.proofs.lemmas.List.FromFn.{length-map-range_with_len}
use Rattle.call_model.specs.declared.prototypes.ProtoArg.{ProtoArg}
use Rattle.object_memory.specs.declared.layout.TheConstants.{CELLS_AT}
use Rattle.object_memory.specs.Memory.{InCells, MachineView}
use Rattle.invoke_by_index.specs.declared.args.Arg.{Arg}
use Rattle.invoke_by_index.specs.Arguments.{cell_at, cells_of}
use Rattle.invoke_by_index.specs.Cells.{with_numbers}
use Rattle.invoke_by_index.proofs.FilledCells.{length-words}
use Rattle.begun_calls.specs.Machines.{with_args}

-- there is a number for each cell
pub length-cells : (m : MachineView) (context : ℕ) (proto : List ProtoArg) (args : List Arg)
    → length (with_args m context proto args).cells ≡ 8 * length proto
length-cells m context proto args =
    omega (
      arith,
      length-words (cells_of m.conv CELLS_AT context proto args),
      length-map-range_with_len (cell_at m.conv CELLS_AT context proto args) 0 (length proto),
    )

-- the cells of a call are pushed
pub has-room : (m : MachineView) (context : ℕ) (proto : List ProtoArg) (args : List Arg)
    → InCells (with_args m context proto args) CELLS_AT (8 * length proto)
has-room m context proto args = (omega arith, omega (arith, length-cells m context proto args))

module _ (m : MachineView) (empty : m.cells ≡ []) (count : ℕ) where
  abbrev pub pushed : MachineView
  pushed = record m { cells = m.cells ++ replicate (8 * count) 0 }

  length-pushed : length pushed.cells ≡ 8 * count
  length-pushed =
      omega (
        arith,
        length-append m.cells (replicate (8 * count) 0),
        ap length empty,
        length-replicate {A = ℕ} (8 * count) 0,
      )

  -- they are the first cells
  pub base-is : (base : ℕ) → base ≡ CELLS_AT + length m.cells → base ≡ CELLS_AT
  base-is base is = omega (arith, is, ap length empty)

  -- filled with its arguments
  pub args-filled : (context : ℕ) (proto : List ProtoArg) (args : List Arg)
      → count ≡ length proto
      → with_numbers pushed CELLS_AT (cells_of m.conv CELLS_AT context proto args)
      ≡ with_args m context proto args
  args-filled context proto args same =
      let bytes = (with_args m context proto args).cells in
      let all : length pushed.cells ≤ 0 + length bytes =
      omega (arith, length-pushed, same, length-cells m context proto args) in
      ap (λ rest. record m { cells = bytes ++ rest }) (drop_all (0 + length bytes) pushed.cells all)
      ∙ ap (λ cells. record m { cells = cells }) (append-nil bytes)

-- and taken away again
pub popped-args : (m : MachineView) → m.cells ≡ [] → (context : ℕ) (proto : List ProtoArg) (args : List Arg)
    → (count : ℕ) → count ≡ length proto
    → (machine : MachineView) → machine ≡ with_args m context proto args
    → record machine { cells = take (length machine.cells - 8 * count) machine.cells } ≡ m
popped-args m empty context proto args count same machine is =
    let filled = with_args m context proto args in
    let none : length filled.cells - 8 * count ≡ 0 =
    omega (arith, length-cells m context proto args, same) in
    ap (λ (k : MachineView). record k { cells = take (length k.cells - 8 * count) k.cells }) is
    ∙ ap (λ n. record m { cells = take n filled.cells }) none
    ∙ ap (λ cells. record m { cells = cells }) (sym empty)
