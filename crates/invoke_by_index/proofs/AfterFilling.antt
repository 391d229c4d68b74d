-- The machine after its cells were filled.
use Rattle.std.proofs.Common.{◌≡◌, ℕ, ◌*◌, List, length, sym, subst, ap, ◌∙◌, arith}
use Rattle.std.specs.List.{All}
use Rattle.std.proofs.lemmas.List.FromFn.{length-map-range_with_len}
use Rattle.call_model.specs.declared.prototypes.ProtoArg.{ProtoArg}
use Rattle.object_memory.specs.Heap.{Holds, HoldsStill}
use Rattle.object_memory.specs.Memory.{MachineView, InCells}
use Rattle.invoke_by_index.specs.declared.args.Arg.{Arg}
use Rattle.invoke_by_index.specs.Arguments.{cell_at, cells_of, values_of}
use Rattle.invoke_by_index.specs.Cells.{PassesValues, cells_at, with_numbers}
use Rattle.invoke_by_index.proofs.FilledCells.{cells-filled, length-filled}
use Rattle.invoke_by_index.proofs.Parameters.{IsAddedByValue}
use Rattle.invoke_by_index.proofs.PassedValues.{cells_of-below, passes-values}

module _ (m : MachineView) (base context : ℕ) (proto : List ProtoArg) (args : List Arg) (room : InCells m base (8 * length proto))
    (new : MachineView) (filled : new ≡ with_numbers m base (cells_of m.conv base context proto args)) where
  count : length (cells_of m.conv base context proto args) ≡ length proto
  count = length-map-range_with_len (cell_at m.conv base context proto args) 0 (length proto)

  within : InCells m base (8 * length (cells_of m.conv base context proto args))
  within = (room.0, omega (arith, room.1, count))

  pub cells-after : cells_at new base (length proto) ≡ cells_of m.conv base context proto args
  cells-after =
      ap (λ (k : MachineView). cells_at k base (length proto)) filled
      ∙ cells-filled m base (cells_of m.conv base context proto args) within (length proto) (sym count) (cells_of-below m.conv base context proto args)

  pub pushed-after : length new.cells ≡ length m.cells
  pushed-after = ap (λ (k : MachineView). length k.cells) filled ∙ length-filled m base (cells_of m.conv base context proto args) within

  pub holds-after : HoldsStill m new
  holds-after = λ heap held. subst (λ (k : MachineView). Holds k heap) (sym filled) (record { memory = held.memory; blocks = held.blocks; objects = held.objects })

  pub passes-after : All IsAddedByValue proto → PassesValues new base proto (values_of base context proto args)
  passes-after added = subst (λ (k : MachineView). PassesValues k base proto (values_of base context proto args)) (sym filled) (passes-values m base context proto args room added)
