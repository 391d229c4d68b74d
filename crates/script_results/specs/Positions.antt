-- Where values come out of a call.
use Rattle.std.specs.Prelude.{ℕ, List, filter, length}
use Rattle.std.specs.List.{range_with_len}
use Rattle.call_model.specs.declared.prototypes.ProtoArg.{ProtoArg}
use Rattle.call_replies.specs.Items.{passes_cell}

-- the positions before n of the values that are passed in cells
abbrev pub cells_before : List ProtoArg → (n : ℕ) → List ℕ
cells_before proto n = filter (passes_cell proto) (range_with_len 0 n)

-- all of them: of a call with arguments these are the positions that are told
abbrev pub cell_positions : List ProtoArg → List ℕ
cell_positions proto = cells_before proto (length proto)
