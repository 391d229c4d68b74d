use Rattle.std.proofs.Common.{◌≡◌, ◌≤◌, ◌++◌, List, length}
use Rattle.std.specs.Prelude.{fold}
use Rattle.std.specs.List.{flat_map}
use Rattle.call_replies.specs.Blocks.{Block, HoldsBlocks}
use Rattle.invoke_by_index.specs.Arguments.{parameters}
use Rattle.invoke_by_index.specs.Methods.{prototype}
use Rattle.lib_model.specs.Table.{table_of}
use Rattle.script_meaning.specs.Calls.{learned_at}
use Rattle.script_meaning.specs.Outs.{out_line}
use Rattle.script_outs.specs.Held.{after_on}
use Rattle.script_results.specs.Positions.{cells_before}
use Rattle.script_stage.specs.Standing.{known}
use Rattle.script_results.proofs.results.tell_outs.Given as goal

-- what came out at the positions so far is told and learned
abbrev pub invariant-loop-arg : goal.invariant-loop-arg
invariant-loop-arg l = record {
  whole : l.yielded ++ l.arg-iterator ≡ prototype l.method;
  few : length (l.yielded ++ l.arg-iterator) ≤ 257;
  place : l.k ≡ length l.yielded;
  counted : l.param ≡ length (parameters l.yielded);
  low : l.param ≤ length l.yielded;
  told : (held : List Block) → HoldsBlocks l.machine held
      → l.text
      ≡ l.fn.text
      ++ flat_map
      (out_line (table_of l.typelib) l.machine.conv (after_on l.machine held (prototype l.method) l.values))
      (cells_before (prototype l.method) (length l.yielded));
  learned : (held : List Block)
      → known l.variables
      ≡ fold
      (learned_at l.machine.conv (after_on l.machine held (prototype l.method) l.values) l.words)
      (known l.fn.variables)
      (cells_before (prototype l.method) (length l.yielded));
}
