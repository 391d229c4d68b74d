use Rattle.std.proofs.Common.{◌≡◌, ◌++◌, length}
use Rattle.std.specs.Prelude.{map}
use Rattle.std.specs.List.{range_with_len}
use Rattle.invoke_by_index.specs.Methods.{prototype}
use Rattle.script_meaning.specs.Calls.{value_word}
use Rattle.script_chains.proofs.texts.value_words.Given as goal

-- the words of the arguments so far
abbrev pub invariant-loop-arg : goal.invariant-loop-arg
invariant-loop-arg l = record {
  whole : l.yielded ++ l.arg-iterator ≡ prototype l.method;
  count : l.i ≡ length l.yielded;
  words : l.words ≡ map (value_word (prototype l.method) l.values) (range_with_len 0 l.i);
}
