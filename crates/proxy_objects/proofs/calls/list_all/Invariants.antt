use Rattle.std.proofs.Common.{◌≡◌, ℕ, ◌+◌, ◌<◌, ◌≤◌, ◌∷◌, ◌++◌, length, get_or}
use Rattle.call_model.specs.declared.ctypes.CType.TheVariants.{I8}
use Rattle.call_model.specs.Placement.{type_at}
use Rattle.call_model.specs.Prototype.{types_of}
use Rattle.call_model.specs.Values.{canon}
use Rattle.invoke_by_index.specs.Methods.{prototype}
use Rattle.proxy_objects.proofs.calls.list_all.Given as goal

-- the lists have the object's address and the arguments so far
abbrev pub invariant-loop-arg : goal.invariant-loop-arg
invariant-loop-arg l = record {
  whole : l.yielded ++ l.arg-iterator ≡ prototype l.method;
  few : length (l.yielded ++ l.arg-iterator) ≤ 257;
  count : l.i ≡ length l.yielded;
  types_len : length l.types ≡ length (prototype l.method) + 1;
  patterns_len : length l.patterns ≡ length (prototype l.method) + 1;
  types : (k : ℕ) → k < l.i + 1 → get_or l.types k I8 ≡ type_at (types_of (prototype l.method)) k;
  patterns : (k : ℕ) → k < l.i + 1 → get_or l.patterns k 0 ≡ canon l.conv (type_at (types_of (prototype l.method)) k) (get_or (l.target ∷ l.cells) k 0);
}
