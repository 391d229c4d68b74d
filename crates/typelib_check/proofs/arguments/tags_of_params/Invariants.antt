use Rattle.std.proofs.Common.{◌≡◌}
use Rattle.typelib_faults.specs.Places.{param_at, param_end}
use Rattle.typelib_faults.specs.Walk.{reach, values}
use Rattle.typelib_check.specs.Parts.{HasTags}
use Rattle.typelib_check.proofs.arguments.tags_of_params.Given as goal

-- the tags of the parameters before
abbrev pub invariant-loop-number : goal.invariant-loop-number
invariant-loop-number l = record {
  reached : l.place ≡ reach (param_end l.file.bytes.now) l.fn.params.from.place l.number;
  tags : HasTags l.found (values (param_at l.file.bytes.now) (param_end l.file.bytes.now) l.fn.params.from.place l.number);
}
