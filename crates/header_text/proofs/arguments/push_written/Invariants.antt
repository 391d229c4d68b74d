use Rattle.std.proofs.Common.{◌≡◌, ◌++◌, map, take}
use Rattle.call_model.specs.declared.prototypes.MemberKind.TheVariants as kind
use Rattle.header_text.specs.Header as header
use Rattle.header_text.proofs.arguments.push_written.Given as goal

abbrev pub invariant-loop-param : goal.invariant-loop-param
invariant-loop-param l =
    l.arguments
    ≡ l.fn.arguments
    ++ map (header.argument_of l.ifaces kind.Plain) (take l.param-index l.params)
