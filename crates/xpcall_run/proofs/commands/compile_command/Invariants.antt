use Rattle.std.proofs.Common.{◌≡◌, map, take, string_bytes}
use Rattle.xpcall_run.proofs.commands.compile_command.Given as goal

abbrev pub invariant-loop-name : goal.invariant-loop-name
invariant-loop-name l = l.roots ≡ map string_bytes (take l.name-index l.names)
