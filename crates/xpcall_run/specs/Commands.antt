-- Which words are a command, and which; and the work that each command is.
use Rattle.std.specs.Prelude.{◌≡◌, ◌≤◌, ℕ, Bool, ◌&&◌, nat_le, List, [], ◌∷◌, length, map, Option, Some, None, option_and_then, option_map, codes, if◌then◌else◌, String, string_bytes}
use Rattle.std.specs.List.{list_all}
use Rattle.std.specs.Str.{bytes_eq}
use Rattle.big_texts.specs.Numbers.{big_number}
use Rattle.call_scripts.specs.Reading.{conv_of}
use Rattle.xpcall_run.specs.declared.commands.Command.{Command}
use Rattle.xpcall_run.specs.declared.commands.Command.TheVariants.{Compile, Dump, Call, Big}
use Rattle.xpcall_run.specs.declared.failures.Refusal.TheVariants.{Usage}
use Rattle.xpcall_run.specs.BigWork.{big_work}
use Rattle.xpcall_run.specs.CallWork.{call_work}
use Rattle.xpcall_run.specs.CompileWork.{compile_work}
use Rattle.xpcall_run.specs.TypelibWork.{dump_work}
use Rattle.xpcall_run.specs.Works.{Work, settles}

-- ---- the words

-- the name of a file has 1 to 255 bytes
abbrev pub is_file_name : List ℕ → Bool
is_file_name name = nat_le 1 (length name) && nat_le (length name) 255

-- 1 to 65,535 names of files
abbrev pub are_roots : List (List ℕ) → Bool
are_roots names =
    nat_le 1 (length names) && nat_le (length names) 65535 && list_all is_file_name names

-- behind `compile`, the names of the files that are compiled together
abbrev pub compile_of : List (List ℕ) → Option Command
compile_of names = if are_roots names then Some (Compile names) else None

-- behind `dump`, the name of a typelib
abbrev pub dump_of : List (List ℕ) → Option Command
dump_of (name ∷ []) = if is_file_name name then Some (Dump name) else None
dump_of _ = None

-- behind `call`, the word of a convention, and the names of a typelib and a script
abbrev pub call_of : List (List ℕ) → Option Command
call_of (word ∷ typelib ∷ script ∷ []) =
    option_and_then
    (λ conv.
    if is_file_name typelib && is_file_name script then Some (Call conv typelib script) else None)
    (conv_of word)
call_of _ = None

-- behind `big`, a number from 1 to 249, in decimal with no leading zero
abbrev pub big_of : List (List ℕ) → Option Command
big_of (word ∷ []) = option_map Big (big_number word)
big_of _ = None

-- the command that the words are
abbrev pub command_of : List (List ℕ) → Option Command
command_of [] = None
command_of (verb ∷ words) =
    if bytes_eq verb (codes "compile") then compile_of words
    else if bytes_eq verb (codes "dump") then dump_of words
    else if bytes_eq verb (codes "call") then call_of words
    else if bytes_eq verb (codes "big") then big_of words
    else None

-- the command that the words of a command line are
abbrev pub asked : {Z : Type 0} → List (String Z) → Option Command
asked words = command_of (map string_bytes words)

-- a command has at most 65,535 roots
abbrev pub IsFit : Command → Type 0
IsFit (Compile roots) = length roots ≤ 65535
IsFit (Dump typelib) = Unit {0}
IsFit (Call conv typelib script) = Unit {0}
IsFit (Big last) = Unit {0}

-- ---- the works

abbrev pub command_work : Command → Work
command_work (Compile roots) = compile_work roots
command_work (Dump typelib) = dump_work typelib
command_work (Call conv typelib script) = call_work conv typelib script
command_work (Big last) = big_work last

-- words that are no command are refused, and no file is asked for
abbrev pub work_of : Option Command → Work
work_of None = settles (λ given. ⊥) (λ refusal. refusal ≡ Usage)
work_of (Some command) = command_work command
