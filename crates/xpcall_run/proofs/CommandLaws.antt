-- Each command comes to one outcome over told files, and no command to one over any; and the words
-- of a command are few enough.
use Rattle.std.proofs.Common.{◌≡◌, ℕ, Bool, true, false, ◌&&◌, List, length, Option, Some, None, refl, sym, ap, subst, ◌∙◌, leb-true}
use Rattle.std.specs.Prelude.{IfSome, if◌then◌else◌, nat_le}
use Rattle.std.specs.List.{list_all}
use Rattle.xp_base.specs.Files.{Files}
use Rattle.xpcall_run.specs.declared.commands.Command.{Command}
use Rattle.xpcall_run.specs.declared.commands.Command.TheVariants.{Compile, Dump, Call, Big}
use Rattle.xpcall_run.specs.Commands.{IsFit, are_roots, command_work, compile_of, is_file_name, work_of}
use Rattle.xpcall_run.specs.Headline.{IsKnown, IsTold}
use Rattle.xpcall_run.specs.Works.{Written, Denied}
use Rattle.xpcall_run.proofs.BigLaws.{big_settled}
use Rattle.xpcall_run.proofs.CallLaws.{call_single}
use Rattle.xpcall_run.proofs.TypelibLaws.{dump_single}
use Rattle.xpcall_run.proofs.CompileLaws.{compile_single}
use Rattle.xpcall_run.proofs.Outcomes.{Settled, Single}

command_single : (c : Command) → Single (command_work c)
command_single (Compile roots) = compile_single roots
command_single (Dump m) = dump_single m
command_single (Call conv m n) = call_single conv m n
command_single (Big last) = λ told. big_settled last (Some told)

usage_settled : (files : Option Files) → Settled (work_of None) files
usage_settled files (Written a) p h k = absurd h
usage_settled files (Denied r) (Written b) h k = absurd k
usage_settled files (Denied r) (Denied s) h k = ap Denied (h ∙ sym k)

told_settled : (c : Command) (files : Option Files) → IsTold files → Settled (command_work c) files
told_settled c files told =
    let P : Option Files → Type 0 = Settled (command_work c) in
    subst P (sym told.1) (command_single c told.0)

pub known_settled : (command : Option Command) (files : Option Files) → IsKnown command files
    → Settled (work_of command) files
known_settled None files known = usage_settled files
known_settled (Some (Compile roots)) files known = told_settled (Compile roots) files known
known_settled (Some (Dump m)) files known = told_settled (Dump m) files known
known_settled (Some (Call conv m n)) files known = told_settled (Call conv m n) files known
known_settled (Some (Big last)) files known = big_settled last files

-- ---- few enough roots

second-true : (a b c : Bool) → (a && b && c) ≡ true → b ≡ true
second-true true true c h = refl
second-true true false c h = h
second-true false b c h = absurd cc

fit_by : (names : List (List ℕ)) (test : Bool) → are_roots names ≡ test
    → IfSome (if test then Some (Compile names) else None) IsFit
fit_by names true is =
    leb-true (length names) 65535 (second-true (nat_le 1 (length names)) (nat_le (length names) 65535) (list_all is_file_name names) is)
fit_by names false is = tt

pub compile_fit : (names : List (List ℕ)) → IfSome (compile_of names) IsFit
compile_fit names = fit_by names (are_roots names) refl
