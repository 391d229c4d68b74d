-- What the files of the IDL and of the calls lead to.
use Rattle.std.proofs.Common.{◌≡◌, Option, Some, None, refl, sym, subst}
use Rattle.xp_base.specs.Files.{Files}
use Rattle.idl_meaning.specs.Scopes.{scope_of}
use Rattle.idl_meaning.proofs.WholeScope.{scope-accepted}
use Rattle.lib_model.specs.Table.{table_of}
use Rattle.prototype_lowering.specs.StaticTable.{static_table}
use Rattle.prototype_lowering.proofs.TableLaw.{table_law}
use Rattle.include_closure.specs.Closure.{IsClosure}
use Rattle.xpcall_run.specs.declared.commands.Command.{Command}
use Rattle.xpcall_run.specs.declared.commands.Command.TheVariants.{Big, Call, Compile, Dump}
use Rattle.xpcall_run.specs.Commands.{work_of}
use Rattle.xpcall_run.specs.CallWork.{calls_given}
use Rattle.prototype_lowering.specs.Accepted.{library_in}
use Rattle.xpcall_run.specs.CompileWork.{library_work}
use Rattle.xpcall_run.specs.Headline.{IsKnown}
use Rattle.xpcall_run.specs.Joined.{CallOf, CompileOf, IsCallOf, IsCompileOf, static_given, typelib_given}
use Rattle.xpcall_run.specs.Works.{Written}
use Rattle.xpcall_run.proofs.CallLaws.{call_comes}
use Rattle.xpcall_run.proofs.ClosureLaws.{closes_comes}

known : (command : Option Command) (files : Option Files) (told : Files) → files ≡ Some told
    → IsKnown command files
known None files told tells = tt
known (Some (Compile roots)) files told tells = (told, tells)
known (Some (Dump typelib)) files told tells = (told, tells)
known (Some (Call conv typelib script)) files told tells = (told, tells)
known (Some (Big last)) files told tells = tt

pub compile_known : (c : CompileOf) (command : Option Command) (files : Option Files)
    → IsCompileOf c command files → IsKnown command files
compile_known c command files is = known command files is.told is.tells

pub call_known : (c : CallOf) (command : Option Command) (files : Option Files)
    → IsCallOf c command files → IsKnown command files
call_known c command files is = known command files is.told is.tells

pub compile_written : (c : CompileOf) (command : Option Command) (files : Option Files)
    → IsCompileOf c command files → (work_of command).comes files (Written (typelib_given c))
compile_written c command files is =
    let closed = λ (told : Files) (has : files ≡ Some told).
    (let same : is.told ≡ told = cc (is.tells, has) in
    subst (λ (t : Files). IsClosure t c.roots c.idl) same is.closed) in
    let comes = closes_comes files c.roots library_work c.idl (Written (typelib_given c)) closed
    (record { accepted = is.accepted; emitted = refl }, refl) in
    subst (λ (x : Option Command). (work_of x).comes files (Written (typelib_given c)))
    (sym is.asked) comes

static_table_of : (c : CallOf) (command : Option Command) (files : Option Files)
    → IsCallOf c command files → table_of (library_in c.idl) ≡ static_table (scope_of c.idl)
static_table_of c command files is =
    table_law (scope_of c.idl) (scope-accepted c.idl is.lawful is.few is.accepted.faultless)

pub call_written : (c : CallOf) (command : Option Command) (files : Option Files)
    → IsCallOf c command files → (work_of command).comes files (Written (static_given c))
call_written c command files is =
    let comes = call_comes c.conv files is.typelib_name is.script_name c.typelib c.script_bytes
    (library_in c.idl) c.script is.has is.denoted is.spelled in
    let joined = subst
    (λ table. (work_of (Some (Call c.conv is.typelib_name is.script_name))).comes files
    (Written (calls_given table c.conv c.script.lines)))
    (static_table_of c command files is) comes in
    subst (λ (x : Option Command). (work_of x).comes files (Written (static_given c)))
    (sym is.asked) joined
