-- What calls come to: one transcript, or one refusal.
use Rattle.std.proofs.Common.{◌≡◌, ℕ, List, Option, inl, inr, refl, sym, ap, ◌∙◌}
use Rattle.xp_base.specs.Files.{Files}
use Rattle.xp_base.specs.declared.limits.TheConstants.{MAX_TEXT, MAX_TYPELIB}
use Rattle.call_model.specs.declared.places.Conv.{Conv}
use Rattle.lib_model.specs.declared.contents.Library.{Library}
use Rattle.lib_model.specs.Denotes.{Denotes}
use Rattle.lib_model.specs.Table.{table_of}
use Rattle.call_scripts.specs.declared.script.Script as spelled
use Rattle.std.specs.Str.Lines.{lines}
use Rattle.call_scripts.specs.Lines.{IsFirstUnread, IsScript}
use Rattle.xpcall_run.specs.declared.failures.FileFault.TheVariants.{Script}
use Rattle.xpcall_run.specs.declared.failures.Failure.{Failure}
use Rattle.xpcall_run.specs.declared.failures.Refusal.{Refusal}
use Rattle.xpcall_run.specs.declared.failures.Refusal.TheVariants.{OfFile}
use Rattle.xpcall_run.specs.CallWork.{HasBoth, RefusesCalls, RefusesScript, WritesCalls, call_work, calls_given, play_work, script_work}
use Rattle.xpcall_run.specs.Endings.{IsRefused, Stops}
use Rattle.xpcall_run.specs.Sides.{Given, Reads}
use Rattle.xpcall_run.specs.TypelibWork.{RefusesTypelib}
use Rattle.xpcall_run.specs.Works.{Written}
use Rattle.xpcall_run.proofs.Fetching.{refused_as, settled_stops, takes_stops}
use Rattle.xpcall_run.proofs.Outcomes.{IsSingle, Single, settles_single, takes_comes, takes_single}
use Rattle.xpcall_run.proofs.ScriptLaws.{blame_once, not_blamed, script_once}
use Rattle.xpcall_run.proofs.TypelibLaws.{library_once, typelib_apart, typelib_once}

-- ---- one outcome

-- two typelibs that denote one library lead to one transcript
pub one_transcript : (conv : Conv) (lib : Library) (x y b : List ℕ) (given other : Given)
    → Denotes x lib → Denotes y lib → WritesCalls conv x b given → WritesCalls conv y b other
    → given ≡ other
one_transcript conv lib x y b given other p q w v =
    w.transcript
    ∙ ap (λ l. calls_given (table_of l) conv w.script.lines) (library_once x w.lib lib w.denoted p)
    ∙ ap (λ s. calls_given (table_of lib) conv s.lines)
    (script_once b w.script v.script w.spelled v.spelled)
    ∙ ap (λ l. calls_given (table_of l) conv v.script.lines) (library_once y lib v.lib q v.denoted)
    ∙ sym v.transcript

writes_once : (conv : Conv) (x b : List ℕ) (given other : Given) → WritesCalls conv x b given
    → WritesCalls conv x b other → given ≡ other
writes_once conv x b given other w v =
    one_transcript conv w.lib x x b given other w.denoted w.denoted w v

refusal_once : (name b : List ℕ) (r s : Refusal) → RefusesScript name b r → RefusesScript name b s
    → r ≡ s
refusal_once name b r s p q =
    p.2 ∙ ap (λ line. OfFile name (Script line)) (blame_once b p.0 q.0 p.1 q.1) ∙ sym q.2

refuses_once : (m n x b : List ℕ) (r s : Refusal) → RefusesCalls m n x b r
    → RefusesCalls m n x b s → r ≡ s
refuses_once m n x b r s (inl p) (inl q) = typelib_once m x r s p q
refuses_once m n x b r s (inl p) (inr q) = absurd (typelib_apart m x r q.0.0 p q.0.1)
refuses_once m n x b r s (inr p) (inl q) = absurd (typelib_apart m x s p.0.0 q p.0.1)
refuses_once m n x b r s (inr p) (inr q) = refusal_once n b r s p.1 q.1

not_both : (conv : Conv) (m n x b : List ℕ) (given : Given) (r : Refusal)
    → WritesCalls conv x b given → RefusesCalls m n x b r → ⊥
not_both conv m n x b given r w (inl p) = typelib_apart m x r w.lib p w.denoted
not_both conv m n x b given r w (inr p) = not_blamed b w.script p.1.0 w.spelled p.1.1

play_single : (conv : Conv) (m n x b : List ℕ)
    → IsSingle (WritesCalls conv x b) (RefusesCalls m n x b)
play_single conv m n x b = record {
  given = writes_once conv x b;
  refusal = refuses_once m n x b;
  apart = not_both conv m n x b;
}

script_single : (conv : Conv) (m n x : List ℕ) → Single (script_work conv m n x)
script_single conv m n x = takes_single MAX_TEXT n (play_work conv m n x)
    (λ b. settles_single (WritesCalls conv x b) (RefusesCalls m n x b) (play_single conv m n x b))

pub call_single : (conv : Conv) (m n : List ℕ) → Single (call_work conv m n)
call_single conv m n =
    takes_single MAX_TYPELIB m (script_work conv m n) (λ x. script_single conv m n x)

-- ---- files that were found

both_stop : (conv : Conv) (reads : Reads) (m n x b : List ℕ) (f : Failure)
    → HasBoth reads.files m n x b → IsRefused (RefusesCalls m n x b) f
    → Stops (call_work conv m n) reads f
both_stop conv reads m n x b f both refused =
    takes_stops reads MAX_TYPELIB m x (script_work conv m n) f both.finds_typelib
    both.typelib_within
    (takes_stops reads MAX_TEXT n b (play_work conv m n x) f both.finds_script both.script_within
    (settled_stops reads (WritesCalls conv x b) (RefusesCalls m n x b) f refused))

pub typelib_stops : (conv : Conv) (reads : Reads) (m n x b : List ℕ) (f : Failure)
    → HasBoth reads.files m n x b → IsRefused (RefusesTypelib m x) f
    → Stops (call_work conv m n) reads f
typelib_stops conv reads m n x b f both refused =
    both_stop conv reads m n x b f both
    (refused_as (RefusesTypelib m x) (RefusesCalls m n x b) f (λ r why. inl why) refused)

pub script_stops : (conv : Conv) (reads : Reads) (m n x b : List ℕ) (lib : Library) (f : Failure)
    → HasBoth reads.files m n x b → Denotes x lib → IsRefused (RefusesScript n b) f
    → Stops (call_work conv m n) reads f
script_stops conv reads m n x b lib f both denoted refused =
    both_stop conv reads m n x b f both
    (refused_as (RefusesScript n b) (RefusesCalls m n x b) f
    (λ r why. inr ((lib, denoted), why)) refused)

pub call_comes : (conv : Conv) (files : Option Files) (m n x b : List ℕ) (lib : Library)
    (lines : spelled.Script) → HasBoth files m n x b → Denotes x lib → IsScript b lines
    → (call_work conv m n).comes files
    (Written (calls_given (table_of lib) conv lines.lines))
call_comes conv files m n x b lib lines both denoted spelled =
    let given = calls_given (table_of lib) conv lines.lines in
    takes_comes files MAX_TYPELIB m x (script_work conv m n) (Written given) both.finds_typelib
    both.typelib_within
    (takes_comes files MAX_TEXT n b (play_work conv m n x) (Written given) both.finds_script
    both.script_within
    (record { lib = lib; denoted = denoted; script = lines; spelled = spelled; transcript = refl }))

pub blamed_script : (name bytes : List ℕ) (line : ℕ) (f : Failure)
    → IsFirstUnread 1 (lines bytes) line
    → IsRefused (λ r. r ≡ OfFile name (Script line)) f → IsRefused (RefusesScript name bytes) f
blamed_script name bytes line f is made =
    refused_as (λ r. r ≡ OfFile name (Script line)) (RefusesScript name bytes) f
    (λ r named. (line, is, named)) made
