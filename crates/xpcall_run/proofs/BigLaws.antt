-- `big` comes to one outcome; and what its files come to, over a source and sinks that never fail.
use Rattle.std.proofs.Common.{◌≡◌, ℕ, ◌+◌, List, [], ◌∷◌, ◌++◌, codes, Option, Some, None, inl, inr, refl, sym, ap, subst, ◌∙◌, arith, append_assoc}
use Rattle.std.proofs.lemmas.Option.{same_Some}
use Rattle.xp_base.specs.Causes.{Rose}
use Rattle.xp_base.specs.Written.{Gained}
use Rattle.xp_base.specs.Files.{Files}
use Rattle.xp_base.specs.declared.limits.TheConstants.{MAX_TEXT, MAX_TYPELIB}
use Rattle.call_model.specs.declared.places.Conv.{Conv}
use Rattle.call_model.specs.declared.places.Conv.TheVariants.{SysV64, I386, Aapcs64}
use Rattle.big_texts.specs.Files.{call_files, idl_files}
use Rattle.big_texts.specs.Summary.{calls_text, typelib_text}
use Rattle.xpcall_run.specs.declared.failures.Failure.{Failure}
use Rattle.xpcall_run.specs.declared.failures.Failure.TheVariants.{CannotRead, CannotWrite, OutOfMemory, Refused}
use Rattle.xpcall_run.specs.declared.failures.Refusal.{Refusal}
use Rattle.xpcall_run.specs.BigWork.{BigCalls, BigCompiles, RefusesBig, RefusesBigCalls, WritesBigTypelib, WritesCallsLine, WritesSummary, big_work}
use Rattle.xpcall_run.specs.CallWork.{call_work, play_work, script_work}
use Rattle.xpcall_run.specs.CompileWork.{compile_work}
use Rattle.xpcall_run.specs.Endings.{IsFirst, IsRefused}
use Rattle.xpcall_run.specs.Sides.{Given, HasFailed, HasUnread, Output, Reads, Shown}
use Rattle.xpcall_run.specs.Works.{Work, Outcome, Written, Denied, Quietly, Takes, takes}
use Rattle.xpcall_run.proofs.CallLaws.{call_single}
use Rattle.xpcall_run.proofs.CompileLaws.{compile_single}
use Rattle.xpcall_run.proofs.Fetching.{refused_as}
use Rattle.xpcall_run.proofs.Outcomes.{Settled, quiet_single, settles_single}

-- ---- one outcome of a settled work

given_once : (work : Work) (files : Option Files) (a b : Given) → Settled work files
    → work.comes files (Written a) → work.comes files (Written b) → a ≡ b
given_once work files a b one p q =
    let same : Written a ≡ Written b = one (Written a) (Written b) p q in cc same

denied_once : (work : Work) (files : Option Files) (r s : Refusal) → Settled work files
    → work.comes files (Denied r) → work.comes files (Denied s) → r ≡ s
denied_once work files r s one p q =
    let same : Denied r ≡ Denied s = one (Denied r) (Denied s) p q in cc same

one_alone : (work : Work) (files : Option Files) (a : Given) (r : Refusal) → Settled work files
    → work.comes files (Written a) → work.comes files (Denied r) → ⊥
one_alone work files a r one p q =
    let same : Written a ≡ Denied r = one (Written a) (Denied r) p q in absurd (cc same)

-- ---- what is refused under a convention, is so under each

takes_alike : (files : Option Files) (limit : ℕ) (name : List ℕ) (next other : List ℕ → Work)
    (o : Outcome) → ((b : List ℕ) → (next b).comes files o → (other b).comes files o)
    → (takes limit name next).comes files o → (takes limit name other).comes files o
takes_alike files limit name next other o alike t =
    record { found = t.found; finds = t.finds; taken = taken t.found t.taken } where
      taken : (found : Option (List ℕ)) → Takes limit name (λ b p. (next b).comes files p) found o
          → Takes limit name (λ b p. (other b).comes files p) found o
      taken None h = h
      taken (Some b) (inl long) = inl long
      taken (Some b) (inr h) = inr (h.0, alike b h.1)

refused_alike : (files : Files) (conv other : Conv) (r : Refusal) → BigCalls files conv (Denied r)
    → BigCalls files other (Denied r)
refused_alike files conv other r t =
    let m = codes "big.xpt" in let n = codes "big.txt" in
    takes_alike (Some files) MAX_TYPELIB m (script_work conv m n) (script_work other m n) (Denied r)
    (λ x. takes_alike (Some files) MAX_TEXT n (play_work conv m n x) (play_work other m n x) (Denied r)
    (λ b h. h)) t

-- ---- one summary

typelib_once : (files : Files) (a b : List ℕ) → WritesBigTypelib files a
    → WritesBigTypelib files b → a ≡ b
typelib_once files a b p q =
    let roots = codes "big.idl" ∷ [] in
    let same = given_once (compile_work roots) (Some files) p.given q.given (compile_single roots files)
    p.compiled q.compiled in
    p.text ∙ ap (λ (g : Given). g.text) same ∙ sym q.text

line_once : (last : ℕ) (conv : Conv) (files : Files) (a b : List ℕ)
    → WritesCallsLine last conv files a → WritesCallsLine last conv files b → a ≡ b
line_once last conv files a b p q =
    let m = codes "big.xpt" in let n = codes "big.txt" in
    let same = given_once (call_work conv m n) (Some files) p.given q.given (call_single conv m n files)
    p.called q.called in
    p.counted ∙ ap (λ (g : Given). calls_text conv (last + 1) g.text) same ∙ sym q.counted

-- two lines of calls over typelibs that are one
lines_once : (last : ℕ) (conv : Conv) (x y a b : List ℕ) → x ≡ y
    → WritesCallsLine last conv (call_files last x) a
    → WritesCallsLine last conv (call_files last y) b → a ≡ b
lines_once last conv x y a b same p q =
    line_once last conv (call_files last x) a b p
    (subst (λ t. WritesCallsLine last conv (call_files last t) b) (sym same) q)

summary_once : (last : ℕ) (a b : List ℕ) → WritesSummary last a → WritesSummary last b → a ≡ b
summary_once last a b p q =
    let typelib = typelib_once (idl_files last) p.typelib q.typelib p.compiled q.compiled in
    let sysv64 = lines_once last SysV64 p.typelib q.typelib p.sysv64 q.sysv64 typelib p.on_sysv64 q.on_sysv64 in
    let i386 = lines_once last I386 p.typelib q.typelib p.i386 q.i386 typelib p.on_i386 q.on_i386 in
    let aapcs64 = lines_once last Aapcs64 p.typelib q.typelib p.aapcs64 q.aapcs64 typelib p.on_aapcs64 q.on_aapcs64 in
    p.joined ∙ (λ j. typelib_text (typelib j) ++ (sysv64 j ++ (i386 j ++ aapcs64 j))) ∙ sym q.joined

-- ---- one refusal, and not both

calls_refused : (last : ℕ) (typelib : List ℕ) (conv : Conv) (r : Refusal) (p : RefusesBigCalls last r)
    → WritesBigTypelib (idl_files last) typelib → BigCalls (call_files last typelib) conv (Denied r)
calls_refused last typelib conv r p w =
    let same = typelib_once (idl_files last) p.typelib typelib p.compiled w in
    refused_alike (call_files last typelib) p.conv conv r
    (subst (λ t. BigCalls (call_files last t) p.conv (Denied r)) same p.refused)

compiled_alone : (last : ℕ) (typelib : List ℕ) (r : Refusal) → WritesBigTypelib (idl_files last) typelib
    → BigCompiles (idl_files last) (Denied r) → ⊥
compiled_alone last typelib r w p =
    let roots = codes "big.idl" ∷ [] in
    one_alone (compile_work roots) (Some (idl_files last)) w.given r
    (compile_single roots (idl_files last)) w.compiled p

refusal_once : (last : ℕ) (r s : Refusal) → RefusesBig last r → RefusesBig last s → r ≡ s
refusal_once last r s (inl p) (inl q) =
    let roots = codes "big.idl" ∷ [] in
    denied_once (compile_work roots) (Some (idl_files last)) r s (compile_single roots (idl_files last)) p q
refusal_once last r s (inl p) (inr q) = absurd (compiled_alone last q.typelib r q.compiled p)
refusal_once last r s (inr p) (inl q) = absurd (compiled_alone last p.typelib s p.compiled q)
refusal_once last r s (inr p) (inr q) =
    let m = codes "big.xpt" in let n = codes "big.txt" in
    denied_once (call_work p.conv m n) (Some (call_files last p.typelib)) r s
    (call_single p.conv m n (call_files last p.typelib)) p.refused
    (calls_refused last p.typelib p.conv s q p.compiled)

big_apart : (last : ℕ) (a : List ℕ) (r : Refusal) → WritesSummary last a → RefusesBig last r → ⊥
big_apart last a r w (inl p) = compiled_alone last w.typelib r w.compiled p
big_apart last a r w (inr p) =
    let m = codes "big.xpt" in let n = codes "big.txt" in
    one_alone (call_work SysV64 m n) (Some (call_files last w.typelib)) w.on_sysv64.given r
    (call_single SysV64 m n (call_files last w.typelib)) w.on_sysv64.called
    (calls_refused last w.typelib SysV64 r p w.compiled)

pub big_settled : (last : ℕ) (files : Option Files) → Settled (big_work last) files
big_settled last files =
    settles_single (Quietly (WritesSummary last)) (RefusesBig last)
    (quiet_single (WritesSummary last) (RefusesBig last) (summary_once last) (refusal_once last)
    (big_apart last)) []

-- ---- over a source and a sink that never fail

pub calm_refused : (work : Work) (reads : Reads) (out : Output) (f : Failure)
    → (HasUnread reads → ⊥) → (HasFailed out.sink → ⊥) → IsFirst work reads out f
    → IsRefused (λ r. work.comes reads.files (Denied r)) f
calm_refused work reads out (CannotRead name) read written first = absurd (read first.cause.1)
calm_refused work reads out CannotWrite read written first = absurd (written first.cause.1)
calm_refused work reads out OutOfMemory read written first = tt
calm_refused work reads out (Refused r) read written first = first.cause

-- a count that stays nothing did not rise
pub never : Rose 0 0 → ⊥
never (inl rose) = absurd (omega (arith, rose))
never (inr end) = absurd (omega (arith, end))

-- a sink in memory that was empty has what it gained
pub gained_all : (before after text : List ℕ) → before ≡ []
    → Gained (Some before) (Some after) text → after ≡ text
gained_all before after text none got =
    same_Some after (before ++ text) (got before refl) ∙ ap (λ b. b ++ text) none

-- a bench that tells nothing
abbrev pub unseen : Shown
unseen = record { before = None; after = None }

-- ---- the parts of a run of `big`

-- the files over which the IDL file is compiled, and its typelib is called
abbrev pub AreIdlFiles : (last : ℕ) → Files → Type 0
AreIdlFiles last files = files ≡ idl_files last

abbrev pub AreCallFiles : (last : ℕ) → (typelib : List ℕ) → Files → Type 0
AreCallFiles last typelib files = files ≡ call_files last typelib

pub compile_refused : (last : ℕ) (files : Files) (f : Failure) → AreIdlFiles last files
    → IsRefused (λ r. BigCompiles files (Denied r)) f → IsRefused (RefusesBig last) f
compile_refused last files f are refused =
    refused_as (λ r. BigCompiles files (Denied r)) (RefusesBig last) f
    (λ r why. inl (subst (λ (x : Files). BigCompiles x (Denied r)) are why)) refused

pub calls_are_refused : (last : ℕ) (first files : Files) (typelib : List ℕ) (conv : Conv) (f : Failure)
    → AreIdlFiles last first → WritesBigTypelib first typelib → AreCallFiles last typelib files
    → IsRefused (λ r. BigCalls files conv (Denied r)) f → IsRefused (RefusesBig last) f
calls_are_refused last first files typelib conv f idl compiled are refused =
    refused_as (λ r. BigCalls files conv (Denied r)) (RefusesBig last) f
    (λ r why. inr (record {
      typelib = typelib;
      compiled = subst (λ (x : Files). WritesBigTypelib x typelib) idl compiled;
      conv = conv;
      refused = subst (λ (x : Files). BigCalls x conv (Denied r)) are why;
    })) refused

pub summary_written : (last : ℕ) (first files : Files) (typelib sysv64 i386 aapcs64 text : List ℕ)
    → AreIdlFiles last first → WritesBigTypelib first typelib → AreCallFiles last typelib files
    → WritesCallsLine last SysV64 files sysv64 → WritesCallsLine last I386 files i386
    → WritesCallsLine last Aapcs64 files aapcs64
    → text ≡ ((typelib_text typelib ++ sysv64) ++ i386) ++ aapcs64 → WritesSummary last text
summary_written last first files typelib sysv64 i386 aapcs64 text idl compiled are s i a joined =
    let lined : (conv : Conv) (line : List ℕ) → WritesCallsLine last conv files line
    → WritesCallsLine last conv (call_files last typelib) line =
    λ conv line h. subst (λ (x : Files). WritesCallsLine last conv x line) are h in
    record {
      typelib = typelib;
      compiled = subst (λ (x : Files). WritesBigTypelib x typelib) idl compiled;
      sysv64 = sysv64;
      i386 = i386;
      aapcs64 = aapcs64;
      on_sysv64 = lined SysV64 sysv64 s;
      on_i386 = lined I386 i386 i;
      on_aapcs64 = lined Aapcs64 aapcs64 a;
      joined = joined
          ∙ append_assoc (typelib_text typelib ++ sysv64) i386 aapcs64
          ∙ append_assoc (typelib_text typelib) sysv64 (i386 ++ aapcs64);
    }

-- ---- works over the names of `big`

pub compile_named : (roots : List (List ℕ)) (files : Files) (o : Outcome)
    → roots ≡ codes "big.idl" ∷ [] → (compile_work roots).comes (Some files) o
    → BigCompiles files o
compile_named roots files o is h =
    subst (λ (x : List (List ℕ)). (compile_work x).comes (Some files) o) is h

pub call_named : (conv : Conv) (m n : List ℕ) (files : Files) (o : Outcome) → m ≡ codes "big.xpt"
    → n ≡ codes "big.txt" → (call_work conv m n).comes (Some files) o → BigCalls files conv o
call_named conv m n files o is too h =
    subst (λ (y : List ℕ). (call_work conv (codes "big.xpt") y).comes (Some files) o) too
    (subst (λ (x : List ℕ). (call_work conv x n).comes (Some files) o) is h)

pub compile_stops : (roots : List (List ℕ)) (files : Files) (f : Failure)
    → roots ≡ codes "big.idl" ∷ []
    → IsRefused (λ r. (compile_work roots).comes (Some files) (Denied r)) f
    → IsRefused (λ r. BigCompiles files (Denied r)) f
compile_stops roots files f is refused =
    refused_as (λ r. (compile_work roots).comes (Some files) (Denied r))
    (λ r. BigCompiles files (Denied r)) f
    (λ r h. compile_named roots files (Denied r) is h) refused

pub call_stops : (conv : Conv) (m n : List ℕ) (files : Files) (f : Failure)
    → m ≡ codes "big.xpt" → n ≡ codes "big.txt"
    → IsRefused (λ r. (call_work conv m n).comes (Some files) (Denied r)) f
    → IsRefused (λ r. BigCalls files conv (Denied r)) f
call_stops conv m n files f is too refused =
    refused_as (λ r. (call_work conv m n).comes (Some files) (Denied r))
    (λ r. BigCalls files conv (Denied r)) f
    (λ r h. call_named conv m n files (Denied r) is too h) refused
