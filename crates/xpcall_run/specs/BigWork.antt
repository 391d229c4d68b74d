-- The work of `big N`, over files of its own: an IDL file is compiled, and a script is called over
-- the typelib, under three conventions.
use Rattle.std.specs.Prelude.{◌≡◌, ◌⊎◌, ℕ, ◌+◌, List, [], ◌∷◌, ◌++◌, codes, Some}
use Rattle.xp_base.specs.Files.{Files}
use Rattle.call_model.specs.declared.places.Conv.{Conv}
use Rattle.call_model.specs.declared.places.Conv.TheVariants.{SysV64, I386, Aapcs64}
use Rattle.big_texts.specs.Files.{call_files, idl_files}
use Rattle.big_texts.specs.Summary.{calls_text, typelib_text}
use Rattle.xpcall_run.specs.declared.failures.Refusal.{Refusal}
use Rattle.xpcall_run.specs.CallWork.{call_work}
use Rattle.xpcall_run.specs.CompileWork.{compile_work}
use Rattle.xpcall_run.specs.Sides.{Given}
use Rattle.xpcall_run.specs.Works.{Outcome, Written, Denied, Work, Quietly, settles}

-- ---- what these come to

-- what `compile` comes to, over some files
abbrev pub BigCompiles : Files → Outcome → Type 0
BigCompiles files outcome = (compile_work (codes "big.idl" ∷ [])).comes (Some files) outcome

-- what `call` comes to under a convention
abbrev pub BigCalls : Files → Conv → Outcome → Type 0
BigCalls files conv outcome =
    (call_work conv (codes "big.xpt") (codes "big.txt")).comes (Some files) outcome

-- the typelib that `compile` comes to
pub record WritesBigTypelib (files : Files) (typelib : List ℕ) : Type 0 where
  pub given : Given
  pub compiled : BigCompiles files (Written given)
  pub text : typelib ≡ given.text

-- the line of a convention, made of the transcript that `call` comes to
pub record WritesCallsLine (last : ℕ) (conv : Conv) (files : Files) (line : List ℕ) : Type 0 where
  pub given : Given
  pub called : BigCalls files conv (Written given)
  pub counted : line ≡ calls_text conv (last + 1) given.text

-- ---- the work

-- what is printed: the length of the typelib, and what came of the calls under each convention
pub record WritesSummary (last : ℕ) (text : List ℕ) : Type 0 where
  pub typelib : List ℕ
  pub compiled : WritesBigTypelib (idl_files last) typelib
  pub sysv64 : List ℕ
  pub i386 : List ℕ
  pub aapcs64 : List ℕ
  pub on_sysv64 : WritesCallsLine last SysV64 (call_files last typelib) sysv64
  pub on_i386 : WritesCallsLine last I386 (call_files last typelib) i386
  pub on_aapcs64 : WritesCallsLine last Aapcs64 (call_files last typelib) aapcs64
  pub joined : text ≡ typelib_text typelib ++ (sysv64 ++ (i386 ++ aapcs64))

-- the IDL file was compiled, and its calls are refused under a convention, as they are under each
pub record RefusesBigCalls (last : ℕ) (refusal : Refusal) : Type 0 where
  pub typelib : List ℕ
  pub compiled : WritesBigTypelib (idl_files last) typelib
  pub conv : Conv
  pub refused : BigCalls (call_files last typelib) conv (Denied refusal)

-- the IDL file is refused, or its calls are
abbrev pub RefusesBig : (last : ℕ) → Refusal → Type 0
RefusesBig last refusal =
    BigCompiles (idl_files last) (Denied refusal) ⊎ RefusesBigCalls last refusal

-- No file is asked for, whatever the source is.
abbrev pub big_work : (last : ℕ) → Work
big_work last = settles (Quietly (WritesSummary last)) (RefusesBig last)
