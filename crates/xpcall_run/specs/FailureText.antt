-- The status of each failure, and what is written of it.
use Rattle.std.specs.Prelude.{ℕ, pos, List, [], ◌∷◌, ◌++◌, codes}
use Rattle.xp_base.specs.Digits.{decimal_text}
use Rattle.xp_base.specs.declared.run_faults.RunFault.{RunFault}
use Rattle.xp_base.specs.declared.run_faults.RunFault.TheVariants as run
use Rattle.xpcall_run.specs.declared.failures.FileFault.{FileFault}
use Rattle.xpcall_run.specs.declared.failures.FileFault.TheVariants.{Missing, TooLong, Token, Syntax, Fault, Typelib, Script}
use Rattle.xpcall_run.specs.declared.failures.Refusal.{Refusal}
use Rattle.xpcall_run.specs.declared.failures.Refusal.TheVariants.{Usage, OfFile, OfFiles}
use Rattle.xpcall_run.specs.declared.failures.Failure.{Failure}
use Rattle.xpcall_run.specs.declared.failures.Failure.TheVariants.{CannotRead, CannotWrite, OutOfMemory, Refused}

-- ---- the statuses

abbrev pub fault_status : FileFault → ℕ
fault_status Missing = 6
fault_status TooLong = 7
fault_status (Token line) = 10
fault_status (Syntax line) = 10
fault_status (Fault code line) = 10
fault_status (Typelib code place) = 11
fault_status (Script line) = 12

abbrev pub refusal_status : Refusal → ℕ
refusal_status Usage = 2
refusal_status (OfFile name fault) = fault_status fault
refusal_status (OfFiles code) = 10

abbrev pub status_of : Failure → ℕ
status_of (CannotRead name) = 3
status_of CannotWrite = 4
status_of OutOfMemory = 5
status_of (Refused refusal) = refusal_status refusal

-- ---- the texts

-- a text and its line feed
abbrev pub line_of : List ℕ → List ℕ
line_of text = text ++ 10 ∷ []

abbrev pub usage : List ℕ
usage = codes "usage: xpcall compile FILE... | dump XPT | call CONV XPT SCRIPT | big N"

-- a name, the number of a line of that file, and what is said of the line
abbrev pub at_line : (name : List ℕ) → (line : ℕ) → (said : List ℕ) → List ℕ
at_line name line said = name ++ codes ":" ++ decimal_text (pos line) ++ said

-- what is said of the fault of this code
abbrev pub code_text : (code : ℕ) → List ℕ
code_text code = codes "fault " ++ decimal_text (pos code)

-- a name, and what is said of the fault of this code at this place of a typelib
abbrev pub typelib_text : (name : List ℕ) → (code place : ℕ) → List ℕ
typelib_text name code place =
    name ++ codes ": typelib " ++ code_text code ++ codes " at " ++ decimal_text (pos place)

-- what is said of the file of this name that has this fault
abbrev pub fault_text : (name : List ℕ) → FileFault → List ℕ
fault_text name Missing = codes "no file " ++ name
fault_text name TooLong = codes "too long " ++ name
fault_text name (Token line) = at_line name line (codes ": token")
fault_text name (Syntax line) = at_line name line (codes ": syntax")
fault_text name (Fault code line) = at_line name line (codes ": " ++ code_text code)
fault_text name (Typelib code place) = typelib_text name code place
fault_text name (Script line) = at_line name line (codes ": script")

abbrev pub refusal_text : Refusal → List ℕ
refusal_text Usage = usage
refusal_text (OfFile name fault) = fault_text name fault
refusal_text (OfFiles code) = code_text code

-- the text of a failure, a line
unfoldable pub failure_text : Failure → List ℕ
failure_text (CannotRead name) = line_of (codes "cannot read " ++ name)
failure_text CannotWrite = line_of (codes "cannot write")
failure_text OutOfMemory = line_of (codes "out of memory")
failure_text (Refused refusal) = line_of (refusal_text refusal)

-- what a run fails by whose output is cut short by this
abbrev pub output_failure : RunFault → Failure
output_failure run.Sink = CannotWrite
output_failure run.Memory = OutOfMemory
