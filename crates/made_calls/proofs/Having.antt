-- The cells of a call, as many as its values: when it is asked for, when it has begun, and after its
-- reply.
use Rattle.std.proofs.Common.{◌≡◌, ℕ, ◌*◌, List, [], ◌∷◌, length, IfOk, subst, arith}
use Rattle.std.specs.List.{flat_map}
use Rattle.std.proofs.lemmas.List.{length-append}
use Rattle.std.proofs.lemmas.List.FromFn.{length-map-range_with_len}
use Rattle.invoke_by_index.specs.Arguments.{arg_fault, cell_at}
use Rattle.object_memory.specs.declared.layout.TheConstants.{CELLS_AT}
use Rattle.transcript_text.specs.declared.refusals.Refusal.TheVariants as refusal
use Rattle.xp_base.specs.LittleEndian.{low_bytes}
use Rattle.xp_base.proofs.LittleEndian.{length-low_bytes}
use Rattle.script_meaning.specs.Calls.{enter_with}
use Rattle.script_meaning.specs.Enters.{misformed}
use Rattle.script_meaning.specs.Members.{as_object, object_of}
use Rattle.script_meaning.specs.Refusing.{no_fault, require, there_is}
use Rattle.script_meaning.specs.State.{named, object_at}
use Rattle.script_meaning.specs.Step.{refusal_of, short_frame, stack_given, stack_needed}
use Rattle.script_meaning.proofs.Lawfulness.{if_then}
use Rattle.made_calls.specs.Laws.{CallsHaveCells, EntersHaveNoCells}
use Rattle.made_calls.specs.Making.{HasItsCells}
use Rattle.std.specs.Prelude.{nat_le}

pub calls-have : CallsHaveCells
calls-have table conv state this args m call is =
    subst (λ r. IfOk r HasItsCells) is
    (if_then HasItsCells (no_fault (arg_fault conv m.proto args) refusal_of) _ (λ _ fits.
    if_then HasItsCells (object_of table m.iface (object_at state this)) _ (λ object has.
    length-map-range_with_len (cell_at conv CELLS_AT state.context m.proto args) 0 (length m.proto))))

pub enters-have : EntersHaveNoCells
enters-have table conv state name items m call is =
    subst (λ r. IfOk r HasItsCells) is
    (if_then HasItsCells (there_is (named state name) refusal.NoName) _ (λ found known.
    if_then HasItsCells (no_fault (misformed conv items) refusal.Form) _ (λ _ formed.
    if_then HasItsCells (object_of table m.iface (as_object found)) _ (λ object has.
    if_then HasItsCells
    (require (nat_le (stack_needed conv (enter_with conv m object items)) (stack_given (enter_with conv m object items)))
    (short_frame conv (enter_with conv m object items))) _ (λ _ enough. omega arith)))))

-- a cell has 8 bytes
pub length-words : (cells : List ℕ) → length (flat_map (low_bytes 8) cells) ≡ 8 * length cells
length-words [] = omega arith
length-words (cell ∷ cells) =
    omega (
      arith,
      length-append (low_bytes 8 cell) (flat_map (low_bytes 8) cells),
      length-low_bytes 8 cell,
      length-words cells,
    )
