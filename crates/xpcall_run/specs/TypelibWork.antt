-- The work of `dump`: the listing of a typelib; and typelibs that are refused.
use Rattle.std.specs.Prelude.{◌≡◌, ℕ, List}
use Rattle.xp_base.specs.declared.limits.TheConstants.{MAX_TYPELIB}
use Rattle.typelib_faults.specs.declared.faults.BadTypelib.{BadTypelib}
use Rattle.typelib_faults.specs.Laws.{FirstFault}
use Rattle.dump_text.specs.Listing.{IsListing}
use Rattle.xpcall_run.specs.declared.failures.FileFault.TheVariants.{Typelib}
use Rattle.xpcall_run.specs.declared.failures.Refusal.{Refusal}
use Rattle.xpcall_run.specs.declared.failures.Refusal.TheVariants.{OfFile}
use Rattle.xpcall_run.specs.Works.{Work, Quietly, settles, takes}

-- the typelib of this name is refused: its bytes denote no library, and this is their first fault
pub record RefusesTypelib (name bytes : List ℕ) (refusal : Refusal) : Type 0 where
  pub fault : BadTypelib
  pub is_first : FirstFault bytes fault
  pub named : refusal ≡ OfFile name (Typelib fault.code fault.at)

-- what is done with the bytes of the typelib of this name: the listing is written of the library
-- that they denote, or they are refused
abbrev pub listing_work : (name bytes : List ℕ) → Work
listing_work name bytes = settles (Quietly (IsListing bytes)) (RefusesTypelib name bytes)

abbrev pub dump_work : (name : List ℕ) → Work
dump_work name = takes MAX_TYPELIB name (listing_work name)
