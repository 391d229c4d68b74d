-- What a typelib comes to: one library, or one first fault; and one listing.
use Rattle.std.proofs.Common.{◌≡◌, ℕ, ◌≤◌, List, length, Option, Some, refl, sym, ap, ◌∙◌}
use Rattle.std.proofs.lemmas.Option.{same_Some}
use Rattle.xp_base.specs.Files.{Files}
use Rattle.xp_base.specs.declared.limits.TheConstants.{MAX_TYPELIB}
use Rattle.lib_model.specs.declared.contents.Library.{Library}
use Rattle.lib_model.specs.Denotes.{Denotes}
use Rattle.typelib_faults.specs.declared.faults.BadTypelib.{BadTypelib}
use Rattle.typelib_faults.specs.Laws.{FirstFault}
use Rattle.typelib_faults.proofs.TypelibLaws.{denotes_one, fault_denies}
use Rattle.dump_text.specs.Listing.{IsListing, listing}
use Rattle.dump_text.proofs.ListingLaws.{listing_of}
use Rattle.xpcall_run.specs.declared.failures.FileFault.TheVariants.{Typelib}
use Rattle.xpcall_run.specs.declared.failures.Failure.{Failure}
use Rattle.xpcall_run.specs.declared.failures.Refusal.{Refusal}
use Rattle.xpcall_run.specs.declared.failures.Refusal.TheVariants.{OfFile}
use Rattle.xpcall_run.specs.Endings.{IsRefused, Stops}
use Rattle.xpcall_run.specs.Sides.{Reads, text_alone}
use Rattle.xpcall_run.specs.TypelibWork.{RefusesTypelib, dump_work, listing_work}
use Rattle.xpcall_run.specs.Works.{Finds, Quietly, Written}
use Rattle.xpcall_run.proofs.Fetching.{refused_as, settled_stops, takes_stops}
use Rattle.xpcall_run.proofs.Outcomes.{IsSingle, Single, quiet_single, settles_single, takes_comes, takes_single}

-- ---- one library, or one fault

pub library_once : (bytes : List ℕ) (a b : Library) → Denotes bytes a → Denotes bytes b → a ≡ b
library_once bytes a b p q = sym (denotes_one bytes a p) ∙ denotes_one bytes b q

pub typelib_once : (name x : List ℕ) (r s : Refusal) → RefusesTypelib name x r
    → RefusesTypelib name x s → r ≡ s
typelib_once name x r s p q =
    let same : p.fault ≡ q.fault = same_Some p.fault q.fault (sym p.is_first ∙ q.is_first) in
    p.named ∙ ap (λ (f : BadTypelib). OfFile name (Typelib f.code f.at)) same ∙ sym q.named

-- a typelib whose bytes denote a library has no fault
pub typelib_apart : (name x : List ℕ) (r : Refusal) (lib : Library) → RefusesTypelib name x r
    → Denotes x lib → ⊥
typelib_apart name x r lib p denoted = fault_denies x p.fault lib p.is_first denoted

-- ---- typelibs that have a fault

pub typelib_faulty : (name bytes : List ℕ) (fault : BadTypelib) (f : Failure)
    → FirstFault bytes fault → IsRefused (λ r. r ≡ OfFile name (Typelib fault.code fault.at)) f
    → IsRefused (RefusesTypelib name bytes) f
typelib_faulty name bytes fault f is made =
    refused_as (λ r. r ≡ OfFile name (Typelib fault.code fault.at)) (RefusesTypelib name bytes) f
    (λ r named. record { fault = fault; is_first = is; named = named }) made

-- ---- listings

listing_once : (bytes a b : List ℕ) → IsListing bytes a → IsListing bytes b → a ≡ b
listing_once bytes a b p q =
    listing_of p.library bytes a p.denoted p ∙ sym (listing_of p.library bytes b p.denoted q)

listing_single : (name bytes : List ℕ)
    → IsSingle (Quietly (IsListing bytes)) (RefusesTypelib name bytes)
listing_single name bytes =
    quiet_single (IsListing bytes) (RefusesTypelib name bytes) (listing_once bytes)
    (typelib_once name bytes) (λ a r p q. typelib_apart name bytes r p.library q p.denoted)

pub dump_single : (name : List ℕ) → Single (dump_work name)
dump_single name = takes_single MAX_TYPELIB name (listing_work name)
    (λ bytes.
    settles_single (Quietly (IsListing bytes)) (RefusesTypelib name bytes) (listing_single name bytes))

pub dump_comes : (files : Option Files) (name bytes : List ℕ) (lib : Library)
    → Finds files name (Some bytes) → length bytes ≤ MAX_TYPELIB → Denotes bytes lib
    → (dump_work name).comes files (Written (text_alone (listing lib)))
dump_comes files name bytes lib finds within denoted =
    takes_comes files MAX_TYPELIB name bytes (listing_work name) (Written (text_alone (listing lib)))
    finds within (record { library = lib; denoted = denoted; listed = refl }, refl)

pub dump_stops : (reads : Reads) (name bytes : List ℕ) (f : Failure)
    → Finds reads.files name (Some bytes) → length bytes ≤ MAX_TYPELIB
    → IsRefused (RefusesTypelib name bytes) f → Stops (dump_work name) reads f
dump_stops reads name bytes f finds within refused =
    takes_stops reads MAX_TYPELIB name bytes (listing_work name) f finds within
    (settled_stops reads (Quietly (IsListing bytes)) (RefusesTypelib name bytes) f refused)
