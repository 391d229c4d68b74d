-- The interfaces of a listing, one after the other.
use Rattle.std.proofs.Common.{◌≡◌, ℕ, zero, suc, ◌+◌, ◌<◌, ◌≤◌, List, [], ◌∷◌, ◌++◌, Option, Some, length, drop, refl, sym, ap, ◌∙◌, add-one, arith}
use Rattle.std.proofs.lemmas.List.{drop_all}
use Rattle.std.specs.Prelude.{slice_get}
use Rattle.std.specs.List.{enumerate_from, flat_map}
use Rattle.lib_model.specs.declared.contents.Library.{Library}
use Rattle.lib_model.specs.declared.contents.Iface.{Iface}
use Rattle.descriptor_reader.specs.Views.{IfaceOf, iface_of, nth_iface, numbered}
use Rattle.descriptor_reader.proofs.ViewLaws.{numbered_some}
use Rattle.lib_model.specs.Denotes.{Denotes}
use Rattle.typelib_faults.proofs.TypelibLaws.{denotes_one}
use Rattle.dump_text.specs.Listing.{IsListing, heading, iface_lines, listing}

at_place : {A : Type 0} (xs : List A) (k : ℕ) → k < length xs → (x : A) × (slice_get xs k ≡ Some x) × (drop k xs ≡ x ∷ drop (suc k) xs)
at_place [] k lt = absurd (omega arith)
at_place (x ∷ xs) zero lt = (x, refl, refl)
at_place (x ∷ xs) (suc k) lt = at_place xs k (omega arith)

-- the lines of the interfaces that have at least so many before them
abbrev pub lines_from : Library → ℕ → List ℕ
lines_from lib before = flat_map (λ i. iface_lines lib i.0 i.1) (enumerate_from (before + 1) (drop before lib.ifaces))

-- the next interface: that it is there, and that its lines come next
pub next_iface : (lib : Library) (before : ℕ) (v : IfaceOf) → before < length lib.ifaces → v ≡ record { library = lib; number = before + 1 }
    → (i : Iface) × (iface_of v ≡ Some i) × (lines_from lib before ≡ iface_lines v.library (before + 1) i ++ lines_from lib (before + 1))
next_iface lib before v lt is =
    let at = at_place lib.ifaces before lt in (
      at.0,
      ap iface_of is ∙ ap (nth_iface lib.ifaces) (add-one before) ∙ at.1,
      ap (λ rest. flat_map (λ i. iface_lines lib i.0 i.1) (enumerate_from (before + 1) rest)) (at.2 ∙ ap (λ n. at.0 ∷ drop n lib.ifaces) (sym (add-one before)))
          ∙ ap (λ (w : IfaceOf). iface_lines w.library (before + 1) at.0 ++ lines_from lib (before + 1)) (sym is),
    )

-- what a look-up gives
pub view_is : (lib : Library) (number : ℕ) (found : Option IfaceOf) (v : IfaceOf) → 0 < number → number ≤ length lib.ifaces → found ≡ numbered lib number → found ≡ Some v → v ≡ record { library = lib; number = number }
view_is lib number found v above below is some =
    let same : Some v ≡ Some (record { library = lib; number = number }) = sym some ∙ is ∙ numbered_some lib number above below in cc

-- the lines of all interfaces stand behind the first line, and none behind those of the last
pub listing_begins : (lib : Library) (count : ℕ) → count ≡ length lib.ifaces → listing lib ≡ heading count ++ lines_from lib 0
unfolding listing
listing_begins lib count is = ap (λ n. heading n ++ lines_from lib 0) (sym is)

pub listing_ends : (lib : Library) (before : ℕ) → length lib.ifaces ≤ before → lines_from lib before ≡ []
listing_ends lib before past = ap (λ rest. flat_map (λ i. iface_lines lib i.0 i.1) (enumerate_from (before + 1) rest)) (drop_all before lib.ifaces past)

-- the listing of a typelib is that of the library that it denotes
pub listing_of : (lib : Library) (bytes text : List ℕ) → Denotes bytes lib → IsListing bytes text → text ≡ listing lib
listing_of lib bytes text denoted is = is.listed ∙ ap listing (sym (denotes_one bytes is.library is.denoted) ∙ denotes_one bytes lib denoted)
