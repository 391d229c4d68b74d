-- Bytes without a fault denote the library that is read from them; and bytes that denote a library have no fault, and that library
-- is the one that is read. So a fault is there exactly where no library is denoted, and no bytes denote two libraries.
use Rattle.std.proofs.Common.{◌≡◌, ℕ, ◌+◌, ◌-◌, ◌*◌, ◌<◌, ◌≤◌, List, [], ◌∷◌, length, Option, Some, None, Bool, arith, refl, sym, subst, ltb-false, le-ltb, sum_by}
use Rattle.std.specs.Prelude.{All, nat_lt}
use Rattle.lib_model.specs.declared.contents.Library.{Library}
use Rattle.lib_model.specs.declared.contents.Iface.{Iface}
use Rattle.lib_model.specs.declared.contents.Body.{Body}
use Rattle.lib_model.specs.Denotes.{BodyStands, Denotes, EntryStands, ListStands}
use Rattle.lib_model.specs.Valid.{IsChain, IsIface, IsValid, chain_of, own_slots}
use Rattle.typelib_faults.specs.declared.faults.BadTypelib.{BadTypelib}
use Rattle.typelib_faults.specs.Bytes.{AreBytes}
use Rattle.typelib_faults.specs.Faults.{chain_fault, first_fault, header_fault}
use Rattle.typelib_faults.specs.Laws.{FirstFault, IsFine}
use Rattle.typelib_faults.specs.Places.{count_of, directory_of, entries_of, entry_at, entry_end, library_of}
use Rattle.typelib_faults.specs.Walk.{faulty, reach, walk, ◌orelse◌}
use Rattle.typelib_faults.proofs.EntryLaws.{directory_fault, directory_fine, directory_items, directory_reads, directory_resolves, directory_stands}
use Rattle.typelib_faults.proofs.HeaderLaws.{IsHeader, header_fine, header_sound}
use Rattle.typelib_faults.proofs.NameLaws.{half_small}
use Rattle.typelib_faults.proofs.WalkFacts.{faulty_none, fine_faulty, length_values, none_numbers, none_orelse, numbers_none, orelse_none, parts3}

-- ---- chains of parents

pub chain_sound : (x : List ℕ) (ifaces : List Iface) (number : ℕ) → chain_fault x ifaces number ≡ None → IsChain ifaces number
unfolding chain_fault
chain_sound x ifaces number e =
    let long : Bool = nat_lt 250 (length (chain_of ifaces number))
    in let many : Bool = nat_lt 250 (sum_by (own_slots ifaces) (chain_of ifaces number))
    in let place : ℕ = directory_of x + 28 * (number - 1)
    in let parts : (faulty long 10 place ≡ None) × (faulty many 14 place ≡ None) = orelse_none (faulty long 10 place) (faulty many 14 place) e
    in record {
      short = ltb-false 250 (length (chain_of ifaces number)) (faulty_none long 10 place parts.0);
      few_slots = ltb-false 250 (sum_by (own_slots ifaces) (chain_of ifaces number)) (faulty_none many 14 place parts.1);
    }

chain_fine : (x : List ℕ) (ifaces : List Iface) (number : ℕ) → IsChain ifaces number → chain_fault x ifaces number ≡ None
unfolding chain_fault
chain_fine x ifaces number is =
    let long : Bool = nat_lt 250 (length (chain_of ifaces number))
    in let many : Bool = nat_lt 250 (sum_by (own_slots ifaces) (chain_of ifaces number))
    in let place : ℕ = directory_of x + 28 * (number - 1)
    in none_orelse (faulty long 10 place) (faulty many 14 place) (fine_faulty long 10 place (le-ltb 250 (length (chain_of ifaces number)) is.short)) (fine_faulty many 14 place (le-ltb 250 (sum_by (own_slots ifaces) (chain_of ifaces number)) is.few_slots))

-- ---- no fault: a library is denoted

abbrev pub chains_fault : List ℕ → List Iface → Option BadTypelib
chains_fault x ifaces = walk (chain_fault x ifaces) (λ (k : ℕ). k + 1) 1 (count_of x)

entries_long : (x : List ℕ) → length (entries_of x) ≡ count_of x
entries_long x = length_values (entry_at x) entry_end (directory_of x) (count_of x)

entries_valid : (x : List ℕ) → AreBytes x → directory_fault x ≡ None → chains_fault x (entries_of x) ≡ None → All (IsIface (entries_of x)) (entries_of x) → IsValid (library_of x)
unfolding library_of
entries_valid x bytes directory chains valid = record {
  few = omega (arith, entries_long x, half_small x 18 bytes);
  ifaces = valid;
  chains = λ number above below. chain_sound x (entries_of x) number (numbers_none (chain_fault x (entries_of x)) 1 (count_of x) chains number (omega (arith, above)) (omega (arith, below, entries_long x)));
  few_items = directory_items x directory;
}

pub fine_denotes : (x : List ℕ) → AreBytes x → IsFine x → Denotes x (library_of x)
unfolding first_fault library_of
fine_denotes x bytes e =
    let m : (header_fault x ≡ None) × (directory_fault x ≡ None) × (chains_fault x (entries_of x) ≡ None) = parts3 (header_fault x) (directory_fault x) (chains_fault x (entries_of x)) e
    in let header : IsHeader x = header_sound x m.0
    in let long : length (entries_of x) ≡ count_of x = entries_long x
    in let stands : ListStands (EntryStands x) (directory_of x) (entries_of x) (reach entry_end (directory_of x) (count_of x)) × All (IsIface (entries_of x)) (entries_of x) = directory_stands x (entries_of x) bytes long (directory_resolves x) header.entries m.1
    in record {
      valid = entries_valid x bytes m.1 m.2 stands.1;
      long = header.long;
      starts = header.starts;
      major = (omega (arith, header.long), header.major);
      minor = (omega (arith, header.long), header.minor);
      count = (omega (arith, header.long), sym long);
      file_length = (omega (arith, header.long), header.file_length);
      annotation_count = header.annotation_count;
      annotations = header.annotations;
      directory = λ some. header.directory (omega (arith, some, long));
      pool = header.pool;
      directory_end = reach entry_end (directory_of x) (count_of x);
      ifaces = stands.0;
    }

-- ---- a library is denoted: no fault, and it is the one

body_inside : (x : List ℕ) (p : ℕ) (o : Option Body) → BodyStands x p o → p + 4 ≤ length x
body_inside x p None stands = stands.0
body_inside x p (Some b) stands = stands.stands.0

directory_inside : (x : List ℕ) (p : ℕ) (ifaces : List Iface) (q : ℕ) → ListStands (EntryStands x) p ifaces q → 0 < length ifaces → p + 28 * length ifaces ≤ length x
directory_inside x p [] q stands some = absurd (omega (arith, some))
directory_inside x p (v ∷ []) q stands some = omega (arith, body_inside x (p + 24) v.body stands.1.0.body)
directory_inside x p (v ∷ w ∷ vs) q stands some =
    omega (arith, stands.1.0.ends, directory_inside x stands.0 (w ∷ vs) q stands.1.1 (omega arith))

denoted_header : (x : List ℕ) (lib : Library) → Denotes x lib → IsHeader x
denoted_header x lib d = record {
  long = d.long;
  starts = d.starts;
  major = d.major.1;
  minor = d.minor.1;
  file_length = d.file_length.1;
  annotation_count = d.annotation_count;
  annotations = d.annotations;
  directory = λ some. d.directory (omega (arith, some, d.count.1));
  entries = λ some. omega (arith, d.count.1, directory_inside x (directory_of x) lib.ifaces d.directory_end d.ifaces (omega (arith, some, d.count.1)));
  pool = d.pool;
}

denoted_entries : (x : List ℕ) (lib : Library) → Denotes x lib → entries_of x ≡ lib.ifaces
denoted_entries x lib d =
    (directory_reads x lib.ifaces d.directory_end d.ifaces (sym d.count.1) d.valid.ifaces).0

-- bytes denote at most one library
pub denotes_one : (x : List ℕ) (lib : Library) → Denotes x lib → library_of x ≡ lib
unfolding library_of
denotes_one x lib d = rw (denoted_entries x lib d) refl

pub denotes_fine : (x : List ℕ) (lib : Library) → Denotes x lib → IsFine x
unfolding first_fault
denotes_fine x lib d =
    let same : entries_of x ≡ lib.ifaces = denoted_entries x lib d
    in let header : header_fault x ≡ None = header_fine x (denoted_header x lib d)
    in let directory : directory_fault x ≡ None = directory_fine x lib.ifaces d.directory_end d.ifaces (sym d.count.1) d.valid.ifaces d.valid.few_items
    in let chains : chains_fault x lib.ifaces ≡ None = none_numbers (chain_fault x lib.ifaces) 1 (count_of x) (λ m above below. chain_fine x lib.ifaces m (d.valid.chains m (omega (arith, above)) (omega (arith, below, d.count.1))))
    in none_orelse (header_fault x orelse directory_fault x) (chains_fault x (entries_of x)) (none_orelse (header_fault x) (directory_fault x) header directory) (subst (λ (ifaces : List Iface). chains_fault x ifaces ≡ None) (sym same) chains)

-- a fault is there exactly where nothing is denoted
pub fault_denies : (x : List ℕ) (e : BadTypelib) (lib : Library) → FirstFault x e → Denotes x lib → ⊥
fault_denies x e lib fault d =
    let fine : first_fault x ≡ None = denotes_fine x lib d
    in cc
