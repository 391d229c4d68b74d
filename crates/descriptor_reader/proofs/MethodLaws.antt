-- What is known of a descriptor and its methods in a file without a fault, when they are read again.
use Rattle.std.proofs.Common.{◌≡◌, ◌≢◌, ℕ, zero, suc, ◌+◌, ◌-◌, ◌*◌, ◌<◌, ◌≤◌, List, length, Some, None, true, false, arith, refl, sym, ap, ◌∙◌, subst, eqb, eq-eqb, ne_eqb}
use Rattle.std.specs.Int.RustNames.{bit_and}
use Rattle.lib_model.specs.Denotes.{Denotes, DescriptorStands, byte_at, half_at, place_of, word_at}
use Rattle.lib_model.specs.Valid.{IsBody, body_items, body_of, iface_bits}
use Rattle.typelib_faults.specs.declared.cursor.Cursor.{Cursor}
use Rattle.typelib_faults.specs.Bytes.{AreBytes}
use Rattle.typelib_faults.specs.Faults.{body_fault, constant_fault, constant_next, constants_cursor, constants_reach, descriptor_cursor, descriptor_fault, directory_cursor, entry_fault, entry_next, item_fault, method_fault, method_next, methods_cursor, methods_reach, name_fault, namespace_fault, parent_fault, past}
use Rattle.typelib_faults.specs.Laws.{IsFine}
use Rattle.typelib_faults.specs.Places.{body_at, constant_at, constant_end, constants_end, count_of, descriptor_at, directory_of, entries_of, entry_end, library_of, method_at, method_end, methods_end}
use Rattle.typelib_faults.specs.Walk.{reach, values, walk}
use Rattle.typelib_faults.proofs.ChainLaws.{known_body}
use Rattle.typelib_faults.proofs.EntryLaws.{directory_resolved, directory_resolves, reach_entry}
use Rattle.typelib_faults.proofs.IfaceLaws.{AreResolved, constants_place, descriptor_fine, descriptor_items, descriptor_sound}
use Rattle.typelib_faults.proofs.MemberLaws.{item_room}
use Rattle.typelib_faults.proofs.TypeLaws.{past_inside}
use Rattle.typelib_faults.proofs.TypelibLaws.{fine_denotes}
use Rattle.typelib_faults.proofs.WalkFacts.{parts4, parts7, reach_place, walk_at}
use Rattle.descriptor_reader.specs.Views.{first_at}
use Rattle.descriptor_reader.proofs.ViewLaws.{directory_known, library_long}

-- ---- a descriptor

-- the entry of a number, at the cursor that it was read at
abbrev entry_cursor : List ℕ → ℕ → Cursor
entry_cursor x number = reach (entry_next x) (directory_cursor x) (number - 1)

entry_place : (x : List ℕ) (directory number entry : ℕ) → directory ≡ directory_of x → entry ≡ directory + 28 * (number - 1) → (entry_cursor x number).place ≡ entry
entry_place x directory number entry is there =
    reach_place (entry_next x) entry_end (λ s. refl) (directory_cursor x) (number - 1) ∙ omega (arith, reach_entry (directory_of x) (number - 1), is, there)

known_entry : (x : List ℕ) (number : ℕ) → IsFine x → 0 < number → number ≤ count_of x → entry_fault x (entry_cursor x number) ≡ None
known_entry x number fine above below =
    walk_at (entry_fault x) (entry_next x) (directory_cursor x) (count_of x) (number - 1) (directory_known x fine) (omega (arith, above, below))

-- of an entry without a fault: its descriptor has none, and an item is left for it
entry_parts : (x : List ℕ) (c : Cursor) → entry_fault x c ≡ None → eqb (word_at x (c.place + 24)) 0 ≡ false → (descriptor_fault x (descriptor_cursor x c) ≡ None) × (c.items + 1 ≤ 1000000)
unfolding entry_fault body_fault
entry_parts x c e some =
    let m : (item_fault c ≡ None) × (name_fault x (c.place + 16) ≡ None) × (namespace_fault x (c.place + 20) ≡ None) × (body_fault x c ≡ None) = parts4 (item_fault c) (name_fault x (c.place + 16)) (namespace_fault x (c.place + 20)) (body_fault x c) e
    in (rw some at m.3, item_room c m.0)

resolved_known : (x : List ℕ) → AreBytes x → IsFine x → AreResolved x (entries_of x)
unfolding library_of
resolved_known x bytes fine =
    let denotes : Denotes x (library_of x) = fine_denotes x bytes fine
    in directory_resolved x (entries_of x) denotes.directory_end denotes.ifaces (library_long x)

-- a descriptor that has no fault where it stands has none when it is read as the first of all items
again : (x : List ℕ) (c : Cursor) → AreBytes x → IsFine x → c.items ≤ 1000000 → descriptor_fault x c ≡ None → descriptor_fault x (first_at c.place) ≡ None
unfolding library_of
again x c bytes fine few e =
    let long : length (entries_of x) ≡ count_of x = library_long x
    in let sound : DescriptorStands x c.place (descriptor_at x c.place) × IsBody (entries_of x) (descriptor_at x c.place) = descriptor_sound x (entries_of x) c bytes long (directory_resolves x) e
    in let counted : ((constants_reach x c).items ≡ c.items + body_items (descriptor_at x c.place)) × ((constants_reach x c).items ≤ 1000000) = descriptor_items x c few e
    in (descriptor_fine x (entries_of x) (first_at c.place) (descriptor_at x c.place) sound.0 long (resolved_known x bytes fine) sound.1 (omega (arith, counted.0, counted.1))).0

pub descriptor_known : (x : List ℕ) (directory number offset entry place : ℕ) → AreBytes x → IsFine x → directory ≡ directory_of x → 0 < number → number ≤ count_of x → entry ≡ directory + 28 * (number - 1) → offset ≡ word_at x (entry + 24) → offset ≢ 0 → place ≡ place_of x offset → descriptor_fault x (first_at place) ≡ None
descriptor_known x directory number offset entry place bytes fine is above below there read some named =
    let c : Cursor = entry_cursor x number
    in let word : word_at x (c.place + 24) ≡ offset = ap (λ (p : ℕ). word_at x (p + 24)) (entry_place x directory number entry is there) ∙ sym read
    in let parts : (descriptor_fault x (descriptor_cursor x c) ≡ None) × (c.items + 1 ≤ 1000000) = entry_parts x c (known_entry x number fine above below) (ap (λ (w : ℕ). eqb w 0) word ∙ ne_eqb offset 0 some)
    in let same : place_of x (word_at x (c.place + 24)) ≡ place = ap (place_of x) word ∙ sym named
    in subst (λ (p : ℕ). descriptor_fault x (first_at p) ≡ None) same (again x (descriptor_cursor x c) bytes fine parts.1 parts.0)

-- what is known of a descriptor without a fault
pub record KnownDescriptor (x : List ℕ) (c : Cursor) : Type 0 where
  pub inside : c.place + 4 ≤ length x
  pub methods : walk (method_fault x) (method_next x) (methods_cursor c) (half_at x (c.place + 2)) ≡ None
  pub counted : (methods_reach x c).place + 2 ≤ length x
  pub constants : walk (constant_fault x) (constant_next x) (constants_cursor (methods_reach x c)) (half_at x (methods_reach x c).place) ≡ None
  pub flagged : (constants_reach x c).place + 1 ≤ length x

pub descriptor_parts : (x : List ℕ) (c : Cursor) → descriptor_fault x c ≡ None → KnownDescriptor x c
unfolding descriptor_fault
descriptor_parts x c e =
    let M : Cursor = methods_reach x c
    in let m : (past x c.place 2 ≡ None) × (parent_fault x c.place ≡ None) × (past x (c.place + 2) 2 ≡ None) × (walk (method_fault x) (method_next x) (methods_cursor c) (half_at x (c.place + 2)) ≡ None) × (past x M.place 2 ≡ None) × (walk (constant_fault x) (constant_next x) (constants_cursor M) (half_at x M.place) ≡ None) × (past x (constants_reach x c).place 1 ≡ None) = parts7 (past x c.place 2) (parent_fault x c.place) (past x (c.place + 2) 2) (walk (method_fault x) (method_next x) (methods_cursor c) (half_at x (c.place + 2))) (past x M.place 2) (walk (constant_fault x) (constant_next x) (constants_cursor M) (half_at x M.place)) (past x (constants_reach x c).place 1) e
    in record {
      inside = omega (arith, past_inside x (c.place + 2) 2 m.2);
      methods = m.3;
      counted = past_inside x M.place 2 m.4;
      constants = m.5;
      flagged = past_inside x (constants_reach x c).place 1 m.6;
    }

-- where its methods end
pub methods_ended : (x : List ℕ) (p count : ℕ) (from end : Cursor) → from ≡ first_at (p + 4) → count ≡ half_at x (p + 2) → end ≡ reach (method_next x) from count → end ≡ methods_reach x (first_at p)
methods_ended x p count from end begins counts ends =
    ends ∙ (ap (λ (c : Cursor). reach (method_next x) c count) begins ∙ ap (reach (method_next x) (first_at (p + 4))) counts)

-- where its constants end
pub constants_ended : (x : List ℕ) (p count : ℕ) (from last : Cursor) → descriptor_fault x (first_at p) ≡ None → from ≡ constants_cursor (methods_reach x (first_at p)) → count ≡ half_at x (methods_reach x (first_at p)).place → last ≡ reach (constant_next x) from count → (last.place + 1 ≤ length x) × (last.place ≡ constants_end x p)
constants_ended x p count from last e begins counts ends =
    let here : last ≡ constants_reach x (first_at p) = ends ∙ (ap (λ (c : Cursor). reach (constant_next x) c count) begins ∙ ap (reach (constant_next x) (constants_cursor (methods_reach x (first_at p)))) counts)
    in subst (λ (c : Cursor). (c.place + 1 ≤ length x) × (c.place ≡ constants_end x p)) (sym here) ((descriptor_parts x (first_at p) e).flagged, constants_place x (first_at p))

-- ---- the body of an interface

body_is : (x : List ℕ) (directory number entry : ℕ) → directory ≡ directory_of x → 0 < number → number ≤ count_of x → entry ≡ directory + 28 * (number - 1) → body_of (entries_of x) number ≡ body_at x (entry + 24)
body_is x directory zero entry is above below there = absurd (omega (arith, above))
body_is x directory (suc k) entry is above below there =
    let same : directory_of x + 28 * k + 24 ≡ entry + 24 = omega (arith, is, there)
    in known_body x k (omega (arith, below)) ∙ ap (body_at x) same

body_none : (x : List ℕ) (p : ℕ) → word_at x p ≡ 0 → body_at x p ≡ None
unfolding body_at
body_none x p none =
    let test : eqb (word_at x p) 0 ≡ true = eq-eqb (word_at x p) 0 none
    in rw test refl

body_some : (x : List ℕ) (p offset place : ℕ) → offset ≡ word_at x p → offset ≢ 0 → place ≡ place_of x offset → body_at x p ≡ Some (descriptor_at x place)
unfolding body_at
body_some x p offset place read some named =
    let test : eqb (word_at x p) 0 ≡ false = ap (λ (w : ℕ). eqb w 0) (sym read) ∙ ne_eqb offset 0 some
    in rw test (ap (λ (q : ℕ). Some (descriptor_at x q)) (sym (named ∙ ap (place_of x) read)))

pub unresolved_body : (x : List ℕ) (directory number offset entry : ℕ) → directory ≡ directory_of x → 0 < number → number ≤ count_of x → entry ≡ directory + 28 * (number - 1) → offset ≡ word_at x (entry + 24) → offset ≡ 0 → body_of (entries_of x) number ≡ None
unresolved_body x directory number offset entry is above below there read none =
    body_is x directory number entry is above below there ∙ body_none x (entry + 24) (sym read ∙ none)

pub resolved_body : (x : List ℕ) (directory number offset entry place : ℕ) → directory ≡ directory_of x → 0 < number → number ≤ count_of x → entry ≡ directory + 28 * (number - 1) → offset ≡ word_at x (entry + 24) → offset ≢ 0 → place ≡ place_of x offset → body_of (entries_of x) number ≡ Some (descriptor_at x place)
resolved_body x directory number offset entry place is above below there read some named =
    body_is x directory number entry is above below there ∙ body_some x (entry + 24) offset place read some named

-- ---- what a descriptor says

pub methods_are : (x : List ℕ) (p : ℕ) → (descriptor_at x p).methods ≡ values (method_at x) (method_end x) (p + 4) (half_at x (p + 2))
unfolding descriptor_at
methods_are x p = refl

pub constants_are : (x : List ℕ) (p count place : ℕ) → place ≡ methods_end x p + 2 → count ≡ half_at x (methods_end x p) → values (constant_at x) (constant_end x) place count ≡ (descriptor_at x p).constants
unfolding descriptor_at
constants_are x p count place there is =
    ap (λ (q : ℕ). values (constant_at x) (constant_end x) q count) there ∙ ap (values (constant_at x) (constant_end x) (methods_end x p + 2)) is

pub flags_are : (x : List ℕ) (p last : ℕ) → last ≡ constants_end x p → bit_and (byte_at x last) iface_bits ≡ (descriptor_at x p).flags.bits
unfolding descriptor_at
flags_are x p last there = ap (λ (q : ℕ). bit_and (byte_at x q) iface_bits) there
