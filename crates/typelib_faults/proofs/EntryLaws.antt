-- Entries of the directory, one and all: both laws.
use Rattle.std.proofs.Common.{◌≡◌, ◌≢◌, ℕ, zero, suc, ◌+◌, ◌-◌, ◌*◌, ◌<◌, ◌≤◌, List, [], ◌∷◌, length, take, drop, Option, Some, None, Bool, true, false, not, cond, arith, refl, sym, ap, ◌∙◌, subst, eqb, eqb-true, eq-eqb, ne_eqb, leb-true, le-leb, length-take, length-drop, sum_by, option_and_then}
use Rattle.std.specs.Prelude.{All, IfSome, IsSome, slice_get, nat_le}
use Rattle.std.proofs.lemmas.Bool.{and_from, and_parts, eqb-false, not-true, not_from_false}
use Rattle.std.proofs.lemmas.Option.{slice_get_within}
use Rattle.lib_model.specs.declared.contents.Iface.{Iface}
use Rattle.lib_model.specs.declared.contents.Body.{Body}
use Rattle.lib_model.specs.Denotes.{BodyStands, DescriptorStands, EntryStands, ListStands, NameStands, NamespaceStands, place_of, word_at}
use Rattle.lib_model.specs.Valid.{IsBody, IsIface, IsName, IsNamespace, body_items, iface_items, items_in}
use Rattle.typelib_faults.specs.declared.cursor.Cursor.{Cursor}
use Rattle.typelib_faults.specs.declared.faults.BadTypelib.{BadTypelib}
use Rattle.typelib_faults.specs.Bytes.{AreBytes}
use Rattle.typelib_faults.specs.Faults.{body_fault, constants_reach, descriptor_cursor, descriptor_fault, directory_cursor, entry_fault, entry_next, item_fault, items_after, name_fault, namespace_fault, past}
use Rattle.typelib_faults.specs.Places.{body_at, count_of, descriptor_at, directory_of, entries_of, entry_at, entry_end, name_at, namespace_at}
use Rattle.typelib_faults.specs.Walk.{reach, values, walk, ◌orelse◌}
use Rattle.typelib_faults.proofs.IfaceLaws.{AreResolved, Resolves, descriptor_fine, descriptor_items, descriptor_reads, descriptor_sound}
use Rattle.typelib_faults.proofs.MemberLaws.{item_room, room_item}
use Rattle.typelib_faults.proofs.NameLaws.{name_fine, name_reads, name_sound, namespace_reads, namespace_sound}
use Rattle.typelib_faults.proofs.TypeLaws.{inside_past, past_inside}
use Rattle.typelib_faults.proofs.WalkFacts.{list_reads, list_walk, none_orelse, orelse_none, parts4, reach_place, values_get, walk_all, walk_items, walk_stands}

-- ---- walks whose states lie inside

walk_join : {S : Type 0} (f g : S → Option BadTypelib) (next : S → S) (s : S) (n : ℕ) → ((k : ℕ) → k < n → f (reach next s k) ≡ None) → walk g next s n ≡ None → walk (λ (t : S). f t orelse g t) next s n ≡ None
walk_join {S} f g next s zero each e = refl
walk_join {S} f g next s (suc n) each e =
    let parts : (g s ≡ None) × (walk g next (next s) n ≡ None) = orelse_none (g s) (walk g next (next s) n) e
    in none_orelse (f s orelse g s) (walk (λ (t : S). f t orelse g t) next (next s) n) (none_orelse (f s) (g s) (each zero (omega arith)) parts.0) (walk_join f g next (next s) n (λ k h. each (suc k) (omega (arith, h))) parts.1)

pub reach_entry : (p k : ℕ) → reach entry_end p k ≡ p + 28 * k
reach_entry p zero = omega arith
reach_entry p (suc k) = omega (arith, reach_entry (p + 28) k)

-- ---- bodies, read

body_cases : (x : List ℕ) (ifaces : List Iface) (c : Cursor) (b : Bool) → eqb (word_at x (c.place + 24)) 0 ≡ b → AreBytes x → length ifaces ≡ count_of x → Resolves x ifaces → c.place + 28 ≤ length x → cond b None (descriptor_fault x (descriptor_cursor x c)) ≡ None → BodyStands x (c.place + 24) (cond b None (Some (descriptor_at x (place_of x (word_at x (c.place + 24)))))) × IfSome (cond b None (Some (descriptor_at x (place_of x (word_at x (c.place + 24)))))) (IsBody ifaces)
body_cases x ifaces c true e bytes count resolves inside fine = ((omega arith, eqb-true (word_at x (c.place + 24)) 0 e), tt)
body_cases x ifaces c false e bytes count resolves inside fine =
    let some : word_at x (c.place + 24) ≢ 0 = eqb-false (word_at x (c.place + 24)) 0 e
    in let read : DescriptorStands x (place_of x (word_at x (c.place + 24))) (descriptor_at x (place_of x (word_at x (c.place + 24)))) × IsBody ifaces (descriptor_at x (place_of x (word_at x (c.place + 24)))) = descriptor_sound x ifaces (descriptor_cursor x c) bytes count resolves fine
    in (record { offset = word_at x (c.place + 24); stands = (omega arith, refl); present = omega arith; descriptor = read.0 }, read.1)

body_sound : (x : List ℕ) (ifaces : List Iface) (c : Cursor) → AreBytes x → length ifaces ≡ count_of x → Resolves x ifaces → c.place + 28 ≤ length x → body_fault x c ≡ None → BodyStands x (c.place + 24) (body_at x (c.place + 24)) × IfSome (body_at x (c.place + 24)) (IsBody ifaces)
unfolding body_fault body_at
body_sound x ifaces c bytes count resolves inside e =
    body_cases x ifaces c (eqb (word_at x (c.place + 24)) 0) refl bytes count resolves inside e

items_cases : (x : List ℕ) (c : Cursor) (b : Bool) → c.items + 1 ≤ 1000000 → cond b None (descriptor_fault x (descriptor_cursor x c)) ≡ None → (cond b (c.items + 1) (constants_reach x (descriptor_cursor x c)).items ≡ c.items + (1 + items_in (cond b None (Some (descriptor_at x (place_of x (word_at x (c.place + 24)))))))) × (cond b (c.items + 1) (constants_reach x (descriptor_cursor x c)).items ≤ 1000000)
items_cases x c true room fine = (omega arith, room)
items_cases x c false room fine =
    let counted : ((constants_reach x (descriptor_cursor x c)).items ≡ c.items + 1 + body_items (descriptor_at x (place_of x (word_at x (c.place + 24))))) × ((constants_reach x (descriptor_cursor x c)).items ≤ 1000000) = descriptor_items x (descriptor_cursor x c) room fine
    in (omega (arith, counted.0), counted.1)

body_counted : (x : List ℕ) (c : Cursor) → c.items + 1 ≤ 1000000 → body_fault x c ≡ None → (items_after x c ≡ c.items + (1 + items_in (body_at x (c.place + 24)))) × (items_after x c ≤ 1000000)
unfolding body_fault body_at items_after
body_counted x c room e = items_cases x c (eqb (word_at x (c.place + 24)) 0) room e

-- ---- entries, read

iid_long : (x : List ℕ) (p : ℕ) → p + 28 ≤ length x → length (take 16 (drop p x)) ≡ 16
iid_long x p inside = omega (arith, length-take 16 (drop p x), length-drop p x)

pub entry_sound : (x : List ℕ) (ifaces : List Iface) (c : Cursor) → AreBytes x → length ifaces ≡ count_of x → Resolves x ifaces → c.place + 28 ≤ length x → entry_fault x c ≡ None → EntryStands x c.place (entry_at x c.place) (entry_end c.place) × IsIface ifaces (entry_at x c.place)
unfolding entry_fault entry_at
entry_sound x ifaces c bytes count resolves inside e =
    let m : (item_fault c ≡ None) × (name_fault x (c.place + 16) ≡ None) × (namespace_fault x (c.place + 20) ≡ None) × (body_fault x c ≡ None) = parts4 (item_fault c) (name_fault x (c.place + 16)) (namespace_fault x (c.place + 20)) (body_fault x c) e
    in let name : NameStands x (c.place + 16) (name_at x (c.place + 16)) × IsName (name_at x (c.place + 16)) = name_sound x (c.place + 16) (omega arith) m.1
    in let namespace : NamespaceStands x (c.place + 20) (namespace_at x (c.place + 20)) × IfSome (namespace_at x (c.place + 20)) IsNamespace = namespace_sound x (c.place + 20) (omega arith) m.2
    in let body : BodyStands x (c.place + 24) (body_at x (c.place + 24)) × IfSome (body_at x (c.place + 24)) (IsBody ifaces) = body_sound x ifaces c bytes count resolves inside m.3
    in (
      record { iid = refl; name = name.0; namespace = namespace.0; body = body.0; ends = refl },
      record {
        name = name.1;
        namespace = namespace.1;
        iid = iid_long x c.place inside;
        body = body.1;
      },
    )

pub entry_items : (x : List ℕ) (c : Cursor) → entry_fault x c ≡ None → ((entry_next x c).items ≡ c.items + iface_items (entry_at x c.place)) × ((entry_next x c).items ≤ 1000000)
unfolding entry_fault entry_at
entry_items x c e =
    let m : (item_fault c ≡ None) × (name_fault x (c.place + 16) ≡ None) × (namespace_fault x (c.place + 20) ≡ None) × (body_fault x c ≡ None) = parts4 (item_fault c) (name_fault x (c.place + 16)) (namespace_fault x (c.place + 20)) (body_fault x c) e
    in body_counted x c (item_room c m.0) m.3

-- ---- the directory, read

abbrev pub directory_fault : List ℕ → Option BadTypelib
directory_fault x = walk (entry_fault x) (entry_next x) (directory_cursor x) (count_of x)

abbrev inside_fault : List ℕ → Cursor → Option BadTypelib
inside_fault x c = past x c.place 28 orelse entry_fault x c

abbrev pub DirectoryFits : List ℕ → Type 0
DirectoryFits x = 0 < count_of x → directory_of x + 28 * count_of x ≤ length x

entries_inside : (x : List ℕ) → DirectoryFits x → directory_fault x ≡ None → walk (inside_fault x) (entry_next x) (directory_cursor x) (count_of x) ≡ None
entries_inside x fits e =
    walk_join (λ (c : Cursor). past x c.place 28) (entry_fault x) (entry_next x) (directory_cursor x) (count_of x)
    (λ k h. inside_past x (reach (entry_next x) (directory_cursor x) k).place 28 (omega (arith, h, fits (omega (arith, h)), reach_place (entry_next x) entry_end (λ s. refl) (directory_cursor x) k, reach_entry (directory_of x) k)))
    e

inside_sound : (x : List ℕ) (ifaces : List Iface) → AreBytes x → length ifaces ≡ count_of x → Resolves x ifaces → (c : Cursor) → inside_fault x c ≡ None → EntryStands x c.place (entry_at x c.place) (entry_end c.place) × IsIface ifaces (entry_at x c.place)
inside_sound x ifaces bytes count resolves c e =
    let m : (past x c.place 28 ≡ None) × (entry_fault x c ≡ None) = orelse_none (past x c.place 28) (entry_fault x c) e
    in entry_sound x ifaces c bytes count resolves (past_inside x c.place 28 m.0) m.1

pub directory_stands : (x : List ℕ) (ifaces : List Iface) → AreBytes x → length ifaces ≡ count_of x → Resolves x ifaces → DirectoryFits x → directory_fault x ≡ None → ListStands (EntryStands x) (directory_of x) (entries_of x) (reach entry_end (directory_of x) (count_of x)) × All (IsIface ifaces) (entries_of x)
directory_stands x ifaces bytes count resolves fits e =
    let inner : walk (inside_fault x) (entry_next x) (directory_cursor x) (count_of x) ≡ None = entries_inside x fits e
    in (walk_stands (inside_fault x) (entry_next x) (entry_at x) entry_end (EntryStands x) (λ s. refl) (λ s f. (inside_sound x ifaces bytes count resolves s f).0) (directory_cursor x) (count_of x) inner, walk_all (λ (s : Cursor). s.place) (inside_fault x) (entry_next x) (entry_at x) entry_end (IsIface ifaces) (λ s. refl) (λ s f. (inside_sound x ifaces bytes count resolves s f).1) (directory_cursor x) (count_of x) inner)

pub directory_items : (x : List ℕ) → directory_fault x ≡ None → sum_by iface_items (entries_of x) ≤ 1000000
directory_items x e =
    let counted : ((reach (entry_next x) (directory_cursor x) (count_of x)).items ≡ 0 + sum_by iface_items (entries_of x)) × ((reach (entry_next x) (directory_cursor x) (count_of x)).items ≤ 1000000) =
    walk_items 1000000 (entry_fault x) (entry_next x) (entry_at x) entry_end iface_items (λ s. refl) (λ s f. entry_items x s f) (directory_cursor x) (count_of x) e (omega arith)
    in omega (arith, counted.0, counted.1)

-- an entry with a descriptor is read as a resolved interface
resolved_body : (x : List ℕ) (p : ℕ) → eqb (word_at x p) 0 ≡ false → IsSome (body_at x p)
unfolding body_at
resolved_body x p e = rw e refl

resolved_entry : (x : List ℕ) (p : ℕ) → eqb (word_at x (p + 24)) 0 ≡ false → IsSome (entry_at x p).body
unfolding entry_at
resolved_entry x p e = resolved_body x (p + 24) e

entry_place : (x : List ℕ) (k : ℕ) → directory_of x + 28 * (suc k - 1) + 24 ≡ reach entry_end (directory_of x) k + 24
entry_place x k = omega (arith, reach_entry (directory_of x) k)

pub directory_resolves : (x : List ℕ) → Resolves x (entries_of x)
directory_resolves x zero some has = absurd (some refl)
directory_resolves x (suc k) some has =
    let parts : (nat_le (suc k) (count_of x) ≡ true) × (not (eqb (word_at x (directory_of x + 28 * (suc k - 1) + 24)) 0) ≡ true) = and_parts (nat_le (suc k) (count_of x)) (not (eqb (word_at x (directory_of x + 28 * (suc k - 1) + 24)) 0)) has
    in let there : slice_get (entries_of x) k ≡ Some (entry_at x (reach entry_end (directory_of x) k)) = values_get (entry_at x) entry_end (directory_of x) (count_of x) k (leb-true (suc k) (count_of x) parts.0)
    in let word : eqb (word_at x (reach entry_end (directory_of x) k + 24)) 0 ≡ false = ap (λ (p : ℕ). eqb (word_at x p) 0) (sym (entry_place x k)) ∙ not-true (eqb (word_at x (directory_of x + 28 * (suc k - 1) + 24)) 0) parts.1
    in subst (λ (o : Option Iface). IsSome (option_and_then (λ (i : Iface). i.body) o)) (sym there) (resolved_entry x (reach entry_end (directory_of x) k) word)

-- ---- entries that stand

entry_index : (x : List ℕ) (p : ℕ) (ifaces : List Iface) (q k : ℕ) (i : Iface) → ListStands (EntryStands x) p ifaces q → slice_get ifaces k ≡ Some i → (r : ℕ) × EntryStands x (p + 28 * k) i r
entry_index x p [] q k i stands e = absurd (cc)
entry_index x p (v ∷ vs) q zero i stands e =
    let same : v ≡ i = cc
    in let here : p ≡ p + 28 * zero = omega arith
    in (stands.0, subst (λ (s : ℕ). EntryStands x s i stands.0) here (subst (λ (w : Iface). EntryStands x p w stands.0) same stands.1.0))
entry_index x p (v ∷ vs) q (suc k) i stands e =
    let rest : (r : ℕ) × EntryStands x (stands.0 + 28 * k) i r = entry_index x stands.0 vs q k i stands.1.1 e
    in let there : stands.0 + 28 * k ≡ p + 28 * suc k = omega (arith, stands.1.0.ends)
    in (rest.0, subst (λ (s : ℕ). EntryStands x s i rest.0) there rest.1)

some_body : (o : Option Iface) → IsSome (option_and_then (λ (i : Iface). i.body) o) → (i : Iface) × ((o ≡ Some i) × IsSome i.body)
some_body None e = absurd (cc)
some_body (Some i) e = (i, (refl, e))

body_word : (x : List ℕ) (p : ℕ) (o : Option Body) → BodyStands x p o → IsSome o → eqb (word_at x p) 0 ≡ false
body_word x p None stands e = absurd (cc)
body_word x p (Some b) stands e = ne_eqb (word_at x p) 0 (omega (arith, stands.stands.1, stands.present))

slice_within : (ifaces : List Iface) (k : ℕ) (i : Iface) → slice_get ifaces k ≡ Some i → k < length ifaces
slice_within ifaces k i e = slice_get_within ifaces k i e

pub directory_resolved : (x : List ℕ) (ifaces : List Iface) (q : ℕ) → ListStands (EntryStands x) (directory_of x) ifaces q → length ifaces ≡ count_of x → AreResolved x ifaces
directory_resolved x ifaces q stands count zero some = absurd (cc)
directory_resolved x ifaces q stands count (suc k) some =
    let found : (i : Iface) × ((slice_get ifaces k ≡ Some i) × IsSome i.body) = some_body (slice_get ifaces k) some
    in let entry : (r : ℕ) × EntryStands x (directory_of x + 28 * k) found.0 r = entry_index x (directory_of x) ifaces q k found.0 stands found.1.0
    in let word : eqb (word_at x (directory_of x + 28 * k + 24)) 0 ≡ false = body_word x (directory_of x + 28 * k + 24) found.0.body entry.1.body found.1.1
    in let there : directory_of x + 28 * (suc k - 1) + 24 ≡ directory_of x + 28 * k + 24 = omega arith
    in and_from (nat_le (suc k) (count_of x)) (not (eqb (word_at x (directory_of x + 28 * (suc k - 1) + 24)) 0)) (le-leb (suc k) (count_of x) (omega (arith, count, slice_within ifaces k found.0 found.1.0)))
    (not_from_false (eqb (word_at x (directory_of x + 28 * (suc k - 1) + 24)) 0) (ap (λ (p : ℕ). eqb (word_at x p) 0) there ∙ word))

body_reads : (x : List ℕ) (ifaces : List Iface) (p : ℕ) (o : Option Body) → BodyStands x p o → length ifaces ≡ count_of x → IfSome o (IsBody ifaces) → body_at x p ≡ o
unfolding body_at
body_reads x ifaces p None stands count valid =
    let none : eqb (word_at x p) 0 ≡ true = eq-eqb (word_at x p) 0 stands.1
    in rw none refl
body_reads x ifaces p (Some b) stands count valid =
    let some : eqb (word_at x p) 0 ≡ false = body_word x p (Some b) stands refl
    in let read : descriptor_at x (place_of x (word_at x p)) ≡ b = ap (λ (k : ℕ). descriptor_at x (place_of x k)) stands.stands.1 ∙ descriptor_reads x ifaces (place_of x stands.offset) b stands.descriptor count valid
    in rw (some, read) refl

body_fine : (x : List ℕ) (ifaces : List Iface) (c : Cursor) (o : Option Body) → BodyStands x (c.place + 24) o → length ifaces ≡ count_of x → AreResolved x ifaces → IfSome o (IsBody ifaces) → c.items + (1 + items_in o) ≤ 1000000 → (body_fault x c ≡ None) × (items_after x c ≡ c.items + (1 + items_in o))
unfolding body_fault items_after
body_fine x ifaces c None stands count resolved valid room =
    let none : eqb (word_at x (c.place + 24)) 0 ≡ true = eq-eqb (word_at x (c.place + 24)) 0 stands.1
    in (rw none refl, rw none (omega arith))
body_fine x ifaces c (Some b) stands count resolved valid room =
    let some : eqb (word_at x (c.place + 24)) 0 ≡ false = body_word x (c.place + 24) (Some b) stands refl
    in let there : DescriptorStands x (place_of x (word_at x (c.place + 24))) b = subst (λ (k : ℕ). DescriptorStands x (place_of x k) b) (sym stands.stands.1) stands.descriptor
    in let read : (descriptor_fault x (descriptor_cursor x c) ≡ None) × ((constants_reach x (descriptor_cursor x c)).items ≡ c.items + 1 + body_items b) = descriptor_fine x ifaces (descriptor_cursor x c) b there count resolved valid (omega (arith, room))
    in (rw some read.0, rw some (omega (arith, read.1)))

pub entry_reads : (x : List ℕ) (ifaces : List Iface) (p : ℕ) (i : Iface) (q : ℕ) → EntryStands x p i q → length ifaces ≡ count_of x → IsIface ifaces i → (entry_at x p ≡ i) × (entry_end p ≡ q)
unfolding entry_at
entry_reads x ifaces p i q stands count valid =
    let name : name_at x (p + 16) ≡ i.name = name_reads x (p + 16) i.name stands.name valid.name.short valid.name.no_zero
    in let namespace : namespace_at x (p + 20) ≡ i.namespace = (namespace_reads x (p + 20) i.namespace stands.namespace valid.namespace).0
    in let body : body_at x (p + 24) ≡ i.body = body_reads x ifaces (p + 24) i.body stands.body count valid.body
    in (rw (name, namespace, stands.iid, body) refl, sym stands.ends)

pub entry_fine : (x : List ℕ) (ifaces : List Iface) (c : Cursor) (i : Iface) (q : ℕ) → EntryStands x c.place i q → length ifaces ≡ count_of x → AreResolved x ifaces → IsIface ifaces i → c.items + iface_items i ≤ 1000000 → (entry_fault x c ≡ None) × ((entry_next x c).items ≡ c.items + iface_items i)
unfolding entry_fault
entry_fine x ifaces c i q stands count resolved valid room =
    let body : (body_fault x c ≡ None) × (items_after x c ≡ c.items + (1 + items_in i.body)) = body_fine x ifaces c i.body stands.body count resolved valid.body room
    in (rw (room_item c (omega (arith, room)), name_fine x (c.place + 16) i.name stands.name valid.name, (namespace_reads x (c.place + 20) i.namespace stands.namespace valid.namespace).1, body.0) refl, body.1)

-- ---- the directory that stands

pub directory_reads : (x : List ℕ) (ifaces : List Iface) (q : ℕ) → ListStands (EntryStands x) (directory_of x) ifaces q → length ifaces ≡ count_of x → All (IsIface ifaces) ifaces → (entries_of x ≡ ifaces) × (reach entry_end (directory_of x) (count_of x) ≡ q)
directory_reads x ifaces q stands count valid =
    subst (λ (n : ℕ). (values (entry_at x) entry_end (directory_of x) n ≡ ifaces) × (reach entry_end (directory_of x) n ≡ q)) count
    (list_reads (entry_at x) entry_end (EntryStands x) (IsIface ifaces) (λ s v t h is. entry_reads x ifaces s v t h count is) (directory_of x) ifaces q stands valid)

pub directory_fine : (x : List ℕ) (ifaces : List Iface) (q : ℕ) → ListStands (EntryStands x) (directory_of x) ifaces q → length ifaces ≡ count_of x → All (IsIface ifaces) ifaces → sum_by iface_items ifaces ≤ 1000000 → directory_fault x ≡ None
directory_fine x ifaces q stands count valid few =
    subst (λ (n : ℕ). walk (entry_fault x) (entry_next x) (directory_cursor x) n ≡ None) count
    (list_walk 1000000 (entry_fault x) (entry_next x) entry_end (EntryStands x) (IsIface ifaces) iface_items (λ s. refl)
    (λ s v t h is room. let fine : (entry_fault x s ≡ None) × ((entry_next x s).items ≡ s.items + iface_items v) = entry_fine x ifaces s v t h count (directory_resolved x ifaces q stands count) is room in (fine.0, (fine.1, (entry_reads x ifaces s.place v t h count is).1)))
    (directory_cursor x) ifaces q stands valid (omega (arith, few))).0
