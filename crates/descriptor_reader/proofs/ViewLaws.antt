-- What is known of a file without a fault when a part of it is read again.
use Rattle.std.proofs.Common.{◌≡◌, ◌≢◌, ℕ, zero, suc, ◌+◌, ◌-◌, ◌*◌, ◌<◌, ◌≤◌, List, [], ◌∷◌, length, Option, Some, None, true, false, arith, refl, sym, ap, ◌∙◌, subst, ltb, lt-ltb, le-ltb, inl, inr, sum_by, eqb, not, take, drop, Bool, get_or, ◌||◌, option_and_then}
use Rattle.std.specs.Prelude.{All, map, is_some, option_map}
use Rattle.std.specs.List.{list_any, position, position_or_len}
use Rattle.std.proofs.lemmas.Bool.Decides.{eqb_tells}
use Rattle.std.proofs.lemmas.List.{length-map}
use Rattle.std.proofs.lemmas.List.Folds.{list_any_at, list_any_none}
use Rattle.std.proofs.lemmas.List.Sums.{position_or_len_is}
use Rattle.std.proofs.lemmas.Option.{get_or_from_slice_get, slice_get_past}
use Rattle.call_model.specs.declared.prototypes.MemberKind.{MemberKind}
use Rattle.call_model.specs.Tables.{descends_from, end_slot, first_slot, member_of, member_within}
use Rattle.call_model.specs.Tables as tables
use Rattle.lib_model.specs.declared.contents.Iface.{Iface}
use Rattle.lib_model.specs.declared.contents.Body.{Body}
use Rattle.lib_model.specs.declared.contents.Method.{Method}
use Rattle.lib_model.specs.Denotes.{word_at}
use Rattle.lib_model.specs.declared.contents.Library.{Library}
use Rattle.lib_model.specs.Table.{methods_of, methods_within, slot_of, table_iface, table_of}
use Rattle.lib_model.specs.Valid.{IsChain, IsMethod, IsValid, body_of, chain_of, first_of_chain, own_slots, parent_in, parent_of}
use Rattle.lib_model.proofs.TableLaws.{lineage_of_table, parent_in_table, slots_of_table}
use Rattle.typelib_faults.specs.Climbs.{climbed, meets, slots_within}
use Rattle.typelib_faults.specs.declared.cursor.Cursor.{Cursor}
use Rattle.typelib_faults.specs.Bytes.{AreBytes}
use Rattle.typelib_faults.specs.Faults.{body_fault, chain_fault, directory_cursor, entry_fault, entry_next, first_fault, header_fault, item_fault, method_fault, name_fault, namespace_fault}
use Rattle.typelib_faults.specs.Laws.{IsFine}
use Rattle.typelib_faults.specs.Places.{body_at, count_of, directory_of, entries_of, entry_at, entry_end, library_of, method_at, name_at}
use Rattle.descriptor_reader.specs.Views.{entry_after, first_number, in_slots, nth_iface, numbered}
use Rattle.typelib_faults.specs.Walk.{reach, values}
use Rattle.typelib_faults.proofs.ChainLaws.{known_body, long_chain, short_chain, slots_end, slots_on}
use Rattle.typelib_faults.proofs.EntryLaws.{directory_fault, reach_entry}
use Rattle.typelib_faults.proofs.MemberLaws.{method_sound}
use Rattle.typelib_faults.proofs.TypelibLaws.{chain_sound, chains_fault, fine_denotes}
use Rattle.typelib_faults.proofs.WalkFacts.{length_values, numbers_none, parts3, parts4, reach_place, values_get, walk_at}
use Rattle.descriptor_reader.proofs.SearchLaws.{methods_counted}

pub directory_known : (x : List ℕ) → IsFine x → directory_fault x ≡ None
unfolding first_fault
directory_known x fine = (parts3 (header_fault x) (directory_fault x) (chains_fault x (entries_of x)) fine).1

pub library_entries : (x : List ℕ) → (library_of x).ifaces ≡ entries_of x
unfolding library_of
library_entries x = refl

pub library_long : (x : List ℕ) → length (library_of x).ifaces ≡ count_of x
unfolding library_of
library_long x = length_values (entry_at x) entry_end (directory_of x) (count_of x)

-- the library, its methods and its constants are valid
pub library_valid : (x : List ℕ) → AreBytes x → IsFine x → IsValid (library_of x)
library_valid x bytes fine = (fine_denotes x bytes fine).valid

pub method_valid : (x : List ℕ) (c : Cursor) → AreBytes x → method_fault x c ≡ None → IsMethod (length (library_of x).ifaces) (method_at x c.place)
method_valid x c bytes e =
    subst (λ (n : ℕ). IsMethod n (method_at x c.place)) (sym (library_long x)) (method_sound x c bytes e).1

entry_names : (x : List ℕ) (c : Cursor) → entry_fault x c ≡ None → name_fault x (c.place + 16) ≡ None
unfolding entry_fault
entry_names x c e =
    (parts4 (item_fault c) (name_fault x (c.place + 16)) (namespace_fault x (c.place + 20)) (body_fault x c) e).1

pub name_known : (x : List ℕ) (directory number entry : ℕ) → IsFine x → directory ≡ directory_of x → 0 < number → number ≤ count_of x → entry ≡ directory + 28 * (number - 1) → name_fault x (entry + 16) ≡ None
name_known x directory number entry fine is above below there =
    let k : ℕ = number - 1
    in let c : Cursor = reach (entry_next x) (directory_cursor x) k
    in let place : c.place ≡ entry = reach_place (entry_next x) entry_end (λ s. refl) (directory_cursor x) k ∙ omega (arith, reach_entry (directory_of x) k, is, there)
    in subst (λ (p : ℕ). name_fault x (p + 16) ≡ None) place (entry_names x c (walk_at (entry_fault x) (entry_next x) (directory_cursor x) (count_of x) k (directory_known x fine) (omega (arith, above, below))))

-- the interface of a number is what its entry says
pub iface_known : (x : List ℕ) (directory number entry : ℕ) → directory ≡ directory_of x → 0 < number → number ≤ count_of x → entry ≡ directory + 28 * (number - 1) → nth_iface (library_of x).ifaces number ≡ Some (entry_at x entry)
unfolding library_of
iface_known x directory zero entry is above below there = absurd (omega (arith, above))
iface_known x directory (suc k) entry is above below there =
    let same : reach entry_end (directory_of x) k ≡ entry = omega (arith, reach_entry (directory_of x) k, is, there)
    in values_get (entry_at x) entry_end (directory_of x) (count_of x) k (omega (arith, below)) ∙ ap (λ (p : ℕ). Some (entry_at x p)) same

pub numbered_some : (lib : Library) (number : ℕ) → 0 < number → number ≤ length lib.ifaces → numbered lib number ≡ Some (record { library = lib; number = number })
numbered_some lib zero above below = absurd (omega (arith, above))
numbered_some lib (suc k) above below =
    let test : ltb k (length lib.ifaces) ≡ true = lt-ltb k (length lib.ifaces) (omega (arith, below))
    in rw test refl

pub numbered_none : (lib : Library) (number : ℕ) → length lib.ifaces < number → numbered lib number ≡ None
numbered_none lib zero over = refl
numbered_none lib (suc k) over =
    let test : ltb k (length lib.ifaces) ≡ false = le-ltb k (length lib.ifaces) (omega (arith, over))
    in rw test refl

-- its name is what stands at its entry
pub name_is : (x : List ℕ) (directory number entry : ℕ) → directory ≡ directory_of x → 0 < number → number ≤ count_of x → entry ≡ directory + 28 * (number - 1) → option_map (λ (i : Iface). i.name) (nth_iface (library_of x).ifaces number) ≡ Some (name_at x (entry + 16))
unfolding entry_at
name_is x directory number entry is above below there =
    ap (λ (o : Option Iface). option_map (λ (i : Iface). i.name) o) (iface_known x directory number entry is above below there)

pub parent_is : (x : List ℕ) (number : ℕ) → parent_of (entries_of x) number ≡ parent_of (library_of x).ifaces number
parent_is x number = ap (λ (ifaces : List Iface). parent_of ifaces number) (sym (library_entries x))

-- a chain in a file without a fault ends within 250 interfaces, which have at most 250 slots
chain_ends : (ifaces : List Iface) (number : ℕ) → length (first_of_chain ifaces 251 number) ≤ 250 → climbed ifaces 250 number ≡ 0
chain_ends ifaces number short =
    elim (eqb_tells (climbed ifaces 250 number) 0) as (λ _. climbed ifaces 250 number ≡ 0) [ inl h ↦ h.1 | inr far ↦ absurd (omega (arith, short, long_chain ifaces 250 number far.1)) ]

pub slots_known : (x : List ℕ) (number : ℕ) → IsFine x → 0 < number → number ≤ count_of x → (slots_within (entries_of x) 250 number ≡ sum_by (own_slots (library_of x).ifaces) (chain_of (library_of x).ifaces number)) × (slots_within (entries_of x) 250 number ≤ 250)
unfolding first_fault
slots_known x number fine above below =
    let chains : chains_fault x (entries_of x) ≡ None = (parts3 (header_fault x) (directory_fault x) (chains_fault x (entries_of x)) fine).2
    in let is : IsChain (entries_of x) number = chain_sound x (entries_of x) number (numbers_none (chain_fault x (entries_of x)) 1 (count_of x) chains number (omega (arith, above)) (omega (arith, below)))
    in let near : climbed (entries_of x) 250 number ≡ 0 = chain_ends (entries_of x) number is.short
    in let same : slots_within (entries_of x) 251 number ≡ slots_within (entries_of x) 250 number = (short_chain (entries_of x) 250 number near).1
    in let there : slots_within (entries_of x) 251 number ≡ sum_by (own_slots (library_of x).ifaces) (chain_of (library_of x).ifaces number) = ap (λ (ifaces : List Iface). slots_within ifaces 251 number) (sym (library_entries x))
    in (sym same ∙ there, omega (arith, same, is.few_slots))

-- it is resolved where its entry has a descriptor
body_there : (x : List ℕ) (p : ℕ) (b : Bool) → eqb (word_at x p) 0 ≡ b → is_some (body_at x p) ≡ not b
unfolding body_at
body_there x p true e = rw e refl
body_there x p false e = rw e refl

pub body_some : (x : List ℕ) (p : ℕ) → is_some (body_at x p) ≡ not (eqb (word_at x p) 0)
body_some x p = body_there x p (eqb (word_at x p) 0) refl

pub resolved_is : (x : List ℕ) (directory number entry : ℕ) → directory ≡ directory_of x → 0 < number → number ≤ count_of x → entry ≡ directory + 28 * (number - 1) → is_some (body_of (library_of x).ifaces number) ≡ not (eqb (word_at x (entry + 24)) 0)
resolved_is x directory zero entry is above below there = absurd (omega (arith, above))
resolved_is x directory (suc k) entry is above below there =
    let same : directory_of x + 28 * k + 24 ≡ entry + 24 = omega (arith, is, there)
    in ap (λ (ifaces : List Iface). is_some (body_of ifaces (suc k))) (library_entries x)
    ∙ (ap (λ (o : Option Body). is_some o) (known_body x k (omega (arith, below)))
    ∙ (ap (λ (p : ℕ). is_some (body_at x p)) same ∙ body_some x (entry + 24)))

-- its identifier is the first 16 bytes of its entry
pub iid_is : (x : List ℕ) (directory number entry : ℕ) → directory ≡ directory_of x → 0 < number → number ≤ count_of x → entry ≡ directory + 28 * (number - 1) → option_map (λ (i : Iface). i.iid) (nth_iface (library_of x).ifaces number) ≡ Some (take 16 (drop entry x))
unfolding entry_at
iid_is x directory number entry is above below there =
    ap (λ (o : Option Iface). option_map (λ (i : Iface). i.iid) o) (iface_known x directory number entry is above below there)

-- ---- the first interface that passes a test

-- among n values that stand one after the other
pub value_got : {S A : Type 0} (value : S → A) (next : S → S) (s : S) (n k : ℕ) (d : A) → k < n → get_or (values value next s n) k d ≡ value (reach next s k)
value_got value next s n k d low = get_or_from_slice_get (values value next s n) k (value (reach next s k)) d (values_get value next s n k low)

pub first_found : {S A : Type 0} (value : S → A) (next : S → S) (s : S) (n k : ℕ) (test : A → Bool) → k < n → ((j : ℕ) → j < k → test (value (reach next s j)) ≡ false) → test (value (reach next s k)) ≡ true → position test (values value next s n) ≡ Some k
first_found {S} {A} value next s n k test low before here =
    let all : List A = values value next s n
    in let long : length all ≡ n = length_values value next s n
    in let is : position_or_len test all ≡ k =
    position_or_len_is test all k (value s) (omega (arith, long, low)) (λ j h. ap test (value_got value next s n j (value s) (omega (arith, h, low))) ∙ before j h) (λ _. ap test (value_got value next s n k (value s) low) ∙ here)
    in let within : ltb k (length all) ≡ true = lt-ltb k (length all) (omega (arith, long, low))
    in rw (is, within) refl

pub none_found : {S A : Type 0} (value : S → A) (next : S → S) (s : S) (n : ℕ) (test : A → Bool) → ((j : ℕ) → j < n → test (value (reach next s j)) ≡ false) → position test (values value next s n) ≡ None
none_found {S} {A} value next s n test before =
    let all : List A = values value next s n
    in let long : length all ≡ n = length_values value next s n
    in let is : position_or_len test all ≡ length all =
    position_or_len_is test all (length all) (value s) (omega arith) (λ j h. ap test (value_got value next s n j (value s) (omega (arith, h, long))) ∙ before j (omega (arith, h, long))) (λ h. absurd (omega (arith, h)))
    in let over : ltb (length all) (length all) ≡ false = le-ltb (length all) (length all) (omega arith)
    in rw (is, over) refl

-- all of them pass a test, or one does not
pub all_pass : {S A : Type 0} (P : A → Type 0) (value : S → A) (next : S → S) (s : S) (n : ℕ) → ((j : ℕ) → j < n → P (value (reach next s j))) → All P (values value next s n)
all_pass P value next s n each = λ k d low.
    let within : k < n = omega (arith, low, length_values value next s n)
    in subst P (sym (value_got value next s n k d within)) (each k within)

pub one_fails : {S A : Type 0} (P : A → Type 0) (value : S → A) (next : S → S) (s : S) (n k : ℕ) → k < n → (P (value (reach next s k)) → ⊥) → All P (values value next s n) → ⊥
one_fails P value next s n k low fails all =
    fails (subst P (value_got value next s n k (value s) low) (all k (value s) (omega (arith, low, length_values value next s n))))

pub any_passes : {S A : Type 0} (value : S → A) (next : S → S) (s : S) (n k : ℕ) (test : A → Bool) → k < n → test (value (reach next s k)) ≡ true → list_any test (values value next s n) ≡ true
any_passes value next s n k test low here =
    list_any_at test (values value next s n) k (value s) (omega (arith, low, length_values value next s n)) (ap test (value_got value next s n k (value s) low) ∙ here)

pub none_passes : {S A : Type 0} (value : S → A) (next : S → S) (s : S) (n : ℕ) (test : A → Bool) → ((j : ℕ) → j < n → test (value (reach next s j)) ≡ false) → list_any test (values value next s n) ≡ false
none_passes {S} {A} value next s n test each =
    list_any_none test (values value next s n) (all_pass (λ (v : A). test v ≡ false) value next s n each)

tested_entry : (x : List ℕ) (test : Iface → Bool) (k : ℕ) → test (entry_at x (reach entry_end (directory_of x) k)) ≡ test (entry_after x k)
tested_entry x test k = ap (λ (p : ℕ). test (entry_at x p)) (reach_entry (directory_of x) k)

pub first_is : (x : List ℕ) (test : Iface → Bool) (k : ℕ) → k < count_of x → ((j : ℕ) → j < k → test (entry_after x j) ≡ false) → test (entry_after x k) ≡ true → first_number test (library_of x) ≡ Some (k + 1)
unfolding library_of
first_is x test k low before here =
    ap (λ (o : Option ℕ). option_map (λ i. i + 1) o) (first_found (entry_at x) entry_end (directory_of x) (count_of x) k test low (λ j h. tested_entry x test j ∙ before j h) (tested_entry x test k ∙ here))

pub first_none : (x : List ℕ) (test : Iface → Bool) → ((j : ℕ) → j < count_of x → test (entry_after x j) ≡ false) → first_number test (library_of x) ≡ None
unfolding library_of
first_none x test before =
    ap (λ (o : Option ℕ). option_map (λ i. i + 1) o) (none_found (entry_at x) entry_end (directory_of x) (count_of x) test (λ j h. tested_entry x test j ∙ before j h))

-- what a test says of the entry of the number behind so many others
pub entry_tests : (x : List ℕ) (test : Iface → Bool) (directory before entry : ℕ) (b : Bool) → directory ≡ directory_of x → entry ≡ directory + 28 * (before + 1 - 1) → test (entry_at x entry) ≡ b → test (entry_after x before) ≡ b
entry_tests x test directory before entry b is there e =
    let same : directory_of x + 28 * before ≡ entry = omega (arith, is, there)
    in ap (λ (p : ℕ). test (entry_at x p)) same ∙ e

-- the same for 0, which is the number of no interface
pub slots_any : (x : List ℕ) (number : ℕ) → IsFine x → number ≤ count_of x → (slots_within (entries_of x) 250 number ≡ sum_by (own_slots (library_of x).ifaces) (chain_of (library_of x).ifaces number)) × (slots_within (entries_of x) 250 number ≤ 250)
slots_any x zero fine below =
    let here : slots_within (entries_of x) 250 0 ≡ 0 = slots_end (entries_of x) 250
    in (here ∙ sym (slots_end (library_of x).ifaces 251), omega (arith, here))
slots_any x (suc k) fine below = slots_known x (suc k) fine (omega arith) below

or_false : (b : Bool) → (b || false) ≡ b
or_false true = refl
or_false false = refl

alone : (ifaces : List Iface) (n k from : ℕ) → k ≢ 0 → parent_of ifaces k ≡ 0 → list_any (λ (j : ℕ). eqb j from) (first_of_chain ifaces (suc (suc n)) k) ≡ eqb k from
unfolding first_of_chain
alone ifaces n zero from some none = absurd (some refl)
alone ifaces n (suc k) from some none = rw none (or_false (eqb (suc k) from))

-- the number of no interface has no parent
chain_past : (x : List ℕ) (k from : ℕ) → count_of x < k → list_any (λ (n : ℕ). eqb n from) (chain_of (library_of x).ifaces k) ≡ eqb k from
chain_past x zero from over = absurd (omega (arith, over))
chain_past x (suc k) from over =
    let none : parent_of (library_of x).ifaces (suc k) ≡ 0 = ap (λ (o : Option Iface). parent_in (option_and_then (λ (i : Iface). i.body) o)) (slice_get_past (library_of x).ifaces k (omega (arith, over, library_long x)))
    in alone (library_of x).ifaces 249 (suc k) from (omega arith) none

descends_is : (x : List ℕ) (k from : ℕ) → descends_from (table_of (library_of x)) k from ≡ list_any (λ (n : ℕ). eqb n from) (chain_of (library_of x).ifaces k)
descends_is x k from = ap (list_any (λ (n : ℕ). eqb n from)) (lineage_of_table (library_of x) k)

pub past_alone : (x : List ℕ) (k from : ℕ) → count_of x < k → descends_from (table_of (library_of x)) k from ≡ eqb k from
past_alone x k from over = descends_is x k from ∙ chain_past x k from over

pub meets_is : (x : List ℕ) (k from : ℕ) → meets (entries_of x) from 251 k ≡ descends_from (table_of (library_of x)) k from
meets_is x k from = ap (λ (ifaces : List Iface). meets ifaces from 251 k) (sym (library_entries x)) ∙ sym (descends_is x k from)

-- ---- slots

pub end_slot_is : (x : List ℕ) (k : ℕ) → slots_within (entries_of x) 250 k ≡ end_slot (table_of (library_of x)) k
end_slot_is x k =
    let lib : Library = library_of x
    in ap (λ (ifaces : List Iface). slots_within ifaces 250 k) (sym (library_entries x))
    ∙ (sym (methods_counted lib.ifaces 250 k) ∙ (sym (length-map (methods_of lib k) slot_of) ∙ ap length (sym (slots_of_table lib k))))

-- the table's parent of an interface is the library's
parent_told : (lib : Library) (k : ℕ) → parent_of lib.ifaces k ≡ tables.parent_of (table_of lib) k
unfolding table_of
parent_told lib k = sym (parent_in_table lib.ifaces k)

pub first_slot_is : (x : List ℕ) (k parent : ℕ) → parent ≡ parent_of (entries_of x) k → slots_within (entries_of x) 250 parent ≡ first_slot (table_of (library_of x)) k
first_slot_is x k parent is =
    end_slot_is x parent ∙ ap (end_slot (table_of (library_of x))) (is ∙ (parent_is x k ∙ parent_told (library_of x) k))

-- ---- members

pub member_is : (x : List ℕ) (kind : MemberKind) (name : List ℕ) (k : ℕ) → member_within kind name (map table_iface (entries_of x)) 250 k ≡ member_of (table_of (library_of x)) k kind name
unfolding table_of library_of
member_is x kind name k = refl

pub methods_of_library : (x : List ℕ) (k : ℕ) → methods_within (entries_of x) 250 k ≡ methods_of (library_of x) k
unfolding library_of
methods_of_library x k = refl

-- an interface has at most as many own methods as its chain of parents may have
pub own_few : (x : List ℕ) (number : ℕ) → IsFine x → 0 < number → number ≤ count_of x → own_slots (entries_of x) number ≤ 250
own_few x number fine above below =
    omega (arith, slots_on (entries_of x) 250 0 number (omega arith) (omega (arith, above)), (slots_known x number fine above below).1)

pub in_slots_length : (lib : Library) (slot : ℕ) (methods : List Method) → length (in_slots lib slot methods) ≡ length methods
in_slots_length lib slot [] = refl
in_slots_length lib slot (m ∷ ms) = omega (arith, in_slots_length lib (slot + 1) ms)
