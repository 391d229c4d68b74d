-- Chains of parents: how they are climbed, and what an entry says of its parent.
use Rattle.std.proofs.Common.{◌≡◌, ◌≢◌, ℕ, zero, suc, ◌+◌, ◌-◌, ◌*◌, ◌<◌, ◌≤◌, List, length, Option, Some, None, Bool, true, false, not, arith, refl, sym, ap, ◌∙◌, subst, inl, inr, eqb, eqb-true, eq-eqb, ne_eqb, leb-true, ltb, lt-ltb, le-ltb, sum_by, option_and_then}
use Rattle.std.specs.Prelude.{nat_le, ◌&&◌}
use Rattle.std.proofs.lemmas.Bool.{and_cases, and_parts, not-false}
use Rattle.std.proofs.lemmas.Bool.Decides.{eqb_tells}
use Rattle.std.proofs.lemmas.List.Sums.{sum_by-cons}
use Rattle.lib_model.specs.declared.contents.Iface.{Iface}
use Rattle.lib_model.specs.Denotes.{half_at, place_of, word_at}
use Rattle.lib_model.specs.Valid.{body_of, chain_of, first_of_chain, own_slots, parent_in, parent_of, slots_in}
use Rattle.typelib_faults.specs.declared.cursor.Cursor.{Cursor}
use Rattle.typelib_faults.specs.declared.faults.BadTypelib.{BadTypelib}
use Rattle.typelib_faults.specs.Climbs.{climbed, meets, slots_within}
use Rattle.typelib_faults.specs.Faults.{body_fault, chain_fault, constant_fault, constant_next, constants_cursor, constants_reach, descriptor_cursor, descriptor_fault, directory_cursor, entry_fault, entry_next, has_descriptor, item_fault, method_fault, method_next, methods_cursor, methods_reach, name_fault, namespace_fault, parent_fault, past}
use Rattle.typelib_faults.specs.Places.{body_at, count_of, descriptor_at, directory_of, entries_of, entry_at, entry_end, method_at, method_end}
use Rattle.typelib_faults.specs.Walk.{faulty, reach, walk, ◌orelse◌}
use Rattle.typelib_faults.proofs.EntryLaws.{directory_fault, reach_entry}
use Rattle.typelib_faults.proofs.TypeLaws.{past_inside}
use Rattle.typelib_faults.proofs.WalkFacts.{faulty_none, fine_faulty, length_values, none_orelse, parts4, parts7, reach_place, values_get, walk_at}

-- ---- climbing

climbed_none : (ifaces : List Iface) (n : ℕ) → climbed ifaces n 0 ≡ 0
unfolding climbed
climbed_none ifaces zero = refl
climbed_none ifaces (suc n) = climbed_none ifaces n

chain_none : (ifaces : List Iface) (n : ℕ) → slots_within ifaces n 0 ≡ 0
unfolding first_of_chain
chain_none ifaces zero = refl
chain_none ifaces (suc n) = refl

pub long_chain : (ifaces : List Iface) (n k : ℕ) → climbed ifaces n k ≢ 0 → length (first_of_chain ifaces (suc n) k) ≡ suc n
unfolding climbed first_of_chain
long_chain ifaces zero zero far = absurd (far refl)
long_chain ifaces zero (suc k) far = refl
long_chain ifaces (suc n) zero far = absurd (far (climbed_none ifaces n))
long_chain ifaces (suc n) (suc k) far = omega (arith, long_chain ifaces n (parent_of ifaces (suc k)) far)

pub short_chain : (ifaces : List Iface) (n k : ℕ) → climbed ifaces n k ≡ 0 → (length (first_of_chain ifaces (suc n) k) ≤ n) × (slots_within ifaces (suc n) k ≡ slots_within ifaces n k)
unfolding climbed first_of_chain
short_chain ifaces zero zero near = (omega arith, refl)
short_chain ifaces zero (suc k) near = absurd (omega (arith, near))
short_chain ifaces (suc n) zero near = (omega arith, refl)
short_chain ifaces (suc n) (suc k) near =
    let rest : (length (first_of_chain ifaces (suc n) (parent_of ifaces (suc k))) ≤ n) × (slots_within ifaces (suc n) (parent_of ifaces (suc k)) ≡ slots_within ifaces n (parent_of ifaces (suc k))) = short_chain ifaces n (parent_of ifaces (suc k)) near
    in (omega (arith, rest.0), omega (arith, rest.1, sum_by-cons (own_slots ifaces) (suc k) (first_of_chain ifaces (suc n) (parent_of ifaces (suc k))), sum_by-cons (own_slots ifaces) (suc k) (first_of_chain ifaces n (parent_of ifaces (suc k)))))

climb_step : (ifaces : List Iface) (n k : ℕ) → climbed ifaces (suc n) k ≡ climbed ifaces n (parent_of ifaces k)
unfolding climbed
climb_step ifaces n k = refl

slots_step : (ifaces : List Iface) (n k : ℕ) → k ≢ 0 → slots_within ifaces (suc n) k ≡ own_slots ifaces k + slots_within ifaces n (parent_of ifaces k)
unfolding first_of_chain
slots_step ifaces n zero some = absurd (some refl)
slots_step ifaces n (suc k) some = sum_by-cons (own_slots ifaces) (suc k) (first_of_chain ifaces n (parent_of ifaces (suc k)))

-- one step of n has been taken after i
pub climb_on : (ifaces : List Iface) (n i k : ℕ) → i < n → climbed ifaces (n - i) k ≡ climbed ifaces (n - (i + 1)) (parent_of ifaces k)
climb_on ifaces n i k low =
    let j : n - i ≡ suc (n - (i + 1)) = omega (arith, low)
    in ap (λ (m : ℕ). climbed ifaces m k) j ∙ climb_step ifaces (n - (i + 1)) k

pub slots_on : (ifaces : List Iface) (n i k : ℕ) → i < n → k ≢ 0 → slots_within ifaces (n - i) k ≡ own_slots ifaces k + slots_within ifaces (n - (i + 1)) (parent_of ifaces k)
slots_on ifaces n i k low some =
    let j : n - i ≡ suc (n - (i + 1)) = omega (arith, low)
    in ap (λ (m : ℕ). slots_within ifaces m k) j ∙ slots_step ifaces (n - (i + 1)) k some

pub slots_end : (ifaces : List Iface) (n : ℕ) → slots_within ifaces n 0 ≡ 0
slots_end ifaces n = chain_none ifaces n

pub climb_over : (ifaces : List Iface) (n i k : ℕ) → n ≤ i → climbed ifaces (n - i) k ≡ k
unfolding climbed
climb_over ifaces n i k over =
    let j : n - i ≡ 0 = omega (arith, over)
    in ap (λ (m : ℕ). climbed ifaces m k) j

pub slots_over : (ifaces : List Iface) (n i k : ℕ) → n ≤ i → slots_within ifaces (n - i) k ≡ 0
unfolding first_of_chain
slots_over ifaces n i k over =
    let j : n - i ≡ 0 = omega (arith, over)
    in ap (λ (m : ℕ). slots_within ifaces m k) j

-- ---- what an entry says

parent_low : (x : List ℕ) (p : ℕ) → parent_fault x p ≡ None → half_at x p ≤ count_of x
unfolding parent_fault
parent_low x p e =
    elim (eqb_tells (half_at x p) 0) as (λ _. half_at x p ≤ count_of x) [
      | inl h ↦ omega (arith, h.1)
      | inr h ↦ elim (and_cases (not (eqb (half_at x p) 0)) (not (has_descriptor x (half_at x p))) (faulty_none (not (eqb (half_at x p) 0) && not (has_descriptor x (half_at x p))) 9 p e)) as (λ _. half_at x p ≤ count_of x) [
        | inl none ↦ absurd (h.1 (eqb-true (half_at x p) 0 (not-false (eqb (half_at x p) 0) none)))
        | inr has ↦ leb-true (half_at x p) (count_of x) (and_parts (nat_le (half_at x p) (count_of x)) (not (eqb (word_at x (directory_of x + 28 * (half_at x p - 1) + 24)) 0)) (not-false (has_descriptor x (half_at x p)) has)).0
      ]
    ]

descriptor_inside : (x : List ℕ) (c : Cursor) → descriptor_fault x c ≡ None → (c.place + 4 ≤ length x) × (half_at x c.place ≤ count_of x)
unfolding descriptor_fault
descriptor_inside x c e =
    let m : (past x c.place 2 ≡ None) × (parent_fault x c.place ≡ None) × (past x (c.place + 2) 2 ≡ None) × (walk (method_fault x) (method_next x) (methods_cursor c) (half_at x (c.place + 2)) ≡ None) × (past x (methods_reach x c).place 2 ≡ None) × (walk (constant_fault x) (constant_next x) (constants_cursor (methods_reach x c)) (half_at x (methods_reach x c).place) ≡ None) × (past x (constants_reach x c).place 1 ≡ None) = parts7 (past x c.place 2) (parent_fault x c.place) (past x (c.place + 2) 2) (walk (method_fault x) (method_next x) (methods_cursor c) (half_at x (c.place + 2))) (past x (methods_reach x c).place 2) (walk (constant_fault x) (constant_next x) (constants_cursor (methods_reach x c)) (half_at x (methods_reach x c).place)) (past x (constants_reach x c).place 1) e
    in (omega (arith, past_inside x (c.place + 2) 2 m.2), parent_low x c.place m.1)

body_inside : (x : List ℕ) (c : Cursor) → body_fault x c ≡ None → eqb (word_at x (c.place + 24)) 0 ≡ false → (place_of x (word_at x (c.place + 24)) + 4 ≤ length x) × (half_at x (place_of x (word_at x (c.place + 24))) ≤ count_of x)
unfolding body_fault
body_inside x c e some = descriptor_inside x (descriptor_cursor x c) (rw some at e)

entry_body : (x : List ℕ) (c : Cursor) → entry_fault x c ≡ None → body_fault x c ≡ None
unfolding entry_fault
entry_body x c e =
    (parts4 (item_fault c) (name_fault x (c.place + 16)) (namespace_fault x (c.place + 20)) (body_fault x c) e).3

pub known_inside : (x : List ℕ) (k : ℕ) → directory_fault x ≡ None → k < count_of x → eqb (word_at x (directory_of x + 28 * k + 24)) 0 ≡ false → (place_of x (word_at x (directory_of x + 28 * k + 24)) + 4 ≤ length x) × (half_at x (place_of x (word_at x (directory_of x + 28 * k + 24))) ≤ count_of x)
known_inside x k e low some =
    let c : Cursor = reach (entry_next x) (directory_cursor x) k
    in let place : c.place ≡ directory_of x + 28 * k = reach_place (entry_next x) entry_end (λ s. refl) (directory_cursor x) k ∙ reach_entry (directory_of x) k
    in let fine : body_fault x c ≡ None = entry_body x c (walk_at (entry_fault x) (entry_next x) (directory_cursor x) (count_of x) k e low)
    in let Q : ℕ → Type 0 = λ p. eqb (word_at x (p + 24)) 0 ≡ false → (place_of x (word_at x (p + 24)) + 4 ≤ length x) × (half_at x (place_of x (word_at x (p + 24))) ≤ count_of x)
    in subst Q place (body_inside x c fine) some

pub known_body : (x : List ℕ) (k : ℕ) → k < count_of x → body_of (entries_of x) (suc k) ≡ body_at x (directory_of x + 28 * k + 24)
unfolding entry_at
known_body x k low =
    ap (λ (o : Option Iface). option_and_then (λ (i : Iface). i.body) o) (values_get (entry_at x) entry_end (directory_of x) (count_of x) k low)
    ∙ ap (λ (p : ℕ). body_at x (p + 24)) (reach_entry (directory_of x) k)

pub known_unresolved : (x : List ℕ) (k : ℕ) → k < count_of x → eqb (word_at x (directory_of x + 28 * k + 24)) 0 ≡ true → (parent_of (entries_of x) (suc k) ≡ 0) × (own_slots (entries_of x) (suc k) ≡ 0)
unfolding body_at
known_unresolved x k low none =
    let body : body_of (entries_of x) (suc k) ≡ None = known_body x k low ∙ rw none refl
    in (ap parent_in body, ap slots_in body)

pub known_links : (x : List ℕ) (k : ℕ) → k < count_of x → eqb (word_at x (directory_of x + 28 * k + 24)) 0 ≡ false → (parent_of (entries_of x) (suc k) ≡ half_at x (place_of x (word_at x (directory_of x + 28 * k + 24)))) × (own_slots (entries_of x) (suc k) ≡ half_at x (place_of x (word_at x (directory_of x + 28 * k + 24)) + 2))
unfolding body_at descriptor_at
known_links x k low some =
    let place : ℕ = place_of x (word_at x (directory_of x + 28 * k + 24))
    in let body : body_of (entries_of x) (suc k) ≡ Some (descriptor_at x place) = known_body x k low ∙ rw some refl
    in (ap parent_in body, ap slots_in body ∙ length_values (method_at x) (method_end x) (place + 4) (half_at x (place + 2)))

-- ---- the same, as the code says it

pub links_inside : (x : List ℕ) (directory number : ℕ) → directory ≡ directory_of x → directory_fault x ≡ None → 0 < number → number ≤ count_of x → word_at x (directory + 28 * (number - 1) + 24) ≢ 0 → (place_of x (word_at x (directory + 28 * (number - 1) + 24)) + 4 ≤ length x) × (half_at x (place_of x (word_at x (directory + 28 * (number - 1) + 24))) ≤ count_of x)
links_inside x directory number is fine above below some =
    let Q : ℕ → Type 0 = λ d. eqb (word_at x (d + 28 * (number - 1) + 24)) 0 ≡ false → (place_of x (word_at x (d + 28 * (number - 1) + 24)) + 4 ≤ length x) × (half_at x (place_of x (word_at x (d + 28 * (number - 1) + 24))) ≤ count_of x)
    in subst Q (sym is) (known_inside x (number - 1) fine (omega (arith, above, below))) (ne_eqb (word_at x (directory + 28 * (number - 1) + 24)) 0 some)

pub links_unresolved : (x : List ℕ) (directory number : ℕ) → directory ≡ directory_of x → 0 < number → number ≤ count_of x → word_at x (directory + 28 * (number - 1) + 24) ≡ 0 → (parent_of (entries_of x) number ≡ 0) × (own_slots (entries_of x) number ≡ 0)
links_unresolved x directory number is above below none =
    let same : suc (number - 1) ≡ number = omega (arith, above)
    in let none_there : word_at x (directory_of x + 28 * (number - 1) + 24) ≡ 0 = subst (λ (d : ℕ). word_at x (d + 28 * (number - 1) + 24) ≡ 0) is none
    in subst (λ (n : ℕ). (parent_of (entries_of x) n ≡ 0) × (own_slots (entries_of x) n ≡ 0)) same (known_unresolved x (number - 1) (omega (arith, above, below)) (eq-eqb (word_at x (directory_of x + 28 * (number - 1) + 24)) 0 none_there))

pub links_resolved : (x : List ℕ) (directory number : ℕ) → directory ≡ directory_of x → 0 < number → number ≤ count_of x → word_at x (directory + 28 * (number - 1) + 24) ≢ 0 → (parent_of (entries_of x) number ≡ half_at x (place_of x (word_at x (directory + 28 * (number - 1) + 24)))) × (own_slots (entries_of x) number ≡ half_at x (place_of x (word_at x (directory + 28 * (number - 1) + 24)) + 2))
links_resolved x directory number is above below some =
    let same : suc (number - 1) ≡ number = omega (arith, above)
    in let Q : ℕ → Type 0 = λ d. eqb (word_at x (d + 28 * (number - 1) + 24)) 0 ≡ false → (parent_of (entries_of x) (suc (number - 1)) ≡ half_at x (place_of x (word_at x (d + 28 * (number - 1) + 24)))) × (own_slots (entries_of x) (suc (number - 1)) ≡ half_at x (place_of x (word_at x (d + 28 * (number - 1) + 24)) + 2))
    in let found : (parent_of (entries_of x) (suc (number - 1)) ≡ half_at x (place_of x (word_at x (directory + 28 * (number - 1) + 24)))) × (own_slots (entries_of x) (suc (number - 1)) ≡ half_at x (place_of x (word_at x (directory + 28 * (number - 1) + 24)) + 2)) = subst Q (sym is) (known_links x (number - 1) (omega (arith, above, below))) (ne_eqb (word_at x (directory + 28 * (number - 1) + 24)) 0 some)
    in subst (λ (n : ℕ). (parent_of (entries_of x) n ≡ half_at x (place_of x (word_at x (directory + 28 * (number - 1) + 24)))) × (own_slots (entries_of x) n ≡ half_at x (place_of x (word_at x (directory + 28 * (number - 1) + 24)) + 2))) same found

-- ---- what a climb says of a chain

first_found : (b : Bool) (g : Option BadTypelib) (code p place : ℕ) → b ≡ true → place ≡ p → faulty b code p orelse g ≡ Some (record { code = code; at = place })
first_found true g code p place e is = ap (λ (q : ℕ). Some (record { code = code; at = q })) (sym is)
first_found false g code p place e is = absurd (cc)

second_found : (a b : Bool) (p place : ℕ) → a ≡ false → b ≡ true → place ≡ p → faulty a 10 p orelse faulty b 14 p ≡ Some (record { code = 14; at = place })
second_found true b p place e f is = absurd (cc)
second_found false true p place e f is = ap (λ (q : ℕ). Some (record { code = 14; at = q })) (sym is)
second_found false false p place e f is = absurd (cc)

pub far_fault : (x : List ℕ) (ifaces : List Iface) (number place : ℕ) → climbed ifaces 250 number ≢ 0 → place ≡ directory_of x + 28 * (number - 1) → chain_fault x ifaces number ≡ Some (record { code = 10; at = place })
unfolding chain_fault
far_fault x ifaces number place far is =
    let long : length (chain_of ifaces number) ≡ 251 = long_chain ifaces 250 number far
    in let test : ltb 250 (length (chain_of ifaces number)) ≡ true = lt-ltb 250 (length (chain_of ifaces number)) (omega arith)
    in first_found (ltb 250 (length (chain_of ifaces number))) (faulty (ltb 250 (sum_by (own_slots ifaces) (chain_of ifaces number))) 14 (directory_of x + 28 * (number - 1))) 10 (directory_of x + 28 * (number - 1)) place test is

pub many_fault : (x : List ℕ) (ifaces : List Iface) (number place : ℕ) → climbed ifaces 250 number ≡ 0 → 250 < slots_within ifaces 250 number → place ≡ directory_of x + 28 * (number - 1) → chain_fault x ifaces number ≡ Some (record { code = 14; at = place })
unfolding chain_fault
many_fault x ifaces number place near many is =
    let short : (length (first_of_chain ifaces 251 number) ≤ 250) × (slots_within ifaces 251 number ≡ slots_within ifaces 250 number) = short_chain ifaces 250 number near
    in second_found (ltb 250 (length (chain_of ifaces number))) (ltb 250 (sum_by (own_slots ifaces) (chain_of ifaces number))) (directory_of x + 28 * (number - 1)) place (le-ltb 250 (length (chain_of ifaces number)) short.0) (lt-ltb 250 (sum_by (own_slots ifaces) (chain_of ifaces number)) (omega (arith, short.1, many))) is

pub near_fine : (x : List ℕ) (ifaces : List Iface) (number : ℕ) → climbed ifaces 250 number ≡ 0 → slots_within ifaces 250 number ≤ 250 → chain_fault x ifaces number ≡ None
unfolding chain_fault
near_fine x ifaces number near few =
    let short : (length (first_of_chain ifaces 251 number) ≤ 250) × (slots_within ifaces 251 number ≡ slots_within ifaces 250 number) = short_chain ifaces 250 number near
    in none_orelse (faulty (ltb 250 (length (chain_of ifaces number))) 10 (directory_of x + 28 * (number - 1))) (faulty (ltb 250 (sum_by (own_slots ifaces) (chain_of ifaces number))) 14 (directory_of x + 28 * (number - 1)))
    (fine_faulty (ltb 250 (length (chain_of ifaces number))) 10 (directory_of x + 28 * (number - 1)) (le-ltb 250 (length (chain_of ifaces number)) short.0))
    (fine_faulty (ltb 250 (sum_by (own_slots ifaces) (chain_of ifaces number))) 14 (directory_of x + 28 * (number - 1)) (le-ltb 250 (sum_by (own_slots ifaces) (chain_of ifaces number)) (omega (arith, short.1, few))))

-- an entry whose descriptor's offset is this
pub record Links (x : List ℕ) (number offset : ℕ) : Type 0 where
  pub inside : place_of x offset + 4 ≤ length x
  pub low : half_at x (place_of x offset) ≤ count_of x
  pub parent : parent_of (entries_of x) number ≡ half_at x (place_of x offset)
  pub slots : own_slots (entries_of x) number ≡ half_at x (place_of x offset + 2)

pub links_known : (x : List ℕ) (directory number offset entry : ℕ) → directory ≡ directory_of x → directory_fault x ≡ None → 0 < number → number ≤ count_of x → entry ≡ directory + 28 * (number - 1) → offset ≡ word_at x (entry + 24) → offset ≢ 0 → Links x number offset
links_known x directory number offset entry is fine above below there read some =
    let same : offset ≡ word_at x (directory + 28 * (number - 1) + 24) = read ∙ ap (λ (p : ℕ). word_at x (p + 24)) there
    in let some_there : word_at x (directory + 28 * (number - 1) + 24) ≢ 0 = λ e. some (same ∙ e)
    in let a : (place_of x (word_at x (directory + 28 * (number - 1) + 24)) + 4 ≤ length x) × (half_at x (place_of x (word_at x (directory + 28 * (number - 1) + 24))) ≤ count_of x) = links_inside x directory number is fine above below some_there
    in let b : (parent_of (entries_of x) number ≡ half_at x (place_of x (word_at x (directory + 28 * (number - 1) + 24)))) × (own_slots (entries_of x) number ≡ half_at x (place_of x (word_at x (directory + 28 * (number - 1) + 24)) + 2)) = links_resolved x directory number is above below some_there
    in subst (λ (o : ℕ). Links x number o) (sym same) (record { inside = a.0; low = a.1; parent = b.0; slots = b.1 })

pub links_none : (x : List ℕ) (directory number offset entry : ℕ) → directory ≡ directory_of x → 0 < number → number ≤ count_of x → entry ≡ directory + 28 * (number - 1) → offset ≡ word_at x (entry + 24) → offset ≡ 0 → (parent_of (entries_of x) number ≡ 0) × (own_slots (entries_of x) number ≡ 0)
links_none x directory number offset entry is above below there read none =
    links_unresolved x directory number is above below (sym (ap (λ (p : ℕ). word_at x (p + 24)) there) ∙ (sym read ∙ none))

-- ---- the loop that climbs: i of n steps have been taken from a number, and led to `here`

pub record IsClimbing (ifaces : List Iface) (n number count here slots i : ℕ) : Type 0 where
  pub top : climbed ifaces n number ≡ climbed ifaces (n - i) here
  pub sum : slots_within ifaces n number ≡ slots + slots_within ifaces (n - i) here
  pub few : slots ≤ 65535 * i
  pub low : here ≤ count

pub climbing_on : {ifaces : List Iface} {n number count here slots i : ℕ} (parent own : ℕ) → IsClimbing ifaces n number count here slots i → i < n → here ≢ 0 → parent ≡ parent_of ifaces here → own ≡ own_slots ifaces here → own < 65536 → parent ≤ count → IsClimbing ifaces n number count parent (slots + own) (i + 1)
climbing_on {ifaces = ifaces} {n = n} {here = here} {i = i} parent own is low some to of small below = record {
  top = is.top ∙ (climb_on ifaces n i here low ∙ ap (climbed ifaces (n - (i + 1))) (sym to));
  sum = omega (arith, is.sum, slots_on ifaces n i here low some, of, ap (slots_within ifaces (n - (i + 1))) to);
  few = omega (arith, is.few, small);
  low = below;
}

pub climbing_ended : {ifaces : List Iface} {n number count here slots i : ℕ} → IsClimbing ifaces n number count here slots i → here ≡ 0 → (0 ≡ climbed ifaces n number) × (slots ≡ slots_within ifaces n number)
climbing_ended {ifaces = ifaces} {n = n} {here = here} {i = i} is none =
    (sym (is.top ∙ (ap (climbed ifaces (n - i)) none ∙ climbed_none ifaces (n - i))), omega (arith, is.sum, ap (slots_within ifaces (n - i)) none, chain_none ifaces (n - i)))

pub climbing_over : {ifaces : List Iface} {n number count here slots i : ℕ} → IsClimbing ifaces n number count here slots i → n ≤ i → (here ≡ climbed ifaces n number) × (slots ≡ slots_within ifaces n number)
climbing_over {ifaces = ifaces} {n = n} {here = here} {i = i} is over =
    (sym (is.top ∙ climb_over ifaces n i here over), omega (arith, is.sum, slots_over ifaces n i here over))

-- ---- whether a number is met in a chain

meets_step : (ifaces : List Iface) (from n k : ℕ) → k ≢ 0 → eqb k from ≡ false → meets ifaces from (suc n) k ≡ meets ifaces from n (parent_of ifaces k)
unfolding first_of_chain
meets_step ifaces from n zero some other = absurd (some refl)
meets_step ifaces from n (suc k) some other = rw other refl

meets_first : (ifaces : List Iface) (from n k : ℕ) → k ≢ 0 → eqb k from ≡ true → meets ifaces from (suc n) k ≡ true
unfolding first_of_chain
meets_first ifaces from n zero some same = absurd (some refl)
meets_first ifaces from n (suc k) some same = rw same refl

meets_none : (ifaces : List Iface) (from n : ℕ) → meets ifaces from n 0 ≡ false
unfolding first_of_chain
meets_none ifaces from zero = refl
meets_none ifaces from (suc n) = refl

pub meets_on : (ifaces : List Iface) (from n i k parent : ℕ) → i < n → k ≢ 0 → k ≢ from → parent ≡ parent_of ifaces k → meets ifaces from (n - i) k ≡ meets ifaces from (n - (i + 1)) parent
meets_on ifaces from n i k parent low some other to =
    let j : n - i ≡ suc (n - (i + 1)) = omega (arith, low)
    in ap (λ (m : ℕ). meets ifaces from m k) j ∙ (meets_step ifaces from (n - (i + 1)) k some (ne_eqb k from other) ∙ ap (meets ifaces from (n - (i + 1))) (sym to))

pub meets_here : (ifaces : List Iface) (from n i k : ℕ) → i < n → k ≢ 0 → k ≡ from → meets ifaces from (n - i) k ≡ true
meets_here ifaces from n i k low some same =
    let j : n - i ≡ suc (n - (i + 1)) = omega (arith, low)
    in ap (λ (m : ℕ). meets ifaces from m k) j ∙ meets_first ifaces from (n - (i + 1)) k some (eq-eqb k from same)

pub meets_end : (ifaces : List Iface) (from n k : ℕ) → k ≡ 0 → meets ifaces from n k ≡ false
meets_end ifaces from n k none = ap (meets ifaces from n) none ∙ meets_none ifaces from n

pub meets_over : (ifaces : List Iface) (from n i k : ℕ) → n ≤ i → meets ifaces from (n - i) k ≡ false
unfolding first_of_chain
meets_over ifaces from n i k over =
    let j : n - i ≡ 0 = omega (arith, over)
    in ap (λ (m : ℕ). meets ifaces from m k) j
