-- How a member is looked for in a chain of parents, the nearest first.
use Rattle.std.proofs.Common.{◌≡◌, ◌≢◌, ℕ, zero, suc, ◌+◌, ◌-◌, ◌<◌, ◌≤◌, ◌++◌, List, [], ◌∷◌, length, Option, Some, None, Bool, arith, refl, sym, ap, ◌∙◌, length-append, option_and_then}
use Rattle.std.specs.Prelude.{map, slice_get}
use Rattle.std.specs.List.{position}
use Rattle.std.proofs.lemmas.List.Sums.{sum_by-cons}
use Rattle.std.proofs.lemmas.Option.{slice_get_past}
use Rattle.call_model.specs.declared.prototypes.MemberKind.{MemberKind}
use Rattle.call_model.specs.Tables.{behind_or, is_member, member_within}
use Rattle.lib_model.specs.declared.contents.Iface.{Iface}
use Rattle.lib_model.specs.declared.contents.Method.{Method}
use Rattle.lib_model.specs.declared.contents.Body.{Body}
use Rattle.lib_model.specs.Table.{methods_in, methods_within, slot_of, table_iface}
use Rattle.lib_model.specs.Valid.{body_of, first_of_chain, own_slots, parent_in, parent_of, slots_in}
use Rattle.lib_model.proofs.TableLaws.{member_step}
use Rattle.typelib_faults.specs.Climbs.{slots_within}
use Rattle.typelib_faults.specs.Places.{method_at, method_end}
use Rattle.typelib_faults.specs.Walk.{values}
use Rattle.typelib_faults.proofs.ChainLaws.{slots_end, slots_on, slots_over}
use Rattle.typelib_faults.proofs.WalkFacts.{length_values}

-- ---- lists

front_kept : {A : Type 0} (xs ys : List A) (j : ℕ) (v : A) → slice_get xs j ≡ Some v → slice_get (xs ++ ys) j ≡ Some v
front_kept [] ys j v e = cc
front_kept (x ∷ xs) ys zero v e = e
front_kept (x ∷ xs) ys (suc j) v e = front_kept xs ys j v e

pub front_same : {A : Type 0} (xs ys : List A) (j : ℕ) → j < length xs → slice_get (xs ++ ys) j ≡ slice_get xs j
front_same [] ys j low = absurd (omega (arith, low))
front_same (x ∷ xs) ys zero low = refl
front_same (x ∷ xs) ys (suc j) low = front_same xs ys j (omega (arith, low))

pub behind_front : {A : Type 0} (xs ys : List A) (j k : ℕ) → j ≡ length xs + k → slice_get (xs ++ ys) j ≡ slice_get ys k
behind_front [] ys j k e = ap (slice_get ys) (omega (arith, e))
behind_front (x ∷ xs) ys zero k e = absurd (omega (arith, e))
behind_front (x ∷ xs) ys (suc j) k e = behind_front xs ys j k (omega (arith, e))

-- ---- one step up

abbrev pub is_wanted : MemberKind → List ℕ → Method → Bool
is_wanted kind name m = is_member kind name (slot_of m)

methods_step : (ifaces : List Iface) (n k : ℕ) → methods_within ifaces (suc n) k ≡ methods_within ifaces n (parent_of ifaces k) ++ methods_in (body_of ifaces k)
unfolding methods_within
methods_step ifaces n k = refl

own_counted : (o : Option Body) → slots_in o ≡ length (methods_in o)
own_counted None = refl
own_counted (Some b) = refl

pub own_is : (x : List ℕ) (from count : ℕ) (ifaces : List Iface) (k : ℕ) → values (method_at x) (method_end x) from count ≡ methods_in (body_of ifaces k) → count ≡ own_slots ifaces k
own_is x from count ifaces k are =
    sym (length_values (method_at x) (method_end x) from count) ∙ (ap (λ (ms : List Method). length ms) are ∙ sym (own_counted (body_of ifaces k)))

methods_none : (ifaces : List Iface) (n : ℕ) → length (methods_within ifaces n 0) ≡ 0
unfolding methods_within
methods_none ifaces zero = refl
methods_none ifaces (suc n) = omega (arith, length-append (methods_within ifaces n 0) [], methods_none ifaces n)

-- a chain has as many methods as slots
pub methods_counted : (ifaces : List Iface) (n k : ℕ) → length (methods_within ifaces n k) ≡ slots_within ifaces n k
unfolding methods_within first_of_chain
methods_counted ifaces zero k = refl
methods_counted ifaces (suc n) zero = methods_none ifaces (suc n)
methods_counted ifaces (suc n) (suc k) =
    let step : slots_within ifaces (suc n) (suc k) ≡ own_slots ifaces (suc k) + slots_within ifaces n (parent_of ifaces (suc k)) = sum_by-cons (own_slots ifaces) (suc k) (first_of_chain ifaces n (parent_of ifaces (suc k)))
    in omega (arith, step, length-append (methods_within ifaces n (parent_of ifaces (suc k))) (methods_in (body_of ifaces (suc k))), own_counted (body_of ifaces (suc k)), methods_counted ifaces n (parent_of ifaces (suc k)))

member_top : (kind : MemberKind) (name : List ℕ) (ifaces : List Iface) (k : ℕ) → member_within kind name (map table_iface ifaces) 0 k ≡ None
unfolding member_within
member_top kind name ifaces k = refl

member_none : (kind : MemberKind) (name : List ℕ) (ifaces : List Iface) (n : ℕ) → member_within kind name (map table_iface ifaces) n 0 ≡ None
member_none kind name ifaces zero = member_top kind name ifaces 0
member_none kind name ifaces (suc n) = member_step kind name ifaces n 0 ∙ member_none kind name ifaces n

body_past : (ifaces : List Iface) (k : ℕ) → length ifaces ≤ k → body_of ifaces (suc k) ≡ None
body_past ifaces k over = ap (λ (o : Option Iface). option_and_then (λ (i : Iface). i.body) o) (slice_get_past ifaces k over)

pub methods_past : (ifaces : List Iface) (n k slot : ℕ) → length ifaces < k → slice_get (methods_within ifaces (suc n) k) slot ≡ None
methods_past ifaces n zero slot over = absurd (omega (arith, over))
methods_past ifaces n (suc k) slot over =
    let none : body_of ifaces (suc k) ≡ None = body_past ifaces k (omega (arith, over))
    in let here : methods_within ifaces (suc n) (suc k) ≡ methods_within ifaces n 0 ++ [] = methods_step ifaces n (suc k) ∙ ap (λ (o : Option Body). methods_within ifaces n (parent_in o) ++ methods_in o) none
    in slice_get_past (methods_within ifaces (suc n) (suc k)) slot (omega (arith, ap (λ (ms : List Method). length ms) here, length-append (methods_within ifaces n 0) [], methods_none ifaces n))

-- the number of no interface has no members
pub member_past : (kind : MemberKind) (name : List ℕ) (ifaces : List Iface) (n k : ℕ) → length ifaces < k → member_within kind name (map table_iface ifaces) (suc n) k ≡ None
member_past kind name ifaces n zero over = absurd (omega (arith, over))
member_past kind name ifaces n (suc k) over =
    let none : body_of ifaces (suc k) ≡ None = body_past ifaces k (omega (arith, over))
    in member_step kind name ifaces n (suc k)
    ∙ (ap (λ (o : Option Body). behind_or (length (methods_within ifaces n (parent_in o))) (position (is_wanted kind name) (methods_in o)) (member_within kind name (map table_iface ifaces) n (parent_in o))) none ∙ member_none kind name ifaces n)

-- ---- the loop: i of n steps to the parent have been taken from a number, and led to `here`; `end` is one past its last slot

pub record IsSearching (kind : MemberKind) (name : List ℕ) (ifaces : List Iface) (n number count here end i : ℕ) : Type 0 where
  pub same : member_within kind name (map table_iface ifaces) n number ≡ member_within kind name (map table_iface ifaces) (n - i) here
  pub slots : end ≡ slots_within ifaces (n - i) here
  pub kept : (j : ℕ) (m : Method) → slice_get (methods_within ifaces (n - i) here) j ≡ Some m → slice_get (methods_within ifaces n number) j ≡ Some m
  pub low : here ≤ count

-- its own slots come behind its parent's
pub searching_split : {kind : MemberKind} {name : List ℕ} {ifaces : List Iface} {n number count here end i : ℕ} (own : ℕ) → IsSearching kind name ifaces n number count here end i → i < n → here ≢ 0 → own ≡ own_slots ifaces here → end ≡ own + slots_within ifaces (n - (i + 1)) (parent_of ifaces here)
searching_split {ifaces = ifaces} {n = n} {here = here} {i = i} own is low some of = omega (arith, is.slots, slots_on ifaces n i here low some, of)

pub searching_on : {kind : MemberKind} {name : List ℕ} {ifaces : List Iface} {n number count here end i : ℕ} (parent own : ℕ) → IsSearching kind name ifaces n number count here end i → i < n → here ≢ 0 → parent ≡ parent_of ifaces here → own ≡ own_slots ifaces here → parent ≤ count → position (is_wanted kind name) (methods_in (body_of ifaces here)) ≡ None → IsSearching kind name ifaces n number count parent (end - own) (i + 1)
searching_on {kind} {name} {ifaces} {n} {number} {count} {here} {end} {i} parent own is low some to of below missing =
    let m : ℕ = n - (i + 1)
    in let j : n - i ≡ suc m = omega (arith, low)
    in let split : end ≡ own + slots_within ifaces m (parent_of ifaces here) = searching_split own is low some of
    in record {
      same = is.same ∙ (ap (λ (l : ℕ). member_within kind name (map table_iface ifaces) l here) j ∙ (member_step kind name ifaces m here ∙ (ap (λ (o : Option ℕ). behind_or (length (methods_within ifaces m (parent_of ifaces here))) o (member_within kind name (map table_iface ifaces) m (parent_of ifaces here))) missing ∙ ap (member_within kind name (map table_iface ifaces) m) (sym to))));
      slots = omega (arith, split, ap (slots_within ifaces m) to);
      kept = λ k v at. is.kept k v (ap (λ (l : ℕ). slice_get (methods_within ifaces l here) k) j ∙ (ap (λ (ms : List Method). slice_get ms k) (methods_step ifaces m here) ∙ front_kept (methods_within ifaces m (parent_of ifaces here)) (methods_in (body_of ifaces here)) k v (ap (λ (p : ℕ). slice_get (methods_within ifaces m p) k) (sym to) ∙ at)));
      low = below;
    }

-- an own method has been found
pub searching_found : {kind : MemberKind} {name : List ℕ} {ifaces : List Iface} {n number count here end i : ℕ} (own before : ℕ) (v : Method) → IsSearching kind name ifaces n number count here end i → i < n → here ≢ 0 → own ≡ own_slots ifaces here → position (is_wanted kind name) (methods_in (body_of ifaces here)) ≡ Some before → slice_get (methods_in (body_of ifaces here)) before ≡ Some v → (Some (end - own + before) ≡ member_within kind name (map table_iface ifaces) n number) × (slice_get (methods_within ifaces n number) (end - own + before) ≡ Some v)
searching_found {kind} {name} {ifaces} {n} {number} {count} {here} {end} {i} own before v is low some of found there =
    let m : ℕ = n - (i + 1)
    in let j : n - i ≡ suc m = omega (arith, low)
    in let long : length (methods_within ifaces m (parent_of ifaces here)) ≡ end - own = omega (arith, methods_counted ifaces m (parent_of ifaces here), searching_split own is low some of)
    in let member : member_within kind name (map table_iface ifaces) n number ≡ Some (length (methods_within ifaces m (parent_of ifaces here)) + before) = is.same ∙ (ap (λ (l : ℕ). member_within kind name (map table_iface ifaces) l here) j ∙ (member_step kind name ifaces m here ∙ ap (λ (o : Option ℕ). behind_or (length (methods_within ifaces m (parent_of ifaces here))) o (member_within kind name (map table_iface ifaces) m (parent_of ifaces here))) found))
    in (
      sym (member ∙ ap (λ (l : ℕ). Some (l + before)) long),
      is.kept (end - own + before) v (ap (λ (l : ℕ). slice_get (methods_within ifaces l here) (end - own + before)) j ∙ (ap (λ (ms : List Method). slice_get ms (end - own + before)) (methods_step ifaces m here) ∙ (behind_front (methods_within ifaces m (parent_of ifaces here)) (methods_in (body_of ifaces here)) (end - own + before) before (omega (arith, long)) ∙ there))),
    )

pub searching_over : {kind : MemberKind} {name : List ℕ} {ifaces : List Iface} {n number count here end i : ℕ} → IsSearching kind name ifaces n number count here end i → n ≤ i → member_within kind name (map table_iface ifaces) n number ≡ None
searching_over {kind} {name} {ifaces} {n} {here = here} {i = i} is over =
    let j : n - i ≡ 0 = omega (arith, over)
    in is.same ∙ (ap (λ (l : ℕ). member_within kind name (map table_iface ifaces) l here) j ∙ member_top kind name ifaces here)

pub searching_ended : {kind : MemberKind} {name : List ℕ} {ifaces : List Iface} {n number count here end i : ℕ} → IsSearching kind name ifaces n number count here end i → here ≡ 0 → member_within kind name (map table_iface ifaces) n number ≡ None
searching_ended {kind} {name} {ifaces} {n} {i = i} is none =
    is.same ∙ (ap (member_within kind name (map table_iface ifaces) (n - i)) none ∙ member_none kind name ifaces (n - i))

-- ---- the loop that goes to a slot: i of n steps to the parent have been taken from a number, and led to `here`

pub record IsSeeking (ifaces : List Iface) (n number count slot here end i : ℕ) : Type 0 where
  pub same : slice_get (methods_within ifaces n number) slot ≡ slice_get (methods_within ifaces (n - i) here) slot
  pub slots : end ≡ slots_within ifaces (n - i) here
  pub before : slot < end
  pub low : here ≤ count

pub seeking_split : {ifaces : List Iface} {n number count slot here end i : ℕ} (own : ℕ) → IsSeeking ifaces n number count slot here end i → i < n → here ≢ 0 → own ≡ own_slots ifaces here → end ≡ own + slots_within ifaces (n - (i + 1)) (parent_of ifaces here)
seeking_split {ifaces} {n} {here = here} {i = i} own is low some of = omega (arith, is.slots, slots_on ifaces n i here low some, of)

seeking_step : {ifaces : List Iface} {n number count slot here end i : ℕ} → IsSeeking ifaces n number count slot here end i → i < n → slice_get (methods_within ifaces n number) slot ≡ slice_get (methods_within ifaces (n - (i + 1)) (parent_of ifaces here) ++ methods_in (body_of ifaces here)) slot
seeking_step {ifaces} {n} {slot = slot} {here = here} {i = i} is low =
    let j : n - i ≡ suc (n - (i + 1)) = omega (arith, low)
    in is.same ∙ (ap (λ (l : ℕ). slice_get (methods_within ifaces l here) slot) j ∙ ap (λ (ms : List Method). slice_get ms slot) (methods_step ifaces (n - (i + 1)) here))

pub seeking_on : {ifaces : List Iface} {n number count slot here end i : ℕ} (parent own : ℕ) → IsSeeking ifaces n number count slot here end i → i < n → here ≢ 0 → parent ≡ parent_of ifaces here → own ≡ own_slots ifaces here → parent ≤ count → slot < end - own → IsSeeking ifaces n number count slot parent (end - own) (i + 1)
seeking_on {ifaces} {n} {slot = slot} {here = here} {end = end} {i = i} parent own is low some to of below before =
    let m : ℕ = n - (i + 1)
    in let split : end ≡ own + slots_within ifaces m (parent_of ifaces here) = seeking_split own is low some of
    in let within : slot < length (methods_within ifaces m (parent_of ifaces here)) = omega (arith, methods_counted ifaces m (parent_of ifaces here), split, before)
    in record {
      same = seeking_step is low ∙ (front_same (methods_within ifaces m (parent_of ifaces here)) (methods_in (body_of ifaces here)) slot within ∙ ap (λ (p : ℕ). slice_get (methods_within ifaces m p) slot) (sym to));
      slots = omega (arith, split, ap (slots_within ifaces m) to);
      before = before;
      low = below;
    }

-- the slot is one of the interface's own
pub seeking_found : {ifaces : List Iface} {n number count slot here end i : ℕ} (own : ℕ) → IsSeeking ifaces n number count slot here end i → i < n → here ≢ 0 → own ≡ own_slots ifaces here → end - own ≤ slot → slice_get (methods_within ifaces n number) slot ≡ slice_get (methods_in (body_of ifaces here)) (slot - (end - own))
seeking_found {ifaces} {n} {slot = slot} {here = here} {end = end} {i = i} own is low some of behind =
    let m : ℕ = n - (i + 1)
    in let split : end ≡ own + slots_within ifaces m (parent_of ifaces here) = seeking_split own is low some of
    in seeking_step is low
    ∙ behind_front (methods_within ifaces m (parent_of ifaces here)) (methods_in (body_of ifaces here)) slot (slot - (end - own)) (omega (arith, methods_counted ifaces m (parent_of ifaces here), split, behind))

-- no slot is sought past the end of a chain
pub seeking_ends : {ifaces : List Iface} {n number count slot here end i : ℕ} → IsSeeking ifaces n number count slot here end i → here ≡ 0 → ⊥
seeking_ends {ifaces} {n} {here = here} {i = i} is none =
    omega (arith, is.before, is.slots, ap (slots_within ifaces (n - i)) none, slots_end ifaces (n - i))

pub seeking_over : {ifaces : List Iface} {n number count slot here end i : ℕ} → IsSeeking ifaces n number count slot here end i → n ≤ i → ⊥
seeking_over {ifaces} {n} {here = here} {i = i} is over =
    omega (arith, is.before, is.slots, slots_over ifaces n i here over)

-- an interface has no slot past its last
pub slot_past : (ifaces : List Iface) (n number slot : ℕ) → slots_within ifaces n number ≤ slot → slice_get (methods_within ifaces n number) slot ≡ None
slot_past ifaces n number slot past = slice_get_past (methods_within ifaces n number) slot (omega (arith, methods_counted ifaces n number, past))
