-- How many slots an interface has, as they are counted up its chain of parents.
use Rattle.std.proofs.Common.{◌≡◌, ℕ, zero, suc, ◌+◌, ◌<◌, ◌≤◌, Bool, true, false, ◌||◌, List, [], ◌∷◌, ◌++◌, length, get_or, take, min, Option, Some, None, refl, sym, subst, ◌∙◌, ap, arith, length-append, lt-ltb, le-ltb, ltb-true, ltb-false, nat_lt, option_and_then, slice_get, if◌then◌else◌, true≢false}
use Rattle.std.specs.List.{flat_map}
use Rattle.std.proofs.lemmas.List.{get_or_append_left, get_or_past, get_or_push}
use Rattle.std.proofs.lemmas.Option.{slice_get_past}
use Rattle.idl_meaning.specs.declared.scope.ScopeIface.{ScopeIface}
use Rattle.idl_meaning.specs.declared.scope.ScopeMember.{ScopeMember}
use Rattle.vtable_layout.specs.Layout.{AreValues, CountsOwn, has_too_many, slot_count}
use Rattle.vtable_layout.specs.Slots.{Slot, above, chain_of, chain_within, first_from, inherited, own_in, own_of, own_slots, parent_of, slot_behind, slot_number, slots_of, slots_of_member, slots_within}

-- whether a climb finds too many from `at` on: so many interfaces may come before the last, and so
-- many slots are counted
abbrev pub passes : List ScopeIface → ℕ → ℕ → Option ℕ → Bool
passes ifaces left counted at =
    nat_lt left (length (above (chain_within ifaces (suc left)) at))
    || nat_lt 250 (counted + length (above (slots_within ifaces (suc left)) at))

-- what the climb counts in all, where that is not too many
abbrev pub outcome : List ScopeIface → ℕ → ℕ → Option ℕ → Option ℕ
outcome ifaces left counted at =
    if passes ifaces left counted at
    then None
    else Some (counted + length (above (slots_within ifaces (suc left)) at))

-- ---- one step of a climb

lt-suc : (m n : ℕ) → nat_lt (suc m) (suc n) ≡ nat_lt m n
lt-suc m n = go (nat_lt m n) refl
  where
    go : (b : Bool) → nat_lt m n ≡ b → nat_lt (suc m) (suc n) ≡ nat_lt m n
    go true h = let below : m < n = grind (arith, h) in lt-ltb (suc m) (suc n) (omega arith) ∙ sym h
    go false h = let above : n ≤ m = ltb-false m n h in le-ltb (suc m) (suc n) (omega arith) ∙ sym h

or-true : (a : Bool) → (a || true) ≡ true
or-true true = refl
or-true false = refl

pub done : (ifaces : List ScopeIface) (left counted : ℕ) → counted ≤ 250
    → outcome ifaces left counted None ≡ Some counted
done ifaces left counted few =
    let none : nat_lt left 0 ≡ false = le-ltb left 0 (omega arith)
    in let same : counted + 0 ≡ counted = omega arith
    in let fits : nat_lt 250 counted ≡ false = le-ltb 250 counted few
    in (λ j. if (none j || nat_lt 250 (same j)) then None else Some (same j))
    ∙ (λ j. if fits j then None else Some counted)

pub no_left : (ifaces : List ScopeIface) (counted k : ℕ) → outcome ifaces 0 counted (Some k) ≡ None
unfolding chain_within
no_left ifaces counted k =
    let more : nat_lt 0 (length (above (chain_within ifaces 1) (Some k))) ≡ true =
    lt-ltb 0 (length (above (chain_within ifaces 1) (Some k))) (omega arith)
    in λ j. if (more j || nat_lt 250 (counted + length (above (slots_within ifaces 1) (Some k))))
    then None else Some (counted + length (above (slots_within ifaces 1) (Some k)))

slots_step : (ifaces : List ScopeIface) (n counted k : ℕ)
    → counted + length (slots_within ifaces (suc (suc n)) k)
    ≡ (counted + length (own_of ifaces k)) + length
    (above (slots_within ifaces (suc n)) (parent_of ifaces k))
unfolding slots_within
slots_step ifaces n counted k =
    omega (
      arith,
      length-append (above (slots_within ifaces (suc n)) (parent_of ifaces k))
          (own_of ifaces k),
    )

chain_step : (ifaces : List ScopeIface) (n k : ℕ)
    → nat_lt (suc n) (length (chain_within ifaces (suc (suc n)) k))
    ≡ nat_lt n (length (above (chain_within ifaces (suc n)) (parent_of ifaces k)))
unfolding chain_within
chain_step ifaces n k = lt-suc n (length (above (chain_within ifaces (suc n)) (parent_of ifaces k)))

pub step : (ifaces : List ScopeIface) (n counted k : ℕ) → outcome ifaces (suc n) counted (Some k)
    ≡ outcome ifaces n (counted + length (own_of ifaces k)) (parent_of ifaces k)
step ifaces n counted k =
    let chain = chain_step ifaces n k
    in let slots = slots_step ifaces n counted k
    in λ j. if (chain j || nat_lt 250 (slots j)) then None else Some (slots j)

pub no_room : (ifaces : List ScopeIface) (left counted : ℕ) (at : Option ℕ) → 250 < counted
    → outcome ifaces left counted at ≡ None
no_room ifaces left counted at past =
    let more = counted + length (above (slots_within ifaces (suc left)) at)
    in let room : nat_lt 250 more ≡ true = lt-ltb 250 more (omega arith)
    in let first = nat_lt left (length (above (chain_within ifaces (suc left)) at))
    in let both : (first || nat_lt 250 more) ≡ true = (λ j. first || room j) ∙ or-true first
    in λ j. if both j then None else Some more

-- ---- a whole climb

pub whole : (ifaces : List ScopeIface) (k : ℕ) → outcome ifaces 250 0 (Some k) ≡ slot_count ifaces k
whole ifaces k =
    let counted : 0 + length (slots_of ifaces k) ≡ length (slots_of ifaces k) = omega arith
    in λ j. if (nat_lt 250 (length (chain_of ifaces k)) || nat_lt 250 (counted j)) then None
    else Some (counted j)

pub none_counted : (ifaces : List ScopeIface) (k : ℕ) → slot_count ifaces k ≡ None
    → has_too_many ifaces k ≡ true
none_counted ifaces k none = go (has_too_many ifaces k) refl
  where
    go : (b : Bool) → has_too_many ifaces k ≡ b → has_too_many ifaces k ≡ true
    go true h = h
    go false h = absurd
        (let some : slot_count ifaces k ≡ Some (length (slots_of ifaces k)) = λ j. if h j then None
        else Some (length (slots_of ifaces k)) in cc)

-- what a count says
pub record Fits (ifaces : List ScopeIface) (k t : ℕ) : Type 0 where
  pub few : has_too_many ifaces k ≡ false
  pub total : t ≡ length (slots_of ifaces k)

pub counted : (ifaces : List ScopeIface) (k t : ℕ) → slot_count ifaces k ≡ Some t → Fits ifaces k t
counted ifaces k t some = go (has_too_many ifaces k) refl
  where
    go : (b : Bool) → has_too_many ifaces k ≡ b → Fits ifaces k t
    go true h = absurd
        (let none : slot_count ifaces k ≡ None = λ j. if h j then None
        else Some (length (slots_of ifaces k)) in cc)
    go false h = let same : Some t ≡ Some (length (slots_of ifaces k)) =
        sym some ∙ (λ j. if h j then None else Some (length (slots_of ifaces k)))
        in record { few = h; total = cc }

-- ---- the parent's slots and the own

settled : (ifaces : List ScopeIface) (n k : ℕ) → length (chain_within ifaces (suc n) k) ≤ n
    → slots_within ifaces (suc (suc n)) k ≡ slots_within ifaces (suc n) k
unfolding chain_within slots_within
settled ifaces zero k few = absurd (omega arith)
settled ifaces (suc n) k few = go (parent_of ifaces k) (λ p h. settled ifaces n p h) (omega arith)
  where
    go : (o : Option ℕ)
        → ((p : ℕ) → length (chain_within ifaces (suc n) p) ≤ n
        → slots_within ifaces (suc (suc n)) p ≡ slots_within ifaces (suc n) p)
        → length (above (chain_within ifaces (suc n)) o) ≤ n
        → above (slots_within ifaces (suc (suc n))) o ++ own_of ifaces k
        ≡ above (slots_within ifaces (suc n)) o ++ own_of ifaces k
    go None each h = refl
    go (Some p) each h = ap (λ (s : List Slot). s ++ own_of ifaces k) (each p h)

pub few_parents : (ifaces : List ScopeIface) (k : ℕ) → has_too_many ifaces k ≡ false
    → length (chain_of ifaces k) ≤ 250
few_parents ifaces k few = go (nat_lt 250 (length (chain_of ifaces k))) refl
  where
    go : (b : Bool) → nat_lt 250 (length (chain_of ifaces k)) ≡ b → length (chain_of ifaces k) ≤ 250
    go false h = ltb-false 250 (length (chain_of ifaces k)) h
    go true h = absurd
        (let all : has_too_many ifaces k
        ≡ true = λ j. h j || nat_lt 250 (length (slots_of ifaces k)) in true≢false (sym all ∙ few))

pub few_slots : (ifaces : List ScopeIface) (k : ℕ) → has_too_many ifaces k ≡ false
    → length (slots_of ifaces k) ≤ 250
few_slots ifaces k few = go (nat_lt 250 (length (slots_of ifaces k))) refl
  where
    go : (b : Bool) → nat_lt 250 (length (slots_of ifaces k)) ≡ b → length (slots_of ifaces k) ≤ 250
    go false h = ltb-false 250 (length (slots_of ifaces k)) h
    go true h = absurd
        (let all : has_too_many ifaces k
        ≡ true = (λ j. nat_lt 250 (length (chain_of ifaces k)) || h j)
        ∙ or-true (nat_lt 250 (length (chain_of ifaces k))) in true≢false (sym all ∙ few))

-- the slots are the parent's and then the own
pub parts : (ifaces : List ScopeIface) (k : ℕ) → has_too_many ifaces k ≡ false
    → slots_of ifaces k ≡ inherited ifaces k ++ own_of ifaces k
unfolding chain_within slots_within
parts ifaces k few = go (parent_of ifaces k) (few_parents ifaces k few)
  where
    go : (o : Option ℕ) → length (k ∷ above (chain_within ifaces 250) o) ≤ 250
        → above (slots_within ifaces 250) o ++ own_of ifaces k
        ≡ above (slots_within ifaces 251) o ++ own_of ifaces k
    go None h = refl
    go (Some p) h =
        ap (λ (s : List Slot). s ++ own_of ifaces k) (sym (settled ifaces 249 p (omega arith)))

-- the first of the own slots
pub first_own : (ifaces : List ScopeIface) (k t : ℕ) → Fits ifaces k t
    → t ≡ length (inherited ifaces k) + length (own_of ifaces k)
first_own ifaces k t fits =
    omega (
      arith,
      fits.total,
      ap length (parts ifaces k fits.few),
      length-append
          (inherited ifaces k) (own_of ifaces k),
    )

-- ---- the loops

-- the numbers so far, and one more
one_more : (f : ℕ → ℕ) (n x : ℕ) (xs : List ℕ) → AreValues f n xs → x ≡ f n
    → AreValues f (n + 1) (xs ++ x ∷ [])
one_more f n x xs so_far is = record {
  as_many = omega (arith, length-append xs (x ∷ []), so_far.as_many);
  each = λ k h. go k (nat_lt k n) refl h;
}
  where
    go : (k : ℕ) (b : Bool) → nat_lt k n ≡ b → k < n + 1 → get_or (xs ++ x ∷ []) k 0 ≡ f k
    go k true below h =
        let lt : k < n = ltb-true k n below
        in let inside : k < length xs = omega (arith, so_far.as_many)
        in get_or_append_left xs (x ∷ []) 0 k inside ∙ so_far.each k lt
    go k false past h =
        let at : k ≡ length xs = omega (arith, so_far.as_many, ltb-false k n past)
        in let same : k ≡ n = omega (arith, so_far.as_many, ltb-false k n past)
        in get_or_push xs x 0 k (sym at) ∙ is ∙ ap f (sym same)

pub one_pushed : (f : ℕ → ℕ) (n x : ℕ) (xs ys : List ℕ) → AreValues f n xs → ys ≡ xs ++ x ∷ []
    → x ≡ f n → AreValues f (n + 1) ys
one_pushed f n x xs ys so_far pushed is =
    subst (AreValues f (n + 1)) (sym pushed) (one_more f n x xs so_far is)

-- counting the slots of one member more, up to 251
pub one_member : (count : ℕ) (m : ScopeMember) (ms : List ScopeMember)
    → min 251 (count + length (flat_map slots_of_member (m ∷ ms)))
    ≡ min 251 (min (count + length (slots_of_member m)) 251 + length (flat_map slots_of_member ms))
one_member count m ms =
    omega (arith, length-append (slots_of_member m) (flat_map slots_of_member ms))

-- the slots of the first members are among those of all
pub part_of_slots : (n : ℕ) (ms : List ScopeMember)
    → length (flat_map slots_of_member (take n ms)) ≤ length (flat_map slots_of_member ms)
part_of_slots zero ms = omega arith
part_of_slots (suc n) [] = omega arith
part_of_slots (suc n) (m ∷ ms) =
    omega (
      arith,
      part_of_slots n ms,
      length-append (slots_of_member m)
          (flat_map slots_of_member (take n ms)),
      length-append (slots_of_member m)
          (flat_map slots_of_member ms),
    )

-- counts of the interfaces that there are say it of every number: no interface has no slots
pub counts_own : (ifaces : List ScopeIface) (xs : List ℕ)
    → AreValues (λ k. min 251 (length (own_of ifaces k))) (length ifaces) xs → CountsOwn ifaces xs
counts_own ifaces xs values k = go (nat_lt k (length ifaces)) refl
  where
    go : (b : Bool) → nat_lt k (length ifaces) ≡ b
        → get_or xs k 0 ≡ min 251 (length (own_of ifaces k))
    go true below = values.each k (ltb-true k (length ifaces) below)
    go false past =
        let beyond : length ifaces ≤ k = ltb-false k (length ifaces) past
        in let none : own_of ifaces k ≡ [] = ap own_in (slice_get_past ifaces k beyond)
        in get_or_past xs k 0 (omega (arith, values.as_many))
        ∙ sym (ap (λ (s : List Slot). min 251 (length s)) none)

-- ---- one member

first_of_some : (n : ℕ) (slots : List Slot) → 0 < length slots → first_from n slots ≡ Some n
first_of_some n [] some = absurd (omega (arith, some))
first_of_some n (s ∷ slots) some = refl

pub found_slot : (ifaces : List ScopeIface) (k place : ℕ) (i : ScopeIface) (m : ScopeMember)
    → slice_get ifaces k ≡ Some i → slice_get i.members place ≡ Some m
    → 0 < length (slots_of_member m)
    → slot_number ifaces k place
    ≡ Some (length (inherited ifaces k) + length (flat_map slots_of_member (take place i.members)))
found_slot ifaces k place i m holder member some =
    ap (option_and_then
    (λ (h : ScopeIface). slot_behind (length (inherited ifaces k)) h.members place)) holder
    ∙ ap (option_and_then
    (λ (f : ScopeMember).
    first_from (length (inherited ifaces k) + length
    (flat_map slots_of_member (take place i.members))) (slots_of_member f))) member
    ∙ first_of_some
    (length (inherited ifaces k) + length (flat_map slots_of_member (take place i.members)))
    (slots_of_member m) some

-- the slots of its parent and of its members before a place are not too many
pub few_before : (ifaces : List ScopeIface) (k place : ℕ) (i : ScopeIface)
    → has_too_many ifaces k ≡ false → slice_get ifaces k ≡ Some i
    → length (inherited ifaces k) + length (flat_map slots_of_member (take place i.members)) ≤ 250
few_before ifaces k place i few holder =
    let own : own_of ifaces k ≡ own_slots i = ap own_in holder
    in omega (
      arith,
      few_slots ifaces k few,
      ap length (parts ifaces k few),
      length-append
          (inherited ifaces k) (own_of ifaces k),
      ap length own,
      part_of_slots place i.members,
    )
