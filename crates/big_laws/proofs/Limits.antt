-- The scope of `big` keeps the limits of a typelib, and its bytes are no more than a typelib has.
use Rattle.std.proofs.Common.{◌≡◌, ℕ, zero, suc, ◌+◌, ◌*◌, ◌-◌, ◌<◌, ◌≤◌, nat_le, Bool, true, false, List, [], ◌∷◌, ◌++◌, length, map, slice_get, Option, Some, None, sum_by, refl, sym, ap, subst, ◌∙◌, inl, inr, ◌⊎◌, arith, length-append, option_and_then, ◌==◌}
use Rattle.std.proofs.lemmas.Bool.{eqb-true, leb-true, le-ltb}
use Rattle.std.proofs.lemmas.List.{length-map}
use Rattle.std.proofs.lemmas.List.Sums.{sum_by-cons}
use Rattle.std.specs.Fmt.{digits}
use Rattle.std.specs.List.{AllByRecursion, list_any}
use Rattle.uuid.specs.Text.{by_index}
use Rattle.idl_meaning.specs.declared.scope.ScopeIface.{ScopeIface}
use Rattle.idl_meaning.specs.Scopes.{scope_of}
use Rattle.lib_model.specs.declared.contents.Iface.{Iface}
use Rattle.lib_model.specs.Emit as e
use Rattle.lib_model.specs.Emit.{emit, part_size, part_text, pool_text}
use Rattle.lib_model.specs.Valid.{iface_items}
use Rattle.lib_model.proofs.FileSize.{length_emit}
use Rattle.lib_model.proofs.Sizes.{length-placed, length_part_text}
use Rattle.vtable_layout.specs.Layout.{has_too_many}
use Rattle.vtable_layout.specs.Slots.{above, chain_within, own_of, own_in, parent_of, slots_within}
use Rattle.prototype_lowering.specs.Accepted.{IsAccepted}
use Rattle.prototype_lowering.specs.Directory.{directory_of, in_order}
use Rattle.prototype_lowering.specs.Limits.{KeepsLimits, has_many_constants, has_too_many_items, is_wide, is_wide_at, is_wide_found}
use Rattle.prototype_lowering.specs.Lowering.{iface_of, library_of}
use Rattle.prototype_lowering.proofs.DirectoryLaws.{length_in_order}
use Rattle.prototype_lowering.proofs.ScopeFacts.{each_found}
use Rattle.prototype_lowering.proofs.Validity.{library_valid}
use Rattle.big_laws.specs.Trees.{listed, big_files}
use Rattle.big_laws.proofs.Below.{same_at}
use Rattle.big_laws.proofs.Listed.{length_listed, listed_found}
use Rattle.big_laws.proofs.Meant.{accepted_scope, big_member_meant, faultless, scope_iface, scope_is}

-- the first interfaces of the scope
abbrev ifaces : (n : ℕ) → List ScopeIface
ifaces n = listed scope_iface 0 n

-- ---- parameters

narrow_member : (i : ℕ) → i < 250 → is_wide (big_member_meant i) ≡ false
unfolding digits
narrow_member i within = same_at (λ k. is_wide (big_member_meant k)) (λ k. false) 250 refl i within

narrow_place : (i place : ℕ) → i < 250
    → is_wide_found (slice_get (big_member_meant i ∷ []) place) ≡ false
narrow_place i zero within = narrow_member i within
narrow_place i (suc place) within = refl

narrow : (n : ℕ) → n ≤ 250 → (k place : ℕ) → is_wide_at (ifaces n) k place ≡ false
narrow n few k place = go (slice_get (ifaces n) k) refl
  where
    go : (o : Option ScopeIface) → slice_get (ifaces n) k ≡ o
        → is_wide_found (option_and_then (λ (i : ScopeIface). slice_get i.members place) o) ≡ false
    go None is = refl
    go (Some i) is =
        let found = listed_found scope_iface n 0 k i is in
        let same : 0 + k ≡ k = omega arith in
        subst (λ (x : ScopeIface). is_wide_found (slice_get x.members place) ≡ false)
        (sym (found.1 ∙ ap scope_iface same)) (narrow_place k place (omega (arith, few, found.0)))

-- ---- slots

not_zero : (k : ℕ) → (suc k == 0) ≡ false
not_zero k = go (suc k == 0) refl
  where
    go : (b : Bool) → (suc k == 0) ≡ b → b ≡ false
    go true is = let zero : suc k ≡ 0 = eqb-true (suc k) 0 is in absurd (omega (arith, zero))
    go false is = refl

-- a parent comes before its child
no_late_parent : (n k : ℕ)
    → (parent_of (ifaces n) k ≡ None) ⊎ ((p : ℕ) × (parent_of (ifaces n) k ≡ Some p) × (p < k))
no_late_parent n k = go (slice_get (ifaces n) k) refl
  where
    at : (k : ℕ) → ((scope_iface k).parent ≡ None) ⊎ ((p : ℕ) × ((scope_iface k).parent ≡ Some p) × (p < k))
    at zero = inl refl
    at (suc k) = let less : suc k - 1 < suc k = omega arith in inr (suc k - 1, rw (not_zero k) refl, less)

    go : (o : Option ScopeIface) → slice_get (ifaces n) k ≡ o
        → (option_and_then (λ (i : ScopeIface). i.parent) o ≡ None) ⊎ ((p : ℕ) × (option_and_then (λ (i : ScopeIface). i.parent) o ≡ Some p) × (p < k))
    go None is = inl refl
    go (Some i) is =
        let found = listed_found scope_iface n 0 k i is in
        let same : 0 + k ≡ k = omega arith in
        subst (λ (x : ScopeIface). (x.parent ≡ None) ⊎ ((p : ℕ) × (x.parent ≡ Some p) × (p < k)))
        (sym (found.1 ∙ ap scope_iface same)) (at k)

few_own : (n k : ℕ) → length (own_of (ifaces n) k) ≤ 1
few_own n k = go (slice_get (ifaces n) k) refl
  where
    go : (o : Option ScopeIface) → slice_get (ifaces n) k ≡ o → length (own_in o) ≤ 1
    go None is = omega arith
    go (Some i) is =
        let found = listed_found scope_iface n 0 k i is in
        subst (λ (x : ScopeIface). length (own_in (Some x)) ≤ 1) (sym found.1) (omega arith)

chain_short : (n m k : ℕ) → length (chain_within (ifaces n) m k) ≤ k + 1
unfolding chain_within
chain_short n zero k = omega arith
chain_short n (suc m) k = go (parent_of (ifaces n) k) (no_late_parent n k) (chain_short n m)
  where
    go : (o : Option ℕ) → (o ≡ None) ⊎ ((p : ℕ) × (o ≡ Some p) × (p < k))
        → ((p : ℕ) → length (chain_within (ifaces n) m p) ≤ p + 1)
        → length (k ∷ above (chain_within (ifaces n) m) o) ≤ k + 1
    go o (inl is) short = rw is (omega arith)
    go o (inr h) short = rw h.1 (omega (arith, short h.0, h.2))

slots_short : (n m k : ℕ) → length (slots_within (ifaces n) m k) ≤ k + 1
unfolding slots_within
slots_short n zero k = omega arith
slots_short n (suc m) k = go (parent_of (ifaces n) k) (no_late_parent n k) (slots_short n m)
  where
    go : (o : Option ℕ) → (o ≡ None) ⊎ ((p : ℕ) × (o ≡ Some p) × (p < k))
        → ((p : ℕ) → length (slots_within (ifaces n) m p) ≤ p + 1)
        → length (above (slots_within (ifaces n) m) o ++ own_of (ifaces n) k) ≤ k + 1
    go o (inl is) short = rw is (omega (arith, few_own n k))
    go o (inr h) short =
        rw h.1 (omega (
          arith,
          length-append (slots_within (ifaces n) m h.0) (own_of (ifaces n) k),
          short h.0,
          h.2,
          few_own n k,
        ))

few_slots : (n : ℕ) → n ≤ 250 → (k : ℕ) → k < n → has_too_many (ifaces n) k ≡ false
few_slots n few k within =
    rw (le-ltb 250 (length (chain_within (ifaces n) 251 k)) (omega (arith, chain_short n 251 k, few, within)))
    (le-ltb 250 (length (slots_within (ifaces n) 251 k)) (omega (arith, slots_short n 251 k, few, within)))

-- ---- the library

-- the interface is one of the first
abbrev IsOurs : ScopeIface → Type 0
IsOurs x = (k : ℕ) × (k < 250) × (x ≡ scope_iface k)

ours : (n : ℕ) → n ≤ 250 → AllByRecursion IsOurs (in_order (ifaces n))
ours n few =
    each_found IsOurs (ifaces n) (directory_of (ifaces n))
    (λ k i is.
    let found = listed_found scope_iface n 0 k i is in
    (0 + k, omega (arith, found.0, few), found.1))

few_items : (d : List ℕ) (k : ℕ) → k < 250 → iface_items (iface_of d (scope_iface k)) ≤ 400
unfolding digits by_index
few_items d k within =
    leb-true (iface_items (iface_of d (scope_iface k))) 400
    (same_at (λ i. nat_le (iface_items (iface_of d (scope_iface i))) 400) (λ i. true) 250 refl k within)

no_constants : (d : List ℕ) (k : ℕ) → has_many_constants (iface_of d (scope_iface k)) ≡ false
no_constants d k = refl

small : (d : List ℕ) (k : ℕ) → k < 250 → part_size (iface_of d (scope_iface k)) ≤ 400
unfolding digits by_index part_size part_text e.name_text e.member_names e.descriptor_text e.two_bytes e.four_bytes e.method_text e.constant_text e.param_text e.type_text e.elem_text
small d k within =
    leb-true (part_size (iface_of d (scope_iface k))) 400
    (same_at (λ i. nat_le (part_size (iface_of d (scope_iface i))) 400) (λ i. true) 250 refl k within)

summed : (f : Iface → ℕ) (d : List ℕ) → ((k : ℕ) → k < 250 → f (iface_of d (scope_iface k)) ≤ 400)
    → (xs : List ScopeIface) → AllByRecursion IsOurs xs
    → sum_by f (map (iface_of d) xs) ≤ 400 * length xs
summed f d each [] all = omega arith
summed f d each (x ∷ xs) all =
    let here : f (iface_of d x) ≤ 400 =
    subst (λ y. f (iface_of d y) ≤ 400) (sym all.0.2) (each all.0.0 all.0.1) in
    omega (
      arith,
      sum_by-cons f (iface_of d x) (map (iface_of d) xs),
      here,
      summed f d each xs all.1,
    )

none_many : (d : List ℕ) (xs : List ScopeIface) → AllByRecursion IsOurs xs
    → list_any has_many_constants (map (iface_of d) xs) ≡ false
none_many d [] all = refl
none_many d (x ∷ xs) all =
    let here : has_many_constants (iface_of d x) ≡ false =
    subst (λ y. has_many_constants (iface_of d y) ≡ false) (sym all.0.2) (no_constants d all.0.0) in
    rw here (none_many d xs all.1)

in_order_long : (last : ℕ) → last ≤ 249 → length (in_order (ifaces (last + 1))) ≡ last + 1
in_order_long last few =
    let once = subst (λ xs. length (in_order xs) ≡ length xs) (scope_is last few)
    (length_in_order (scope_of (big_files last)).ifaces (accepted_scope last few).named_once) in
    once ∙ length_listed scope_iface (last + 1) 0

few_in_library : (last : ℕ) → last ≤ 249
    → has_too_many_items (library_of (scope_of (big_files last))) ≡ false
unfolding library_of
few_in_library last few =
    rw (scope_is last few)
    (let n = last + 1 in
    let d = directory_of (ifaces n) in
    let all = ours n (omega (arith, few)) in
    let sum = summed iface_items d (few_items d) (in_order (ifaces n)) all in
    rw (
      none_many d (in_order (ifaces n)) all,
      le-ltb 1000000 (sum_by iface_items (map (iface_of d) (in_order (ifaces n))))
          (omega (arith, sum, in_order_long last few, few)),
    ) refl)

pub roomy : (last : ℕ) → last ≤ 249 → KeepsLimits (scope_of (big_files last))
roomy last few =
    let is = scope_is last few in
    let n = last + 1 in
    let long = length_listed scope_iface n 0 in
    record {
      narrow = rw is (narrow n (omega (arith, few)));
      few = rw is (omega (arith, few, long));
      few_items = few_in_library last few;
      few_slots = rw is (λ k within. few_slots n (omega (arith, few)) k (omega (arith, within, long)));
    }

pool_short : (last : ℕ) → last ≤ 249
    → length (pool_text (library_of (scope_of (big_files last))).ifaces) ≤ 400 * (last + 1)
unfolding library_of pool_text
pool_short last few =
    rw (scope_is last few)
    (let n = last + 1 in
    let d = directory_of (ifaces n) in
    let sum = summed part_size d (small d) (in_order (ifaces n)) (ours n (omega (arith, few))) in
    omega (
      arith,
      sum,
      in_order_long last few,
      length-placed part_text part_size part_size length_part_text 1
          (map (iface_of d) (in_order (ifaces n))),
    ))

many_in_library : (last : ℕ) → last ≤ 249
    → length (library_of (scope_of (big_files last))).ifaces ≡ last + 1
unfolding library_of
many_in_library last few =
    rw (scope_is last few)
    (length-map (in_order (ifaces (last + 1))) (iface_of (directory_of (ifaces (last + 1))))
    ∙ in_order_long last few)

pub accepted : (last : ℕ) → last ≤ 249 → IsAccepted (big_files last)
accepted last few =
    let scope = scope_of (big_files last) in
    let valid = library_valid scope (accepted_scope last few) (roomy last few) in
    record {
      faultless = faultless last few;
      roomy = roomy last few;
      short = omega (
        arith,
        length_emit (library_of scope) valid,
        many_in_library last few,
        pool_short last few,
        few,
      );
    }
