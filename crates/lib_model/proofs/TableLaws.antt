-- The table of a library, told by the library: its slots are the methods' own, and what is looked for
-- in it is looked for there.
use Rattle.std.proofs.Common.{◌≡◌, ℕ, zero, suc, ◌+◌, List, [], ◌∷◌, length, Option, Some, None, Bool, cond, not, refl, sym, ap, ◌∙◌, option_and_then, true, false, ◌≤◌, ltb-true, ltb-false, arith}
use Rattle.std.specs.Prelude.{map, option_map, slice_get, is_some, ◌&&◌, nat_lt}
use Rattle.std.specs.List.{position, position_or_len}
use Rattle.std.specs.Str.{bytes_eq}
use Rattle.std.proofs.lemmas.List.{length-map, map-append}
use Rattle.std.proofs.lemmas.Option.{slice_get-map, slice_get_past}
use Rattle.call_model.specs.declared.prototypes.MemberKind.{MemberKind}
use Rattle.call_model.specs.declared.tables.TableIface.{TableIface}
use Rattle.call_model.specs.Tables.{behind_or, iface_at, iface_named, iface_with_iid, is_member, member_within, slots_of, slots_within, HasShortLineage, lineage_of, lineage_within}
use Rattle.call_model.specs.Tables as tables
use Rattle.lib_model.specs.declared.contents.Library.{Library}
use Rattle.lib_model.specs.declared.contents.Iface.{Iface}
use Rattle.lib_model.specs.declared.contents.Method.{Method}
use Rattle.lib_model.specs.Table.{methods_in, methods_of, methods_within, slot_of, table_iface, table_of}
use Rattle.lib_model.specs.Valid.{body_of, parent_in, parent_of, IsValid, chain_of, first_of_chain}

first_in_images : {A B : Type 0} (f : A → B) (p : B → Bool) (xs : List A)
    → position_or_len p (map f xs) ≡ position_or_len (λ (x : A). p (f x)) xs
first_in_images f p [] = refl
first_in_images f p (x ∷ xs) =
    ap (λ (n : ℕ). cond (not (p (f x))) (1 + n) 0) (first_in_images f p xs)

position_map : {A B : Type 0} (f : A → B) (p : B → Bool) (xs : List A)
    → position p (map f xs) ≡ position (λ (x : A). p (f x)) xs
position_map f p xs = rw (first_in_images f p xs, length-map xs f) refl

-- ---- one interface

parent_told : (o : Option Iface)
    → tables.parent_in (option_map table_iface o) ≡ parent_in
    (option_and_then (λ (i : Iface). i.body) o)
parent_told None = refl
parent_told (Some i) = refl

slots_told : (o : Option Iface)
    → tables.slots_in (option_map table_iface o) ≡ map slot_of
    (methods_in (option_and_then (λ (i : Iface). i.body) o))
slots_told None = refl
slots_told (Some i) = refl

pub parent_in_table : (ifaces : List Iface) (k : ℕ)
    → tables.parent_in (iface_at (map table_iface ifaces) k) ≡ parent_of ifaces k
parent_in_table ifaces zero = refl
parent_in_table ifaces (suc k) = ap tables.parent_in (slice_get-map table_iface ifaces k)
    ∙ parent_told (slice_get ifaces k)

slots_in_table : (ifaces : List Iface) (k : ℕ)
    → tables.slots_in (iface_at (map table_iface ifaces) k) ≡ map slot_of
    (methods_in (body_of ifaces k))
slots_in_table ifaces zero = refl
slots_in_table ifaces (suc k) = ap tables.slots_in (slice_get-map table_iface ifaces k)
    ∙ slots_told (slice_get ifaces k)

-- ---- a chain of them

slots_within_table : (ifaces : List Iface) (n k : ℕ)
    → slots_within (map table_iface ifaces) n k ≡ map slot_of (methods_within ifaces n k)
unfolding slots_within methods_within
slots_within_table ifaces zero k = refl
slots_within_table ifaces (suc n) k =
    let before : List Method = methods_within ifaces n (parent_of ifaces k)
    in let rest : slots_within (map table_iface ifaces) n (parent_of ifaces k) ≡ map slot_of before =
    slots_within_table ifaces n (parent_of ifaces k)
    in rw (parent_in_table ifaces k, slots_in_table ifaces k, rest)
    (sym (map-append slot_of before (methods_in (body_of ifaces k))))

pub slots_of_table : (lib : Library) (k : ℕ)
    → slots_of (table_of lib) k ≡ map slot_of (methods_of lib k)
unfolding table_of
slots_of_table lib k = slots_within_table lib.ifaces 250 k

-- the lineage of an interface is its chain of parents
lineage_within_table : (ifaces : List Iface) (n k : ℕ)
    → lineage_within (map table_iface ifaces) n k ≡ first_of_chain ifaces n k
unfolding lineage_within first_of_chain
lineage_within_table ifaces zero k = refl
lineage_within_table ifaces (suc n) zero = refl
lineage_within_table ifaces (suc n) (suc k) =
    ap (λ (j : ℕ). suc k ∷ lineage_within (map table_iface ifaces) n j)
    (parent_in_table ifaces (suc k))
    ∙ ap (λ (js : List ℕ). suc k ∷ js) (lineage_within_table ifaces n (parent_of ifaces (suc k)))

pub lineage_of_table : (lib : Library) (k : ℕ) → lineage_of (table_of lib) k ≡ chain_of lib.ifaces k
unfolding table_of
lineage_of_table lib k = lineage_within_table lib.ifaces 251 k

-- of a number past the interfaces the chain is that number, and of 0 there is none
chain_past : (ifaces : List Iface) (n k : ℕ) → length ifaces ≤ k
    → length (first_of_chain ifaces (suc (suc n)) (suc k)) ≤ 1
unfolding first_of_chain
chain_past ifaces n k past = rw (slice_get_past ifaces k past) (omega arith)

chain_short : (lib : Library) (k : ℕ) → IsValid lib → (within : Bool)
    → nat_lt k (length lib.ifaces) ≡ within → length (chain_of lib.ifaces (suc k)) ≤ 250
chain_short lib k valid true is =
    (valid.chains (suc k) (omega arith) (omega (arith, ltb-true k (length lib.ifaces) is))).short
chain_short lib k valid false is =
    omega (arith, chain_past lib.ifaces 249 k (ltb-false k (length lib.ifaces) is))

pub short_lineage : (lib : Library) → IsValid lib → (number : ℕ)
    → HasShortLineage (table_of lib) number
unfolding first_of_chain
short_lineage lib valid zero = rw (lineage_of_table lib 0) (omega arith)
short_lineage lib valid (suc k) =
    rw (lineage_of_table lib (suc k)) (chain_short lib k valid (nat_lt k (length lib.ifaces)) refl)

-- one step of the search for a member
pub member_step : (kind : MemberKind) (name : List ℕ) (ifaces : List Iface) (n k : ℕ)
    → member_within kind name (map table_iface ifaces) (suc n) k
    ≡ behind_or (length (methods_within ifaces n (parent_of ifaces k)))
    (position (λ (m : Method). is_member kind name (slot_of m)) (methods_in (body_of ifaces k)))
    (member_within kind name (map table_iface ifaces) n (parent_of ifaces k))
unfolding member_within
member_step kind name ifaces n k =
    let parents : List Method = methods_within ifaces n (parent_of ifaces k)
    in let own : List Method = methods_in (body_of ifaces k)
    in let before : length (slots_within (map table_iface ifaces) n (parent_of ifaces k))
    ≡ length parents =
    ap length (slots_within_table ifaces n (parent_of ifaces k)) ∙ length-map parents slot_of
    in rw (
      parent_in_table ifaces k,
      slots_in_table ifaces k,
      before,
      position_map slot_of (is_member kind name) own,
    )
    refl

-- ---- names and identifiers

pub iface_named_table : (lib : Library) (name : List ℕ)
    → iface_named (table_of lib) name ≡ option_map (λ k. k + 1)
    (position (λ (i : Iface). is_some i.body && bytes_eq i.name name) lib.ifaces)
unfolding table_of
iface_named_table lib name =
    ap (λ (o : Option ℕ). option_map (λ k. k + 1) o)
    (position_map table_iface (λ (i : TableIface). i.resolved && bytes_eq i.name name) lib.ifaces)

pub iface_with_iid_table : (lib : Library) (iid : List ℕ)
    → iface_with_iid (table_of lib) iid ≡ option_map (λ k. k + 1)
    (position (λ (i : Iface). is_some i.body && bytes_eq i.iid iid) lib.ifaces)
unfolding table_of
iface_with_iid_table lib iid =
    ap (λ (o : Option ℕ). option_map (λ k. k + 1) o)
    (position_map table_iface (λ (i : TableIface). i.resolved && bytes_eq i.iid iid) lib.ifaces)
