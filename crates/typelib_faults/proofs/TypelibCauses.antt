-- The first fault of a typelib has its cause.
use Rattle.std.proofs.Common.{◌≡◌, ℕ, zero, suc, ◌+◌, ◌-◌, ◌*◌, ◌<◌, ◌≤◌, List, length, Bool, true, false, not, cond, Option, Some, None, arith, refl, sym, ap, ◌∙◌, subst, inl, inr, eqb, le-leb, ltb-true, sum_by}
use Rattle.std.specs.Prelude.{IsSome, if◌then◌else◌, nat_le, nat_lt, option_and_then, slice_get, ◌&&◌, ◌==◌}
use Rattle.std.proofs.lemmas.Bool.{and_from, eqb-false, not_from_false}
use Rattle.std.proofs.lemmas.Bool.Decides.{leb_tells}
use Rattle.lib_model.specs.declared.contents.Body.{Body}
use Rattle.lib_model.specs.declared.contents.Iface.{Iface}
use Rattle.lib_model.specs.Denotes.{half_at, place_of, word_at}
use Rattle.lib_model.specs.Valid.{chain_of, iface_items, own_slots}
use Rattle.typelib_faults.specs.declared.cursor.Cursor.{Cursor}
use Rattle.typelib_faults.specs.declared.faults.BadTypelib.{BadTypelib}
use Rattle.typelib_faults.specs.Causes as kinds
use Rattle.typelib_faults.specs.Causes.{FaultKind, IsFault, IsFaultAt, code_of}
use Rattle.typelib_faults.specs.Faults.{body_fault, chain_fault, constant_fault, constant_next, constants_cursor, constants_reach, descriptor_cursor, descriptor_fault, directory_cursor, entry_fault, entry_next, first_fault, has_descriptor, item_fault, method_fault, method_next, methods_cursor, methods_reach, name_fault, namespace_fault, parent_fault}
use Rattle.typelib_faults.specs.Laws.{FirstFault}
use Rattle.typelib_faults.specs.Places.{body_at, constant_end, count_of, descriptor_at, directory_of, entries_of, entry_at, entry_end, method_at, method_end}
use Rattle.typelib_faults.specs.Reached.{IsConstantAt, IsDescriptorAt, IsEntryAt, IsFieldAt, IsMethodAt, IsNamespaceAt}
use Rattle.typelib_faults.specs.Reached as reached
use Rattle.typelib_faults.specs.Walk.{faulty, reach, walk, ◌orelse◌}
use Rattle.typelib_faults.proofs.CauseFacts.{Blames, blames_both, blames_test, blames_then, blames_unless, blames_walk, fault_there}
use Rattle.typelib_faults.proofs.ChainLaws.{known_body}
use Rattle.typelib_faults.proofs.EntryLaws.{directory_fault, entry_items, reach_entry}
use Rattle.typelib_faults.proofs.HeaderCauses.{header_blames}
use Rattle.typelib_faults.proofs.IfaceLaws.{AreResolved, constants_place, methods_place, parent_fine}
use Rattle.typelib_faults.proofs.MemberCauses.{constant_blames, item_blames, method_blames, name_blames, past_blames}
use Rattle.typelib_faults.proofs.MemberLaws.{item_room, method_items, method_size}
use Rattle.typelib_faults.proofs.NameLaws.{namespace_reads}
use Rattle.typelib_faults.proofs.WalkFacts.{orelse_none, parts3, reach_place, values_past, walk_items}

-- ---- parents

some_there : (body : Body) (b : Bool) → IsSome (cond b None (Some body)) → b ≡ false
some_there body true some = absurd (cc)
some_there body false some = refl

word_there : (x : List ℕ) (p : ℕ) → IsSome (body_at x p) → eqb (word_at x p) 0 ≡ false
unfolding body_at
word_there x p some = some_there (descriptor_at x (place_of x (word_at x p))) (eqb (word_at x p) 0) some

entries_resolved : (x : List ℕ) → AreResolved x (entries_of x)
entries_resolved x zero some = absurd (cc)
entries_resolved x (suc k) some =
    let place : ℕ = directory_of x + 28 * (suc k - 1) + 24
    in let same : directory_of x + 28 * k + 24 ≡ place = omega arith
    in elim (leb_tells (suc k) (count_of x)) as (λ _. has_descriptor x (suc k) ≡ true) [
      | inl low ↦ let there : IsSome (body_at x (directory_of x + 28 * k + 24)) = subst (λ (o : Option Body). IsSome o) (known_body x k (omega (arith, low.1))) some
          in and_from (nat_le (suc k) (count_of x)) (not (eqb (word_at x place) 0)) (le-leb (suc k) (count_of x) low.1) (not_from_false (eqb (word_at x place) 0) (word_there x place (subst (λ (p : ℕ). IsSome (body_at x p)) same there)))
      | inr high ↦ let past : slice_get (entries_of x) k ≡ None = values_past (entry_at x) entry_end (directory_of x) (count_of x) k (omega (arith, high.1))
          in absurd (none_there (slice_get (entries_of x) k) past some)
    ]
  where
    none_there : (o : Option Iface) → o ≡ None → IsSome (option_and_then (λ (i : Iface). i.body) o) → ⊥
    none_there None e some = absurd (cc)
    none_there (Some i) e some = absurd (cc)

parent_blames : (x : List ℕ) (c : Cursor) → IsDescriptorAt x c → Blames x (parent_fault x c.place)
unfolding parent_fault
parent_blames x c is =
    let wrong : Bool = not (eqb (half_at x c.place) 0) && not (has_descriptor x (half_at x c.place))
    in blames_test x wrong 9 c.place (λ e. record {
      kind = kinds.Number;
      code = refl;
      cause = inr (record { descriptor = c; is = is; place = refl; lacks = λ lawful. fault_there wrong 9 c.place e (parent_fine x (entries_of x) c.place (half_at x c.place) (entries_resolved x) refl lawful) });
    })

-- ---- descriptors

constant_items : (x : List ℕ) (c : Cursor) (n : ℕ) → (reach (constant_next x) c n).items ≡ c.items + n
constant_items x c zero = omega arith
constant_items x c (suc n) = omega (arith, constant_items x (constant_next x c) n)

methods_counted : (x : List ℕ) (c : Cursor) (n : ℕ) → c.items ≤ 1000000 → walk (method_fault x) (method_next x) (methods_cursor c) n ≡ None → (reach (method_next x) (methods_cursor c) n).items ≡ c.items + sum_by method_size (reached.first_methods x c.place n)
methods_counted x c n few fine =
    (walk_items 1000000 (method_fault x) (method_next x) (method_at x) (method_end x) method_size (λ s. refl) (λ s f. method_items x s f) (methods_cursor c) n fine few).0

constant_there : (x : List ℕ) (c : Cursor) (i : ℕ) → IsDescriptorAt x c → c.items ≤ 1000000 → walk (method_fault x) (method_next x) (methods_cursor c) (half_at x (c.place + 2)) ≡ None → i < half_at x (methods_reach x c).place → IsConstantAt x (reach (constant_next x) (constants_cursor (methods_reach x c)) i)
constant_there x c i is few fine low =
    let M : Cursor = methods_reach x c
    in record {
      descriptor = c;
      descriptor_is = is;
      before = i;
      below = subst (λ (p : ℕ). i < half_at x p) (methods_place x c) low;
      place = reach_place (constant_next x) (constant_end x) (λ s. refl) (constants_cursor M) i ∙ ap (λ (p : ℕ). reach (constant_end x) (p + 2) i) (methods_place x c);
      items = omega (arith, constant_items x (constants_cursor M) i, methods_counted x c (half_at x (c.place + 2)) few fine);
    }

descriptor_blames : (x : List ℕ) (c : Cursor) → IsDescriptorAt x c → c.items ≤ 1000000 → Blames x (descriptor_fault x c)
unfolding descriptor_fault
descriptor_blames x c is few =
    let M : Cursor = methods_reach x c
    in let methods : Blames x (walk (method_fault x) (method_next x) (methods_cursor c) (half_at x (c.place + 2))) =
    blames_walk x (method_fault x) (method_next x) (methods_cursor c) (half_at x (c.place + 2)) (λ i low fine. method_blames x (reach (method_next x) (methods_cursor c) i) (record {
      descriptor = c;
      descriptor_is = is;
      before = i;
      below = low;
      place = reach_place (method_next x) (method_end x) (λ s. refl) (methods_cursor c) i;
      items = methods_counted x c i few fine;
    }))
    in let constants : walk (method_fault x) (method_next x) (methods_cursor c) (half_at x (c.place + 2)) ≡ None → Blames x (walk (constant_fault x) (constant_next x) (constants_cursor M) (half_at x M.place)) =
    λ fine. blames_walk x (constant_fault x) (constant_next x) (constants_cursor M) (half_at x M.place) (λ i low before. constant_blames x (reach (constant_next x) (constants_cursor M) i) (constant_there x c i is few fine low))
    in blames_both x _ _ (blames_then x _ _ (blames_both x _ _ (blames_both x _ _ (blames_both x _ _ (blames_both x _ _
    (past_blames x c.place 2 (reached.parent_field is))
    (parent_blames x c is))
    (past_blames x (c.place + 2) 2 (reached.method_count_field is)))
    methods)
    (past_blames x M.place 2 (subst (λ (p : ℕ). IsFieldAt x p 2) (sym (methods_place x c)) (reached.constant_count_field is))))
    (λ e. constants (orelse_none _ _ (orelse_none _ _ e).0).1))
    (past_blames x (constants_reach x c).place 1 (subst (λ (p : ℕ). IsFieldAt x p 1) (sym (constants_place x c)) (reached.iface_flags_field is)))

-- ---- entries

namespace_blames : (x : List ℕ) (p : ℕ) → IsNamespaceAt x p → Blames x (namespace_fault x p)
unfolding namespace_fault
namespace_blames x p is = blames_test x _ 8 p (λ e. record {
  kind = kinds.Name;
  code = refl;
  cause = inr (record { is = is; lacks = λ name stands lawful. fault_there _ 8 p e (namespace_reads x p name stands lawful).1 });
})

entry_blames : (x : List ℕ) (c : Cursor) → IsEntryAt x c → Blames x (entry_fault x c)
unfolding entry_fault body_fault
entry_blames x c is =
    blames_then x (item_fault c orelse name_fault x (c.place + 16) orelse namespace_fault x (c.place + 20)) (body_fault x c)
    (blames_both x _ _ (blames_both x _ _
    (item_blames x c (reached.entry_item is))
    (name_blames x (c.place + 16) (reached.name_of_entry is)))
    (namespace_blames x (c.place + 20) (reached.namespace_of_entry is)))
    (λ e. blames_unless x (eqb (word_at x (c.place + 24)) 0) (descriptor_fault x (descriptor_cursor x c)) (λ some.
    descriptor_blames x (descriptor_cursor x c)
    (record { entry = c; entry_is = is; present = eqb-false (word_at x (c.place + 24)) 0 some; place = refl; items = refl })
    (item_room c (parts3 (item_fault c) (name_fault x (c.place + 16)) (namespace_fault x (c.place + 20)) e).0)))

directory_blames : (x : List ℕ) → Blames x (directory_fault x)
directory_blames x =
    blames_walk x (entry_fault x) (entry_next x) (directory_cursor x) (count_of x) (λ i low fine. entry_blames x (reach (entry_next x) (directory_cursor x) i) (record {
      before = i;
      below = low;
      place = reach_place (entry_next x) entry_end (λ s. refl) (directory_cursor x) i ∙ reach_entry (directory_of x) i;
      items = omega (arith, (walk_items 1000000 (entry_fault x) (entry_next x) (entry_at x) entry_end iface_items (λ s. refl) (λ s f. entry_items x s f) (directory_cursor x) i fine (omega arith)).0);
    }))

-- ---- chains of parents

chain_blames : (x : List ℕ) (number : ℕ) → 0 < number → number ≤ count_of x → Blames x (chain_fault x (entries_of x) number)
unfolding chain_fault
chain_blames x number above below =
    let place : ℕ = directory_of x + 28 * (number - 1)
    in let long : Bool = nat_lt 250 (length (chain_of (entries_of x) number))
    in let many : Bool = nat_lt 250 (sum_by (own_slots (entries_of x)) (chain_of (entries_of x) number))
    in blames_both x (faulty long 10 place) (faulty many 14 place)
    (blames_test x long 10 place (λ e. record { kind = kinds.Chain; code = refl; cause = record { number = number; is = (above, below); place = refl; long = ltb-true 250 (length (chain_of (entries_of x) number)) e } }))
    (blames_test x many 14 place (λ e. record { kind = kinds.Slots; code = refl; cause = record { number = number; is = (above, below); place = refl; many = ltb-true 250 (sum_by (own_slots (entries_of x)) (chain_of (entries_of x) number)) e } }))

reach_number : (k n : ℕ) → reach (λ (j : ℕ). j + 1) k n ≡ k + n
reach_number k zero = omega arith
reach_number k (suc n) = omega (arith, reach_number (k + 1) n)

chains_blame : (x : List ℕ) → Blames x (walk (chain_fault x (entries_of x)) (λ (k : ℕ). k + 1) 1 (count_of x))
chains_blame x =
    blames_walk x (chain_fault x (entries_of x)) (λ (k : ℕ). k + 1) 1 (count_of x) (λ i low fine. chain_blames x (reach (λ (k : ℕ). k + 1) 1 i) (omega (arith, reach_number 1 i)) (omega (arith, low, reach_number 1 i)))

-- ---- files

file_blames : (x : List ℕ) → Blames x (first_fault x)
unfolding first_fault
file_blames x = blames_both x _ _ (blames_both x _ _ (header_blames x) (directory_blames x)) (chains_blame x)

pub first_fault_is : (x : List ℕ) (fault : BadTypelib) → FirstFault x fault → IsFault x fault
first_fault_is x fault first = subst (λ (o : Option BadTypelib). Blames x o) first (file_blames x)

-- ---- the kind is known by the code

kind_of : ℕ → FaultKind
kind_of code =
    if code == 1 then kinds.Short
    else (if code == 2 then kinds.Magic
    else (if code == 3 then kinds.Version
    else (if code == 4 then kinds.Length
    else (if code == 5 then kinds.Annotation
    else (if code == 6 then kinds.Directory
    else (if code == 7 then kinds.Pool
    else (if code == 8 then kinds.Name
    else (if code == 9 then kinds.Number
    else (if code == 10 then kinds.Chain
    else (if code == 11 then kinds.Tag
    else (if code == 12 then kinds.Argument
    else (if code == 13 then kinds.Items
    else (if code == 14 then kinds.Slots else kinds.Field)))))))))))))

kind_known : (kind : FaultKind) → kind_of (code_of kind) ≡ kind
unfolding kind_of
kind_known kinds.Short = refl
kind_known kinds.Magic = refl
kind_known kinds.Version = refl
kind_known kinds.Length = refl
kind_known kinds.Annotation = refl
kind_known kinds.Directory = refl
kind_known kinds.Pool = refl
kind_known kinds.Name = refl
kind_known kinds.Number = refl
kind_known kinds.Chain = refl
kind_known kinds.Tag = refl
kind_known kinds.Argument = refl
kind_known kinds.Items = refl
kind_known kinds.Slots = refl
kind_known kinds.Field = refl

pub first_fault_at : (x : List ℕ) (kind : FaultKind) (place : ℕ) → FirstFault x (record { code = code_of kind; at = place }) → IsFaultAt x kind place
first_fault_at x kind place first =
    let is : IsFault x (record { code = code_of kind; at = place }) = first_fault_is x (record { code = code_of kind; at = place }) first
    in let same : is.kind ≡ kind = sym (kind_known is.kind) ∙ (ap kind_of (sym is.code) ∙ kind_known kind)
    in subst (λ (k : FaultKind). IsFaultAt x k place) same is.cause
