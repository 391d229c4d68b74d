-- Descriptors and entries of the directory: both laws.
use Rattle.std.proofs.Common.{◌≡◌, ◌≢◌, ℕ, ◌+◌, ◌≤◌, List, length, Option, None, true, false, not, arith, refl, sym, ap, ◌∙◌, subst, inl, inr, eqb, eqb-true, eq-eqb, sum_by}
use Rattle.std.specs.Int.RustNames.{bit_and}
use Rattle.std.specs.Prelude.{All, IsSome, ◌&&◌}
use Rattle.std.proofs.lemmas.Bool.{and_cases, and_right, not-false, not_from_true}
use Rattle.std.proofs.lemmas.Bool.Decides.{eqb_tells}
use Rattle.lib_model.specs.declared.contents.Iface.{Iface}
use Rattle.lib_model.specs.declared.contents.Body.{Body}
use Rattle.lib_model.specs.declared.contents.Constant.{Constant}
use Rattle.lib_model.specs.Denotes.{ConstantStands, DescriptorStands, ListStands, MethodStands, byte_at, half_at}
use Rattle.lib_model.specs.Valid.{IsBody, IsConstant, IsMethod, IsParent, body_items, body_of, iface_bits}
use Rattle.typelib_faults.specs.declared.cursor.Cursor.{Cursor}
use Rattle.typelib_faults.specs.declared.faults.BadTypelib.{BadTypelib}
use Rattle.typelib_faults.specs.Bytes.{AreBytes}
use Rattle.typelib_faults.specs.Faults.{constant_fault, constant_next, constants_cursor, constants_reach, descriptor_fault, has_descriptor, method_fault, method_next, methods_cursor, methods_reach, parent_fault, past}
use Rattle.typelib_faults.specs.Places.{constant_at, constant_end, constants_end, count_of, descriptor_at, method_at, method_end, methods_end}
use Rattle.typelib_faults.specs.Walk.{reach, values, walk}
use Rattle.typelib_faults.proofs.ConstantLaws.{constant_fine, constant_reads, constant_room, constant_sound}
use Rattle.typelib_faults.proofs.MemberLaws.{method_fine, method_items, method_reads, method_size, method_sound}
use Rattle.typelib_faults.proofs.NameLaws.{flags_known, half_small}
use Rattle.typelib_faults.proofs.TypeLaws.{inside_past, past_inside}
use Rattle.typelib_faults.proofs.WalkFacts.{faulty_none, fine_faulty, length_values, list_reads, list_walk, parts7, reach_place, sum_ones, walk_all, walk_items, walk_stands}

-- ---- parents

-- an entry with a descriptor is that of a resolved interface, and the other way round
abbrev pub Resolves : List ℕ → List Iface → Type 0
Resolves x ifaces = (number : ℕ) → number ≢ 0 → has_descriptor x number ≡ true → IsSome (body_of ifaces number)

abbrev pub AreResolved : List ℕ → List Iface → Type 0
AreResolved x ifaces = (number : ℕ) → IsSome (body_of ifaces number) → has_descriptor x number ≡ true

parent_sound : (x : List ℕ) (ifaces : List Iface) (p : ℕ) → Resolves x ifaces → parent_fault x p ≡ None → IsParent ifaces (half_at x p)
unfolding parent_fault
parent_sound x ifaces p resolves e =
    let number : ℕ = half_at x p
    in elim (eqb_tells number 0) as (λ _. IsParent ifaces number) [
      | inl h ↦ inl h.1
      | inr h ↦ elim (and_cases (not (eqb number 0)) (not (has_descriptor x number)) (faulty_none (not (eqb number 0) && not (has_descriptor x number)) 9 p e)) as (λ _. IsParent ifaces number) [
        | inl none ↦ absurd (h.1 (eqb-true number 0 (not-false (eqb number 0) none)))
        | inr has ↦ inr (resolves number h.1 (not-false (has_descriptor x number) has))
      ]
    ]

pub parent_fine : (x : List ℕ) (ifaces : List Iface) (p number : ℕ) → AreResolved x ifaces → half_at x p ≡ number → IsParent ifaces number → parent_fault x p ≡ None
unfolding parent_fault
parent_fine x ifaces p number resolved is (inl none) =
    let zero_here : eqb (half_at x p) 0 ≡ true = eq-eqb (half_at x p) 0 (is ∙ none)
    in fine_faulty (not (eqb (half_at x p) 0) && not (has_descriptor x (half_at x p))) 9 p (rw zero_here refl)
parent_fine x ifaces p number resolved is (inr some) =
    let has : not (has_descriptor x (half_at x p)) ≡ false = not_from_true (has_descriptor x (half_at x p)) (ap (has_descriptor x) is ∙ resolved number some)
    in fine_faulty (not (eqb (half_at x p) 0) && not (has_descriptor x (half_at x p))) 9 p (and_right (not (eqb (half_at x p) 0)) (not (has_descriptor x (half_at x p))) has)

-- ---- places

pub methods_place : (x : List ℕ) (c : Cursor) → (methods_reach x c).place ≡ methods_end x c.place
methods_place x c =
    reach_place (method_next x) (method_end x) (λ s. refl) (methods_cursor c) (half_at x (c.place + 2))

pub constants_place : (x : List ℕ) (c : Cursor) → (constants_reach x c).place ≡ constants_end x c.place
constants_place x c =
    reach_place (constant_next x) (constant_end x) (λ s. refl) (constants_cursor (methods_reach x c)) (half_at x (methods_reach x c).place)
    ∙ ap (λ (e : ℕ). reach (constant_end x) (e + 2) (half_at x e)) (methods_place x c)

-- ---- descriptors, read

abbrev methods_fault : List ℕ → Cursor → Option BadTypelib
methods_fault x c = walk (method_fault x) (method_next x) (methods_cursor c) (half_at x (c.place + 2))

abbrev constants_fault : List ℕ → Cursor → Option BadTypelib
constants_fault x c =
    walk (constant_fault x) (constant_next x) (constants_cursor (methods_reach x c)) (half_at x (methods_reach x c).place)

abbrev constants_from : List ℕ → ℕ → List Constant
constants_from x e = values (constant_at x) (constant_end x) (e + 2) (half_at x e)

constants_stand : (x : List ℕ) (c : Cursor) → AreBytes x → constants_fault x c ≡ None → ListStands (ConstantStands x) (methods_end x c.place + 2) (constants_from x (methods_end x c.place)) (constants_end x c.place)
constants_stand x c bytes e =
    let Q : ℕ → Type 0 = λ s. ListStands (ConstantStands x) (s + 2) (constants_from x s) (reach (constant_end x) (s + 2) (half_at x s))
    in subst Q (methods_place x c)
    (walk_stands (constant_fault x) (constant_next x) (constant_at x) (constant_end x) (ConstantStands x) (λ s. refl) (λ s f. (constant_sound x s bytes f).0) (constants_cursor (methods_reach x c)) (half_at x (methods_reach x c).place) e)

constants_valid : (x : List ℕ) (c : Cursor) → AreBytes x → constants_fault x c ≡ None → All IsConstant (constants_from x (methods_end x c.place))
constants_valid x c bytes e =
    subst (λ (s : ℕ). All IsConstant (constants_from x s)) (methods_place x c)
    (walk_all (λ (s : Cursor). s.place) (constant_fault x) (constant_next x) (constant_at x) (constant_end x) IsConstant (λ s. refl) (λ s f. (constant_sound x s bytes f).1) (constants_cursor (methods_reach x c)) (half_at x (methods_reach x c).place) e)

pub descriptor_sound : (x : List ℕ) (ifaces : List Iface) (c : Cursor) → AreBytes x → length ifaces ≡ count_of x → Resolves x ifaces → descriptor_fault x c ≡ None → DescriptorStands x c.place (descriptor_at x c.place) × IsBody ifaces (descriptor_at x c.place)
unfolding descriptor_fault descriptor_at
descriptor_sound x ifaces c bytes count resolves e =
    let m : (past x c.place 2 ≡ None) × (parent_fault x c.place ≡ None) × (past x (c.place + 2) 2 ≡ None) × (methods_fault x c ≡ None) × (past x (methods_reach x c).place 2 ≡ None) × (constants_fault x c ≡ None) × (past x (constants_reach x c).place 1 ≡ None) = parts7 (past x c.place 2) (parent_fault x c.place) (past x (c.place + 2) 2) (methods_fault x c) (past x (methods_reach x c).place 2) (constants_fault x c) (past x (constants_reach x c).place 1) e
    in let count_inside : methods_end x c.place + 2 ≤ length x = omega (arith, past_inside x (methods_reach x c).place 2 m.4, methods_place x c)
    in let flags_inside : constants_end x c.place + 1 ≤ length x = omega (arith, past_inside x (constants_reach x c).place 1 m.6, constants_place x c)
    in (
      record {
        parent = (past_inside x c.place 2 m.0, refl);
        method_count = (past_inside x (c.place + 2) 2 m.2, sym (length_values (method_at x) (method_end x) (c.place + 4) (half_at x (c.place + 2))));
        methods_end = methods_end x c.place;
        methods = walk_stands (method_fault x) (method_next x) (method_at x) (method_end x) (MethodStands x) (λ s. refl) (λ s f. (method_sound x s bytes f).0) (methods_cursor c) (half_at x (c.place + 2)) m.3;
        constant_count = (count_inside, sym (length_values (constant_at x) (constant_end x) (methods_end x c.place + 2) (half_at x (methods_end x c.place))));
        constants_end = constants_end x c.place;
        constants = constants_stand x c bytes m.5;
        flags = (flags_inside, refl);
      },
      record {
        parent = parent_sound x ifaces c.place resolves m.1;
        methods = subst (λ (n : ℕ). All (IsMethod n) (values (method_at x) (method_end x) (c.place + 4) (half_at x (c.place + 2)))) (sym count) (walk_all (λ (s : Cursor). s.place) (method_fault x) (method_next x) (method_at x) (method_end x) (IsMethod (count_of x)) (λ s. refl) (λ s f. (method_sound x s bytes f).1) (methods_cursor c) (half_at x (c.place + 2)) m.3);
        few_constants = omega (arith, length_values (constant_at x) (constant_end x) (methods_end x c.place + 2) (half_at x (methods_end x c.place)), half_small x (methods_end x c.place) bytes);
        constants = constants_valid x c bytes m.5;
        flags = flags_known iface_bits (byte_at x (constants_end x c.place)) (omega arith);
      },
    )

pub descriptor_items : (x : List ℕ) (c : Cursor) → c.items ≤ 1000000 → descriptor_fault x c ≡ None → ((constants_reach x c).items ≡ c.items + body_items (descriptor_at x c.place)) × ((constants_reach x c).items ≤ 1000000)
unfolding descriptor_fault descriptor_at
descriptor_items x c few e =
    let m : (past x c.place 2 ≡ None) × (parent_fault x c.place ≡ None) × (past x (c.place + 2) 2 ≡ None) × (methods_fault x c ≡ None) × (past x (methods_reach x c).place 2 ≡ None) × (constants_fault x c ≡ None) × (past x (constants_reach x c).place 1 ≡ None) = parts7 (past x c.place 2) (parent_fault x c.place) (past x (c.place + 2) 2) (methods_fault x c) (past x (methods_reach x c).place 2) (constants_fault x c) (past x (constants_reach x c).place 1) e
    in let first : ((methods_reach x c).items ≡ c.items + sum_by method_size (values (method_at x) (method_end x) (c.place + 4) (half_at x (c.place + 2)))) × ((methods_reach x c).items ≤ 1000000) =
    walk_items 1000000 (method_fault x) (method_next x) (method_at x) (method_end x) method_size (λ s. refl) (λ s f. method_items x s f) (methods_cursor c) (half_at x (c.place + 2)) m.3 few
    in let M : Cursor = methods_reach x c
    in let then : ((constants_reach x c).items ≡ M.items + sum_by (λ (v : Constant). 1) (constants_from x M.place)) × ((constants_reach x c).items ≤ 1000000) =
    walk_items 1000000 (constant_fault x) (constant_next x) (constant_at x) (constant_end x) (λ (v : Constant). 1) (λ s. refl) (λ s f. (refl, constant_room x s f)) (constants_cursor M) (half_at x M.place) m.5 first.1
    in let ones : sum_by (λ (v : Constant). 1) (constants_from x M.place) ≡ length (constants_from x M.place) = sum_ones (constants_from x M.place)
    in let same : length (constants_from x M.place) ≡ length (constants_from x (methods_end x c.place)) = ap (λ (s : ℕ). length (constants_from x s)) (methods_place x c)
    in (omega (arith, first.0, then.0, ones, same), then.1)

-- ---- descriptors that stand

methods_valid : (x : List ℕ) (ifaces : List Iface) (b : Body) → length ifaces ≡ count_of x → IsBody ifaces b → All (IsMethod (count_of x)) b.methods
methods_valid x ifaces b count valid = subst (λ (n : ℕ). All (IsMethod n) b.methods) count valid.methods

methods_read : (x : List ℕ) (ifaces : List Iface) (p : ℕ) (b : Body) (stands : DescriptorStands x p b) → length ifaces ≡ count_of x → IsBody ifaces b → (values (method_at x) (method_end x) (p + 4) (half_at x (p + 2)) ≡ b.methods) × (methods_end x p ≡ stands.methods_end)
methods_read x ifaces p b stands count valid =
    let Q : ℕ → Type 0 = λ n. (values (method_at x) (method_end x) (p + 4) n ≡ b.methods) × (reach (method_end x) (p + 4) n ≡ stands.methods_end)
    in subst Q (sym stands.method_count.1)
    (list_reads (method_at x) (method_end x) (MethodStands x) (IsMethod (count_of x)) (λ s v t h is. method_reads x s v t h is) (p + 4) b.methods stands.methods_end stands.methods (methods_valid x ifaces b count valid))

constants_read : (x : List ℕ) (ifaces : List Iface) (p : ℕ) (b : Body) (stands : DescriptorStands x p b) → length ifaces ≡ count_of x → IsBody ifaces b → (constants_from x (methods_end x p) ≡ b.constants) × (constants_end x p ≡ stands.constants_end)
constants_read x ifaces p b stands count valid =
    let Q : ℕ → ℕ → Type 0 = λ e n. (values (constant_at x) (constant_end x) (e + 2) n ≡ b.constants) × (reach (constant_end x) (e + 2) n ≡ stands.constants_end)
    in let here : Q stands.methods_end (half_at x stands.methods_end) =
    subst (λ (n : ℕ). Q stands.methods_end n) (sym stands.constant_count.1)
    (list_reads (constant_at x) (constant_end x) (ConstantStands x) IsConstant (λ s v t h is. constant_reads x s v t h is) (stands.methods_end + 2) b.constants stands.constants_end stands.constants valid.constants)
    in subst (λ (e : ℕ). Q e (half_at x e)) (sym (methods_read x ifaces p b stands count valid).1) here

pub descriptor_reads : (x : List ℕ) (ifaces : List Iface) (p : ℕ) (b : Body) → DescriptorStands x p b → length ifaces ≡ count_of x → IsBody ifaces b → descriptor_at x p ≡ b
unfolding descriptor_at
descriptor_reads x ifaces p b stands count valid =
    let methods : (values (method_at x) (method_end x) (p + 4) (half_at x (p + 2)) ≡ b.methods) × (methods_end x p ≡ stands.methods_end) = methods_read x ifaces p b stands count valid
    in let constants : (constants_from x (methods_end x p) ≡ b.constants) × (constants_end x p ≡ stands.constants_end) = constants_read x ifaces p b stands count valid
    in let flags : bit_and (byte_at x (constants_end x p)) iface_bits ≡ b.flags.bits = ap (λ (s : ℕ). bit_and (byte_at x s) iface_bits) constants.1 ∙ stands.flags.1
    in rw (stands.parent.1, methods.0, constants.0, flags) refl

pub descriptor_fine : (x : List ℕ) (ifaces : List Iface) (c : Cursor) (b : Body) → DescriptorStands x c.place b → length ifaces ≡ count_of x → AreResolved x ifaces → IsBody ifaces b → c.items + body_items b ≤ 1000000 → (descriptor_fault x c ≡ None) × ((constants_reach x c).items ≡ c.items + body_items b)
unfolding descriptor_fault
descriptor_fine x ifaces c b stands count resolved valid room =
    let p : ℕ = c.place
    in let M : Cursor = methods_reach x c
    in let methods : (values (method_at x) (method_end x) (p + 4) (half_at x (p + 2)) ≡ b.methods) × (methods_end x p ≡ stands.methods_end) = methods_read x ifaces p b stands count valid
    in let constants : (constants_from x (methods_end x p) ≡ b.constants) × (constants_end x p ≡ stands.constants_end) = constants_read x ifaces p b stands count valid
    in let walked : (methods_fault x c ≡ None) × (M.items ≡ c.items + sum_by method_size b.methods) =
    subst (λ (n : ℕ). (walk (method_fault x) (method_next x) (methods_cursor c) n ≡ None) × ((reach (method_next x) (methods_cursor c) n).items ≡ c.items + sum_by method_size b.methods)) (sym stands.method_count.1)
    (list_walk 1000000 (method_fault x) (method_next x) (method_end x) (MethodStands x) (IsMethod (count_of x)) method_size (λ s. refl)
    (λ s v t h is few. (method_fine x s v t h is few, (omega (arith, h.count.1), (method_reads x s.place v t h is).1)))
    (methods_cursor c) b.methods stands.methods_end stands.methods (methods_valid x ifaces b count valid) (omega (arith, room)))
    in let there : M.place ≡ stands.methods_end = methods_place x c ∙ methods.1
    in let ones : sum_by (λ (v : Constant). 1) b.constants ≡ length b.constants = sum_ones b.constants
    in let list : ListStands (ConstantStands x) (M.place + 2) b.constants stands.constants_end = subst (λ (s : ℕ). ListStands (ConstantStands x) (s + 2) b.constants stands.constants_end) (sym there) stands.constants
    in let long : half_at x M.place ≡ length b.constants = ap (half_at x) there ∙ stands.constant_count.1
    in let then : (constants_fault x c ≡ None) × ((constants_reach x c).items ≡ M.items + sum_by (λ (v : Constant). 1) b.constants) =
    subst (λ (n : ℕ). (walk (constant_fault x) (constant_next x) (constants_cursor M) n ≡ None) × ((reach (constant_next x) (constants_cursor M) n).items ≡ M.items + sum_by (λ (v : Constant). 1) b.constants)) (sym long)
    (list_walk 1000000 (constant_fault x) (constant_next x) (constant_end x) (ConstantStands x) IsConstant (λ (v : Constant). 1) (λ s. refl)
    (λ s v t h is few. (constant_fine x s v t h is few, (refl, (constant_reads x s.place v t h is).1)))
    (constants_cursor M) b.constants stands.constants_end list valid.constants (omega (arith, room, ones, walked.1)))
    in let count_inside : past x M.place 2 ≡ None = inside_past x M.place 2 (omega (arith, there, stands.constant_count.0))
    in let last : (constants_reach x c).place ≡ stands.constants_end = constants_place x c ∙ constants.1
    in let flags_inside : past x (constants_reach x c).place 1 ≡ None = inside_past x (constants_reach x c).place 1 (omega (arith, last, stands.flags.0))
    in let parent : parent_fault x c.place ≡ None = parent_fine x ifaces c.place b.parent resolved stands.parent.1 valid.parent
    in (rw (inside_past x c.place 2 stands.parent.0, parent, inside_past x (c.place + 2) 2 stands.method_count.0, walked.0, count_inside, then.0, flags_inside) refl, omega (arith, walked.1, then.1, ones))
