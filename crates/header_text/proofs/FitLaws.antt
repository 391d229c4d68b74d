-- The classes of an accepted scope may follow each other in the order of their definitions.
use Rattle.std.proofs.Common.{◌≡◌, ◌⊎◌, inl, inr, ℕ, suc, ◌+◌, ◌<◌, ◌≤◌, ◌&&◌, ◌||◌, not, Bool, true, false, cond, List, [], ◌∷◌, ◌++◌, length, map, Option, Some, None, IsSomeAnd, refl, sym, ap, ◌∙◌, subst, arith, nat_lt, nat_eq, slice_get, ltb-false, lt-ltb, eqb-true, length-append, option_map, option_and_then, All, if◌then◌else◌}
use Rattle.std.specs.Prelude.{position}
use Rattle.std.specs.Option.{option_map_or}
use Rattle.std.specs.Bool.{one_answer}
use Rattle.std.specs.List.{AllByRecursion, flat_map, list_any, position_or_len}
use Rattle.std.specs.Str.{bytes_eq}
use Rattle.std.proofs.lemmas.Bool.{eqb-false, false_from_ne_true}
use Rattle.std.proofs.lemmas.Bool.Decides.{Decides-eqb, Decides-like}
use Rattle.std.proofs.lemmas.List.{append_assoc, length-map, map-append}
use Rattle.std.proofs.lemmas.Option.{slice_get_within}
use Rattle.std.proofs.lemmas.Slice.Eq.{bytes_eq-Decides}
use Rattle.std_collections.specs.Map.{values_of}
use Rattle.call_model.specs.Prototype.{passed_type}
use Rattle.call_model.specs.declared.prototypes.ProtoArg.{ProtoArg}
use Rattle.idl_meaning.specs.declared.scope.Scope.{Scope}
use Rattle.idl_meaning.specs.declared.scope.ScopeIface.{ScopeIface}
use Rattle.idl_meaning.specs.declared.scope.ScopeMember.{ScopeMember}
use Rattle.idl_meaning.specs.declared.scope.ScopeParam.{ScopeParam}
use Rattle.idl_meaning.specs.Accepted.{AreNamedOnce, IsAcceptedScope, IsDefinedBefore}
use Rattle.vtable_layout.specs.Layout.{has_too_many}
use Rattle.vtable_layout.specs.Slots.{Slot, above, inherited, own_in, own_of, own_slots, parent_of, slots_of, slots_of_member}
use Rattle.vtable_layout.proofs.Climbing as climbing
use Rattle.prototype_lowering.specs.Directory.{directory_of}
use Rattle.prototype_lowering.specs.Limits.{KeepsLimits, NoneIsWide, is_wide, is_wide_found, is_wide_slot}
use Rattle.prototype_lowering.specs.StaticTable.{arg_of, back, first, front, is_method, middle, proto_of}
use Rattle.lib_model.specs.Table.{context_arg, count_arg}
use Rattle.prototype_lowering.proofs.ScopeFacts.{all_by, both_parts, by_each, weaker}
use Rattle.header_model.specs.declared.decls.Decl.{Decl}
use Rattle.header_model.specs.Declares.{class_begun, decl_of, has_name, next_slot, slots_at}
use Rattle.header_text.specs.Types.{name_at}
use Rattle.header_text.specs.Order.{Spot, definitions_of, placed, spot_of}
use Rattle.header_text.specs.Meaning.{class_number, declared_class, declared_slot, types_in}
use Rattle.header_text.proofs.OrderLaws.{Entry, IsBelow, IsEntryOf, IsIn, Rises, below-trans, scope_entries, scope_has}
use Rattle.header_text.proofs.Said.{AllFit, IsFit}

-- ---- one entry among the others

-- what stands about an entry
record StandsAt (ifaces : List ScopeIface) (before : List Entry) (e : Entry) (more : List Entry)
    : Type 0 where
  one : IsEntryOf ifaces e
  each : AllByRecursion (IsEntryOf ifaces) before
  below : AllByRecursion (λ (f : Entry). IsBelow f.0 e.0) before
  above : AllByRecursion (λ (f : Entry). IsBelow e.0 f.0) more

that_one : {X : Type 0} (P : X → Type 0) (xs : List X) (y : X) (ys : List X)
    → AllByRecursion P (xs ++ y ∷ ys) → P y
that_one P [] y ys h = h.0
that_one P (x ∷ xs) y ys h = that_one P xs y ys h.1

stands : (ifaces : List ScopeIface) (before : List Entry) (e : Entry) (more : List Entry)
    → AllByRecursion (IsEntryOf ifaces) (before ++ e ∷ more) → Rises (before ++ e ∷ more)
    → StandsAt ifaces before e more
unfolding Rises
stands ifaces [] e more all rise = record { one = all.0; each = tt; below = tt; above = rise.0 }
stands ifaces (f ∷ before) e more all rise =
    let rest = stands ifaces before e more all.1 rise.1
    in record {
      one = rest.one;
      each = (all.0, rest.each);
      below = (that_one (λ (g : Entry). IsBelow f.0 g.0) before e more rise.0, rest.below);
      above = rest.above;
    }

not-below : (a : Spot) → IsBelow a a → ⊥
not-below a (inl h) = absurd (omega (arith, h))
not-below a (inr h) = absurd (let below = h.1 in omega (arith, below))

passes_in : {X : Type 0} (P : X → Type 0) (x : X) (xs : List X) → IsIn x xs → AllByRecursion P xs
    → P x
unfolding IsIn
passes_in P x [] is all = absurd is
passes_in P x (y ∷ ys) (inl same) all = subst P (sym same) all.0
passes_in P x (y ∷ ys) (inr is) all = passes_in P x ys is all.1

-- an entry below another stands before it
stands_before : (before : List Entry) (d e : Entry) (more : List Entry)
    → IsIn d (before ++ e ∷ more) → IsBelow d.0 e.0
    → AllByRecursion (λ (f : Entry). IsBelow e.0 f.0) more → IsIn d before
unfolding IsIn
stands_before [] d e more (inl same) below all =
    absurd (not-below e.0 (subst (λ (x : Entry). IsBelow x.0 e.0) same below))
stands_before [] d e more (inr is) below all =
    absurd (not-below d.0 (below-trans d.0 e.0 d.0 below
    (passes_in (λ (f : Entry). IsBelow e.0 f.0) d more is all)))
stands_before (f ∷ before) d e more (inl same) below all = inl same
stands_before (f ∷ before) d e more (inr is) below all =
    inr (stands_before before d e more is below all)

value_in : (d : Entry) (es : List Entry) → IsIn d es → IsIn d.1 (values_of es)
unfolding IsIn
value_in d [] is = is
value_in d (e ∷ es) (inl same) = inl (ap (λ (x : Entry). x.1) same)
value_in d (e ∷ es) (inr is) = inr (value_in d es is)

all_values : (P : ℕ → Type 0) (es : List Entry) → AllByRecursion (λ (e : Entry). P e.1) es
    → AllByRecursion P (values_of es)
all_values P [] h = tt
all_values P (e ∷ es) h = (h.0, all_values P es h.1)

-- ---- names

-- the names of interfaces are the same where their numbers are
names_tell : (ifaces : List ScopeIface) → AreNamedOnce ifaces → (p k : ℕ) (a b : ScopeIface)
    → slice_get ifaces p ≡ Some a → slice_get ifaces k ≡ Some b
    → has_name (name_at ifaces p) (declared_class ifaces k) ≡ nat_eq p k
names_tell ifaces once p k a b at_p at_k =
    let name_p : name_at ifaces p ≡ a.name =
    ap (λ (o : Option ScopeIface). option_map_or (λ (i : ScopeIface). i.name) o []) at_p
    in let name_k : name_at ifaces k ≡ b.name =
    ap (λ (o : Option ScopeIface). option_map_or (λ (i : ScopeIface). i.name) o []) at_k
    in one_answer (bytes_eq (name_at ifaces k) (name_at ifaces p)) (nat_eq p k)
    (Decides-like (bytes_eq (name_at ifaces k) (name_at ifaces p))
    (λ same. once p k a b at_p at_k (sym name_p ∙ sym same ∙ name_k))
    (λ same. ap (name_at ifaces) (sym same))
    (bytes_eq-Decides (name_at ifaces k) (name_at ifaces p))) (Decides-eqb p k)

-- ---- the place of a class

-- the first that passes is this one
record IsFoundAt (test : Decl → Bool) (decls : List Decl) (d : Decl) (n : ℕ) : Type 0 where
  place : position_or_len test decls ≡ n
  within : n < length decls
  at : slice_get decls n ≡ Some d

found_at : (test : Decl → Bool) (f : ℕ → Decl) (p : ℕ) (ks more : List ℕ) → IsIn p ks
    → AllByRecursion (λ (k : ℕ). test (f k) ≡ nat_eq p k) ks
    → IsFoundAt test (map f ks) (f p) (position_or_len (nat_eq p) (ks ++ more))
unfolding IsIn
found_at test f p [] more is all = absurd is
found_at test f p (k ∷ ks) more is all =
    go (position_or_len (nat_eq p) (ks ++ more)) (nat_eq p k) refl all.0 is
    (λ h. found_at test f p ks more h all.1)
  where
    go : (n : ℕ) (b : Bool) → nat_eq p k ≡ b → test (f k) ≡ b → (p ≡ k) ⊎ IsIn p ks
        → (IsIn p ks → IsFoundAt test (map f ks) (f p) n)
        → IsFoundAt test (f k ∷ map f ks) (f p) (cond (not b) (1 + n) 0)
    go n true e t is rest = record {
      place = ap (λ (c : Bool). cond (not c) (1 + position_or_len test (map f ks)) 0) t;
      within = omega arith;
      at = let same : k ≡ p = sym (eqb-true p k e) in ap (λ (x : ℕ). Some (f x)) same;
    }
    go n false e t (inl same) rest = absurd (eqb-false p k e same)
    go n false e t (inr is) rest =
        let found = rest is
        in let next : 1 + n ≡ suc n = omega arith
        in record {
          place =
              ap (λ (c : Bool). cond (not c) (1 + position_or_len test (map f ks)) 0) t
              ∙ ap (λ (x : ℕ). 1 + x) found.place;
          within = let below = found.within in omega (arith, below);
          at = ap (slice_get (f k ∷ map f ks)) next ∙ found.at;
        }

found_position : (test : Decl → Bool) (decls : List Decl) (d : Decl) (n : ℕ)
    → IsFoundAt test decls d n → position test decls ≡ Some n
found_position test decls d n found =
    let place = found.place
    in let below : nat_lt n (length decls) ≡ true = lt-ltb n (length decls) found.within
    in (λ j. cond (nat_lt (place j) (length decls)) (Some (place j)) None)
    ∙ (λ j. cond (below j) (Some n) None)

-- ---- how many arguments

-- the context of scripts and the number of optional arguments
few_added : (c m a : Bool)
    → length (if c && not m then context_arg ∷ [] else [])
    + length ((if c && m then context_arg ∷ [] else []) ++ (if a then count_arg ∷ [] else [])) ≤ 2
few_added true true true = omega arith
few_added true true false = omega arith
few_added true false true = omega arith
few_added true false false = omega arith
few_added false true true = omega arith
few_added false true false = omega arith
few_added false false true = omega arith
few_added false false false = omega arith

-- the parameters before the value and from it on
both_ends : (ps : List ScopeParam) → length (front ps) + length (back ps) ≡ length ps
both_ends [] = omega arith
both_ends (p ∷ ps) = go p.retval (both_ends ps)
  where
    go : (b : Bool) → length (front ps) + length (back ps) ≡ length ps
        → length (if b then [] else (p ∷ front ps)) + length (if b then (p ∷ ps) else back ps)
        ≡ length (p ∷ ps)
    go true h = omega arith
    go false h = omega (arith, h)

few_types : (ifaces : List ScopeIface) (s : Slot) → length s.params ≤ 255
    → length (types_in ifaces s) ≤ 257
unfolding proto_of
few_types ifaces s few =
    let d = directory_of ifaces
    in omega (
      arith,
      few,
      length-map (proto_of d s) (λ (a : ProtoArg). passed_type a.pass a.ty),
      length-append (first s)
          (map (arg_of d s) (front s.params) ++ (middle s ++ map (arg_of d s) (back s.params))),
      length-append (map (arg_of d s) (front s.params))
          (middle s ++ map (arg_of d s) (back s.params)),
      length-append (middle s) (map (arg_of d s) (back s.params)),
      length-map (front s.params) (arg_of d s),
      length-map (back s.params) (arg_of d s),
      both_ends s.params,
      few_added s.context (is_method s.kind) s.argc,
    )

narrow_slots : (ifaces : List ScopeIface) (ss : List Slot) → list_any is_wide_slot ss ≡ false
    → AllByRecursion (λ s. length (types_in ifaces s) ≤ 257) ss
narrow_slots ifaces [] h = tt
narrow_slots ifaces (s ∷ ss) h = go (is_wide_slot s) refl h (narrow_slots ifaces ss)
  where
    go : (b : Bool) → is_wide_slot s ≡ b → (b || list_any is_wide_slot ss) ≡ false
        → (list_any is_wide_slot ss ≡ false
        → AllByRecursion (λ t. length (types_in ifaces t) ≤ 257) ss)
        → AllByRecursion (λ t. length (types_in ifaces t) ≤ 257) (s ∷ ss)
    go true e k rest = absurd (let no : true ≡ false = k in cc)
    go false e k rest = (few_types ifaces s (ltb-false 255 (length s.params) e), rest k)

narrow_members : (ifaces : List ScopeIface) (ms : List ScopeMember)
    → AllByRecursion (λ (m : ScopeMember). is_wide m ≡ false) ms
    → AllByRecursion (λ s. length (types_in ifaces s) ≤ 257) (flat_map slots_of_member ms)
narrow_members ifaces [] h = tt
narrow_members ifaces (m ∷ ms) h =
    both_parts (λ s. length (types_in ifaces s) ≤ 257) (slots_of_member m)
    (flat_map slots_of_member ms) (narrow_slots ifaces (slots_of_member m) h.0)
    (narrow_members ifaces ms h.1)

narrow_own : (ifaces : List ScopeIface) → NoneIsWide ifaces → (k : ℕ) (i : ScopeIface)
    → slice_get ifaces k ≡ Some i
    → All (λ s. length (types_in ifaces s) ≤ 257) (own_of ifaces k)
narrow_own ifaces narrow k i at =
    let own : own_of ifaces k ≡ own_slots i = ap own_in at
    in let members : AllByRecursion (λ (m : ScopeMember). is_wide m ≡ false) i.members =
    by_each (λ (m : ScopeMember). is_wide m ≡ false) i.members
    (λ place m found. sym (ap is_wide_found found)
    ∙ sym (ap (λ (o : Option ScopeIface).
    is_wide_found (option_and_then (λ (x : ScopeIface). slice_get x.members place) o)) at)
    ∙ narrow k place)
    in subst (All (λ s. length (types_in ifaces s) ≤ 257)) (sym own)
    (all_by (λ s. length (types_in ifaces s) ≤ 257) (own_slots i)
    (narrow_members ifaces i.members members))

-- ---- one class

-- the entries by which the classes are ordered
abbrev entries_of : List ScopeIface → List Entry
entries_of ifaces = placed [] 0 ifaces

room_of : (ifaces : List ScopeIface) (k : ℕ) → has_too_many ifaces k ≡ false
    → length (inherited ifaces k) + length (own_of ifaces k) ≤ 250
room_of ifaces k few =
    omega (
      arith,
      climbing.few_slots ifaces k few,
      ap length (climbing.parts ifaces k few),
      length-append (inherited ifaces k) (own_of ifaces k),
    )

-- a class has as many slots as its interface
slots_declared : (ifaces : List ScopeIface) (p : ℕ) → has_too_many ifaces p ≡ false
    → next_slot (declared_class ifaces p) ≡ length (slots_of ifaces p)
slots_declared ifaces p few =
    omega (
      arith,
      ap length (climbing.parts ifaces p few),
      length-append (inherited ifaces p) (own_of ifaces p),
      length-map (own_of ifaces p) (declared_slot ifaces),
    )

-- the names of the classes before tell their numbers
tell_all : (s : Scope) → IsAcceptedScope s → (p : ℕ) (a : ScopeIface)
    → slice_get s.ifaces p ≡ Some a → (before : List Entry)
    → AllByRecursion (IsEntryOf s.ifaces) before
    → AllByRecursion
    (λ (k : ℕ). has_name (name_at s.ifaces p) (declared_class s.ifaces k) ≡ nat_eq p k)
    (values_of before)
tell_all s accepted p a at before each =
    all_values (λ (k : ℕ). has_name (name_at s.ifaces p) (declared_class s.ifaces k) ≡ nat_eq p k)
    before
    (weaker (IsEntryOf s.ifaces)
    (λ (e : Entry). has_name (name_at s.ifaces p) (declared_class s.ifaces e.1) ≡ nat_eq p e.1)
    (λ e entry. names_tell s.ifaces accepted.named_once p e.1 a entry.iface at entry.found) before
    each)

none_named : (test : Decl → Bool) (f : ℕ → Decl) (ks : List ℕ)
    → AllByRecursion (λ (k : ℕ). test (f k) ≡ false) ks → list_any test (map f ks) ≡ false
none_named test f [] h = refl
none_named test f (k ∷ ks) h =
    (λ j. h.0 j || list_any test (map f ks)) ∙ none_named test f ks h.1

-- an entry above another is of another interface
other_number : (ifaces : List ScopeIface) (d e : Entry) → IsEntryOf ifaces d → IsEntryOf ifaces e
    → IsBelow d.0 e.0 → e.1 ≡ d.1 → ⊥
other_number ifaces d e left right below same =
    let found : Some right.iface ≡ Some left.iface =
    sym right.found ∙ ap (slice_get ifaces) same ∙ left.found
    in let ifaces_same : right.iface ≡ left.iface = cc
    in let spots : e.0 ≡ d.0 = right.spotted ∙ ap spot_of ifaces_same ∙ sym left.spotted
    in not-below d.0 (subst (λ (x : Spot). IsBelow d.0 x) spots below)

is_new : (s : Scope) → IsAcceptedScope s → (before : List Entry) (e : Entry) (more : List Entry)
    → StandsAt s.ifaces before e more
    → list_any (has_name (name_at s.ifaces e.1))
    (map (declared_class s.ifaces) (values_of before)) ≡ false
is_new s accepted before e more at =
    none_named (has_name (name_at s.ifaces e.1)) (declared_class s.ifaces) (values_of before)
    (all_values
    (λ (k : ℕ). has_name (name_at s.ifaces e.1) (declared_class s.ifaces k) ≡ false) before
    (others before at.each at.below))
  where
    others : (es : List Entry) → AllByRecursion (IsEntryOf s.ifaces) es
        → AllByRecursion (λ (f : Entry). IsBelow f.0 e.0) es
        → AllByRecursion
        (λ (f : Entry). has_name (name_at s.ifaces e.1) (declared_class s.ifaces f.1) ≡ false) es
    others [] each below = tt
    others (f ∷ es) each below = (
      names_tell s.ifaces accepted.named_once e.1 f.1 at.one.iface each.0.iface at.one.found
          each.0.found
          ∙ false_from_ne_true (nat_eq e.1 f.1)
          (λ same. other_number s.ifaces f e each.0 at.one below.0 (eqb-true e.1 f.1 same)),
      others es
          each.1 below.1,
    )

-- the class that begins, behind that of its parent
begun_behind : (ifaces : List ScopeIface) (before : List Entry) (e : Entry) (more : List Entry)
    → entries_of ifaces ≡ before ++ e ∷ more → (p : ℕ) → has_too_many ifaces p ≡ false
    → IsFoundAt (has_name (name_at ifaces p)) (map (declared_class ifaces) (values_of before))
    (declared_class ifaces p)
    (position_or_len (nat_eq p) (values_of before ++ e.1 ∷ values_of more))
    → decl_of (map (declared_class ifaces) (values_of before)) (name_at ifaces e.1)
    (Some (name_at ifaces p))
    ≡ Some (class_begun (name_at ifaces e.1) (Some (class_number ifaces p))
    (length (slots_of ifaces p)))
begun_behind ifaces before e more all p few found =
    let decls = map (declared_class ifaces) (values_of before)
    in let n = position_or_len (nat_eq p) (values_of before ++ e.1 ∷ values_of more)
    in let values : definitions_of ifaces ≡ values_of before ++ e.1 ∷ values_of more =
    ap values_of all ∙ map-append (λ (x : Entry). x.1) before (e ∷ more)
    in let number : n ≡ class_number ifaces p =
    ap (position_or_len (nat_eq p)) (sym values)
    in let slots : slots_at decls n ≡ length (slots_of ifaces p) =
    ap (λ (o : Option Decl). option_map_or next_slot o 0) found.at
    ∙ slots_declared ifaces p few
    in ap (option_map
    (λ (m : ℕ). class_begun (name_at ifaces e.1) (Some m) (slots_at decls m)))
    (found_position (has_name (name_at ifaces p)) decls (declared_class ifaces p) n found)
    ∙ (λ j. Some (class_begun (name_at ifaces e.1) (Some (number j)) (slots j)))

-- one that extends another finds the class of its parent
extends : (s : Scope) → IsAcceptedScope s → KeepsLimits s → (before : List Entry) (e : Entry)
    (more : List Entry) → entries_of s.ifaces ≡ before ++ e ∷ more
    → (at : StandsAt s.ifaces before e more) → (p : ℕ) → at.one.iface.parent ≡ Some p
    → decl_of (map (declared_class s.ifaces) (values_of before)) (name_at s.ifaces e.1)
    (Some (name_at s.ifaces p))
    ≡ Some (class_begun (name_at s.ifaces e.1) (Some (class_number s.ifaces p))
    (length (slots_of s.ifaces p)))
extends s accepted limits before e more all at p child =
    go (slice_get s.ifaces p) refl
    (accepted.parents_first e.1 p at.one.iface at.one.found child)
  where
    go : (o : Option ScopeIface) → slice_get s.ifaces p ≡ o
        → IsSomeAnd o (IsDefinedBefore at.one.iface)
        → decl_of (map (declared_class s.ifaces) (values_of before)) (name_at s.ifaces e.1)
        (Some (name_at s.ifaces p))
        ≡ Some (class_begun (name_at s.ifaces e.1) (Some (class_number s.ifaces p))
        (length (slots_of s.ifaces p)))
    go None found first = absurd first
    go (Some q) found first =
        let few = limits.few_slots p (slice_get_within s.ifaces p q found)
        in let whole : IsIn (spot_of q, p) (before ++ e ∷ more) =
        subst (IsIn (spot_of q, p)) all (scope_has s.ifaces accepted.apart p q found first.marked)
        in let below : IsBelow (spot_of q) e.0 =
        subst (IsBelow (spot_of q)) (sym at.one.spotted) first.earlier
        in let inside : IsIn (spot_of q, p) before =
        stands_before before (spot_of q, p) e more whole below at.above
        in begun_behind s.ifaces before e more all p few
        (found_at (has_name (name_at s.ifaces p)) (declared_class s.ifaces) p (values_of before)
        (e.1 ∷ values_of more) (value_in (spot_of q, p) before inside)
        (tell_all s accepted p q found before at.each))

-- the class of its parent is among those before
begins_so : (s : Scope) → IsAcceptedScope s → KeepsLimits s → (before : List Entry) (e : Entry)
    (more : List Entry) → entries_of s.ifaces ≡ before ++ e ∷ more
    → StandsAt s.ifaces before e more
    → decl_of (map (declared_class s.ifaces) (values_of before)) (name_at s.ifaces e.1)
    (option_map (name_at s.ifaces) (parent_of s.ifaces e.1))
    ≡ Some (class_begun (name_at s.ifaces e.1)
    (option_map (class_number s.ifaces) (parent_of s.ifaces e.1))
    (length (inherited s.ifaces e.1)))
begins_so s accepted limits before e more all at = go (parent_of s.ifaces e.1) refl
  where
    Begins : Option ℕ → Type 0
    Begins o =
        decl_of (map (declared_class s.ifaces) (values_of before)) (name_at s.ifaces e.1)
        (option_map (name_at s.ifaces) o)
        ≡ Some (class_begun (name_at s.ifaces e.1) (option_map (class_number s.ifaces) o)
        (length (above (slots_of s.ifaces) o)))

    go : (o : Option ℕ) → parent_of s.ifaces e.1 ≡ o → Begins o
    go None h = refl
    go (Some p) h = extends s accepted limits before e more all at p
        (sym (ap (option_and_then (λ (i : ScopeIface). i.parent)) at.one.found) ∙ h)

-- ---- all classes

fits_one : (s : Scope) → IsAcceptedScope s → KeepsLimits s → (before : List Entry) (e : Entry)
    (more : List Entry) → entries_of s.ifaces ≡ before ++ e ∷ more
    → IsFit s.ifaces (map (declared_class s.ifaces) (values_of before)) e.1
fits_one s accepted limits before e more all =
    let are = scope_entries s.ifaces
    in let at = stands s.ifaces before e more
    (subst (AllByRecursion (IsEntryOf s.ifaces)) all are.each)
    (subst Rises all are.rise)
    in let few = limits.few_slots e.1 (slice_get_within s.ifaces e.1 at.one.iface at.one.found)
    in record {
      new = is_new s accepted before e more at;
      begins = begins_so s accepted limits before e more all at;
      room = room_of s.ifaces e.1 few;
      narrow = narrow_own s.ifaces limits.narrow e.1 at.one.iface at.one.found;
    }

fits_from : (s : Scope) → IsAcceptedScope s → KeepsLimits s → (before more : List Entry)
    → entries_of s.ifaces ≡ before ++ more
    → AllFit s.ifaces (map (declared_class s.ifaces) (values_of before)) (values_of more)
unfolding AllFit
fits_from s accepted limits before [] all = tt
fits_from s accepted limits before (e ∷ more) all =
    let next : before ++ e ∷ more ≡ (before ++ e ∷ []) ++ more =
    sym (append_assoc before (e ∷ []) more)
    in let decls : map (declared_class s.ifaces) (values_of (before ++ e ∷ []))
    ≡ map (declared_class s.ifaces) (values_of before) ++ declared_class s.ifaces e.1 ∷ [] =
    ap (map (declared_class s.ifaces)) (map-append (λ (x : Entry). x.1) before (e ∷ []))
    ∙ map-append (declared_class s.ifaces) (values_of before) (e.1 ∷ [])
    in (
      fits_one s accepted limits before e more all,
      subst
          (λ (ds : List Decl). AllFit s.ifaces ds (values_of more)) decls
          (fits_from s accepted limits (before ++ e ∷ []) more (all ∙ next)),
    )

pub scope-fits : (s : Scope) → IsAcceptedScope s → KeepsLimits s
    → AllFit s.ifaces [] (definitions_of s.ifaces)
scope-fits s accepted limits = fits_from s accepted limits [] (entries_of s.ifaces) refl
