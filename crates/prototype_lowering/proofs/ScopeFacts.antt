-- What is true of the slots of an accepted scope.
use Rattle.std.proofs.Common.{◌≡◌, ℕ, zero, suc, Bool, true, false, List, [], ◌∷◌, ◌++◌, length, Option, Some, None, IsSomeAnd, IsTrue, is_some, slice_get, refl, sym, ap, ◌∙◌, subst, arith, true≢false, All, if◌then◌else◌}
use Rattle.std.specs.List.{AllByRecursion, cons_option, filter_map, flat_map}
use Rattle.std.proofs.lemmas.List.{append-nil}
use Rattle.idl_meaning.specs.declared.scope.Meant.{Meant}
use Rattle.idl_meaning.specs.declared.scope.ScopeBody.{ScopeBody}
use Rattle.idl_meaning.specs.declared.scope.ScopeBody.TheVariants as body
use Rattle.idl_meaning.specs.declared.scope.ScopeIface.{ScopeIface}
use Rattle.idl_meaning.specs.declared.scope.ScopeMember.{ScopeMember}
use Rattle.idl_meaning.specs.declared.scope.ScopeParam.{ScopeParam}
use Rattle.idl_meaning.specs.declared.scope.Scope.{Scope}
use Rattle.idl_meaning.specs.Accepted.{AreAcceptedMembers, IsAcceptedBody, IsAcceptedIface, IsAcceptedMethod, IsAcceptedParam, IsAcceptedScope, IsGiven, IsLawfulIface, IsResult, IsSingle, Points}
use Rattle.idl_meaning.specs.Meaning.{is_iid, is_integer}
use Rattle.lib_model.specs.Valid.{IsName}
use Rattle.vtable_layout.specs.Slots.{Slot, given, getter, given_param, method, own_slots, setter, slots_in, slots_of_member, value_param}

-- ---- lists

pub by_each : {X : Type 0} (P : X → Type 0) (xs : List X)
    → ((k : ℕ) (x : X) → slice_get xs k ≡ Some x → P x) → AllByRecursion P xs
by_each P [] h = tt
by_each P (x ∷ xs) h = (h 0 x refl, by_each P xs (λ k. h (suc k)))

pub all_by : {X : Type 0} (P : X → Type 0) (xs : List X) → AllByRecursion P xs → All P xs
all_by P [] h k d b = absurd (omega (arith, b))
all_by P (x ∷ xs) h zero d b = h.0
all_by P (x ∷ xs) h (suc k) d b = all_by P xs h.1 k d (omega (arith, b))

pub both_parts : {X : Type 0} (P : X → Type 0) (xs ys : List X) → AllByRecursion P xs
    → AllByRecursion P ys → AllByRecursion P (xs ++ ys)
both_parts P [] ys h k = k
both_parts P (x ∷ xs) ys h k = (h.0, both_parts P xs ys h.1 k)

pub weaker : {X : Type 0} (P Q : X → Type 0) → ((x : X) → P x → Q x) → (xs : List X)
    → AllByRecursion P xs → AllByRecursion Q xs
weaker P Q f [] h = tt
weaker P Q f (x ∷ xs) h = (f x h.0, weaker P Q f xs h.1)

kept : {X : Type 0} (P : X → Type 0) (xs ys : List X) (n : ℕ) → IsSomeAnd (slice_get xs n) P
    → IsSomeAnd (slice_get (xs ++ ys) n) P
kept P [] ys n h = absurd h
kept P (x ∷ xs) ys zero h = h
kept P (x ∷ xs) ys (suc n) h = kept P xs ys n h

-- ---- parameters

named_kept : (test : Meant → Bool) (xs ys : List ScopeParam) (o : Option ℕ) → Points test xs o
    → Points test (xs ++ ys) o
named_kept test xs ys None h = h
named_kept test xs ys (Some n) h = kept (IsSingle test) xs ys n h

param_kept : (count : ℕ) (xs ys : List ScopeParam) (p : ScopeParam) → IsAcceptedParam count xs p
    → IsAcceptedParam count (xs ++ ys) p
param_kept count xs ys p ok = record {
  typed = ok.typed;
  reference_in = ok.reference_in;
  class_one_way = ok.class_one_way;
  sized = named_kept is_integer xs ys p.size ok.sized;
  size_fits = ok.size_fits;
  measured = named_kept is_integer xs ys p.length ok.measured;
  beside_size = ok.beside_size;
  identified = named_kept is_iid xs ys p.iid ok.identified;
  iid_fits = ok.iid_fits;
  array_sized = ok.array_sized;
  array_plain = ok.array_plain;
  array_no_reference = ok.array_no_reference;
}

given_ok : (count : ℕ) (params : List ScopeParam) (ty : Meant) → IsGiven count ty
    → IsAcceptedParam count params (given_param ty)
given_ok count params ty h = record {
  typed = h.typed;
  reference_in = λ a. absurd (true≢false (sym a ∙ h.no_reference));
  class_one_way = λ a. refl;
  sized = tt;
  size_fits = λ a. absurd (true≢false (sym a));
  measured = tt;
  beside_size = λ a. a;
  identified = tt;
  iid_fits = λ a. absurd (true≢false (sym a));
  array_sized = λ a. absurd (true≢false (sym a));
  array_plain = λ a. absurd (true≢false (sym a));
  array_no_reference = λ a. absurd (true≢false (sym a));
}

value_ok : (count : ℕ) (params : List ScopeParam) (name : List ℕ) (ty : Meant) → IsGiven count ty
    → IsAcceptedParam count params (value_param name ty)
value_ok count params name ty h = record {
  typed = h.typed;
  reference_in = λ a. refl;
  class_one_way = λ a. refl;
  sized = tt;
  size_fits = λ a. absurd (true≢false (sym a));
  measured = tt;
  beside_size = λ a. a;
  identified = tt;
  iid_fits = λ a. absurd (true≢false (sym a));
  array_sized = λ a. absurd (true≢false (sym a));
  array_plain = λ a. absurd (true≢false (sym a));
  array_no_reference = λ a. absurd (true≢false (sym a));
}

-- ---- the value

-- a value is given by the last parameter alone, and by none in a method that returns one
abbrev pub GivesLast : Bool → List ScopeParam → Type 0
GivesLast returns [] = Unit {0}
GivesLast returns (p ∷ ps) =
    (p.retval ≡ true → (returns ≡ false) × (ps ≡ [])) × GivesLast returns ps

no_more : (ps : List ScopeParam) → 1 ≡ suc (length ps) → ps ≡ []
no_more [] h = refl
no_more (p ∷ ps) h = absurd (omega (arith, h))

gives_last : (returns : Option Meant) (ps : List ScopeParam)
    → ((k : ℕ) (p : ScopeParam) → slice_get ps k ≡ Some p → IsTrue p.retval → suc k ≡ length ps)
    → ((k : ℕ) (p : ScopeParam) → slice_get ps k ≡ Some p → IsTrue p.retval → returns ≡ None)
    → GivesLast (is_some returns) ps
gives_last returns [] last alone = tt
gives_last returns (p ∷ ps) last alone = (
  (λ is. (ap is_some (alone 0 p refl is), no_more ps (last 0 p refl is))),
  gives_last returns ps (λ k q at is. omega (arith, last (suc k) q at is)) (λ k. alone (suc k)),
)

last_weaker : (r : Bool) (ps : List ScopeParam) → GivesLast r ps → GivesLast false ps
last_weaker r [] h = tt
last_weaker r (p ∷ ps) h = ((λ is. (refl, (h.0 is).1)), last_weaker r ps h.1)

last_given : (ps : List ScopeParam) (ty : Meant) → GivesLast true ps
    → GivesLast false (ps ++ given_param ty ∷ [])
last_given [] ty h = ((λ is. (refl, refl)), tt)
last_given (p ∷ ps) ty h = ((λ is. absurd (true≢false (h.0 is).0)), last_given ps ty h.1)

-- ---- slots

pub record IsAcceptedSlot (count : ℕ) (s : Slot) : Type 0 where
  pub word : IsName s.name
  pub each : AllByRecursion (IsAcceptedParam count s.params) s.params
  pub value : GivesLast false s.params

given_each : (count : ℕ) (all : List ScopeParam) (notxpcom : Bool) (o : Option Meant)
    → IsResult count o → AllByRecursion (IsAcceptedParam count all) (given notxpcom o)
given_each count all true o h = tt
given_each count all false None h = tt
given_each count all false (Some ty) h = (given_ok count all ty h, tt)

given_last : (ps : List ScopeParam) (notxpcom : Bool) (o : Option Meant) → GivesLast (is_some o) ps
    → GivesLast false (ps ++ given notxpcom o)
given_last ps true o h = go ps (last_weaker (is_some o) ps h)
  where
    go : (ps : List ScopeParam) → GivesLast false ps → GivesLast false (ps ++ [])
    go ps h = subst (GivesLast false) (sym (append-nil ps)) h
given_last ps false None h = subst (GivesLast false) (sym (append-nil ps)) h
given_last ps false (Some ty) h = last_given ps ty h

method_ok : (count : ℕ) (s : Slot) (notxpcom : Bool) (returns : Option Meant)
    (params : List ScopeParam) → IsName s.name → s.params ≡ params ++ given notxpcom returns
    → IsAcceptedMethod count returns params → IsAcceptedSlot count s
method_ok count s notxpcom returns params word is ok =
    let all = params ++ given notxpcom returns
    in let written : AllByRecursion (IsAcceptedParam count all) params =
    weaker (IsAcceptedParam count params) (IsAcceptedParam count all)
    (λ p h. param_kept count params (given notxpcom returns) p h) params
    (by_each (IsAcceptedParam count params) params ok.each)
    in let value : AllByRecursion (IsAcceptedParam count all) (given notxpcom returns) =
    given_each count all notxpcom returns ok.returned
    in record {
      word = word;
      each = let P : List ScopeParam → Type 0 =
          λ ps. AllByRecursion (IsAcceptedParam count ps) ps
          in subst P (sym is)
          (both_parts (IsAcceptedParam count all) params (given notxpcom returns) written value);
      value = subst (GivesLast false) (sym is)
          (given_last params notxpcom returns (gives_last returns params ok.last ok.alone));
    }

pub member_ok : (count : ℕ) (m : ScopeMember) → IsName m.name → IsAcceptedBody count m.body
    → AllByRecursion (IsAcceptedSlot count) (slots_of_member m)
member_ok count m word ok = go m.body ok
  where
    getter_ok : (hidden notxpcom context : Bool) (ty : Meant) → IsGiven count ty
        → IsAcceptedSlot count (getter m.name hidden notxpcom context ty)
    getter_ok hidden notxpcom context ty h =
        record {
          word = word;
          each =
              given_each count (given notxpcom (Some ty)) notxpcom (Some ty) h;
          value =
              given_last [] notxpcom (Some ty) tt;
        }

    setter_ok : (hidden notxpcom context : Bool) (ty : Meant) → IsGiven count ty
        → IsAcceptedSlot count (setter m.name hidden notxpcom context ty)
    setter_ok hidden notxpcom context ty h =
        record {
          word = word;
          each =
              (value_ok count (value_param m.name ty ∷ []) m.name ty h, tt);
          value =
              ((λ is. (refl, refl)), tt);
        }

    setters : (readonly hidden notxpcom context : Bool) (ty : Meant) → IsGiven count ty
        → AllByRecursion (IsAcceptedSlot count)
        (if readonly then [] else (setter m.name hidden notxpcom context ty ∷ []))
    setters true hidden notxpcom context ty h = tt
    setters false hidden notxpcom context ty h = (setter_ok hidden notxpcom context ty h, tt)

    go : (b : ScopeBody) → IsAcceptedBody count b
        → AllByRecursion (IsAcceptedSlot count) (slots_in m.name b)
    go (body.Constant kind value) h = tt
    go (body.Attribute hidden notxpcom context readonly ty) h =
        (getter_ok hidden notxpcom context ty h, setters readonly hidden notxpcom context ty h)
    go (body.Method hidden notxpcom argc context returns params) h = (
      method_ok count (method m.name hidden notxpcom argc context returns params) notxpcom
          returns params word refl h,
      tt,
    )

members_ok : (count : ℕ) (ms : List ScopeMember) → AllByRecursion (λ m. IsName m.name) ms
    → AreAcceptedMembers count ms
    → AllByRecursion (IsAcceptedSlot count) (flat_map slots_of_member ms)
members_ok count [] named ok = tt
members_ok count (m ∷ ms) named ok =
    both_parts (IsAcceptedSlot count) (slots_of_member m) (flat_map slots_of_member ms)
    (member_ok count m named.0 (ok 0 m refl)) (members_ok count ms named.1 (λ k. ok (suc k)))

-- what holds of an interface of an accepted scope
pub record IsSoundIface (ifaces : List ScopeIface) (i : ScopeIface) : Type 0 where
  pub accepted : IsAcceptedIface ifaces i
  pub lawful : IsLawfulIface i

pub sound_at : (s : Scope) → IsAcceptedScope s → (k : ℕ) (i : ScopeIface)
    → slice_get s.ifaces k ≡ Some i → IsSoundIface s.ifaces i
sound_at s ok k i is = record { accepted = ok.each k i is; lawful = ok.lawful k i is }

pub members_named : (i : ScopeIface) → IsLawfulIface i
    → AllByRecursion (λ m. IsName m.name) i.members
members_named i ok = by_each (λ m. IsName m.name) i.members (λ k m is. record {
  present = (ok.members_named k m is).text.present;
  short = (ok.members_named k m is).text.short;
  no_zero = (ok.members_named k m is).text.no_zero;
})

pub iface_ok : (ifaces : List ScopeIface) (i : ScopeIface) → IsSoundIface ifaces i
    → AllByRecursion (IsAcceptedSlot (length ifaces)) (own_slots i)
iface_ok ifaces i ok =
    members_ok (length ifaces) i.members (members_named i ok.lawful) ok.accepted.members

-- ---- interfaces in an order

pub each_found : (P : ScopeIface → Type 0) (ifaces : List ScopeIface) (d : List ℕ)
    → ((k : ℕ) (i : ScopeIface) → slice_get ifaces k ≡ Some i → P i)
    → AllByRecursion P (filter_map (slice_get ifaces) d)
each_found P ifaces [] each = tt
each_found P ifaces (k ∷ d) each = go (slice_get ifaces k) refl (each_found P ifaces d each)
  where
    go : (o : Option ScopeIface) → slice_get ifaces k ≡ o
        → AllByRecursion P (filter_map (slice_get ifaces) d)
        → AllByRecursion P (cons_option o (filter_map (slice_get ifaces) d))
    go None h rest = rest
    go (Some i) h rest = (each k i h, rest)
