-- The library of an accepted scope is valid, where it keeps the limits.
use Rattle.std.proofs.Common.{◌≡◌, ℕ, ℤ, pos, negsuc, IsTrue, zero, suc, ◌+◌, ◌^◌, ◌<◌, ◌≤◌, ◌==◌, ◌||◌, ◌&&◌, Bool, true, false, List, [], ◌∷◌, ◌++◌, length, get_or, map, Option, Some, None, IfSome, IsSome, IsSomeAnd, refl, sym, ap, subst, ◌∙◌, arith, inl, inr, All, nat_lt, nat_le, nat_eq, ltb-false, ltb-true, leb-true, true≢false, sum_by, slice_get, option_map, option_and_then, length-append, if◌then◌else◌}
use Rattle.std.specs.List.{AllByRecursion, flat_map, list_any, position_or_len}
use Rattle.std.specs.Option.{unwrap_or}
use Rattle.std.proofs.lemmas.Int.{ints}
use Rattle.std.proofs.lemmas.List.{length-map}
use Rattle.std.proofs.lemmas.List.Sums.{sum_by-cons}
use Rattle.std.proofs.lemmas.Option.{slice_get-map}
use Rattle.xp_base.specs.declared.kinds.ConstKind.{ConstKind}
use Rattle.xp_base.specs.declared.kinds.ConstKind.TheVariants as kinds
use Rattle.idl_meaning.specs.declared.scope.Meant.{Meant}
use Rattle.idl_meaning.specs.declared.scope.Meant.TheVariants as meant
use Rattle.idl_meaning.specs.declared.scope.Scope.{Scope}
use Rattle.idl_meaning.specs.declared.scope.ScopeBody.{ScopeBody}
use Rattle.idl_meaning.specs.declared.scope.ScopeBody.TheVariants as body
use Rattle.idl_meaning.specs.declared.scope.ScopeIface.{ScopeIface}
use Rattle.idl_meaning.specs.declared.scope.ScopeMember.{ScopeMember}
use Rattle.idl_meaning.specs.declared.scope.ScopeParam.{ScopeParam}
use Rattle.idl_meaning.specs.Accepted.{AreAcceptedMembers, AreIfaceFlags, IsAcceptedBody, IsAcceptedParam, IsAcceptedScope, IsMeant, IsSingle, Points, is_basic_tag, is_class_tag}
use Rattle.idl_meaning.specs.Attributes.{iface_flags}
use Rattle.idl_meaning.specs.Constants.{in_range}
use Rattle.idl_meaning.specs.Meaning.{is_iid, is_integer}
use Rattle.idl_meaning.specs.Scopes.{zero_iid}
use Rattle.lib_model.specs.declared.contents.Body.{Body}
use Rattle.lib_model.specs.declared.contents.Iface.{Iface}
use Rattle.lib_model.specs.declared.param_types.Elem.{Elem}
use Rattle.lib_model.specs.declared.param_types.Elem.TheVariants as elems
use Rattle.lib_model.specs.declared.param_types.Param.{Param}
use Rattle.lib_model.specs.declared.param_types.XType.TheVariants as types
use Rattle.lib_model.specs.Valid.{AreKnownBits, IsBody, IsChain, IsConstant, IsCountParam, IsElem, IsIface, IsIfaceNumber, IsIidParam, IsInRange, IsMethod, IsName, IsNamespace, IsParam, IsParent, IsPlainTag, IsType, IsValid, chain_of, first_of_chain, iface_bits, item_count, parent_in, slots_in, tag_of}
use Rattle.lib_model.specs.Valid as valid
use Rattle.vtable_layout.specs.Layout.{has_too_many}
use Rattle.vtable_layout.specs.Slots.{Slot, above, chain_within, own_in, own_of, own_slots, parent_of, slots_of_member, slots_within}
use Rattle.vtable_layout.proofs.Climbing.{few_parents, few_slots}
use Rattle.prototype_lowering.specs.Directory.{directory_of, in_order, number, parent_number}
use Rattle.prototype_lowering.specs.Limits.{KeepsLimits, constant_count, has_many_constants, is_wide_found, is_wide_slot}
use Rattle.prototype_lowering.specs.Lowering.{alone, body_of, constants_in, constants_of_member, elem_of, goes_in, goes_out, iface_elem, iface_of, is_dipper, is_getter, is_setter, length_of, library_of, method_of, native_elem, param_of, size_of, sized_type, type_alone, type_of}
use Rattle.idl_meaning.specs.Meaning.{is_class}
use Rattle.prototype_lowering.proofs.DirectoryLaws.{in_directory, length_directory, length_in_order, numbers_within, shows, shows_at}
use Rattle.prototype_lowering.proofs.FlagLaws.{method_known, param_known}
use Rattle.prototype_lowering.proofs.ScopeFacts.{IsAcceptedSlot, IsSoundIface, all_by, both_parts, each_found, iface_ok, members_named, sound_at}
use Rattle.prototype_lowering.proofs.TypeLaws.{differs, passed}

-- ---- lists

image_at : {A B : Type 0} (P : A → Type 0) (Q : B → Type 0) (f : A → B) → ((x : A) → P x → Q (f x))
    → (xs : List A) (n : ℕ) → IsSomeAnd (slice_get xs n) P → IsSomeAnd (slice_get (map f xs) n) Q
image_at P Q f step [] n h = absurd h
image_at P Q f step (x ∷ xs) zero h = step x h
image_at P Q f step (x ∷ xs) (suc n) h = image_at P Q f step xs n h

mapped : {A B : Type 0} (P : A → Type 0) (Q : B → Type 0) (f : A → B) → ((x : A) → P x → Q (f x))
    → (xs : List A) → AllByRecursion P xs → AllByRecursion Q (map f xs)
mapped P Q f step [] h = tt
mapped P Q f step (x ∷ xs) h = (step x h.0, mapped P Q f step xs h.1)

together : {A : Type 0} (P Q : A → Type 0) (xs : List A) → AllByRecursion P xs → AllByRecursion Q xs
    → AllByRecursion (λ x. P x × Q x) xs
together P Q [] h k = tt
together P Q (x ∷ xs) h k = ((h.0, k.0), together P Q xs h.1 k.1)

pub some_within : {A : Type 0} (P : A → Type 0) (xs : List A) (n : ℕ) → IsSomeAnd (slice_get xs n) P
    → n < length xs
some_within P [] n h = absurd h
some_within P (x ∷ xs) zero h = omega arith
some_within P (x ∷ xs) (suc n) h = omega (arith, some_within P xs n h)

pub no_first : (a b : Bool) → (a || b) ≡ false → a ≡ false
no_first true b h = h
no_first false b h = refl

no_second : (a b : Bool) → (a || b) ≡ false → b ≡ false
no_second true b h = absurd (true≢false h)
no_second false b h = h

none_passes : {A : Type 0} (f : A → Bool) (xs : List A) → list_any f xs ≡ false
    → AllByRecursion (λ x. f x ≡ false) xs
none_passes f [] h = tt
none_passes f (x ∷ xs) h =
    (no_first (f x) (list_any f xs) h, none_passes f xs (no_second (f x) (list_any f xs) h))

none_mapped : {A B : Type 0} (f : B → Bool) (g : A → B) (xs : List A)
    → list_any f (map g xs) ≡ false → AllByRecursion (λ x. f (g x) ≡ false) xs
none_mapped f g [] h = tt
none_mapped f g (x ∷ xs) h = (
  no_first (f (g x)) (list_any f (map g xs)) h,
  none_mapped f g xs
      (no_second (f (g x)) (list_any f (map g xs)) h),
)

past_end : {A : Type 0} (xs : List A) (k : ℕ) → slice_get xs k ≡ None → length xs ≤ k
past_end [] k h = omega arith
past_end (x ∷ xs) zero h = absurd (let no : Some x ≡ None = h in cc)
past_end (x ∷ xs) (suc k) h = omega (arith, past_end xs k h)

known_bits : (scriptable function builtinclass : Bool)
    → AreKnownBits iface_bits (iface_flags scriptable function builtinclass)
known_bits true true true = record { byte = omega arith; known_alone = refl }
known_bits true true false = record { byte = omega arith; known_alone = refl }
known_bits true false true = record { byte = omega arith; known_alone = refl }
known_bits true false false = record { byte = omega arith; known_alone = refl }
known_bits false true true = record { byte = omega arith; known_alone = refl }
known_bits false true false = record { byte = omega arith; known_alone = refl }
known_bits false false true = record { byte = omega arith; known_alone = refl }
known_bits false false false = record { byte = omega arith; known_alone = refl }

flags_known : (flags : ℕ) → AreIfaceFlags flags → AreKnownBits iface_bits flags
flags_known flags ok =
    subst (AreKnownBits iface_bits) (sym ok.made)
    (known_bits ok.scriptable ok.function ok.builtinclass)

-- ---- tags

plain_basic : (tag : ℕ) → is_basic_tag tag ≡ true → IsPlainTag tag
plain_basic tag h = go (nat_le 1 tag) (nat_le tag 12) (tag == 16) (tag == 17) refl refl refl h
  where
    go : (z a b e : Bool) → nat_le tag 12 ≡ a → (tag == 16) ≡ b → (tag == 17) ≡ e
        → (z && a || b || e) ≡ true → IsPlainTag tag
    go z true b e i j k one = let low : tag ≤ 12 = leb-true tag 12 i in inl (omega arith)
    go z false true e i j k one = let at : tag ≡ 16 = grind (arith, j) in inl (omega arith)
    go z false false true i j k one = let at : tag ≡ 17 = grind (arith, k) in inl (omega arith)
    go true false false false i j k one = absurd (true≢false (sym one))
    go false false false false i j k one = absurd (true≢false (sym one))

plain_class : (tag : ℕ) → is_class_tag tag ≡ true → IsPlainTag tag
plain_class tag h = go (tag == 15) (tag == 23) (tag == 24) (tag == 25) refl refl refl refl h
  where
    go : (a b e g : Bool) → (tag == 15) ≡ a → (tag == 23) ≡ b → (tag == 24) ≡ e → (tag == 25) ≡ g
        → (a || b || e || g) ≡ true → IsPlainTag tag
    go true b e g i j k l one = let at : tag ≡ 15 = grind (arith, i) in inl (omega arith)
    go false true e g i j k l one = let at : tag ≡ 23 =
        grind (arith, j) in inr (omega arith, omega arith)
    go false false true g i j k l one = let at : tag ≡ 24 =
        grind (arith, k) in inr (omega arith, omega arith)
    go false false false true i j k l one = let at : tag ≡ 25 =
        grind (arith, l) in inr (omega arith, omega arith)
    go false false false false i j k l one = absurd (true≢false (sym one))

integer_tag : (tag : ℕ) → (nat_le 1 tag && nat_le tag 7) ≡ true → tag ≤ 7
integer_tag tag h = go (nat_le 1 tag) (nat_le tag 7) refl h
  where
    go : (a b : Bool) → nat_le tag 7 ≡ b → (a && b) ≡ true → tag ≤ 7
    go a true e k = leb-true tag 7 e
    go true false e k = absurd (true≢false (sym k))
    go false false e k = absurd (true≢false (sym k))

-- ---- parameters

-- what tells a size is a number
number_type : (d : List ℕ) (q : ScopeParam) → IsSingle is_integer q → tag_of (type_of d q) ≤ 7
number_type d q h = go q.array h.no_array
  where
    sized : (tag : ℕ) → (nat_le 1 tag && nat_le tag 7) ≡ true → (o : Option ℕ)
        → tag_of (sized_type tag o (length_of q)) ≤ 7
    sized tag k None = integer_tag tag k
    sized tag k (Some size) =
        tagged (tag == 16) (tag == 17) (differs (λ t. nat_le 1 t && nat_le t 7) tag 16 k refl)
        (differs (λ t. nat_le 1 t && nat_le t 7) tag 17 k refl)
      where
        tagged : (a b : Bool) → a ≡ false → b ≡ false
            → tag_of (if a then types.SizedString size (length_of q) else if b
            then types.SizedWString size (length_of q) else types.Plain tag) ≤ 7
        tagged true b i j = absurd (true≢false i)
        tagged false true i j = absurd (true≢false j)
        tagged false false i j = integer_tag tag k

    by : (m : Meant) → is_integer m ≡ true → tag_of (type_alone d q m) ≤ 7
    by (meant.Basic tag) k = sized tag k q.size
    by (meant.Iface n) k = absurd (true≢false (sym k))
    by meant.NsidRef k = absurd (true≢false (sym k))
    by meant.NsidPtr k = absurd (true≢false (sym k))
    by (meant.StringClass tag) k = absurd (true≢false (sym k))
    by meant.JsVal k = absurd (true≢false (sym k))
    by (meant.Native name) k = absurd (true≢false (sym k))

    go : (b : Bool) → b ≡ false
        → tag_of (if b then types.Array (size_of q) (length_of q) (elem_of d q.ty q.iid)
        else type_alone d q q.ty) ≤ 7
    go true e = absurd (true≢false e)
    go false e = by q.ty h.passes

iid_type : (d : List ℕ) (q : ScopeParam) → IsSingle is_iid q → tag_of (type_of d q) ≡ 14
iid_type d q h = go q.array h.no_array
  where
    by : (m : Meant) → is_iid m ≡ true → tag_of (type_alone d q m) ≡ 14
    by (meant.Basic tag) k = absurd (true≢false (sym k))
    by (meant.Iface n) k = absurd (true≢false (sym k))
    by meant.NsidRef k = refl
    by meant.NsidPtr k = refl
    by (meant.StringClass tag) k = absurd (true≢false (sym k))
    by meant.JsVal k = absurd (true≢false (sym k))
    by (meant.Native name) k = absurd (true≢false (sym k))

    go : (b : Bool) → b ≡ false
        → tag_of (if b then types.Array (size_of q) (length_of q) (elem_of d q.ty q.iid)
        else type_alone d q q.ty) ≡ 14
    go true e = absurd (true≢false e)
    go false e = by q.ty h.passes

-- what the directory says of the numbers of interfaces
record NumbersThem (d : List ℕ) (count : ℕ) : Type 0 where
  each : (k : ℕ) → k < count → IsIfaceNumber count (number d k)

module _ (d : List ℕ) (count : ℕ) (numbers : NumbersThem d count) where
  count_at : (params : List ScopeParam) (n : ℕ) → Points is_integer params (Some n)
      → IsCountParam (map (param_of d) params) n
  count_at params n h =
      image_at (IsSingle is_integer) (λ (p : Param). tag_of p.ty ≤ 7) (param_of d)
      (λ q single. number_type d q single) params n h

  iid_at : (params : List ScopeParam) (n : ℕ) → Points is_iid params (Some n)
      → IsIidParam (map (param_of d) params) n
  iid_at params n h =
      image_at (IsSingle is_iid) (λ (p : Param). tag_of p.ty ≡ 14) (param_of d)
      (λ q single. iid_type d q single) params n h

  elem_valid : (params : List ScopeParam) (m : Meant) → IsMeant count m → (iid : Option ℕ)
      → Points is_iid params iid → IsElem count (map (param_of d) params) (elem_of d m iid)
  elem_valid params (meant.Basic tag) h iid k = plain_basic tag (passed (is_basic_tag tag) h)
  elem_valid params (meant.Iface n) h None k = numbers.each n h
  elem_valid params (meant.Iface n) h (Some iid) k = iid_at params iid k
  elem_valid params meant.NsidRef h iid k = inl (omega arith)
  elem_valid params meant.NsidPtr h iid k = inl (omega arith)
  elem_valid params (meant.StringClass tag) h iid k = plain_class tag (passed (is_class_tag tag) h)
  elem_valid params meant.JsVal h iid k = inr (omega arith, omega arith)
  elem_valid params (meant.Native name) h None k = inl (omega arith)
  elem_valid params (meant.Native name) h (Some iid) k = iid_at params iid k

  alone_valid : (params : List Param) (e : Elem) → IsElem count params e
      → IsType count params (alone e)
  alone_valid params (elems.Plain tag) h = h
  alone_valid params (elems.Iface n) h = h
  alone_valid params (elems.IidIs iid) h = h

  sized_valid : (params : List ScopeParam) (tag len : ℕ) → is_basic_tag tag ≡ true → (o : Option ℕ)
      → Points is_integer params o → (IsSome o → IsCountParam (map (param_of d) params) len)
      → IsType count (map (param_of d) params) (sized_type tag o len)
  sized_valid params tag len basic None h long = plain_basic tag basic
  sized_valid params tag len basic (Some size) h long = go (tag == 16) (tag == 17)
    where
      go : (a b : Bool)
          → IsType count (map (param_of d) params)
          (if a then types.SizedString size len else if b then types.SizedWString size len
          else types.Plain tag)
      go true b = (count_at params size h, long refl)
      go false true = (count_at params size h, long refl)
      go false false = plain_basic tag basic

  size_valid : (params : List ScopeParam) (o : Option ℕ) → Points is_integer params o → IsSome o
      → IsCountParam (map (param_of d) params) (unwrap_or o 0)
  size_valid params None h some = absurd (true≢false (sym some))
  size_valid params (Some size) h some = count_at params size h

  length_valid : (params : List ScopeParam) (o : Option ℕ) (size : ℕ) → Points is_integer params o
      → IsCountParam (map (param_of d) params) size
      → IsCountParam (map (param_of d) params) (unwrap_or o size)
  length_valid params None size h k = k
  length_valid params (Some len) size h k = count_at params len h

  type_valid : (params : List ScopeParam) (p : ScopeParam) → IsAcceptedParam count params p
      → IsType count (map (param_of d) params) (type_of d p)
  type_valid params p ok = go p.array refl
    where
      len : IsSome p.size → IsCountParam (map (param_of d) params) (length_of p)
      len some = length_valid params p.length (size_of p) ok.measured
          (size_valid params p.size ok.sized some)

      by : (m : Meant) → IsMeant count m → IsType count (map (param_of d) params) (type_alone d p m)
      by (meant.Basic tag) h =
          sized_valid params tag (length_of p) (passed (is_basic_tag tag) h) p.size ok.sized len
      by (meant.Iface n) h =
          alone_valid (map (param_of d) params) (iface_elem d n p.iid)
          (elem_valid params (meant.Iface n) h p.iid ok.identified)
      by meant.NsidRef h = inl (omega arith)
      by meant.NsidPtr h = inl (omega arith)
      by (meant.StringClass tag) h = plain_class tag (passed (is_class_tag tag) h)
      by meant.JsVal h = inr (omega arith, omega arith)
      by (meant.Native name) h =
          alone_valid (map (param_of d) params) (native_elem p.iid)
          (elem_valid params (meant.Native name) h p.iid ok.identified)

      go : (b : Bool) → p.array ≡ b
          → IsType count (map (param_of d) params)
          (if b then types.Array (size_of p) (length_of p) (elem_of d p.ty p.iid)
          else type_alone d p p.ty)
      go true is = (
        size_valid params p.size ok.sized (ok.array_sized is),
        len (ok.array_sized is),
        elem_valid params p.ty ok.typed p.iid ok.identified,
      )
      go false is = by p.ty ok.typed

  param_valid : (params : List ScopeParam) (p : ScopeParam) → IsAcceptedParam count params p
      → IsParam count (map (param_of d) params) (param_of d p)
  param_valid params p ok = record {
    flags = param_known (goes_in p.dir (is_class p.ty)) (goes_out p.dir (is_class p.ty)) p.retval
        p.shared (is_dipper p.dir (is_class p.ty)) p.optional;
    ty = type_valid params p ok;
  }

  -- ---- methods

  method_valid : (s : Slot) → IsAcceptedSlot count s → is_wide_slot s ≡ false
      → IsMethod count (method_of d s)
  method_valid s ok narrow = record {
    name = ok.word;
    flags = method_known (is_getter s.kind) (is_setter s.kind) s.notxpcom s.hidden s.argc s.context;
    few = omega (arith, length-map s.params (param_of d), ltb-false 255 (length s.params) narrow);
    params = all_by (IsParam count (map (param_of d) s.params)) (map (param_of d) s.params)
        (mapped (IsAcceptedParam count s.params) (IsParam count (map (param_of d) s.params))
        (param_of d) (λ p h. param_valid s.params p h) s.params ok.each);
  }

narrow_slots : (ms : List ScopeMember) → ((m : ℕ) → is_wide_found (slice_get ms m) ≡ false)
    → AllByRecursion (λ s. is_wide_slot s ≡ false) (flat_map slots_of_member ms)
narrow_slots [] h = tt
narrow_slots (m ∷ ms) h =
    both_parts (λ s. is_wide_slot s ≡ false) (slots_of_member m) (flat_map slots_of_member ms)
    (none_passes is_wide_slot (slots_of_member m) (h 0)) (narrow_slots ms (λ k. h (suc k)))

-- ---- constants

ranged : (kind : ConstKind) (value : ℤ) → IsTrue (in_range kind value) → IsInRange kind value
ranged kinds.I16 (pos n) h = let low : n < 2 ^ 15 =
    ltb-true n (2 ^ 15) h in grind (arith, ints, low)
ranged kinds.I16 (negsuc n) h = let low : n < 2 ^ 15 =
    ltb-true n (2 ^ 15) h in grind (arith, ints, low)
ranged kinds.I32 (pos n) h = let low : n < 2 ^ 31 =
    ltb-true n (2 ^ 31) h in grind (arith, ints, low)
ranged kinds.I32 (negsuc n) h = let low : n < 2 ^ 31 =
    ltb-true n (2 ^ 31) h in grind (arith, ints, low)
ranged kinds.U16 (pos n) h = let low : n < 2 ^ 16 =
    ltb-true n (2 ^ 16) h in (omega (arith, ints), omega (arith, ints))
ranged kinds.U16 (negsuc n) h = absurd (true≢false (sym h))
ranged kinds.U32 (pos n) h = let low : n < 2 ^ 32 =
    ltb-true n (2 ^ 32) h in (omega (arith, ints), omega (arith, ints))
ranged kinds.U32 (negsuc n) h = absurd (true≢false (sym h))

constants_valid : (count : ℕ) (ms : List ScopeMember) → AllByRecursion (λ m. IsName m.name) ms
    → AreAcceptedMembers count ms → AllByRecursion IsConstant (flat_map constants_of_member ms)
constants_valid count [] named ok = tt
constants_valid count (m ∷ ms) named ok =
    both_parts IsConstant (constants_of_member m) (flat_map constants_of_member ms)
    (go m.body (ok 0 m refl)) (constants_valid count ms named.1 (λ k. ok (suc k)))
  where
    go : (b : ScopeBody) → IsAcceptedBody count b
        → AllByRecursion IsConstant (constants_in m.name b)
    go (body.Constant kind value) k = (record { name = named.0; value = ranged kind value k }, tt)
    go (body.Attribute hidden notxpcom context readonly ty) k = tt
    go (body.Method hidden notxpcom argc context returns params) k = tt

-- ---- the interfaces of a scope

module _ (s : Scope) (ok : IsAcceptedScope s) where
  accepted_at : (k : ℕ) (i : ScopeIface) → slice_get s.ifaces k ≡ Some i → IsSoundIface s.ifaces i
  accepted_at = sound_at s ok

  many : length (map (iface_of (directory_of s.ifaces)) (in_order s.ifaces)) ≡ length s.ifaces
  many = length-map (in_order s.ifaces) (iface_of (directory_of s.ifaces))
      ∙ length_in_order s.ifaces ok.named_once

  numbers_them : NumbersThem (directory_of s.ifaces) (length s.ifaces)
  numbers_them =
      record {
        each =
            λ k within. (
              omega arith,
              omega (
                arith,
                in_directory s.ifaces ok.named_once k within,
                length_directory s.ifaces
                    ok.named_once,
              ),
            );
      }

  -- place m of the directory has the interface of number k
  Shows : ℕ → ℕ → Type 0
  Shows m k = slice_get (in_order s.ifaces) m ≡ slice_get s.ifaces k

  shown : (k : ℕ) → k < length s.ifaces
      → Shows (position_or_len (nat_eq k) (directory_of s.ifaces)) k
  unfolding Shows
  shown k within = shows s.ifaces ok.named_once k within

  body_at : (m k : ℕ) (i : ScopeIface) → Shows m k → slice_get s.ifaces k ≡ Some i
      → valid.body_of (map (iface_of (directory_of s.ifaces)) (in_order s.ifaces)) (suc m)
      ≡ (if i.defined then Some (body_of (directory_of s.ifaces) i) else None)
  unfolding Shows
  body_at m k i show is =
      ap (option_and_then (λ (f : Iface). f.body))
      (slice_get-map (iface_of (directory_of s.ifaces)) (in_order s.ifaces) m
      ∙ ap (option_map (iface_of (directory_of s.ifaces))) (show ∙ is))

  parent_law : (m k : ℕ) (i : ScopeIface) → Shows m k → slice_get s.ifaces k ≡ Some i
      → valid.parent_of (map (iface_of (directory_of s.ifaces)) (in_order s.ifaces)) (suc m)
      ≡ parent_number (directory_of s.ifaces) (parent_of s.ifaces k)
  parent_law m k i show is =
      ap parent_in (body_at m k i show is) ∙ go i.defined refl
      ∙ ap (parent_number (directory_of s.ifaces))
      (sym (ap (option_and_then (λ (o : ScopeIface). o.parent)) is))
    where
      go : (b : Bool) → i.defined ≡ b
          → parent_in (if b then Some (body_of (directory_of s.ifaces) i) else None)
          ≡ parent_number (directory_of s.ifaces) i.parent
      go true e = refl
      go false e = ap (parent_number (directory_of s.ifaces))
          (sym ((accepted_at k i is).accepted.parentless e))

  own_law : (m k : ℕ) (i : ScopeIface) → Shows m k → slice_get s.ifaces k ≡ Some i
      → valid.own_slots (map (iface_of (directory_of s.ifaces)) (in_order s.ifaces)) (suc m)
      ≡ length (own_of s.ifaces k)
  own_law m k i show is =
      ap slots_in (body_at m k i show is) ∙ go i.defined refl
      ∙ sym (ap (λ (o : Option ScopeIface). length (own_in o)) is)
    where
      go : (b : Bool) → i.defined ≡ b
          → slots_in (if b then Some (body_of (directory_of s.ifaces) i) else None)
          ≡ length (own_slots i)
      go true e = length-map (own_slots i) (method_of (directory_of s.ifaces))
      go false e = sym
          (ap (λ (ms : List ScopeMember). length (flat_map slots_of_member ms))
          ((accepted_at k i is).accepted.memberless e))

  parent_within : (k p : ℕ) (i : ScopeIface) → slice_get s.ifaces k ≡ Some i
      → parent_of s.ifaces k ≡ Some p → p < length s.ifaces
  parent_within k p i is up =
      let own : i.parent ≡ Some p =
      sym (ap (option_and_then (λ (o : ScopeIface). o.parent)) is) ∙ up
      in some_within (λ (o : ScopeIface). o.defined ≡ true) s.ifaces p
      ((accepted_at k i is).accepted.extends p own)

  found : (k : ℕ) → k < length s.ifaces → (i : ScopeIface) × (slice_get s.ifaces k ≡ Some i)
  found k within = go (slice_get s.ifaces k) refl
    where
      go : (o : Option ScopeIface) → slice_get s.ifaces k ≡ o
          → (i : ScopeIface) × (slice_get s.ifaces k ≡ Some i)
      go None e = absurd (omega (arith, past_end s.ifaces k e))
      go (Some i) e = (i, e)

  -- the chain of a library's interface has the lengths of that of the scope's
  record SameChain (n m k : ℕ) : Type 0 where
    long : length
        (first_of_chain (map (iface_of (directory_of s.ifaces)) (in_order s.ifaces)) n (suc m))
        ≡ length (chain_within s.ifaces n k)
    slots : sum_by (valid.own_slots (map (iface_of (directory_of s.ifaces)) (in_order s.ifaces)))
        (first_of_chain (map (iface_of (directory_of s.ifaces)) (in_order s.ifaces)) n (suc m))
        ≡ length (slots_within s.ifaces n k)

  ends : (n : ℕ) → first_of_chain (map (iface_of (directory_of s.ifaces)) (in_order s.ifaces)) n 0
      ≡ []
  unfolding first_of_chain
  ends zero = refl
  ends (suc n) = refl

  same_chain : (n m k : ℕ) → Shows m k → k < length s.ifaces → SameChain n m k
  unfolding first_of_chain chain_within slots_within
  same_chain zero m k show within = record { long = refl; slots = refl }
  same_chain (suc n) m k show within =
      go (parent_of s.ifaces k) refl
      (λ p inside. same_chain n (position_or_len (nat_eq p) (directory_of s.ifaces)) p
      (shown p inside) inside)
    where
      go : (o : Option ℕ) → parent_of s.ifaces k ≡ o
          → ((p : ℕ) → p < length s.ifaces
          → SameChain n (position_or_len (nat_eq p) (directory_of s.ifaces)) p)
          → SameChain (suc n) m k
      go None up rest =
          let none : first_of_chain (map (iface_of (directory_of s.ifaces)) (in_order s.ifaces)) n
          (valid.parent_of (map (iface_of (directory_of s.ifaces)) (in_order s.ifaces)) (suc m))
          ≡ [] = ap (first_of_chain (map (iface_of (directory_of s.ifaces)) (in_order s.ifaces))
          n) (parent_law m k (found k within).0 show (found k within).1
          ∙ ap (parent_number (directory_of s.ifaces)) up) ∙ ends n
          in let chain : above (chain_within s.ifaces n) (parent_of s.ifaces k) ≡ [] =
          ap (above (chain_within s.ifaces n)) up
          in let parents : above (slots_within s.ifaces n) (parent_of s.ifaces k) ≡ [] =
          ap (above (slots_within s.ifaces n)) up
          in record {
            long = λ j. suc (length ((none ∙ sym chain) j));
            slots = sum_by-cons
                (valid.own_slots (map (iface_of (directory_of s.ifaces)) (in_order s.ifaces)))
                (suc m) (first_of_chain (map (iface_of (directory_of s.ifaces)) (in_order s.ifaces))
                n (valid.parent_of (map (iface_of (directory_of s.ifaces)) (in_order s.ifaces))
                (suc m)))
                ∙ (λ j. own_law m k (found k within).0 show (found k within).1 j + sum_by
                (valid.own_slots (map (iface_of (directory_of s.ifaces)) (in_order s.ifaces)))
                (none j))
                ∙ (let e : length (own_of s.ifaces k) + 0 ≡ length ([] ++ own_of s.ifaces k) =
                omega arith in e)
                ∙ sym (ap (λ ss. length (ss ++ own_of s.ifaces k)) parents);
          }
      go (Some p) up rest =
          let up_law : valid.parent_of (map (iface_of (directory_of s.ifaces)) (in_order s.ifaces))
          (suc m) ≡ number (directory_of s.ifaces) p =
          parent_law m k (found k within).0 show (found k within).1
          ∙ ap (parent_number (directory_of s.ifaces)) up
          in let more = rest p (parent_within k p (found k within).0 (found k within).1 up)
          in let chain : above (chain_within s.ifaces n) (parent_of s.ifaces k)
          ≡ chain_within s.ifaces n p = ap (above (chain_within s.ifaces n)) up
          in let parents : above (slots_within s.ifaces n) (parent_of s.ifaces k)
          ≡ slots_within s.ifaces n p = ap (above (slots_within s.ifaces n)) up
          in let own = own_law m k (found k within).0 show (found k within).1
          in let long : length
          (first_of_chain (map (iface_of (directory_of s.ifaces)) (in_order s.ifaces)) n
          (valid.parent_of (map (iface_of (directory_of s.ifaces)) (in_order s.ifaces))
          (suc m))) ≡ length (chain_within s.ifaces n p) =
          ap (λ u. length
          (first_of_chain (map (iface_of (directory_of s.ifaces)) (in_order s.ifaces)) n u))
          up_law ∙ more.long
          in let sum : sum_by
          (valid.own_slots (map (iface_of (directory_of s.ifaces)) (in_order s.ifaces)))
          (first_of_chain (map (iface_of (directory_of s.ifaces)) (in_order s.ifaces)) n
          (valid.parent_of (map (iface_of (directory_of s.ifaces)) (in_order s.ifaces))
          (suc m))) ≡ length (slots_within s.ifaces n p) =
          ap (λ u. sum_by
          (valid.own_slots (map (iface_of (directory_of s.ifaces)) (in_order s.ifaces)))
          (first_of_chain (map (iface_of (directory_of s.ifaces)) (in_order s.ifaces)) n u))
          up_law ∙ more.slots
          in record {
            long = ap suc (long ∙ sym (ap length chain));
            slots = omega (
              arith,
              sum_by-cons
                  (valid.own_slots (map (iface_of (directory_of s.ifaces)) (in_order s.ifaces)))
                  (suc m)
                  (first_of_chain (map (iface_of (directory_of s.ifaces)) (in_order s.ifaces)) n
                  (valid.parent_of (map (iface_of (directory_of s.ifaces)) (in_order s.ifaces))
                  (suc m))),
              own,
              sum,
              ap length parents,
              length-append
                  (above (slots_within s.ifaces n) (parent_of s.ifaces k)) (own_of s.ifaces k),
            );
          }

  chain_valid : ((k : ℕ) → k < length s.ifaces → has_too_many s.ifaces k ≡ false) → (m : ℕ)
      → m < length s.ifaces
      → IsChain (map (iface_of (directory_of s.ifaces)) (in_order s.ifaces)) (suc m)
  unfolding Shows
  chain_valid few m within =
      let inside : m < length (directory_of s.ifaces) =
      omega (arith, length_directory s.ifaces ok.named_once)
      in let k = get_or (directory_of s.ifaces) m 0
      in let below : k < length s.ifaces =
      all_by (λ x. x < length s.ifaces) (directory_of s.ifaces)
      (numbers_within s.ifaces ok.named_once) m 0 inside
      in let chain = same_chain 251 m k (shows_at s.ifaces ok.named_once m inside) below
      in record {
        short = omega (arith, chain.long, few_parents s.ifaces k (few k below));
        few_slots = omega (arith, chain.slots, few_slots s.ifaces k (few k below));
      }

  -- ---- interfaces

  parent_valid : (i : ScopeIface) → IsSoundIface s.ifaces i
      → IsParent (map (iface_of (directory_of s.ifaces)) (in_order s.ifaces))
      (parent_number (directory_of s.ifaces) i.parent)
  parent_valid i sound = go i.parent refl
    where
      go : (o : Option ℕ) → i.parent ≡ o
          → IsParent (map (iface_of (directory_of s.ifaces)) (in_order s.ifaces))
          (parent_number (directory_of s.ifaces) o)
      go None is = inl refl
      go (Some p) is =
          let h : IsSomeAnd (slice_get s.ifaces p) (λ q. IsTrue q.defined) =
          sound.accepted.extends p is
          in let inside : p < length s.ifaces =
          some_within (λ (o : ScopeIface). o.defined ≡ true) s.ifaces p h
          in let at = found p inside
          in let defined : at.0.defined ≡ true =
          subst (λ (o : Option ScopeIface). IsSomeAnd o (λ i. i.defined ≡ true)) at.1 h
          in let there : valid.body_of (map (iface_of (directory_of s.ifaces)) (in_order s.ifaces))
          (number (directory_of s.ifaces) p) ≡ Some (body_of (directory_of s.ifaces) at.0) =
          body_at (position_or_len (nat_eq p) (directory_of s.ifaces)) p at.0 (shown p inside)
          at.1 ∙ (λ j. if defined j then Some (body_of (directory_of s.ifaces) at.0) else None)
          in inr (subst (λ (o : Option Body). IsSome o) (sym there) refl)

  body_valid : (i : ScopeIface) → IsSoundIface s.ifaces i
      → ((m : ℕ) → is_wide_found (slice_get i.members m) ≡ false)
      → length (flat_map constants_of_member i.members) ≤ 65535
      → IsBody (map (iface_of (directory_of s.ifaces)) (in_order s.ifaces))
      (body_of (directory_of s.ifaces) i)
  body_valid i sound narrow few = record {
    parent = parent_valid i sound;
    methods =
        let each : AllByRecursion (IsMethod (length s.ifaces))
        (map (method_of (directory_of s.ifaces)) (own_slots i)) =
        mapped (λ (t : Slot). IsAcceptedSlot (length s.ifaces) t × (is_wide_slot t ≡ false))
        (IsMethod (length s.ifaces)) (method_of (directory_of s.ifaces))
        (λ t h. method_valid (directory_of s.ifaces) (length s.ifaces) numbers_them t h.0 h.1)
        (own_slots i)
        (together (IsAcceptedSlot (length s.ifaces)) (λ (t : Slot). is_wide_slot t ≡ false)
        (own_slots i) (iface_ok s.ifaces i sound) (narrow_slots i.members narrow))
        in subst (λ (n : ℕ).
        All (IsMethod n) (map (method_of (directory_of s.ifaces)) (own_slots i))) (sym many)
        (all_by (IsMethod (length s.ifaces))
        (map (method_of (directory_of s.ifaces)) (own_slots i)) each);
    few_constants = few;
    constants = all_by IsConstant (flat_map constants_of_member i.members)
        (constants_valid (length s.ifaces) i.members (members_named i sound.lawful)
        sound.accepted.members);
    flags = flags_known i.flags sound.accepted.flags;
  }

  iface_valid : (i : ScopeIface) → IsSoundIface s.ifaces i
      → ((m : ℕ) → is_wide_found (slice_get i.members m) ≡ false)
      → has_many_constants (iface_of (directory_of s.ifaces) i) ≡ false
      → IsIface (map (iface_of (directory_of s.ifaces)) (in_order s.ifaces))
      (iface_of (directory_of s.ifaces) i)
  iface_valid i sound narrow few = record {
    name = record {
      present = sound.lawful.named.text.present;
      short = sound.lawful.named.text.short;
      no_zero =
          sound.lawful.named.text.no_zero;
    };
    namespace = tt;
    iid = iid_long i.defined;
    body = go i.defined few;
  }
    where
      iid_long : (b : Bool) → length (if b then i.iid else zero_iid) ≡ 16
      iid_long true = sound.accepted.identifier
      iid_long false = refl

      go : (b : Bool)
          → nat_lt 65535
          (constant_count (if b then Some (body_of (directory_of s.ifaces) i) else None)) ≡ false
          → IfSome (if b then Some (body_of (directory_of s.ifaces) i) else None)
          (IsBody (map (iface_of (directory_of s.ifaces)) (in_order s.ifaces)))
      go true h = body_valid i sound narrow
          (ltb-false 65535 (length (flat_map constants_of_member i.members)) h)
      go false h = tt

  pub library_valid : KeepsLimits s → IsValid (library_of s)
  unfolding library_of
  library_valid limits =
      let items = no_first (nat_lt 1000000 (item_count (library_of s)))
      (list_any has_many_constants (map (iface_of (directory_of s.ifaces)) (in_order s.ifaces)))
      limits.few_items
      in let constants =
      no_second (nat_lt 1000000 (item_count (library_of s)))
      (list_any has_many_constants (map (iface_of (directory_of s.ifaces)) (in_order s.ifaces)))
      limits.few_items
      in let accepted : AllByRecursion (IsSoundIface s.ifaces) (in_order s.ifaces) =
      each_found (IsSoundIface s.ifaces) s.ifaces (directory_of s.ifaces) accepted_at
      in let narrow : AllByRecursion
      (λ (i : ScopeIface). (m : ℕ) → is_wide_found (slice_get i.members m) ≡ false)
      (in_order s.ifaces) =
      each_found (λ (i : ScopeIface). (m : ℕ) → is_wide_found (slice_get i.members m) ≡ false)
      s.ifaces (directory_of s.ifaces)
      (λ k i is m. sym
      (ap (λ (o : Option ScopeIface).
      is_wide_found (option_and_then (λ (h : ScopeIface). slice_get h.members m) o)) is)
      ∙ limits.narrow k m)
      in let few : AllByRecursion
      (λ (i : ScopeIface). has_many_constants (iface_of (directory_of s.ifaces) i) ≡ false)
      (in_order s.ifaces) =
      none_mapped has_many_constants (iface_of (directory_of s.ifaces)) (in_order s.ifaces)
      constants
      in let each =
      together (IsSoundIface s.ifaces)
      (λ (i : ScopeIface). ((m : ℕ) → is_wide_found (slice_get i.members m) ≡ false)
      × (has_many_constants (iface_of (directory_of s.ifaces) i) ≡ false)) (in_order s.ifaces)
      accepted (together
      (λ (i : ScopeIface). (m : ℕ) → is_wide_found (slice_get i.members m) ≡ false)
      (λ (i : ScopeIface). has_many_constants (iface_of (directory_of s.ifaces) i) ≡ false)
      (in_order s.ifaces) narrow few)
      in record {
        few = omega (arith, many, limits.few);
        ifaces = all_by (IsIface (map (iface_of (directory_of s.ifaces)) (in_order s.ifaces)))
            (map (iface_of (directory_of s.ifaces)) (in_order s.ifaces))
            (mapped (λ (i : ScopeIface).
            IsSoundIface s.ifaces i
            × (((m : ℕ) → is_wide_found (slice_get i.members m) ≡ false)
            × (has_many_constants (iface_of (directory_of s.ifaces) i) ≡ false)))
            (IsIface (map (iface_of (directory_of s.ifaces)) (in_order s.ifaces)))
            (iface_of (directory_of s.ifaces)) (λ i h. iface_valid i h.0 h.1.0 h.1.1)
            (in_order s.ifaces) each);
        chains = λ n above_none within. chains_from n above_none (omega (arith, many, within));
        few_items = ltb-false 1000000 (item_count (library_of s)) items;
      }
    where
      chains_from : (n : ℕ) → 0 < n → n ≤ length s.ifaces
          → IsChain (map (iface_of (directory_of s.ifaces)) (in_order s.ifaces)) n
      chains_from zero some within = absurd (omega arith)
      chains_from (suc m) some within = chain_valid limits.few_slots m (omega arith)
