-- What is read off a lowered type is what the written type means.
use Rattle.std.proofs.Common.{◌≡◌, ℕ, List, ◌==◌, ◌||◌, ◌&&◌, not, Bool, true, false, Option, Some, None, IsTrue, is_none, refl, sym, ap, ◌∙◌, arith, true≢false, if◌then◌else◌}
use Rattle.call_model.specs.declared.ctypes.CType.TheVariants as c
use Rattle.idl_meaning.specs.declared.scope.Meant.{Meant}
use Rattle.idl_meaning.specs.declared.scope.Meant.TheVariants as meant
use Rattle.idl_meaning.specs.declared.scope.ScopeParam.{ScopeParam}
use Rattle.idl_meaning.specs.Accepted.{IsMeant, is_basic_tag, is_class_tag}
use Rattle.idl_meaning.specs.Meaning.{is_class, is_iid}
use Rattle.lib_model.specs.declared.param_types.XType.{XType}
use Rattle.lib_model.specs.declared.param_types.XType.TheVariants as types
use Rattle.lib_model.specs.Table.{elem_type, is_opaque, is_opaque_elem, is_opaque_tag, is_string_class, type_of_tag}
use Rattle.lib_model.specs.Table as table
use Rattle.lib_model.specs.Valid.{tag_of}
use Rattle.prototype_lowering.specs.Lowering.{alone, elem_of, iface_elem, length_of, native_elem, size_of, sized_type, type_alone, type_of}
use Rattle.prototype_lowering.specs.StaticTable as static

-- ---- tags

-- a tag that passes a test is not one that fails it
pub differs : (f : ℕ → Bool) (tag n : ℕ) → f tag ≡ true → f n ≡ false → (tag == n) ≡ false
differs f tag n passes fails = go (tag == n) refl
  where
    go : (b : Bool) → (tag == n) ≡ b → (tag == n) ≡ false
    go false h = h
    go true h = absurd
        (let same : tag ≡ n = grind (arith, h) in true≢false (sym passes ∙ ap f same ∙ fails))

pub passed : (b : Bool) → IsTrue b → b ≡ true
passed b h = h

no_class_tag : (tag : ℕ) → is_basic_tag tag ≡ true → is_string_class tag ≡ false
no_class_tag tag basic =
    λ j. differs is_basic_tag tag 15 basic refl j || differs is_basic_tag tag 23 basic refl j ||
    differs is_basic_tag tag 24 basic refl j || differs is_basic_tag tag 25 basic refl j

no_opaque_tag : (tag : ℕ) → is_basic_tag tag ≡ true → is_opaque_tag tag ≡ false
no_opaque_tag tag basic =
    λ j. differs is_basic_tag tag 13 basic refl j || differs is_basic_tag tag 26 basic refl j

class_not_opaque : (tag : ℕ) → is_class_tag tag ≡ true → is_opaque_tag tag ≡ false
class_not_opaque tag class =
    λ j. differs is_class_tag tag 13 class refl j || differs is_class_tag tag 26 class refl j

-- a tag of a string class has the C type of an address
class_type : (tag : ℕ) → is_class_tag tag ≡ true → type_of_tag tag ≡ c.Ptr
class_type tag class = go (tag == 15) (tag == 23) (tag == 24) (tag == 25) refl refl refl refl class
  where
    at : (n : ℕ) → (tag == n) ≡ true → type_of_tag n ≡ c.Ptr → type_of_tag tag ≡ c.Ptr
    at n h is = let same : tag ≡ n = grind (arith, h) in ap type_of_tag same ∙ is

    go : (a b d e : Bool) → (tag == 15) ≡ a → (tag == 23) ≡ b → (tag == 24) ≡ d → (tag == 25) ≡ e
        → (a || b || d || e) ≡ true → type_of_tag tag ≡ c.Ptr
    go true b d e h i j k one = at 15 h refl
    go false true d e h i j k one = at 23 i refl
    go false false true e h i j k one = at 24 j refl
    go false false false true h i j k one = at 25 k refl
    go false false false false h i j k one = absurd (true≢false (sym one))

-- ---- sized strings

-- under any reading that at a tag alone is g
sized_as : {X : Type 0} (f : XType → X) (g : ℕ → X) (len : ℕ)
    → ((tag : ℕ) → f (types.Plain tag) ≡ g tag)
    → ((size : ℕ) → f (types.SizedString size len) ≡ g 16)
    → ((size : ℕ) → f (types.SizedWString size len) ≡ g 17) → (tag : ℕ) (size : Option ℕ)
    → f (sized_type tag size len) ≡ g tag
sized_as f g len plain narrow wide tag None = plain tag
sized_as {X} f g len plain narrow wide tag (Some size) = go (tag == 16) (tag == 17) refl refl
  where
    go : (a b : Bool) → (tag == 16) ≡ a → (tag == 17) ≡ b
        → f (if a then types.SizedString size len else if b then types.SizedWString size len
        else types.Plain tag) ≡ g tag
    go true b h i = narrow size ∙ ap g (let same : 16 ≡ tag = grind (arith, h) in same)
    go false true h i = wide size ∙ ap g (let same : 17 ≡ tag = grind (arith, i) in same)
    go false false h i = plain tag

-- ---- one type

-- whether it is a string class
pub class_law : (d : List ℕ) (p : ScopeParam) (count : ℕ) → IsMeant count p.ty
    → (p.array ≡ true → is_class p.ty ≡ false) → is_string_class (tag_of (type_of d p))
    ≡ is_class p.ty
class_law d p count meaning no_class = go p.array refl
  where
    iface : (k : ℕ) (o : Option ℕ) → is_string_class (tag_of (alone (iface_elem d k o))) ≡ false
    iface k None = refl
    iface k (Some iid) = refl

    native : (o : Option ℕ) → is_string_class (tag_of (alone (native_elem o))) ≡ false
    native None = refl
    native (Some iid) = refl

    by : (m : Meant) → IsMeant count m → is_string_class (tag_of (type_alone d p m)) ≡ is_class m
    by (meant.Basic tag) h =
        sized_as (λ t. is_string_class (tag_of t)) is_string_class (length_of p) (λ tag. refl)
        (λ size. refl) (λ size. refl) tag p.size ∙ no_class_tag tag (passed (is_basic_tag tag) h)
    by (meant.Iface k) h = iface k p.iid
    by meant.NsidRef h = refl
    by meant.NsidPtr h = refl
    by (meant.StringClass tag) h = passed (is_class_tag tag) h
    by meant.JsVal h = refl
    by (meant.Native name) h = native p.iid

    go : (b : Bool) → p.array ≡ b
        → is_string_class
        (tag_of (if b then types.Array (size_of p) (length_of p) (elem_of d p.ty p.iid)
        else type_alone d p p.ty)) ≡ is_class p.ty
    go true h = sym (no_class h)
    go false h = by p.ty meaning

-- whether it is an identifier
pub iid_law : (d : List ℕ) (p : ScopeParam) (count : ℕ) → IsMeant count p.ty
    → (tag_of (type_of d p) == 14) ≡ (is_iid p.ty && not p.array)
iid_law d p count meaning = go p.array
  where
    iface : (k : ℕ) (o : Option ℕ) → (tag_of (alone (iface_elem d k o)) == 14) ≡ false
    iface k None = refl
    iface k (Some iid) = refl

    native : (o : Option ℕ) → (tag_of (alone (native_elem o)) == 14) ≡ false
    native None = refl
    native (Some iid) = refl

    by : (m : Meant) → IsMeant count m → (tag_of (type_alone d p m) == 14) ≡ is_iid m
    by (meant.Basic tag) h =
        sized_as (λ t. tag_of t == 14) (λ tag. tag == 14) (length_of p) (λ tag. refl) (λ size. refl)
        (λ size. refl) tag p.size ∙ differs is_basic_tag tag 14 (passed (is_basic_tag tag) h) refl
    by (meant.Iface k) h = iface k p.iid
    by meant.NsidRef h = refl
    by meant.NsidPtr h = refl
    by (meant.StringClass tag) h = differs is_class_tag tag 14 (passed (is_class_tag tag) h) refl
    by meant.JsVal h = refl
    by (meant.Native name) h = native p.iid

    and_true : (a : Bool) → a ≡ (a && true)
    and_true true = refl
    and_true false = refl

    and_false : (a : Bool) → false ≡ (a && false)
    and_false true = refl
    and_false false = refl

    go : (b : Bool)
        → (tag_of (if b then types.Array (size_of p) (length_of p) (elem_of d p.ty p.iid)
        else type_alone d p p.ty) == 14) ≡ (is_iid p.ty && not b)
    go true = and_false (is_iid p.ty)
    go false = by p.ty meaning ∙ and_true (is_iid p.ty)

-- its C type, and that of an element
pub elem_law : (d : List ℕ) (m : Meant) (iid : Option ℕ) (count : ℕ) → IsMeant count m
    → elem_type (elem_of d m iid) ≡ static.c_type m
elem_law d (meant.Basic tag) iid count h = refl
elem_law d (meant.Iface k) None count h = refl
elem_law d (meant.Iface k) (Some iid) count h = refl
elem_law d meant.NsidRef iid count h = refl
elem_law d meant.NsidPtr iid count h = refl
elem_law d (meant.StringClass tag) iid count h = class_type tag (passed (is_class_tag tag) h)
elem_law d meant.JsVal iid count h = refl
elem_law d (meant.Native name) None count h = refl
elem_law d (meant.Native name) (Some iid) count h = refl

pub type_law : (d : List ℕ) (p : ScopeParam) (count : ℕ) → IsMeant count p.ty
    → table.c_type (type_of d p) ≡ (if p.array then c.Ptr else static.c_type p.ty)
type_law d p count meaning = go p.array
  where
    iface : (k : ℕ) (o : Option ℕ) → table.c_type (alone (iface_elem d k o)) ≡ c.Ptr
    iface k None = refl
    iface k (Some iid) = refl

    native : (o : Option ℕ) → table.c_type (alone (native_elem o)) ≡ c.Ptr
    native None = refl
    native (Some iid) = refl

    by : (m : Meant) → IsMeant count m → table.c_type (type_alone d p m) ≡ static.c_type m
    by (meant.Basic tag) h =
        sized_as table.c_type type_of_tag (length_of p) (λ tag. refl) (λ size. refl) (λ size. refl)
        tag p.size
    by (meant.Iface k) h = iface k p.iid
    by meant.NsidRef h = refl
    by meant.NsidPtr h = refl
    by (meant.StringClass tag) h = class_type tag (passed (is_class_tag tag) h)
    by meant.JsVal h = refl
    by (meant.Native name) h = native p.iid

    go : (b : Bool)
        → table.c_type
        (if b then types.Array (size_of p) (length_of p) (elem_of d p.ty p.iid)
        else type_alone d p p.ty) ≡ (if b then c.Ptr else static.c_type p.ty)
    go true = refl
    go false = by p.ty meaning

-- whether no call can pass it
pub opaque_law : (d : List ℕ) (p : ScopeParam) (count : ℕ) → IsMeant count p.ty
    → (p.array ≡ true → is_class p.ty ≡ false) → is_opaque (type_of d p) ≡ static.is_opaque p
opaque_law d p count meaning no_class = go p.array refl
  where
    iface : (k : ℕ) (o : Option ℕ) → is_opaque (alone (iface_elem d k o)) ≡ false
    iface k None = refl
    iface k (Some iid) = refl

    native : (o : Option ℕ) → is_opaque (alone (native_elem o)) ≡ is_none o
    native None = refl
    native (Some iid) = refl

    by : (m : Meant) → IsMeant count m → is_opaque (type_alone d p m)
        ≡ static.is_opaque_meaning m p.iid
    by (meant.Basic tag) h = go_sized p.size
      where
        none : is_opaque_tag tag ≡ false
        none = no_opaque_tag tag (passed (is_basic_tag tag) h)

        go_sized : (o : Option ℕ) → is_opaque (sized_type tag o (length_of p)) ≡ false
        go_sized None = none
        go_sized (Some size) = tagged (tag == 16) (tag == 17)
          where
            tagged : (a b : Bool)
                → is_opaque (if a then types.SizedString size (length_of p) else if b
                then types.SizedWString size (length_of p) else types.Plain tag) ≡ false
            tagged true b = refl
            tagged false true = refl
            tagged false false = none
    by (meant.Iface k) h = iface k p.iid
    by meant.NsidRef h = refl
    by meant.NsidPtr h = refl
    by (meant.StringClass tag) h = class_not_opaque tag (passed (is_class_tag tag) h)
    by meant.JsVal h = refl
    by (meant.Native name) h = native p.iid

    iface_in : (k : ℕ) (o : Option ℕ) → is_opaque_elem (iface_elem d k o) ≡ false
    iface_in k None = refl
    iface_in k (Some iid) = refl

    native_in : (o : Option ℕ) → is_opaque_elem (native_elem o) ≡ is_none o
    native_in None = refl
    native_in (Some iid) = refl

    inside : (m : Meant) → IsMeant count m → is_class m ≡ false → is_opaque_elem (elem_of d m p.iid)
        ≡ static.is_opaque_meaning m p.iid
    inside (meant.Basic tag) h not_class =
        λ j. no_opaque_tag tag (passed (is_basic_tag tag) h) j || no_class_tag tag
        (passed (is_basic_tag tag) h) j
    inside (meant.Iface k) h not_class = iface_in k p.iid
    inside meant.NsidRef h not_class = refl
    inside meant.NsidPtr h not_class = refl
    inside (meant.StringClass tag) h not_class = absurd (true≢false not_class)
    inside meant.JsVal h not_class = refl
    inside (meant.Native name) h not_class = native_in p.iid

    go : (b : Bool) → p.array ≡ b
        → is_opaque (if b then types.Array (size_of p) (length_of p) (elem_of d p.ty p.iid)
        else type_alone d p p.ty) ≡ static.is_opaque p
    go true h = inside p.ty meaning (no_class h)
    go false h = by p.ty meaning
