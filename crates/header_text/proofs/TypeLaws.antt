-- The C++ type of an argument means its C type.
use Rattle.std.proofs.Common.{◌≡◌, ℕ, ◌<◌, Bool, true, false, cond, eqb, ◌||◌, List, [], ◌++◌, length, Option, Some, None, refl, sym, ap, subst, ◌∙◌, inl, inr, arith, length-append}
use Rattle.std.specs.Prelude.{codes}
use Rattle.std.specs.List.{list_all}
use Rattle.std.proofs.lemmas.Bool.{eqb-true}
use Rattle.std.proofs.lemmas.List.{append-nil, append_assoc}
use Rattle.std.proofs.lemmas.List.Folds.{list_all-append}
use Rattle.xp_base.specs.declared.kinds.Dir.{Dir}
use Rattle.call_model.specs.declared.ctypes.CType.{CType}
use Rattle.call_model.specs.declared.ctypes.CType.TheVariants as c
use Rattle.call_model.specs.declared.prototypes.Pass.{Pass}
use Rattle.call_model.specs.declared.prototypes.Pass.TheVariants.{ByValue, ByRef, ByCell}
use Rattle.call_model.specs.Prototype.{passed_type}
use Rattle.idl_meaning.specs.declared.scope.Meant.{Meant}
use Rattle.idl_meaning.specs.declared.scope.Meant.TheVariants as meant
use Rattle.idl_meaning.specs.declared.scope.ScopeIface.{ScopeIface}
use Rattle.idl_meaning.specs.declared.scope.ScopeParam.{ScopeParam}
use Rattle.idl_meaning.specs.Accepted.{IsMeant}
use Rattle.idl_meaning.specs.Faults.{is_in}
use Rattle.lib_model.specs.declared.tags.TheConstants as tags
use Rattle.lib_model.specs.Table.{type_of_tag}
use Rattle.prototype_lowering.specs.StaticTable.{c_type, pass_of}
use Rattle.line_words.specs.Words.{Word}
use Rattle.header_model.specs.Words.{IsName, IsPointer, IsType, type_word}
use Rattle.header_text.specs.Types.{base_alone, base_of, basic_base, class_type, name_at, pointer_to, referred_type, type_by, type_text}
use Rattle.header_text.proofs.NameLaws.{IsNameOf, name-made}

-- the interfaces of a scope have names
abbrev pub AreNames : List ScopeIface → Type 0
AreNames ifaces = (k : ℕ) → k < length ifaces → IsNameOf 255 (name_at ifaces k)

-- a name, and stars or none
record IsStarred (w : Word) : Type 0 where
  name : Word
  stars : Word
  is : w ≡ name ++ stars
  named : IsName name
  all : list_all (λ b. eqb b 42) stars ≡ true

-- what a star makes a pointer, and what means this type by itself
record IsBase (w : Word) (type : CType) : Type 0 where
  typed : IsType w type
  starred : IsStarred w

star-after : (stars : Word) → list_all (λ b. eqb b 42) stars ≡ true → list_all (λ b. eqb b 42) (stars ++ codes "*") ≡ true
star-after stars all = list_all-append (λ b. eqb b 42) stars (codes "*") ∙ rw all refl

pointed : (w : Word) → IsStarred w → IsPointer (pointer_to w)
pointed w s = (
  s.name,
  s.stars ++ codes "*",
  ap (λ v. v ++ codes "*") s.is ∙ append_assoc s.name s.stars (codes "*"),
  s.named,
  inl (omega (arith, length-append s.stars (codes "*")), star-after s.stars s.all),
)

pointer-base : (w : Word) → IsStarred w → IsBase (pointer_to w) c.Ptr
pointer-base w s = record {
  typed = inl (pointed w s);
  starred =
      record { name = s.name; stars = s.stars ++ codes "*"; is = ap (λ v. v ++ codes "*") s.is ∙ append_assoc s.name s.stars (codes "*"); named = s.named; all = star-after s.stars s.all };
}

name-base : (name : Word) → IsName name → IsBase (pointer_to name) c.Ptr
name-base name named =
    pointer-base name (record { name = name; stars = []; is = sym (append-nil name); named = named; all = refl })

named-word : (w : Word) → IsName w → IsStarred w
named-word w named = record { name = w; stars = []; is = sym (append-nil w); named = named; all = refl }

-- the word of each type
word-base : (t : CType) → IsBase (type_word t) t
word-base c.I8 = record { typed = refl; starred = named-word (type_word c.I8) refl }
word-base c.I16 = record { typed = refl; starred = named-word (type_word c.I16) refl }
word-base c.I32 = record { typed = refl; starred = named-word (type_word c.I32) refl }
word-base c.I64 = record { typed = refl; starred = named-word (type_word c.I64) refl }
word-base c.U8 = record { typed = refl; starred = named-word (type_word c.U8) refl }
word-base c.U16 = record { typed = refl; starred = named-word (type_word c.U16) refl }
word-base c.U32 = record { typed = refl; starred = named-word (type_word c.U32) refl }
word-base c.U64 = record { typed = refl; starred = named-word (type_word c.U64) refl }
word-base c.F32 = record { typed = refl; starred = named-word (type_word c.F32) refl }
word-base c.F64 = record { typed = refl; starred = named-word (type_word c.F64) refl }
word-base c.Bool = record { typed = refl; starred = named-word (type_word c.Bool) refl }
word-base c.Char = record { typed = refl; starred = named-word (type_word c.Char) refl }
word-base c.WChar = record { typed = refl; starred = named-word (type_word c.WChar) refl }
word-base c.Ptr = name-base (codes "void") refl

basic-is : (tag : ℕ) → IsBase (basic_base tag) (type_of_tag tag)
basic-is tag = by_string (eqb tag tags.STRING) refl
  where
    by_wide : (t : Bool) → eqb tag tags.WSTRING ≡ t → IsBase (cond t (codes "char16_t*") (type_word (type_of_tag tag))) (type_of_tag tag)
    by_wide true e = subst (λ k. IsBase (codes "char16_t*") (type_of_tag k)) (sym (eqb-true tag tags.WSTRING e)) (name-base (codes "char16_t") refl)
    by_wide false e = word-base (type_of_tag tag)

    by_string : (t : Bool) → eqb tag tags.STRING ≡ t
        → IsBase (cond t (codes "char*") (cond (eqb tag tags.WSTRING) (codes "char16_t*") (type_word (type_of_tag tag)))) (type_of_tag tag)
    by_string true e = subst (λ k. IsBase (codes "char*") (type_of_tag k)) (sym (eqb-true tag tags.STRING e)) (name-base (codes "char") refl)
    by_string false e = by_wide (eqb tag tags.WSTRING) refl

alone-is : (ifaces : List ScopeIface) (m : Meant) (iid : Option ℕ) → AreNames ifaces → IsMeant (length ifaces) m → IsBase (base_alone ifaces m iid) (c_type m)
alone-is ifaces (meant.Basic tag) iid names ok = basic-is tag
alone-is ifaces (meant.Iface k) None names ok = name-base (name_at ifaces k) (name-made 255 (name_at ifaces k) (omega arith) (names k ok))
alone-is ifaces (meant.Iface k) (Some iid) names ok = name-base (codes "void") refl
alone-is ifaces meant.NsidRef iid names ok = name-base (codes "nsID") refl
alone-is ifaces meant.NsidPtr iid names ok = name-base (codes "nsID") refl
alone-is ifaces (meant.StringClass tag) iid names ok = name-base (codes "void") refl
alone-is ifaces meant.JsVal iid names ok = name-base (codes "void") refl
alone-is ifaces (meant.Native name) iid names ok = name-base (codes "void") refl

base-is : (ifaces : List ScopeIface) (p : ScopeParam) → AreNames ifaces → IsMeant (length ifaces) p.ty
    → IsBase (base_of ifaces p) (cond p.array c.Ptr (c_type p.ty))
base-is ifaces p names ok = by_array p.array (alone-is ifaces p.ty p.iid names ok)
  where
    by_array : (t : Bool) → IsBase (base_alone ifaces p.ty p.iid) (c_type p.ty)
        → IsBase (cond t (pointer_to (base_alone ifaces p.ty p.iid)) (base_alone ifaces p.ty p.iid)) (cond t c.Ptr (c_type p.ty))
    by_array true base = pointer-base (base_alone ifaces p.ty p.iid) base.starred
    by_array false base = base

-- ---- references

class-is : (tag : ℕ) (dir : Dir) → IsType (class_type tag dir) c.Ptr
class-is tag dir = by_dir (is_in dir) (eqb tag tags.DOMSTRING || eqb tag tags.ASTRING)
  where
    wide : (wide : Bool) → IsPointer (cond wide (codes "nsAString&") (codes "nsACString&"))
    wide true = (codes "nsAString", codes "&", refl, refl, inr refl)
    wide false = (codes "nsACString", codes "&", refl, refl, inr refl)

    by_dir : (inward wide : Bool)
        → IsType (cond inward (codes "const " ++ cond wide (codes "nsAString&") (codes "nsACString&")) (cond wide (codes "nsAString&") (codes "nsACString&"))) c.Ptr
    by_dir true w = inr (cond w (codes "nsAString&") (codes "nsACString&"), refl, wide w)
    by_dir false w = inl (wide w)

void-is : IsType (codes "void*") c.Ptr
void-is = (name-base (codes "void") refl).typed

referred-is : (m : Meant) (dir : Dir) → IsType (referred_type m dir) c.Ptr
referred-is (meant.Basic tag) dir = void-is
referred-is (meant.Iface k) dir = void-is
referred-is meant.NsidRef dir = inr (codes "nsID&", refl, (codes "nsID", codes "&", refl, refl, inr refl))
referred-is meant.NsidPtr dir = inr (codes "nsID*", refl, (codes "nsID", codes "*", refl, refl, inl (omega arith, refl)))
referred-is (meant.StringClass tag) dir = class-is tag dir
referred-is meant.JsVal dir = void-is
referred-is (meant.Native name) dir = void-is

-- ---- types

pub type-is : (ifaces : List ScopeIface) (p : ScopeParam) → AreNames ifaces → IsMeant (length ifaces) p.ty
    → IsType (type_text ifaces p) (passed_type (pass_of p) (cond p.array c.Ptr (c_type p.ty)))
type-is ifaces p names ok = by_pass (pass_of p) (base-is ifaces p names ok)
  where
    by_pass : (pass : Pass) → IsBase (base_of ifaces p) (cond p.array c.Ptr (c_type p.ty))
        → IsType (type_by ifaces p pass) (passed_type pass (cond p.array c.Ptr (c_type p.ty)))
    by_pass ByValue base = base.typed
    by_pass ByRef base = referred-is p.ty p.dir
    by_pass (ByCell inward) base = (pointer-base (base_of ifaces p) base.starred).typed
