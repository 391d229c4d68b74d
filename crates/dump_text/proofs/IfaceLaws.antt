-- What the views of an interface say of its lines.
use Rattle.std.proofs.Common.{◌≡◌, ℕ, zero, suc, ◌+◌, true, false, List, [], ◌∷◌, ◌++◌, Option, Some, None, refl, sym, ap, ◌∙◌}
use Rattle.std.specs.Prelude.{codes, is_some, option_and_then}
use Rattle.std.specs.List.{enumerate_from, flat_map}
use Rattle.call_model.specs.Tables.{end_slot, first_slot}
use Rattle.lib_model.specs.declared.contents.Library.{Library}
use Rattle.lib_model.specs.declared.contents.Iface.{Iface}
use Rattle.lib_model.specs.declared.contents.Body.{Body}
use Rattle.lib_model.specs.declared.contents.Method.{Method}
use Rattle.lib_model.specs.Table.{methods_in, table_of}
use Rattle.lib_model.specs.Valid.{body_of, parent_in}
use Rattle.descriptor_reader.specs.Views.{IfaceOf, MethodOf, constants_in, flags_in, iface_of, in_slots, nth_iface, own_constants_of, own_methods_of}
use Rattle.dump_text.specs.Lines.{spaced}
use Rattle.dump_text.specs.Listing.{body_words, constant_line, member_lines, method_line}
use Rattle.dump_text.specs.Words.{iface_word, number}
use Rattle.dump_text.specs.declared.lines.TheConstants.{SPACE}
use Rattle.dump_text.proofs.RowLaws.{seven_spaced}

body_at : (ifaces : List Iface) (number : ℕ) (i : Iface) → nth_iface ifaces number ≡ Some i → body_of ifaces number ≡ i.body
body_at ifaces zero i is = cc
body_at ifaces (suc k) i is = ap (option_and_then (λ (i : Iface). i.body)) is

pub body_is : (v : IfaceOf) (i : Iface) → iface_of v ≡ Some i → body_of v.library.ifaces v.number ≡ i.body
body_is v i is = body_at v.library.ifaces v.number i is

pub words_resolved : (lib : Library) (k : ℕ) (body : Option Body) → is_some body ≡ true
    → codes "parent" ∷ number (parent_in body) ∷ codes "slots" ∷ number (first_slot (table_of lib) k) ∷ number (end_slot (table_of lib) k) ∷ codes "flags" ∷ iface_word (flags_in body) ∷ [] ≡ body_words lib k body
words_resolved lib k None is = cc
words_resolved lib k (Some b) is = refl

pub words_unresolved : (lib : Library) (k : ℕ) (body : Option Body) → is_some body ≡ false → codes "unresolved" ∷ [] ≡ body_words lib k body
words_unresolved lib k None is = refl
words_unresolved lib k (Some b) is = cc

-- what is added to a line for a body that is resolved
pub resolved_text : (lib : Library) (k : ℕ) (body other : Option Body) (text parent first end flags : List ℕ) → body ≡ other → is_some body ≡ true
    → parent ≡ number (parent_in body) → first ≡ number (first_slot (table_of lib) k) → end ≡ number (end_slot (table_of lib) k) → flags ≡ iface_word (flags_in body)
    → ((((((text ++ SPACE ∷ codes "parent") ++ SPACE ∷ parent) ++ SPACE ∷ codes "slots") ++ SPACE ∷ first) ++ SPACE ∷ end) ++ SPACE ∷ codes "flags") ++ SPACE ∷ flags ≡ text ++ spaced (body_words lib k other)
resolved_text lib k body other text parent first end flags same some is_parent is_first is_end is_flags =
    rw (is_parent, is_first, is_end, is_flags)
    (seven_spaced text (codes "parent") (number (parent_in body)) (codes "slots") (number (first_slot (table_of lib) k)) (number (end_slot (table_of lib) k)) (codes "flags") (iface_word (flags_in body))
    ∙ ap (λ words. text ++ spaced words) (words_resolved lib k body some ∙ ap (body_words lib k) same))

-- and for one that is not
pub unresolved_text : (lib : Library) (k : ℕ) (body other : Option Body) (text : List ℕ) → body ≡ other → is_some body ≡ false → text ++ SPACE ∷ codes "unresolved" ≡ text ++ spaced (body_words lib k other)
unresolved_text lib k body other text same none =
    ap (λ words. text ++ spaced words) (words_unresolved lib k body none ∙ ap (body_words lib k) same)

-- the line of a method in its slot
abbrev pub slot_line : MethodOf → List ℕ
slot_line m = method_line m.slot m.method

lines_in_slots : (lib : Library) (slot : ℕ) (methods : List Method) → flat_map slot_line (in_slots lib slot methods) ≡ flat_map (λ m. method_line m.0 m.1) (enumerate_from slot methods)
lines_in_slots lib slot [] = refl
lines_in_slots lib slot (m ∷ methods) = ap (λ more. method_line slot m ++ more) (lines_in_slots lib (slot + 1) methods)

lines_in_body : (lib : Library) (k : ℕ) (body : Option Body)
    → flat_map slot_line (in_slots lib (first_slot (table_of lib) k) (methods_in body)) ++ flat_map constant_line (constants_in body) ≡ member_lines lib k body
lines_in_body lib k None = refl
lines_in_body lib k (Some b) = ap (λ lines. lines ++ flat_map constant_line b.constants) (lines_in_slots lib (first_slot (table_of lib) k) b.methods)

-- the lines of an interface's own members
pub lines_of_members : (v : IfaceOf) (i : Iface) → iface_of v ≡ Some i → flat_map slot_line (own_methods_of v) ++ flat_map constant_line (own_constants_of v) ≡ member_lines v.library v.number i.body
lines_of_members v i is =
    ap (λ body. flat_map slot_line (in_slots v.library (first_slot (table_of v.library) v.number) (methods_in body)) ++ flat_map constant_line (constants_in body)) (body_is v i is) ∙ lines_in_body v.library v.number i.body

-- the same, of an interface that is given with its number
pub members_numbered : (v : IfaceOf) (i : Iface) (k : ℕ) → iface_of v ≡ Some i → k ≡ v.number
    → member_lines v.library k i.body ≡ flat_map slot_line (own_methods_of v) ++ flat_map constant_line (own_constants_of v)
members_numbered v i k is numbered = ap (λ number. member_lines v.library number i.body) numbered ∙ sym (lines_of_members v i is)
