-- Each line of the header of an accepted scope says what it is to say.
use Rattle.std.proofs.Common.{◌≡◌, ℕ, ◌+◌, ◌<◌, ◌≤◌, List, [], ◌∷◌, ◌++◌, length, map, Option, Some, None, refl, sym, ap, subst, ◌∙◌, arith}
use Rattle.std.specs.Prelude.{codes, option_map}
use Rattle.std.specs.List.{AllByRecursion, enumerate_from, flat_map}
use Rattle.std.proofs.lemmas.List.{append_assoc}
use Rattle.call_model.specs.declared.prototypes.Status.{Status}
use Rattle.call_model.specs.declared.prototypes.Status.TheVariants.{Callable, Hidden, NotXpcom, Opaque}
use Rattle.idl_meaning.specs.declared.scope.Scope.{Scope}
use Rattle.idl_meaning.specs.declared.scope.ScopeIface.{ScopeIface}
use Rattle.vtable_layout.specs.Slots.{Slot, inherited, own_of, parent_of}
use Rattle.prototype_lowering.specs.StaticTable.{status_of}
use Rattle.line_words.specs.Words.{Each, Word}
use Rattle.header_model.specs.declared.lines.Line.{Line}
use Rattle.header_model.specs.declared.lines.Line.TheVariants as lines
use Rattle.header_model.specs.Lines.{IsForm, IsLine, lines_of}
use Rattle.header_model.specs.Words.{IsName}
use Rattle.header_model.proofs.Lacking.{form_lacks}
use Rattle.header_model.proofs.TextLines.{lines_first}
use Rattle.header_text.specs.Types.{name_at}
use Rattle.header_text.specs.Order.{definitions_of}
use Rattle.header_text.specs.Header.{arguments_text, class_line, class_lines, ended, forward_line, header_lines, header_text, line_by, slot_line}
use Rattle.header_text.proofs.NameLaws.{IsNameOf, member-name, name-made, small-digits}
use Rattle.header_text.proofs.TypeLaws.{AreNames}
use Rattle.header_text.proofs.ArgumentLaws.{IsTold, arguments-are}
use Rattle.header_text.proofs.Said.{class_said, forward_said, header_said, said_by, said_of}

-- ---- a text that is made of lines falls into these lines

lines-said : (ws : List Word) (said : List Line) → Each IsForm ws said → Each IsLine (lines_of (flat_map ended ws)) said
unfolding lines_of
lines-said [] said each = each
lines-said (w ∷ ws) [] each = absurd each
lines-said (w ∷ ws) (line ∷ said) each =
    let split : lines_of (flat_map ended (w ∷ ws)) ≡ (w ++ 10 ∷ []) ∷ lines_of (flat_map ended ws) =
    ap lines_of (append_assoc w (10 ∷ []) (flat_map ended ws)) ∙ lines_first w (flat_map ended ws) (form_lacks w line each.0) in
    subst (λ v. Each IsLine v (line ∷ said)) (sym split) ((w, refl, each.0), lines-said ws said each.1)

each-append : (ws vs : List Word) (xs ys : List Line) → Each IsForm ws xs → Each IsForm vs ys → Each IsForm (ws ++ vs) (xs ++ ys)
each-append [] vs xs ys one two = subst (λ zs. Each IsForm vs (zs ++ ys)) (sym one) two
each-append (w ∷ ws) vs [] ys one two = absurd one
each-append (w ∷ ws) vs (x ∷ xs) ys one two = (one.0, each-append ws vs xs ys one.1 two)

-- ---- slots

-- what is known of a slot: its name, and its parameters
pub record IsToldSlot (ifaces : List ScopeIface) (s : Slot) : Type 0 where
  pub named : IsNameOf 255 s.name
  pub params : AllByRecursion (IsTold ifaces s.kind) s.params
  pub narrow : length s.params ≤ 255

slot-form : (ifaces : List ScopeIface) (n : ℕ) (s : Slot) (st : Status) → AreNames ifaces → n < 260 → IsToldSlot ifaces s
    → IsForm (line_by st ifaces (n, s)) (said_by st ifaces (n, s))
unfolding arguments_text
slot-form ifaces n s Callable names few told =
    (_, refl, name-made 258 _ (omega arith) (member-name s.kind s.name told.named), arguments-are ifaces s names told.params told.narrow)
slot-form ifaces n s Hidden names few told = (refl, (small-digits n few).digits)
slot-form ifaces n s NotXpcom names few told = (refl, (small-digits n few).digits)
slot-form ifaces n s Opaque names few told = (refl, (small-digits n few).digits)

slots-forms : (ifaces : List ScopeIface) (n : ℕ) (ss : List Slot) → AreNames ifaces → n + length ss ≤ 250 → AllByRecursion (IsToldSlot ifaces) ss
    → Each IsForm (map (slot_line ifaces) (enumerate_from n ss)) (map (said_of ifaces) (enumerate_from n ss))
slots-forms ifaces n [] names few told = refl
slots-forms ifaces n (s ∷ ss) names few told =
    (slot-form ifaces n s (status_of s) names (omega (arith, few)) told.0, slots-forms ifaces (n + 1) ss names (omega (arith, few)) told.1)

-- ---- classes

-- what is known of a class: its name and its parent's, and its slots
pub record IsToldClass (ifaces : List ScopeIface) (k : ℕ) : Type 0 where
  pub within : k < length ifaces
  pub parent : (p : ℕ) → parent_of ifaces k ≡ Some p → p < length ifaces
  pub room : length (inherited ifaces k) + length (own_of ifaces k) ≤ 250
  pub slots : AllByRecursion (IsToldSlot ifaces) (own_of ifaces k)

named-at : (ifaces : List ScopeIface) (k : ℕ) → AreNames ifaces → k < length ifaces → IsName (name_at ifaces k)
named-at ifaces k names within = name-made 255 (name_at ifaces k) (omega arith) (names k within)

class-form : (ifaces : List ScopeIface) (k : ℕ) (o : Option ℕ) → AreNames ifaces → k < length ifaces → ((p : ℕ) → o ≡ Some p → p < length ifaces)
    → IsForm (class_line ifaces (name_at ifaces k) o) (lines.Class (name_at ifaces k) (option_map (name_at ifaces) o))
class-form ifaces k None names within above = (refl, named-at ifaces k names within)
class-form ifaces k (Some p) names within above = (refl, named-at ifaces k names within, named-at ifaces p names (above p refl))

class-forms : (ifaces : List ScopeIface) (k : ℕ) → AreNames ifaces → IsToldClass ifaces k → Each IsForm (class_lines ifaces k) (class_said ifaces k)
unfolding class_lines
class-forms ifaces k names told = (
  class-form ifaces k (parent_of ifaces k) names told.within told.parent,
  (
    refl,
    each-append (map (slot_line ifaces) (enumerate_from (length (inherited ifaces k)) (own_of ifaces k))) (codes "};" ∷ []) _ (lines.Close ∷ [])
        (slots-forms ifaces (length (inherited ifaces k)) (own_of ifaces k) names told.room told.slots) (refl, refl),
  ),
)

classes-forms : (ifaces : List ScopeIface) (ks : List ℕ) → AreNames ifaces → AllByRecursion (IsToldClass ifaces) ks
    → Each IsForm (flat_map (class_lines ifaces) ks) (flat_map (class_said ifaces) ks)
classes-forms ifaces [] names told = refl
classes-forms ifaces (k ∷ ks) names told =
    each-append (class_lines ifaces k) (flat_map (class_lines ifaces) ks) (class_said ifaces k) (flat_map (class_said ifaces) ks)
    (class-forms ifaces k names told.0) (classes-forms ifaces ks names told.1)

-- ---- the header

forwards-forms : (is : List ScopeIface) → AllByRecursion (λ i. IsNameOf 255 i.name) is → Each IsForm (map forward_line is) (map forward_said is)
forwards-forms [] names = refl
forwards-forms (i ∷ is) names = ((i.name, refl, name-made 255 i.name (omega arith) names.0), forwards-forms is names.1)

pub header-forms : (s : Scope) → AreNames s.ifaces → AllByRecursion (λ i. IsNameOf 255 i.name) s.ifaces → AllByRecursion (IsToldClass s.ifaces) (definitions_of s.ifaces)
    → Each IsLine (lines_of (header_text s)) (header_said s)
unfolding header_text
header-forms s names named told =
    lines-said (header_lines s) (header_said s)
    (each-append (map forward_line s.ifaces) (flat_map (class_lines s.ifaces) (definitions_of s.ifaces)) (map forward_said s.ifaces)
    (flat_map (class_said s.ifaces) (definitions_of s.ifaces)) (forwards-forms s.ifaces named) (classes-forms s.ifaces (definitions_of s.ifaces) names told))
