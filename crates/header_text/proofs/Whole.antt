-- The parts of a header are the whole.
use Rattle.std.proofs.Common.{◌≡◌, ℕ, ◌+◌, ◌<◌, ◌≤◌, List, [], ◌∷◌, ◌++◌, codes, length, get_or, slice_index, map, Some, Err, refl, sym, ap, ◌∙◌, arith, option_and_then, append_assoc, length-append, slice_get}
use Rattle.std.specs.Prelude.{IsErrOf}
use Rattle.std.specs.List.{enumerate_from, flat_map}
use Rattle.std.specs.Option.{option_map_or}
use Rattle.std.proofs.lemmas.List.Concat.{flat_map-append}
use Rattle.std.proofs.lemmas.List.Folds.{flat_map-map}
use Rattle.std.proofs.lemmas.Option.{slice_get_read}
use Rattle.idl_meaning.specs.declared.scope.Scope.{Scope}
use Rattle.idl_meaning.specs.declared.scope.ScopeIface.{ScopeIface}
use Rattle.vtable_layout.specs.declared.slot_numbers.Slots.{Slots}
use Rattle.vtable_layout.specs.Layout.{AreSlotsOf}
use Rattle.vtable_layout.specs.Slots.{inherited, own_in, own_of, own_slots, parent_of, slots_of_member}
use Rattle.vtable_layout.proofs.Climbing.{few_slots, parts}
use Rattle.header_text.specs.declared.errors.HeaderWriteError.{HeaderWriteError}
use Rattle.header_text.specs.Types.{name_at}
use Rattle.header_text.specs.Order.{definitions_of}
use Rattle.header_text.specs.Header.{class_line, class_lines, ended, forward_line, header_text, slot_line}
use Rattle.header_text.specs.Parts.{class_text, classes_text, forwards_text, slots_text}

-- ---- a class

-- the own slots, behind those of the parent, are not too many
pub few_own : (ifaces : List ScopeIface) (slots : Slots) (k first : ℕ) (i : ScopeIface)
    → AreSlotsOf ifaces slots → k < length ifaces → i ≡ get_or ifaces k i
    → first ≡ slice_index slots.first k
    → first + length (flat_map slots_of_member i.members) ≤ 250
few_own ifaces slots k first i are within is read =
    let own : own_of ifaces k ≡ own_slots i =
    ap own_in (slice_get_read ifaces (length ifaces) k i refl within is)
    in omega (
      arith,
      read,
      are.first.each k within,
      few_slots ifaces k (are.few k within),
      ap length (parts ifaces k (are.few k within)),
      length-append (inherited ifaces k) (own_of ifaces k),
      ap length own,
    )

class_parts : (ifaces : List ScopeIface) (k : ℕ) → class_text ifaces k
    ≡ ended (class_line ifaces (name_at ifaces k) (parent_of ifaces k)) ++ (codes " public:\n"
    ++ (slots_text ifaces (length (inherited ifaces k)) (own_of ifaces k) ++ codes "};\n"))
unfolding class_lines
class_parts ifaces k =
    ap (λ t. ended (class_line ifaces (name_at ifaces k) (parent_of ifaces k))
    ++ (codes " public:\n" ++ t))
    (flat_map-append ended
    (map (slot_line ifaces) (enumerate_from (length (inherited ifaces k)) (own_of ifaces k)))
    (codes "};" ∷ []))

-- a class that is written part by part
pub class_made : (ifaces : List ScopeIface) (slots : Slots) (k first : ℕ) (i : ScopeIface)
    → AreSlotsOf ifaces slots → k < length ifaces → i ≡ get_or ifaces k i
    → first ≡ slice_index slots.first k
    → (text line begun opened filled : List ℕ)
    → line ≡ class_line ifaces i.name i.parent → begun ≡ text ++ ended line
    → opened ≡ begun ++ codes " public:\n"
    → filled ≡ opened ++ slots_text ifaces first (flat_map slots_of_member i.members)
    → filled ++ codes "};\n" ≡ text ++ class_text ifaces k
class_made ifaces slots k first i are within is read text line begun opened filled l b o f =
    let found : slice_get ifaces k ≡ Some i =
    slice_get_read ifaces (length ifaces) k i refl within is
    in let head = ended (class_line ifaces (name_at ifaces k) (parent_of ifaces k))
    in let body = slots_text ifaces (length (inherited ifaces k)) (own_of ifaces k)
    in let heading : ended line ≡ head =
    ap ended (l ∙ ap (λ o. class_line ifaces (option_map_or (λ (h : ScopeIface). h.name) o [])
    (option_and_then (λ (h : ScopeIface). h.parent) o)) (sym found))
    in let same : slots_text ifaces first (flat_map slots_of_member i.members) ≡ body =
    ap (λ n. slots_text ifaces n (flat_map slots_of_member i.members))
    (read ∙ are.first.each k within)
    ∙ ap (λ o. slots_text ifaces (length (inherited ifaces k)) (own_in o)) (sym found)
    in let whole : filled ≡ ((text ++ head) ++ codes " public:\n") ++ body =
    f ∙ ap (λ t. opened ++ t) same
    ∙ ap (λ t. t ++ body) (o ∙ ap (λ t. t ++ codes " public:\n") (b ∙ ap (λ t. text ++ t) heading))
    in ap (λ t. t ++ codes "};\n") whole
    ∙ append_assoc ((text ++ head) ++ codes " public:\n") body (codes "};\n")
    ∙ append_assoc (text ++ head) (codes " public:\n") (body ++ codes "};\n")
    ∙ append_assoc text head (codes " public:\n" ++ (body ++ codes "};\n"))
    ∙ ap (λ t. text ++ t) (sym (class_parts ifaces k))

-- ---- the header

texts_of_lines : (ifaces : List ScopeIface) (order : List ℕ)
    → flat_map ended (flat_map (class_lines ifaces) order) ≡ classes_text ifaces order
texts_of_lines ifaces [] = refl
texts_of_lines ifaces (k ∷ order) =
    flat_map-append ended (class_lines ifaces k) (flat_map (class_lines ifaces) order)
    ∙ ap (λ t. class_text ifaces k ++ t) (texts_of_lines ifaces order)

header_parts : (s : Scope) → header_text s
    ≡ forwards_text s.ifaces ++ classes_text s.ifaces (definitions_of s.ifaces)
unfolding header_text
header_parts s =
    flat_map-append ended (map forward_line s.ifaces)
    (flat_map (class_lines s.ifaces) (definitions_of s.ifaces))
    ∙ ap (λ t. t ++ flat_map ended (flat_map (class_lines s.ifaces) (definitions_of s.ifaces)))
    (flat_map-map ended forward_line s.ifaces)
    ∙ ap (λ t. forwards_text s.ifaces ++ t) (texts_of_lines s.ifaces (definitions_of s.ifaces))

-- the forward lines are a part of it
pub forwards_within : (s : Scope) (none : List ℕ) (ifaces : List ScopeIface) → none ≡ []
    → ifaces ≡ s.ifaces → length (none ++ forwards_text ifaces) ≤ length (header_text s)
forwards_within s none ifaces empty same =
    let first : length (none ++ forwards_text ifaces) ≡ length (forwards_text s.ifaces) =
    ap (λ t. length (t ++ forwards_text ifaces)) empty
    ∙ ap (λ i. length (forwards_text i)) same
    in omega (
      arith,
      first,
      ap length (header_parts s),
      length-append (forwards_text s.ifaces) (classes_text s.ifaces (definitions_of s.ifaces)),
    )

-- and with the classes they are all of it
pub header_made : (s : Scope) (none forwards : List ℕ) (ifaces : List ScopeIface)
    (listed order : List ℕ) → none ≡ [] → ifaces ≡ s.ifaces
    → forwards ≡ none ++ forwards_text ifaces → listed ≡ order → order ≡ definitions_of ifaces
    → forwards ++ classes_text s.ifaces listed ≡ header_text s
header_made s none forwards ifaces listed order empty same made list is =
    ap (λ t. t ++ classes_text s.ifaces listed)
    (made ∙ ap (λ t. t ++ forwards_text ifaces) empty ∙ ap forwards_text same)
    ∙ ap (λ o. forwards_text s.ifaces ++ classes_text s.ifaces o)
    (list ∙ is ∙ ap definitions_of same)
    ∙ sym (header_parts s)

-- an error is the same whatever the result would have held
pub same_error : {T U : Type 0} (e d : HeaderWriteError) → IsErrOf {T = T} (Err e) d
    → IsErrOf {T = U} (Err e) d
same_error e d h = let same : e ≡ d = cc in ap Err same
