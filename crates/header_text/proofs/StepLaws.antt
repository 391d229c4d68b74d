-- The lines of a header follow each other, and behind all of them its classes have begun and ended.
use Rattle.std.proofs.Common.{◌≡◌, ℕ, ◌+◌, ◌<◌, ◌≤◌, true, List, [], ◌∷◌, ◌++◌, length, map, Option, Some, None, refl, sym, ap, ◌∙◌, arith, length-append, All}
use Rattle.std.specs.Prelude.{nat_lt, nat_le, option_map}
use Rattle.std.specs.List.{enumerate_from, flat_map}
use Rattle.std.specs.Option.{option_map_or}
use Rattle.std.specs.Fmt.{decimal}
use Rattle.std.specs.Str.{bytes_eq}
use Rattle.std.proofs.lemmas.Bool.{le-leb, lt-ltb}
use Rattle.std.proofs.lemmas.List.{append-nil, append_assoc}
use Rattle.std.proofs.lemmas.List.Elements.{All-head, All-tail}
use Rattle.std.proofs.lemmas.Option.{none-some, same_Some}
use Rattle.std.proofs.lemmas.Slice.Eq.{bytes_eq-Decides}
use Rattle.call_model.specs.declared.prototypes.Status.{Status}
use Rattle.call_model.specs.declared.prototypes.Status.TheVariants.{Callable, Hidden, NotXpcom, Opaque}
use Rattle.idl_meaning.specs.declared.scope.Scope.{Scope}
use Rattle.idl_meaning.specs.declared.scope.ScopeIface.{ScopeIface}
use Rattle.vtable_layout.specs.Slots.{Slot, inherited, own_of, parent_of}
use Rattle.prototype_lowering.specs.StaticTable.{status_of}
use Rattle.header_model.specs.declared.decls.Decl.{Decl}
use Rattle.header_model.specs.declared.decls.DeclSlot.{DeclSlot}
use Rattle.header_model.specs.declared.decls.DeclSlot.TheVariants as slots
use Rattle.header_model.specs.declared.lines.Line.{Line}
use Rattle.header_model.specs.declared.lines.Line.TheVariants as lines
use Rattle.header_model.specs.declared.states.State.{State}
use Rattle.header_model.specs.declared.states.State.TheVariants.{Between, Begun, Inside}
use Rattle.header_model.specs.Declares.{class_begun, step, steps, with_slot}
use Rattle.header_text.specs.Types.{name_at}
use Rattle.header_text.specs.Order.{definitions_of}
use Rattle.header_text.specs.Meaning.{class_number, declared, declared_by, declared_class, declared_slot, types_in}
use Rattle.header_text.proofs.Said.{AllFit, IsFit, class_said, forward_said, header_said, said_by, said_of}

-- lines, and then more lines
steps-append : (a b : List Line) (from mid : State) → steps from a ≡ Some mid → steps from (a ++ b) ≡ steps mid b
steps-append [] b from mid h = ap (λ s. steps s b) (same_Some from mid h)
steps-append (line ∷ a) b from mid h = go (λ next. steps-append a b next mid) (step from line) h
  where
    go : ((next : State) → steps next a ≡ Some mid → steps next (a ++ b) ≡ steps mid b) → (o : Option State)
        → option_map_or (λ next. steps next a) o None ≡ Some mid → option_map_or (λ next. steps next (a ++ b)) o None ≡ steps mid b
    go later None h = absurd (none-some mid h)
    go later (Some next) h = later next h

steps-first : (line : Line) (more : List Line) (from mid : State) → step from line ≡ Some mid → steps from (line ∷ more) ≡ steps mid more
steps-first line more from mid h = ap (λ o. option_map_or (λ next. steps next more) o None) h

-- ---- slots

-- a class with these slots
abbrev holding : Decl → List DeclSlot → Decl
holding d own = record d { slots = own }

slot-fits : (decls : List Decl) (d : Decl) (own : List DeclSlot) (slot : DeclSlot) (n : ℕ) → n ≡ d.first + length own → n < 250
    → with_slot decls (holding d own) slot ≡ Some (Inside decls (holding d (own ++ slot ∷ [])))
slot-fits decls d own slot n is few =
    let room : nat_lt (d.first + length own) 250 ≡ true = lt-ltb (d.first + length own) 250 (omega (arith, is)) in rw room refl

reserved-step : (decls : List Decl) (d : Decl) (own : List DeclSlot) (n : ℕ) → n ≡ d.first + length own → n < 250
    → step (Inside decls (holding d own)) (lines.Reserved (decimal n)) ≡ Some (Inside decls (holding d (own ++ slots.Reserved ∷ [])))
reserved-step decls d own n is few =
    let same : bytes_eq (decimal n) (decimal (d.first + length own)) ≡ true = (bytes_eq-Decides (decimal n) (decimal (d.first + length own))).1 (ap decimal is) in
    rw same (slot-fits decls d own slots.Reserved n is few)

slot-step : (ifaces : List ScopeIface) (decls : List Decl) (d : Decl) (own : List DeclSlot) (n : ℕ) (s : Slot) (st : Status)
    → n ≡ d.first + length own → n < 250 → length (types_in ifaces s) ≤ 257
    → step (Inside decls (holding d own)) (said_by st ifaces (n, s)) ≡ Some (Inside decls (holding d (own ++ declared_by st ifaces s ∷ [])))
slot-step ifaces decls d own n s Callable is few narrow =
    let short : nat_le (length (types_in ifaces s)) 257 ≡ true = le-leb (length (types_in ifaces s)) 257 narrow in
    rw short (slot-fits decls d own (declared_by Callable ifaces s) n is few)
slot-step ifaces decls d own n s Hidden is few narrow = reserved-step decls d own n is few
slot-step ifaces decls d own n s NotXpcom is few narrow = reserved-step decls d own n is few
slot-step ifaces decls d own n s Opaque is few narrow = reserved-step decls d own n is few

slots-steps : (ifaces : List ScopeIface) (decls : List Decl) (d : Decl) (own : List DeclSlot) (n : ℕ) (ss : List Slot)
    → n ≡ d.first + length own → n + length ss ≤ 250 → All (λ s. length (types_in ifaces s) ≤ 257) ss
    → steps (Inside decls (holding d own)) (map (said_of ifaces) (enumerate_from n ss)) ≡ Some (Inside decls (holding d (own ++ map (declared_slot ifaces) ss)))
slots-steps ifaces decls d own n [] is few narrow = ap (λ o. Some (Inside decls (holding d o))) (sym (append-nil own))
slots-steps ifaces decls d own n (s ∷ ss) is few narrow =
    let x : DeclSlot = declared_slot ifaces s in
    let one : step (Inside decls (holding d own)) (said_of ifaces (n, s)) ≡ Some (Inside decls (holding d (own ++ x ∷ []))) =
    slot-step ifaces decls d own n s (status_of s) is (omega (arith, few)) (All-head (λ s. length (types_in ifaces s) ≤ 257) s ss narrow) in
    let next : n + 1 ≡ d.first + length (own ++ x ∷ []) = omega (arith, is, length-append own (x ∷ [])) in
    steps-first (said_of ifaces (n, s)) (map (said_of ifaces) (enumerate_from (n + 1) ss)) (Inside decls (holding d own)) (Inside decls (holding d (own ++ x ∷ []))) one
    ∙ slots-steps ifaces decls d (own ++ x ∷ []) (n + 1) ss next (omega (arith, few)) (All-tail (λ s. length (types_in ifaces s) ≤ 257) s ss narrow)
    ∙ ap (λ o. Some (Inside decls (holding d o))) (append_assoc own (x ∷ []) (map (declared_slot ifaces) ss))

-- ---- classes

class-steps : (ifaces : List ScopeIface) (decls : List Decl) (k : ℕ) → IsFit ifaces decls k
    → steps (Between decls) (class_said ifaces k) ≡ Some (Between (decls ++ declared_class ifaces k ∷ []))
class-steps ifaces decls k fit =
    let d : Decl = class_begun (name_at ifaces k) (option_map (class_number ifaces) (parent_of ifaces k)) (length (inherited ifaces k)) in
    let first : ℕ = length (inherited ifaces k) in
    let begins : step (Between decls) (lines.Class (name_at ifaces k) (option_map (name_at ifaces) (parent_of ifaces k))) ≡ Some (Begun decls d) = rw (fit.new, fit.begins) refl in
    let own : List Line = map (said_of ifaces) (enumerate_from first (own_of ifaces k)) in
    let body : steps (Inside decls d) own ≡ Some (Inside decls (declared_class ifaces k)) =
    slots-steps ifaces decls d [] first (own_of ifaces k) (omega arith) fit.room fit.narrow in
    steps-first (lines.Class (name_at ifaces k) (option_map (name_at ifaces) (parent_of ifaces k))) (lines.Public ∷ (own ++ lines.Close ∷ [])) (Between decls) (Begun decls d) begins
    ∙ steps-append own (lines.Close ∷ []) (Inside decls d) (Inside decls (declared_class ifaces k)) body

steps-behind : (ifaces : List ScopeIface) (decls : List Decl) (ks : List ℕ) → AllFit ifaces decls ks
    → steps (Between decls) (flat_map (class_said ifaces) ks) ≡ Some (Between (decls ++ map (declared_class ifaces) ks))
unfolding AllFit
steps-behind ifaces decls [] fit = ap (λ ds. Some (Between ds)) (sym (append-nil decls))
steps-behind ifaces decls (k ∷ ks) fit =
    steps-append (class_said ifaces k) (flat_map (class_said ifaces) ks) (Between decls) (Between (decls ++ declared_class ifaces k ∷ [])) (class-steps ifaces decls k fit.0)
    ∙ steps-behind ifaces (decls ++ declared_class ifaces k ∷ []) ks fit.1
    ∙ ap (λ ds. Some (Between ds)) (append_assoc decls (declared_class ifaces k ∷ []) (map (declared_class ifaces) ks))

-- ---- the header

forwards-steps : (ifaces : List ScopeIface) → steps (Between []) (map forward_said ifaces) ≡ Some (Between [])
forwards-steps [] = refl
forwards-steps (i ∷ ifaces) = forwards-steps ifaces

pub steps-header : (s : Scope) → AllFit s.ifaces [] (definitions_of s.ifaces) → steps (Between []) (header_said s) ≡ Some (Between (declared s))
steps-header s fit =
    steps-append (map forward_said s.ifaces) (flat_map (class_said s.ifaces) (definitions_of s.ifaces)) (Between []) (Between []) (forwards-steps s.ifaces)
    ∙ steps-behind s.ifaces [] (definitions_of s.ifaces) fit
