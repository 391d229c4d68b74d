-- The classes that a text declares keep the limits of a header, so that their functions have
-- places.
use Rattle.std.proofs.Common.{◌≡◌, ◌⊎◌, ℕ, ◌<◌, ◌≤◌, Bool, true, false, List, [], ◌∷◌, ◌++◌, length, get_or, Option, Some, None, refl, inl, inr, subst, arith, length-append, All}
use Rattle.std.specs.Prelude.{◌==◌, nat_lt, nat_le, option_map, position, slice_get, if◌then◌else◌}
use Rattle.std.specs.List.{list_any}
use Rattle.std.specs.Option.{option_map_or}
use Rattle.std.specs.Fmt.{decimal}
use Rattle.std.specs.Str.{bytes_eq}
use Rattle.std.proofs.lemmas.Bool.{leb-true, ltb-true}
use Rattle.std.proofs.lemmas.List.Elements.{All-get_or, All-nil, All-push}
use Rattle.std.proofs.lemmas.Option.{none-some, same_Some, slice_get_cases}
use Rattle.line_words.specs.Words.{Word}
use Rattle.header_model.specs.declared.decls.Decl.{Decl}
use Rattle.header_model.specs.declared.decls.DeclSlot.{DeclSlot}
use Rattle.header_model.specs.declared.decls.DeclSlot.TheVariants as slots
use Rattle.header_model.specs.declared.lines.Line.{Line}
use Rattle.header_model.specs.declared.lines.Line.TheVariants as lines
use Rattle.header_model.specs.declared.states.State.{State}
use Rattle.header_model.specs.declared.states.State.TheVariants.{Between, Begun, Inside}
use Rattle.header_model.specs.Declares.{Declares, class_begun, decl_of, has_name, next_slot, slots_at, step, steps, with_slot}
use Rattle.header_text.specs.Placeable.{IsNarrow, IsPlaceable}

-- each class so far keeps the limits, and so does the one that has begun
abbrev Keeps : State → Type 0
Keeps (Between decls) = All IsPlaceable decls
Keeps (Begun decls d) = All IsPlaceable decls × IsPlaceable d
Keeps (Inside decls d) = All IsPlaceable decls × IsPlaceable d

guarded : (b : Bool) (o : Option State) (to : State) → (if b then o else None) ≡ Some to → (b ≡ true) × (o ≡ Some to)
guarded true o to h = (refl, h)
guarded false o to h = absurd (none-some to h)

unless : (b : Bool) (o : Option State) (to : State) → (if b then None else o) ≡ Some to → o ≡ Some to
unless true o to h = absurd (none-some to h)
unless false o to h = h

-- ---- slots

keeps-slot : (decls : List Decl) (d : Decl) (slot : DeclSlot) (to : State) → Keeps (Inside decls d) → IsNarrow slot
    → with_slot decls d slot ≡ Some to → Keeps to
keeps-slot decls d slot to keeps narrow h =
    let longer : Decl = record d { slots = d.slots ++ slot ∷ [] } in
    let parts = guarded (nat_lt (next_slot d) 250) (Some (Inside decls longer)) to h in
    let placeable : IsPlaceable longer = record {
      room = omega (arith, ltb-true (next_slot d) 250 parts.0, length-append d.slots (slot ∷ []));
      narrow = All-push IsNarrow d.slots slot keeps.1.narrow narrow;
    } in
    subst Keeps (same_Some (Inside decls longer) to parts.1) (keeps.0, placeable)

-- ---- classes

few-slots : (decls : List Decl) (number : ℕ) → All IsPlaceable decls → slots_at decls number ≤ 250
few-slots decls number all = go (slice_get_cases decls number).1
  where
    go : ((d : Decl) × (number < length decls) × (slice_get decls number ≡ Some d) × (get_or decls number d ≡ d)) ⊎ ((length decls ≤ number) × (slice_get decls number ≡ None))
        → slots_at decls number ≤ 250
    go (inl (d, within, is, at)) =
        let placeable : IsPlaceable d = subst IsPlaceable at (All-get_or IsPlaceable decls number d within all) in
        rw is placeable.room
    go (inr (past, is)) = rw is (omega arith)

keeps-begun : (decls : List Decl) (name : Word) (parent : Option ℕ) (first : ℕ) (to : State) → All IsPlaceable decls → first ≤ 250
    → Some (Begun decls (class_begun name parent first)) ≡ Some to → Keeps to
keeps-begun decls name parent first to all few h =
    let placeable : IsPlaceable (class_begun name parent first) = record { room = omega (arith, few); narrow = All-nil IsNarrow } in
    subst Keeps (same_Some (Begun decls (class_begun name parent first)) to h) (all, placeable)

keeps-class : (decls : List Decl) (name : Word) (parent : Option Word) (to : State) → All IsPlaceable decls
    → option_map (λ d. Begun decls d) (decl_of decls name parent) ≡ Some to → Keeps to
keeps-class decls name None to all h = keeps-begun decls name None 0 to all (omega arith) h
keeps-class decls name (Some parent) to all h = go (position (has_name parent) decls) h
  where
    go : (o : Option ℕ) → option_map (λ d. Begun decls d) (option_map (λ number. class_begun name (Some number) (slots_at decls number)) o) ≡ Some to → Keeps to
    go None h = absurd (none-some to h)
    go (Some number) h = keeps-begun decls name (Some number) (slots_at decls number) to all (few-slots decls number all) h

-- ---- lines

keeps-step : (from : State) (line : Line) (to : State) → Keeps from → step from line ≡ Some to → Keeps to
keeps-step (Between decls) lines.Forward to keeps h =
    subst Keeps (same_Some (Between decls) to (guarded (length decls == 0) (Some (Between decls)) to h).1) keeps
keeps-step (Between decls) (lines.Class name parent) to keeps h =
    keeps-class decls name parent to keeps (unless (list_any (has_name name) decls) (option_map (λ d. Begun decls d) (decl_of decls name parent)) to h)
keeps-step (Between decls) lines.Public to keeps h = absurd (none-some to h)
keeps-step (Between decls) (lines.Reserved number) to keeps h = absurd (none-some to h)
keeps-step (Between decls) (lines.Method name types) to keeps h = absurd (none-some to h)
keeps-step (Between decls) lines.Close to keeps h = absurd (none-some to h)
keeps-step (Begun decls d) lines.Forward to keeps h = absurd (none-some to h)
keeps-step (Begun decls d) (lines.Class name parent) to keeps h = absurd (none-some to h)
keeps-step (Begun decls d) lines.Public to keeps h = subst Keeps (same_Some (Inside decls d) to h) keeps
keeps-step (Begun decls d) (lines.Reserved number) to keeps h = absurd (none-some to h)
keeps-step (Begun decls d) (lines.Method name types) to keeps h = absurd (none-some to h)
keeps-step (Begun decls d) lines.Close to keeps h = absurd (none-some to h)
keeps-step (Inside decls d) lines.Forward to keeps h = absurd (none-some to h)
keeps-step (Inside decls d) (lines.Class name parent) to keeps h = absurd (none-some to h)
keeps-step (Inside decls d) lines.Public to keeps h = absurd (none-some to h)
keeps-step (Inside decls d) (lines.Reserved number) to keeps h =
    keeps-slot decls d slots.Reserved to keeps tt (guarded (bytes_eq number (decimal (next_slot d))) (with_slot decls d slots.Reserved) to h).1
keeps-step (Inside decls d) (lines.Method name types) to keeps h =
    let parts = guarded (nat_le (length types) 257) (with_slot decls d (slots.Method name types)) to h in
    keeps-slot decls d (slots.Method name types) to keeps (leb-true (length types) 257 parts.0) parts.1
keeps-step (Inside decls d) lines.Close to keeps h =
    subst Keeps (same_Some (Between (decls ++ d ∷ [])) to h) (All-push IsPlaceable decls d keeps.0 keeps.1)

keeps-steps : (said : List Line) (from to : State) → Keeps from → steps from said ≡ Some to → Keeps to
keeps-steps [] from to keeps h = subst Keeps (same_Some from to h) keeps
keeps-steps (line ∷ more) from to keeps h = go (step from line) (λ next. keeps-step from line next keeps) (λ next. keeps-steps more next to) h
  where
    go : (o : Option State) → ((next : State) → o ≡ Some next → Keeps next) → ((next : State) → Keeps next → steps next more ≡ Some to → Keeps to)
        → option_map_or (λ next. steps next more) o None ≡ Some to → Keeps to
    go None one later h = absurd (none-some to h)
    go (Some next) one later h = later next (one next refl) h

pub declared-placeable : (text : List ℕ) (decls : List Decl) → Declares text decls → All IsPlaceable decls
declared-placeable text decls (said, forms, is) = keeps-steps said (Between []) (Between decls) (All-nil IsPlaceable) is
