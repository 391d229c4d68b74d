-- The member that the table of a library has, told by what is found in the library.
use Rattle.std.proofs.Common.{◌≡◌, ℕ, zero, suc, ◌+◌, ◌<◌, ◌≤◌, Bool, List, [], ◌∷◌, length, Option, Some, None, Ok, Err, Result, sum_by, ap, refl, sym, ◌∙◌, arith}
use Rattle.std.specs.Prelude.{◌&&◌, is_some, map, option_map, option_and_then, slice_get}
use Rattle.std.specs.List.{position}
use Rattle.std.specs.Str.{bytes_eq}
use Rattle.std.proofs.lemmas.List.{length-map}
use Rattle.std.proofs.lemmas.List.Quantifiers.{position-Some}
use Rattle.std.proofs.lemmas.Option.{none-some, same_Some, slice_get-map, slice_get_within}
use Rattle.call_model.specs.declared.prototypes.ProtoArg.{ProtoArg}
use Rattle.call_model.specs.declared.prototypes.Status.{Status}
use Rattle.call_model.specs.declared.prototypes.Status.TheVariants.{Callable, Hidden, NotXpcom, Opaque}
use Rattle.call_model.specs.Tables.{iface_at, iface_named, lineage_of, member_of, slots_of}
use Rattle.call_model.specs.Tables as tables
use Rattle.call_model.proofs.Lineages.{has-slots-of-parent}
use Rattle.call_scripts.specs.declared.script.MemberRef.{MemberRef}
use Rattle.lib_model.specs.declared.contents.Body.{Body}
use Rattle.lib_model.specs.declared.contents.Iface.{Iface}
use Rattle.lib_model.specs.declared.contents.Library.{Library}
use Rattle.lib_model.specs.declared.contents.Method.{Method}
use Rattle.lib_model.specs.Table.{methods_in, methods_of, slot_of, status_of, table_iface, table_of}
use Rattle.lib_model.specs.Valid.{IsValid, chain_of, own_slots, slots_in}
use Rattle.lib_model.proofs.TableLaws.{iface_named_table, lineage_of_table, short_lineage, slots_of_table}
use Rattle.object_memory.specs.declared.layout.TheConstants.{SLOTS}
use Rattle.transcript_text.specs.declared.refusals.Refusal.{Refusal}
use Rattle.transcript_text.specs.declared.refusals.Refusal.TheVariants as refusal
use Rattle.script_meaning.specs.Members.{Member, callable, kind_of, member_named}
use Rattle.script_meaning.specs.Refusing.{◌then◌}

-- ---- what is asked of a status

abbrev of_proto : (iface slot : ℕ) → Result (List ProtoArg) Refusal → Result Member Refusal
of_proto iface slot asked =
    asked then λ proto. Ok (record { iface = iface; slot = slot; proto = proto })

module _ (lib : Library) (member : MemberRef) where
  abbrev pub asked : Result Member Refusal
  asked = member_named (table_of lib) member

  pub no-iface : iface_named (table_of lib) member.iface ≡ None → asked ≡ Err refusal.NoInterface
  unfolding member_named
  no-iface none = rw none refl

  module _ (iface : ℕ) (named : iface_named (table_of lib) member.iface ≡ Some iface) where
    pub no-member : member_of (table_of lib) iface (kind_of member.kind) member.name ≡ None
        → asked ≡ Err refusal.NoMethod
    unfolding member_named
    no-member none = rw (named, none) refl

    module _ (slot : ℕ) (method : Method)
        (found : member_of (table_of lib) iface (kind_of member.kind) member.name ≡ Some slot)
        (is : slice_get (methods_of lib iface) slot ≡ Some method) where
      by-status : asked
          ≡ of_proto iface slot (callable (status_of method) (slot_of method).proto)
      unfolding member_named
      by-status =
          let entry : slice_get (slots_of (table_of lib) iface) slot ≡ Some (slot_of method) =
          ap (λ slots. slice_get slots slot) (slots_of_table lib iface)
          ∙ slice_get-map slot_of (methods_of lib iface) slot ∙ ap (option_map slot_of) is in
          rw (named, found, entry) refl

      with-status : (status : Status) → status ≡ status_of method
          → asked ≡ of_proto iface slot (callable status (slot_of method).proto)
      with-status status same =
          by-status
          ∙ ap (λ s. of_proto iface slot (callable s (slot_of method).proto)) (sym same)

      pub callable-found : Callable ≡ status_of method
          → asked ≡ Ok (record { iface = iface; slot = slot; proto = (slot_of method).proto })
      callable-found same = with-status Callable same

      pub hidden-found : Hidden ≡ status_of method → asked ≡ Err refusal.Hidden
      hidden-found same = with-status Hidden same

      pub notxpcom-found : NotXpcom ≡ status_of method → asked ≡ Err refusal.NotXpcom
      notxpcom-found same = with-status NotXpcom same

      pub opaque-found : Opaque ≡ status_of method → asked ≡ Err refusal.Opaque
      opaque-found same = with-status Opaque same

-- ---- the slots of an interface of a valid library are few

own-count : (ifaces : List Iface) (k : ℕ)
    → length (tables.slots_in (iface_at (map table_iface ifaces) k)) ≡ own_slots ifaces k
own-count ifaces zero = refl
own-count ifaces (suc k) =
    ap (λ o. length (tables.slots_in o)) (slice_get-map table_iface ifaces k)
    ∙ of_iface (slice_get ifaces k)
  where
    of_body : (o : Option Body) → length (map slot_of (methods_in o)) ≡ slots_in o
    of_body None = refl
    of_body (Some b) = length-map b.methods slot_of

    of_iface : (o : Option Iface)
        → length (tables.slots_in (option_map table_iface o))
        ≡ slots_in (option_and_then (λ (i : Iface). i.body) o)
    of_iface None = refl
    of_iface (Some i) = of_body i.body

abbrev is_named : List ℕ → Iface → Bool
is_named name i = is_some i.body && bytes_eq i.name name

place-within : {X : Type 0} (p : X → Bool) (xs : List X) (k : ℕ) → position p xs ≡ Some k
    → k < length xs
place-within p [] k is = absurd (none-some k is)
place-within p (x ∷ xs) k is = (position-Some p (x ∷ xs) k x is).0

numbered : (o : Option ℕ) (k : ℕ) → option_map (λ j. j + 1) o ≡ Some k
    → (j : ℕ) × (o ≡ Some j) × (j + 1 ≡ k)
numbered None k is = absurd (none-some k is)
numbered (Some j) k is = (j, refl, same_Some (j + 1) k is)

module _ (lib : Library) (valid : IsValid lib) where
  slots-counted : (k : ℕ)
      → length (slots_of (table_of lib) k) ≡ sum_by (own_slots lib.ifaces) (chain_of lib.ifaces k)
  unfolding table_of
  slots-counted k =
      (has-slots-of-parent (table_of lib) k (short_lineage lib valid k)).counted
      ∙ (λ j. sum_by (λ n. own-count lib.ifaces n j) (lineage_of_table lib k j))

  within : (name : List ℕ) (k : ℕ) → iface_named (table_of lib) name ≡ Some k
      → (0 < k) × (k ≤ length lib.ifaces)
  within name k named =
      let at = numbered (position (is_named name) lib.ifaces) k
      (sym (iface_named_table lib name) ∙ named) in
      let inside = place-within (is_named name) lib.ifaces at.0 at.1 in
      (omega (arith, at.2), omega (arith, at.2, inside))

  pub few-slots : (name : List ℕ) (k slot : ℕ) (method : Method)
      → iface_named (table_of lib) name ≡ Some k
      → slice_get (methods_of lib k) slot ≡ Some method → slot < SLOTS
  few-slots name k slot method named is =
      let number = within name k named in
      let low : slot < length (methods_of lib k) = slice_get_within (methods_of lib k) slot method is in
      let long : length (slots_of (table_of lib) k) ≡ length (methods_of lib k) =
      ap length (slots_of_table lib k) ∙ length-map (methods_of lib k) slot_of in
      omega (arith, low, long, slots-counted k, (valid.chains k number.0 number.1).few_slots)
