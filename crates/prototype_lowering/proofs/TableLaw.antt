-- The table of a lowered library is the table of its scope.
use Rattle.std.proofs.Common.{◌≡◌, ℕ, ◌+◌, ◌==◌, ◌&&◌, ◌||◌, not, Bool, true, false, List, [], ◌∷◌, ◌++◌, length, map, take, drop, Option, Some, None, is_some, refl, sym, ap, ◌∙◌, arith, nat_lt, if◌then◌else◌}
use Rattle.std.specs.List.{AllByRecursion, list_any}
use Rattle.std.specs.Option.{unwrap_or}
use Rattle.xp_base.specs.declared.kinds.Dir.{Dir}
use Rattle.xp_base.specs.declared.kinds.Dir.TheVariants.{Inward, Outward, Both}
use Rattle.call_model.specs.declared.ctypes.CType.{CType}
use Rattle.call_model.specs.declared.ctypes.CType.TheVariants as c
use Rattle.call_model.specs.declared.prototypes.MemberKind.{MemberKind}
use Rattle.call_model.specs.declared.prototypes.MemberKind.TheVariants as kind
use Rattle.call_model.specs.declared.prototypes.Note.TheVariants as note
use Rattle.call_model.specs.declared.prototypes.Pass.TheVariants.{ByValue, ByRef, ByCell}
use Rattle.call_model.specs.declared.prototypes.Status.{Status}
use Rattle.call_model.specs.declared.prototypes.Status.TheVariants.{Callable, Hidden, NotXpcom, Opaque}
use Rattle.idl_meaning.specs.declared.scope.Meant.{Meant}
use Rattle.idl_meaning.specs.declared.scope.Meant.TheVariants as meant
use Rattle.idl_meaning.specs.declared.scope.Scope.{Scope}
use Rattle.idl_meaning.specs.declared.scope.ScopeIface.{ScopeIface}
use Rattle.idl_meaning.specs.declared.scope.ScopeParam.{ScopeParam}
use Rattle.idl_meaning.specs.Accepted.{IsAcceptedParam, IsAcceptedScope}
use Rattle.idl_meaning.specs.Meaning.{is_class, is_iid}
use Rattle.lib_model.specs.declared.param_types.Param.{Param}
use Rattle.lib_model.specs.declared.param_types.XType.TheVariants as types
use Rattle.lib_model.specs.Table as table
use Rattle.lib_model.specs.Table.{context_arg, count_arg, gives_value, table_iface, table_of, written_count}
use Rattle.lib_model.specs.Valid.{parent_in}
use Rattle.vtable_layout.specs.Slots.{Slot, own_slots}
use Rattle.prototype_lowering.specs.Directory.{directory_of, iid_of, in_order, parent_number}
use Rattle.prototype_lowering.specs.Limits.{HasTableOf}
use Rattle.prototype_lowering.specs.Lowering.{alone, body_of, elem_of, goes_in, goes_out, iface_elem, iface_of, is_dipper, is_getter, is_setter, length_of, library_of, method_of, native_elem, param_of, size_of, sized_type, type_alone, type_of}
use Rattle.prototype_lowering.specs.StaticTable as static
use Rattle.prototype_lowering.specs.StaticTable.{back, count_note, first, front, iface_note, is_method, middle, native_note, note_alone, position, static_iface, static_slot, static_table, string_note}
use Rattle.prototype_lowering.proofs.FlagLaws.{method_argc, method_context, method_getter, method_hidden, method_notxpcom, method_setter, param_in, param_optional, param_out, param_retval}
use Rattle.prototype_lowering.proofs.ScopeFacts.{GivesLast, IsAcceptedSlot, IsSoundIface, each_found, iface_ok, sound_at}
use Rattle.prototype_lowering.proofs.TypeLaws.{class_law, elem_law, iid_law, opaque_law, type_law}

-- ---- one parameter

out_law : (d : List ℕ) (p : ScopeParam) → table.has (param_of d p).flags.bits 64
    ≡ goes_out p.dir (is_class p.ty)
out_law d p =
    param_out (goes_in p.dir (is_class p.ty)) (goes_out p.dir (is_class p.ty)) p.retval p.shared
    (is_dipper p.dir (is_class p.ty)) p.optional

in_law : (d : List ℕ) (p : ScopeParam) → table.has (param_of d p).flags.bits 128
    ≡ goes_in p.dir (is_class p.ty)
in_law d p = param_in (goes_in p.dir (is_class p.ty)) (goes_out p.dir (is_class p.ty)) p.retval
    p.shared (is_dipper p.dir (is_class p.ty)) p.optional

retval_law : (d : List ℕ) (p : ScopeParam) → gives_value (param_of d p) ≡ p.retval
retval_law d p =
    param_retval (goes_in p.dir (is_class p.ty)) (goes_out p.dir (is_class p.ty)) p.retval p.shared
    (is_dipper p.dir (is_class p.ty)) p.optional

optional_law : (d : List ℕ) (p : ScopeParam) → table.has (param_of d p).flags.bits 4 ≡ p.optional
optional_law d p =
    param_optional (goes_in p.dir (is_class p.ty)) (goes_out p.dir (is_class p.ty)) p.retval
    p.shared (is_dipper p.dir (is_class p.ty)) p.optional

pass_law : (d : List ℕ) (count : ℕ) (params : List ScopeParam) (p : ScopeParam)
    → IsAcceptedParam count params p → table.pass_of (param_of d p) ≡ static.pass_of p
pass_law d count params p ok =
    (λ j. if class_law d p count ok.typed ok.array_plain j then ByRef else if out_law d p j
    then ByCell (in_law d p j) else if iid_law d p count ok.typed j then ByRef else ByValue)
    ∙ go p.dir (is_class p.ty) (is_iid p.ty && not p.array)
  where
    go : (dir : Dir) (class iid : Bool)
        → (if class then ByRef else if goes_out dir class then ByCell (goes_in dir class)
        else if iid then ByRef else ByValue) ≡ (if class then ByRef else static.pass_by dir iid)
    go Inward true iid = refl
    go Outward true iid = refl
    go Both true iid = refl
    go Inward false iid = refl
    go Outward false iid = refl
    go Both false iid = refl

-- ---- the parameters before the value

written_law : (d : List ℕ) (r : Bool) (ps : List ScopeParam) → GivesLast r ps
    → written_count (map (param_of d) ps) ≡ length (front ps)
written_law d r [] h = refl
written_law d r (p ∷ []) h = (λ j. if retval_law d p j then 0 else 1) ∙ go p.retval
  where
    go : (b : Bool) → (if b then 0 else 1) ≡ length (if b then [] else (p ∷ []))
    go true = refl
    go false = refl
written_law d r (p ∷ q ∷ ps) h =
    ap (λ n. 1 + n) (written_law d r (q ∷ ps) h.1) ∙ go p.retval refl
  where
    go : (b : Bool) → p.retval ≡ b
        → 1 + length (front (q ∷ ps)) ≡ length (if b then [] else (p ∷ front (q ∷ ps)))
    go true is = absurd (let none = (h.0 is).1 in cc)
    go false is = omega arith

take_front : {Y : Type 0} (f : ScopeParam → Y) (ps : List ScopeParam)
    → take (length (front ps)) (map f ps) ≡ map f (front ps)
take_front f [] = refl
take_front f (p ∷ ps) = go p.retval (take_front f ps)
  where
    go : (b : Bool) → take (length (front ps)) (map f ps) ≡ map f (front ps)
        → take (length (if b then [] else (p ∷ front ps))) (f p ∷ map f ps)
        ≡ map f (if b then [] else (p ∷ front ps))
    go true h = refl
    go false h = ap (λ ys. f p ∷ ys) h

drop_back : {Y : Type 0} (f : ScopeParam → Y) (ps : List ScopeParam)
    → drop (length (front ps)) (map f ps) ≡ map f (back ps)
drop_back f [] = refl
drop_back f (p ∷ ps) = go p.retval (drop_back f ps)
  where
    go : (b : Bool) → drop (length (front ps)) (map f ps) ≡ map f (back ps)
        → drop (length (if b then [] else (p ∷ front ps))) (f p ∷ map f ps)
        ≡ map f (if b then (p ∷ ps) else back ps)
    go true h = refl
    go false h = h

front_all : (P : ScopeParam → Type 0) (ps : List ScopeParam) → AllByRecursion P ps
    → AllByRecursion P (front ps)
front_all P [] h = tt
front_all P (p ∷ ps) h = go p.retval (front_all P ps h.1)
  where
    go : (b : Bool) → AllByRecursion P (front ps)
        → AllByRecursion P (if b then [] else (p ∷ front ps))
    go true k = tt
    go false k = (h.0, k)

back_all : (P : ScopeParam → Type 0) (ps : List ScopeParam) → AllByRecursion P ps
    → AllByRecursion P (back ps)
back_all P [] h = tt
back_all P (p ∷ ps) h = go p.retval (back_all P ps h.1)
  where
    go : (b : Bool) → AllByRecursion P (back ps)
        → AllByRecursion P (if b then (p ∷ ps) else back ps)
    go true k = h
    go false k = k

same_images : {X A Y : Type 0} (P : X → Type 0) (v : X → A) (f : A → Y) (g : X → Y)
    → ((x : X) → P x → f (v x) ≡ g x) → (xs : List X) → AllByRecursion P xs
    → map f (map v xs) ≡ map g xs
same_images P v f g same [] h = refl
same_images P v f g same (x ∷ xs) h = λ j. same x h.0 j ∷ same_images P v f g same xs h.1 j

-- ---- one slot

module _ (d : List ℕ) (count : ℕ) (s : Slot) (ok : IsAcceptedSlot count s) where
  getter_law : table.has (method_of d s).flags.bits 128 ≡ is_getter s.kind
  getter_law = method_getter (is_getter s.kind) (is_setter s.kind) s.notxpcom s.hidden s.argc
      s.context

  setter_law : table.has (method_of d s).flags.bits 64 ≡ is_setter s.kind
  setter_law = method_setter (is_getter s.kind) (is_setter s.kind) s.notxpcom s.hidden s.argc
      s.context

  context_law : table.takes_context (method_of d s) ≡ s.context
  context_law =
      method_context (is_getter s.kind) (is_setter s.kind) s.notxpcom s.hidden s.argc s.context

  argc_law : table.takes_count (method_of d s) ≡ s.argc
  argc_law = method_argc (is_getter s.kind) (is_setter s.kind) s.notxpcom s.hidden s.argc s.context

  kind_law : table.kind_of (method_of d s) ≡ s.kind
  kind_law = (λ j. if getter_law j then kind.Get else if setter_law j then kind.Set else kind.Plain)
      ∙ go s.kind
    where
      go : (k : MemberKind)
          → (if is_getter k then kind.Get else if is_setter k then kind.Set else kind.Plain) ≡ k
      go kind.Plain = refl
      go kind.Get = refl
      go kind.Set = refl

  attribute_law : table.is_attribute (method_of d s) ≡ not (is_method s.kind)
  attribute_law = (λ j. getter_law j || setter_law j) ∙ go s.kind
    where
      go : (k : MemberKind) → (is_getter k || is_setter k) ≡ not (is_method k)
      go kind.Plain = refl
      go kind.Get = refl
      go kind.Set = refl

  plain_law : not (table.is_attribute (method_of d s)) ≡ is_method s.kind
  plain_law = ap not attribute_law ∙ go (is_method s.kind)
    where
      go : (b : Bool) → not (not b) ≡ b
      go true = refl
      go false = refl

  first_law : table.first_args (method_of d s) ≡ first s
  first_law = λ j. if (context_law j && attribute_law j) then context_arg ∷ [] else []

  middle_law : table.middle_args (method_of d s) ≡ middle s
  middle_law = λ j.
      (if (context_law j && plain_law j) then context_arg ∷ [] else [])
      ++ (if argc_law j then count_arg ∷ [] else [])

  count_law : written_count (method_of d s).params ≡ length (front s.params)
  count_law = written_law d false s.params ok.value

  position_law : (k : ℕ) → table.position_in (method_of d s) k ≡ position s k
  position_law k =
      λ j. length (first_law j) + k + (if nat_lt k (count_law j) then 0 else length (middle_law j))

  note_law : (p : ScopeParam) → IsAcceptedParam count s.params p
      → table.note_of (method_of d s) (type_of d p) ≡ static.note_of d s p
  note_law p accepted = go p.array
    where
      iface : (k : ℕ) (o : Option ℕ) → table.note_of (method_of d s) (alone (iface_elem d k o))
          ≡ iface_note d s k o
      iface k None = refl
      iface k (Some iid) = ap note.IidAt (position_law iid)

      native : (o : Option ℕ) → table.note_of (method_of d s) (alone (native_elem o))
          ≡ native_note s o
      native None = refl
      native (Some iid) = ap note.IidAt (position_law iid)

      counts : (size : ℕ) (elem : CType) → size_of p ≡ size
          → note.Count (table.position_in (method_of d s) size)
          (table.position_in (method_of d s) (length_of p)) elem ≡ count_note s p elem
      counts size elem is =
          λ j. note.Count ((position_law size ∙ ap (position s) (sym is)) j)
          (position_law (length_of p) j) elem

      sized : (tag : ℕ) (o : Option ℕ) → p.size ≡ o
          → table.note_of (method_of d s) (sized_type tag o (length_of p)) ≡ string_note s p tag o
      sized tag None is = refl
      sized tag (Some size) is = tagged (tag == 16) (tag == 17)
        where
          tagged : (a b : Bool)
              → table.note_of (method_of d s)
              (if a then types.SizedString size (length_of p) else if b
              then types.SizedWString size (length_of p) else types.Plain tag)
              ≡ (if a then count_note s p c.Char else if b then count_note s p c.WChar
              else note.Plain)
          tagged true b = counts size c.Char (ap (λ o. unwrap_or o 0) is)
          tagged false true = counts size c.WChar (ap (λ o. unwrap_or o 0) is)
          tagged false false = refl

      by : (m : Meant) → table.note_of (method_of d s) (type_alone d p m) ≡ note_alone d s p m
      by (meant.Basic tag) = sized tag p.size refl
      by (meant.Iface k) = iface k p.iid
      by meant.NsidRef = refl
      by meant.NsidPtr = refl
      by (meant.StringClass tag) = refl
      by meant.JsVal = refl
      by (meant.Native name) = native p.iid

      go : (b : Bool)
          → table.note_of (method_of d s)
          (if b then types.Array (size_of p) (length_of p) (elem_of d p.ty p.iid)
          else type_alone d p p.ty)
          ≡ (if b then count_note s p (static.c_type p.ty) else note_alone d s p p.ty)
      go true = λ j. note.Count (position_law (size_of p) j) (position_law (length_of p) j)
          (elem_law d p.ty p.iid count accepted.typed j)
      go false = by p.ty

  arg_law : (p : ScopeParam) → IsAcceptedParam count s.params p
      → table.arg_of (method_of d s) (param_of d p) ≡ static.arg_of d s p
  arg_law p accepted = λ j. record {
    pass = pass_law d count s.params p accepted j;
    ty = type_law d p count accepted.typed j;
    optional = optional_law d p j && not (retval_law d p j);
    note = note_law p accepted j;
  }

  front_law : map (table.arg_of (method_of d s))
      (take (written_count (method_of d s).params) (method_of d s).params)
      ≡ map (static.arg_of d s) (front s.params)
  front_law =
      (λ j. map (table.arg_of (method_of d s)) (take (count_law j) (map (param_of d) s.params)))
      ∙ ap (map (table.arg_of (method_of d s))) (take_front (param_of d) s.params)
      ∙ same_images (IsAcceptedParam count s.params) (param_of d) (table.arg_of (method_of d s))
      (static.arg_of d s) arg_law (front s.params)
      (front_all (IsAcceptedParam count s.params) s.params ok.each)

  back_law : map (table.arg_of (method_of d s))
      (drop (written_count (method_of d s).params) (method_of d s).params)
      ≡ map (static.arg_of d s) (back s.params)
  back_law =
      (λ j. map (table.arg_of (method_of d s)) (drop (count_law j) (map (param_of d) s.params)))
      ∙ ap (map (table.arg_of (method_of d s))) (drop_back (param_of d) s.params)
      ∙ same_images (IsAcceptedParam count s.params) (param_of d) (table.arg_of (method_of d s))
      (static.arg_of d s) arg_law (back s.params)
      (back_all (IsAcceptedParam count s.params) s.params ok.each)

  proto_law : table.proto_of (method_of d s) ≡ static.proto_of d s
  unfolding table.proto_of static.proto_of
  proto_law = λ j. first_law j ++ (front_law j ++ (middle_law j ++ back_law j))

  any_opaque : (ps : List ScopeParam) → AllByRecursion (IsAcceptedParam count s.params) ps
      → list_any (λ (p : Param). table.is_opaque p.ty) (map (param_of d) ps)
      ≡ list_any static.is_opaque ps
  any_opaque [] h = refl
  any_opaque (p ∷ ps) h =
      λ j. opaque_law d p count h.0.typed h.0.array_plain j || any_opaque ps h.1 j

  status_law : table.status_of (method_of d s) ≡ static.status_of s
  status_law = λ j. if method_hidden (is_getter s.kind) (is_setter s.kind) s.notxpcom s.hidden
      s.argc s.context j then Hidden else if method_notxpcom (is_getter s.kind) (is_setter s.kind)
      s.notxpcom s.hidden s.argc s.context j then NotXpcom else if any_opaque s.params ok.each j
      then Opaque else Callable

  proto_if_law : (status : Status) → table.proto_if status (method_of d s)
      ≡ static.proto_if status d s
  proto_if_law Callable = proto_law
  proto_if_law Hidden = refl
  proto_if_law NotXpcom = refl
  proto_if_law Opaque = refl

  pub slot_law : table.slot_of (method_of d s) ≡ static_slot d s
  slot_law = λ j. record {
    name = s.name;
    kind = kind_law j;
    status = status_law j;
    proto = (ap (λ status. table.proto_if status (method_of d s)) status_law
        ∙ proto_if_law (static.status_of s)) j;
  }

-- ---- one interface

iface_law : (d : List ℕ) (ifaces : List ScopeIface) (i : ScopeIface) → IsSoundIface ifaces i
    → table_iface (iface_of d i) ≡ static_iface d i
iface_law d ifaces i ok = λ j. record {
  name = i.name;
  iid = iid_of i;
  resolved = resolved i.defined j;
  parent = parent i.defined j;
  slots = slots i.defined j;
}
  where
    resolved : (b : Bool) → is_some (if b then Some (body_of d i) else None) ≡ b
    resolved true = refl
    resolved false = refl

    parent : (b : Bool) → parent_in (if b then Some (body_of d i) else None)
        ≡ (if b then parent_number d i.parent else 0)
    parent true = refl
    parent false = refl

    slots : (b : Bool)
        → map table.slot_of (table.methods_in (if b then Some (body_of d i) else None))
        ≡ (if b then map (static_slot d) (own_slots i) else [])
    slots true = same_images (IsAcceptedSlot (length ifaces)) (method_of d) table.slot_of
        (static_slot d) (λ s h. slot_law d (length ifaces) s h) (own_slots i) (iface_ok ifaces i ok)
    slots false = refl

-- ---- the whole

pub table_law : (s : Scope) → IsAcceptedScope s → HasTableOf s (library_of s)
unfolding table_of library_of static_table
table_law s ok = λ j. record {
  ifaces = same_images (IsSoundIface s.ifaces) (iface_of (directory_of s.ifaces)) table_iface
      (static_iface (directory_of s.ifaces)) (λ i h. iface_law (directory_of s.ifaces) s.ifaces i h)
      (in_order s.ifaces)
      (each_found (IsSoundIface s.ifaces) s.ifaces (directory_of s.ifaces) (sound_at s ok)) j;
}
