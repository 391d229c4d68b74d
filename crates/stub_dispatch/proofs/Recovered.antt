-- What stands at the place of each argument, read back.
use Rattle.std.proofs.Common.{◌≡◌, ℕ, zero, suc, ◌+◌, ◌*◌, ◌^◌, ◌<◌, ◌≤◌, List, ◌∷◌, ◌++◌, length, take, get_or, sym, subst, ap, ◌∙◌, refl, arith, ◌⊎◌, inl, inr}
use Rattle.std.proofs.lemmas.List.{ext_get_or, get_or-set_other, get_or-set_same}
use Rattle.std.proofs.lemmas.List.FromFn.{get_or-map-range_with_len, length-map-range_with_len}
use Rattle.std.proofs.Math.Nat.{mod-eq_of_lt}
use Rattle.call_model.specs.declared.ctypes.CType.{CType}
use Rattle.call_model.specs.declared.ctypes.CType.TheVariants.{Ptr}
use Rattle.call_model.specs.declared.places.Conv.{Conv}
use Rattle.call_model.specs.declared.places.Loc.{Loc}
use Rattle.call_model.specs.declared.prototypes.ProtoArg.{ProtoArg}
use Rattle.call_model.specs.Placement.{place, type_at, space_of, stack_len_of, PlacesWithin, IsWithin}
use Rattle.call_model.specs.Prototype.{types_of}
use Rattle.call_model.specs.Values.{FrameView, Conforms, canon, canon_all, extended, own_at, own_len, received}
use Rattle.call_model.specs.declared.places.Loc.TheVariants.{Gpr, Fpr, Stack}
use Rattle.call_model.proofs.Conforming.{canon_all-at, length-canon_all, receives-canonical}
use Rattle.invoke_by_index.proofs.Filled.{registers}
use Rattle.call_model.specs.declared.places.Conv.TheVariants.{SysV64, I386, Aapcs64, Ms64, Aapcs32}
use Rattle.call_model.proofs.Patterns.{own-fits}
use Rattle.std.proofs.lemmas.Grind.{common_steps}
use Rattle.std.specs.Prelude.{slice_set}
use Rattle.invoke_by_index.proofs.Prototypes.{length-types_of, passed, place-within, type-there, types-before}
use Rattle.object_memory.specs.Frames.{IsPlace}
use Rattle.stub_dispatch.specs.Cells.{GivesCanonical, received_cells}

-- the place of an argument is one that the frame has, where its stack is long enough
pub has-place : (conv : Conv) (frame : FrameView) (len : ℕ) (loc : Loc) (space n : ℕ)
    → IsWithin conv len loc space → n ≤ space → space ≤ 8 → len ≤ length frame.stack → IsPlace frame loc n
has-place conv frame len (Gpr r) space n within few small enough = omega (arith, within, (registers conv).0)
has-place conv frame len (Fpr r) space n within few small enough = omega (arith, within, (registers conv).1)
has-place conv frame len (Stack at) space n within few small enough = (omega (arith, few, small), omega (arith, within, few, enough))

-- no argument takes more than 8 bytes
pub space-le : (conv : Conv) (t : CType) → space_of conv t ≤ 8
space-le SysV64 t = omega arith
space-le I386 t = grind (arith, common_steps)
space-le Aapcs64 t = omega arith
space-le Ms64 t = omega arith
space-le Aapcs32 t = grind (arith, common_steps)

-- a cell has what is received for argument k, and that is its own canonical pattern
pub record IsReceived (conv : Conv) (proto : List ProtoArg) (frame : FrameView) (k v : ℕ) : Type 0 where
  pub is : v ≡ received conv (types_of proto) frame (k + 1)
  pub stays : canon conv (type_at (types_of proto) (k + 1)) v ≡ v

-- an argument among those of a prototype, with what the steps of a walk answer for it
module _ (conv : Conv) (proto front : List ProtoArg) (arg : ProtoArg) (back : List ProtoArg) (whole : front ++ arg ∷ back ≡ proto) (frame : FrameView)
    (c : Conv) (c-is : c ≡ conv) (t : CType) (t-is : t ≡ passed arg) (at : Loc) (at-is : at ≡ place conv (types_of front) t) where
  -- its own bytes are at a place that the frame has
  pub has-own : PlacesWithin conv → stack_len_of conv (types_of proto) ≤ length frame.stack → IsPlace frame at (own_len c t)
  has-own within enough =
      let here : IsWithin conv (stack_len_of conv (types_of proto)) at (space_of conv t)
      = rw (at-is, t-is) (place-within proto front arg back whole conv within) in
      let few : own_len c t ≤ space_of conv t = rw c-is (own-fits conv t) in
      has-place conv frame (stack_len_of conv (types_of proto)) at (space_of conv t) (own_len c t) here few (space-le conv t) enough

  -- and the canonical pattern of these is what is received
  pub is-received : (i v : ℕ) → i ≡ length front → v ≡ canon c t (own_at frame (own_len c t) at)
      → own_at frame (own_len c t) at < 2 ^ (8 * own_len c t) → canon c t v ≡ v → IsReceived conv proto frame i v
  is-received i v i-is v-is small stays =
      let own = own_at frame (own_len c t) at in
      let below : own < 2 ^ (8 * own_len conv t) = subst (λ k. own < 2 ^ (8 * own_len k t)) c-is small in
      let there : t ≡ type_at (types_of proto) (i + 1) = t-is ∙ type-there proto front arg back whole i i-is in
      let before : types_of front ≡ take (i + 1) (types_of proto) = sym (types-before proto front arg back whole i i-is) in
      record {
        is = v-is ∙ ap (λ k. canon k t own) c-is
            ∙ ap (extended conv t) (mod-eq_of_lt below ∙ (λ j. own_at frame (own_len (c-is j) t) ((at-is ∙ ap (λ ts. place conv ts t) before) j)))
            ∙ ap (λ (u : CType). extended conv u (own_at frame (own_len conv u) (place conv (take (i + 1) (types_of proto)) u))) there;
        stays = subst (λ (u : CType). canon conv u v ≡ v) there (subst (λ k. canon k t v ≡ v) c-is stays);
      }

-- one element more
pub each-more : {X : Type 0} (d : X) (P : ℕ → X → Type 0) (xs : List X) (i : ℕ) (v : X) → i < length xs → P i v → ((k : ℕ) → k < i → P k (get_or xs k d))
    → (k : ℕ) → k < i + 1 → P k (get_or (slice_set xs i v) k d)
each-more d P xs i v inside holds each k lt =
    elim (below_or_last k i lt) as (λ _. P k (get_or (slice_set xs i v) k d)) [
      | inl less ↦ subst (P k) (sym (get_or-set_other xs i k v d (λ same. omega (arith, same, less)))) (each k less)
      | inr last ↦ subst (λ j. P j (get_or (slice_set xs i v) j d)) (sym last) (subst (P i) (sym (get_or-set_same xs i v d inside)) holds)
    ]
  where
    below_or_last : (k n : ℕ) → k < n + 1 → (k < n) ⊎ (k ≡ n)
    below_or_last k n lt = grind (arith, common_steps)

-- cells that each hold what is received for their argument are the received cells
pub are-received : (conv : Conv) (proto : List ProtoArg) (frame : FrameView) (cells : List ℕ)
    → length cells ≡ length proto
    → ((i : ℕ) → i < length proto → get_or cells i 0 ≡ received conv (types_of proto) frame (i + 1))
    → cells ≡ received_cells conv proto frame
are-received conv proto frame cells len each =
    let f = λ (i : ℕ). received conv (types_of proto) frame (i + 1) in
    ext_get_or 0 cells (received_cells conv proto frame) (len ∙ sym (length-map-range_with_len f 0 (length proto)))
    (λ i lt. let below : i < length proto = omega (arith, lt, len) in each i below ∙ sym (get_or-map-range_with_len f 0 (length proto) i i 0 below (omega arith)))

-- of a frame that conforms to values the cells are canonical
module _ (conv : Conv) (proto : List ProtoArg) (frame : FrameView) (this : ℕ) (values : List ℕ) (conforms : Conforms conv (types_of proto) (this ∷ values) frame) where
  each-canonical : (i : ℕ) → i < length proto + 1
      → get_or (canon conv Ptr this ∷ received_cells conv proto frame) i 0 ≡ get_or (canon_all conv (types_of proto) (this ∷ values)) i 0
  each-canonical zero lt = refl
  each-canonical (suc i) lt =
      let below : i < length proto = omega (arith, lt) in
      let inside : i + 1 < length (types_of proto) = omega (arith, lt, length-types_of proto) in
      let next : i + 1 ≡ suc i = omega arith in
      get_or-map-range_with_len (λ (k : ℕ). received conv (types_of proto) frame (k + 1)) 0 (length proto) i i 0 below (omega arith)
      ∙ receives-canonical conv (types_of proto) (this ∷ values) frame conforms (i + 1) inside
      ∙ sym (canon_all-at conv (types_of proto) (this ∷ values) (i + 1) conforms.paired inside)
      ∙ ap (λ k. get_or (canon_all conv (types_of proto) (this ∷ values)) k 0) next

  all-canonical : canon conv Ptr this ∷ received_cells conv proto frame ≡ canon_all conv (types_of proto) (this ∷ values)
  all-canonical =
      let count : length (received_cells conv proto frame) ≡ length proto = length-map-range_with_len (λ (k : ℕ). received conv (types_of proto) frame (k + 1)) 0 (length proto) in
      let long : length (canon_all conv (types_of proto) (this ∷ values)) ≡ length proto + 1 = length-canon_all conv (types_of proto) (this ∷ values) conforms.paired ∙ sym conforms.paired ∙ length-types_of proto in
      ext_get_or 0 (canon conv Ptr this ∷ received_cells conv proto frame) (canon_all conv (types_of proto) (this ∷ values)) (omega (arith, count, long))
      (λ i lt. each-canonical i (omega (arith, lt, count)))

pub gives-canonical : (conv : Conv) (proto : List ProtoArg) (frame : FrameView) → GivesCanonical conv proto frame (received_cells conv proto frame)
gives-canonical conv proto frame = λ this values conforms. all-canonical conv proto frame this values conforms
