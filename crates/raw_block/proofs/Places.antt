-- What the walks of `src/run.rt` share: bytes and room in one block, cut, filled, lent and given back. Assumes `Logic`.
--     byte_laws, row, place, none        the laws of a byte, the row of `Run`, a byte's type, and the value of a type of no bytes
--     lent_laws, lends_run               what a `&` to a run holds can be had twice, and is made of a borrow
--     none_had, none_made                such a value is taken, or made of nothing
--     cut, glue, all_room, seen          the bytes apart from their room;  put back before more;  all of it as room;  as a `&` to the bytes reaches them
use Rattle.std.proofs.Common.{◌≡◌, ℕ, zero, suc, ◌+◌, List, [], ◌∷◌, ◌++◌, length, refl, arith}
use seplogic.Ra.Ura.{Ura}
use mir.Syntax.{Ty, ty_int, ty_array, w8}
use mir.Val.{Val, vint, vstruct, vnil}
use base.Fraction.{full_share}
use base.Logic.{ent, sep}
use base.Fml.{ftrue, ffalse, fat, froom}
use types.Logic.{Logic, sem}
use types.Kit.{Goal, Seq, Step, step, Item, ‵, ◌⊛◌, ◌$◌, ◌∵◌, !, qed, by, move, drop, use1, use2, split, rewrite, fsplit, fjoin, fpick, fpack, feq_l, feq_i, done}
use types.SemTy.{cells}
use denote.Builtin.{u8}
use denote.Memory.{mem, part_at, shared_of}
use denote.Param.Laws.{Laws, of_field}
use denote.Param.Shared.{copy_shared}
use denote.Plain.{uint_row_laws, uint_out}
use denote.RattleType.{RattleType, Valss}
use denote.RawPtr.{Ptr, block_ptr, null_ptr}
use denote.Sharing.{ShrLaws, said}
use denote.SharingLaws.{beside_shr_laws, said_shr_laws}
use denote.Slice.{elements_shared, elements_shr_laws}
use denote.Steps.{nothing}
use denote.Struct.Field.{u8-field}
use denote.Struct.Laws.{u8-laws, u8-copy}
use denote.Struct.Lending.{Lends, Lends-both, Lends-nothing, Lends-said, Lends-false}
use denote.Struct.Owning.{shape}
use denote.Struct.Struct.{Struct, within}
use Rattle.raw_block.specs.Ownership.{bytes_at, fit, run_owns, run_lent}
use Rattle.raw_block.specs.contracts.run.Run as Run

abbrev pub byte_laws : Laws u8
byte_laws = of_field u8-field u8-laws refl (copy_shared u8-field u8-copy)

abbrev pub row : RattleType
row = Run.the_row

abbrev pub place : Ty
place = ty_int w8

abbrev pub none : Val
none = vstruct vnil

-- the fields of a run: none
abbrev pub Bare : RattleType
Bare = Struct (shape Run.the_type)

pub lent_laws : (p : Ptr) (xs : List ℕ) (room : ℕ) → ShrLaws (run_lent p xs room)
lent_laws (block_ptr b o) xs room = beside_shr_laws _ _ (said_shr_laws (fit xs room) tt) (elements_shr_laws u8 (uint_row_laws w8) xs b o)
lent_laws null_ptr xs room = said_shr_laws ffalse tt

module _ {M : Type 1} {𝓤 : Ura M} (𝓛 : Logic 𝓤) where
  lends_bytes : (b o : ℕ) (xs : List ℕ) (room : ℕ) → Lends 𝓛 (bytes_at b o xs room) (elements_shared u8 xs b o) []
  lends_bytes b o [] room = Lends-nothing 𝓛 (froom (ty_array place room) b o) []
  lends_bytes b o (x ∷ xs) room =
      Lends-both 𝓛 (part_at u8 full_share x b o) (bytes_at b (o + 1) xs room) (shared_of u8 x b o) (elements_shared u8 xs b (o + 1)) [] (λ κ ts. byte_laws.shares 𝓛 x κ ts b o) (lends_bytes b (o + 1) xs room)

  pub lends_run : (p : Ptr) (xs : List ℕ) (room : ℕ) → Lends 𝓛 (run_owns p xs room) (run_lent p xs room) []
  lends_run (block_ptr b o) xs room =
      Lends-both 𝓛 (fit xs room) (bytes_at b o xs room) (said (fit xs room)) (elements_shared u8 xs b o) [] (Lends-said 𝓛 (fit xs room) tt []) (lends_bytes b o xs room)
  lends_run null_ptr xs room = Lends-false 𝓛 (said ffalse) []

module _ {M : Type 1} {𝓤 : Ura M} (𝓛 : Logic 𝓤) (b : ℕ) where
  pub cut : (xs : List ℕ) (room o at : ℕ) → at ≡ length xs + o → ent 𝓤 (sem 𝓛 (bytes_at b o xs room)) (sep 𝓤 (sem 𝓛 (cells (mem u8) xs b o)) (sem 𝓛 (froom (ty_array place room) b at)))
  cut [] room o at e =
      let same : o ≡ at = omega (arith, e) in
      qed 𝓛 (‵ (froom (ty_array place room) b o) ∷ []) ∵ rewrite ! 0 (λ (k : ℕ). ‵ (froom (ty_array place room) b k)) same refl $ nothing ! $ done !
  cut (x ∷ xs) room o at e =
      let more : at ≡ length xs + (o + 1) = omega (arith, e) in
      qed 𝓛 (‵ (bytes_at b o (x ∷ xs) room) ∷ []) ∵ fsplit ! $ move ! (1 ∷ []) $
      use1 𝓛 (‵ (cells (mem u8) xs b (o + 1)) ⊛ ‵ (froom (ty_array place room) b at)) (cut xs room (o + 1) at more) $ split ! $ move ! (2 ∷ 0 ∷ []) $ fjoin ! $ done !

  pub glue : (xs ys : List ℕ) (room o at : ℕ) → at ≡ length xs + o → ent 𝓤 (sep 𝓤 (sem 𝓛 (cells (mem u8) xs b o)) (sem 𝓛 (bytes_at b at ys room))) (sem 𝓛 (bytes_at b o (xs ++ ys) room))
  glue [] ys room o at e =
      let same : at ≡ o = omega (arith, e) in
      qed 𝓛 (‵ ftrue ∷ ‵ (bytes_at b at ys room) ∷ []) ∵ drop ! $ rewrite ! 0 (λ (k : ℕ). ‵ (bytes_at b k ys room)) same refl $ done !
  glue (x ∷ xs) ys room o at e =
      let more : at ≡ length xs + (o + 1) = omega (arith, e) in
      qed 𝓛 (‵ (cells (mem u8) (x ∷ xs) b o) ∷ ‵ (bytes_at b at ys room) ∷ []) ∵ fsplit ! $ move ! (1 ∷ 2 ∷ []) $
      use2 𝓛 (‵ (bytes_at b (o + 1) (xs ++ ys) room)) (glue xs ys room (o + 1) at more) $ move ! (1 ∷ 0 ∷ []) $ fjoin ! $ done !

  pub all_room : (xs : List ℕ) (room n o : ℕ) → length xs + room ≡ n → ent 𝓤 (sem 𝓛 (bytes_at b o xs room)) (sem 𝓛 (froom (ty_array place n) b o))
  all_room [] room n o e =
      let same : room ≡ n = omega (arith, e) in
      qed 𝓛 (‵ (froom (ty_array place room) b o) ∷ []) ∵ rewrite ! 0 (λ (k : ℕ). ‵ (froom (ty_array place k) b o)) same refl $ done !
  all_room (x ∷ xs) room zero o e = absurd (omega (arith, e))
  all_room (x ∷ xs) room (suc n) o e =
      let less : length xs + room ≡ n = omega (arith, e) in
      qed 𝓛 (‵ (bytes_at b o (x ∷ xs) room) ∷ []) ∵ fsplit ! $
      use1 𝓛 (‵ (fat full_share place b o (vint w8 x))) (uint_out 𝓛 full_share w8 x b o) $ use1 𝓛 (‵ (froom place b o)) (𝓛.laws.at_room place b o (vint w8 x)) $ move ! (1 ∷ []) $
      use1 𝓛 (‵ (froom (ty_array place n) b (o + 1))) (all_room xs room n (o + 1) less) $ move ! (1 ∷ []) $ by ! (𝓛.laws.room_cons place n b o)

module _ {M : Type 1} {𝓤 : Ura M} {𝓛 : Logic 𝓤} {K : Type 0} {Γ : List (Item 𝓤)} {G : Goal 𝓤 𝓛.H} where
  pub none_made : K → Step K 𝓛 (‵ (Bare.own_val tt (none ∷ [])) ∷ Γ) G Γ G
  none_made t = step (λ s. nothing t $ feq_i t (List Val) (none ∷ []) (none ∷ []) refl $ fjoin t $ fpack t (Valss []) (within (shape Run.the_type) tt (none ∷ [])) tt $ s)

  pub none_had : K → (vs : List Val) → (vs ≡ none ∷ [] → Seq K 𝓛 Γ G) → Seq K 𝓛 (‵ (Bare.own_val tt vs) ∷ Γ) G
  none_had t vs k = fpick t (λ vss. fsplit t $ feq_l t (λ e. drop t $ k e))
