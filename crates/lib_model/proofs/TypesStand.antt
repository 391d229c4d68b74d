-- A type and a parameter stand where their texts lie.
use Rattle.std.proofs.Common.{◌≡◌, ℕ, ◌+◌, ◌<◌, ◌≤◌, ◌%◌, List, [], ◌∷◌, length, arith, inl, inr, refl}
use Rattle.std.proofs.lemmas.Grind.{common_steps}
use Rattle.lib_model.specs.declared.param_types.Param.{Param}
use Rattle.lib_model.specs.declared.param_types.XType.{XType}
use Rattle.lib_model.specs.declared.param_types.XType.TheVariants as types
use Rattle.lib_model.specs.declared.param_types.Elem.{Elem}
use Rattle.lib_model.specs.declared.param_types.Elem.TheVariants as elems
use Rattle.lib_model.specs.declared.tags.TheConstants as tags
use Rattle.lib_model.specs.Emit.{elem_text, param_text, result_text, tag_byte, type_text}
use Rattle.lib_model.specs.Denotes.{ElemStands, ParamStands, ResultStands, TypeStands}
use Rattle.lib_model.specs.Valid.{IsElem, IsParam, IsPlainTag, IsType}
use Rattle.lib_model.proofs.Pieces.{Piece, byte_stands, flags_stand, half_stands, piece_tail, tag_stands}
use Rattle.lib_model.proofs.Sizes.{length-two_bytes}

tag_read : (tag : ℕ) → tag < 32 → tag_byte tag % 32 ≡ tag
tag_read tag small = grind (arith, common_steps)

plain_small : (tag : ℕ) → IsPlainTag tag → tag < 32
plain_small tag (inl low) = omega arith
plain_small tag (inr high) = omega arith

module _ (count : ℕ) (few : count ≤ 65535) (params : List Param) {x : List ℕ} where
  elem_stands : (p q : ℕ) (e : Elem) → IsElem count params e → Piece x p (elem_text e)
      → q ≡ p + length (elem_text e) → ElemStands x p e q
  unfolding elem_text
  elem_stands p q (elems.Plain tag) is h ends =
      (tag_stands (tag_read tag (plain_small tag is)) h, ends)
  elem_stands p q (elems.Iface number) is h ends = (
    tag_stands refl h,
    (
      half_stands (omega (arith, few, is.1)) (piece_tail refl h),
      omega (arith, ends, length-two_bytes number),
    ),
  )
  elem_stands p q (elems.IidIs param) is h ends =
      (tag_stands refl h, (byte_stands (piece_tail refl h), ends))

  type_stands : (p q : ℕ) (t : XType) → IsType count params t → Piece x p (type_text t)
      → q ≡ p + length (type_text t) → TypeStands x p t q
  unfolding type_text
  type_stands p q (types.Plain tag) is h ends =
      (tag_stands (tag_read tag (plain_small tag is)) h, ends)
  type_stands p q (types.Iface number) is h ends = (
    tag_stands refl h,
    (
      half_stands (omega (arith, few, is.1)) (piece_tail refl h),
      omega (arith, ends, length-two_bytes number),
    ),
  )
  type_stands p q (types.IidIs param) is h ends =
      (tag_stands refl h, (byte_stands (piece_tail refl h), ends))
  type_stands p q (types.Array size len elem) is h ends =
      let size_at : Piece x (p + 1) (size ∷ len ∷ elem_text elem) = piece_tail refl h
      in let len_at : Piece x (p + 2) (len ∷ elem_text elem) = piece_tail (omega arith) size_at
      in let elem_at : Piece x (p + 3) (elem_text elem) = piece_tail (omega arith) len_at
      in (
        tag_stands refl h,
        (
          byte_stands size_at,
          (byte_stands len_at, elem_stands (p + 3) q elem is.2 elem_at (omega (arith, ends))),
        ),
      )
  type_stands p q (types.SizedString size len) is h ends =
      let size_at : Piece x (p + 1) (size ∷ len ∷ []) = piece_tail refl h
      in (
        tag_stands refl h,
        (byte_stands size_at, (byte_stands (piece_tail (omega arith) size_at), ends)),
      )
  type_stands p q (types.SizedWString size len) is h ends =
      let size_at : Piece x (p + 1) (size ∷ len ∷ []) = piece_tail refl h
      in (
        tag_stands refl h,
        (byte_stands size_at, (byte_stands (piece_tail (omega arith) size_at), ends)),
      )

  pub param_stands : (p q : ℕ) (v : Param) → IsParam count params v → Piece x p (param_text v)
      → q ≡ p + length (param_text v) → ParamStands x p v q
  unfolding param_text
  param_stands p q v is h ends = (
    flags_stand is.flags h,
    type_stands (p + 1) q v.ty is.ty (piece_tail refl h) (omega (arith, ends)),
  )

pub result_stands : {x : List ℕ} (p q : ℕ) → Piece x p result_text → q ≡ p + 2 → ResultStands x p q
result_stands p q h ends = record {
  ty = types.Plain tags.UINT32;
  form = inl (omega arith);
  stands = (tag_stands refl (piece_tail refl h), omega (arith, ends));
}
