-- Constants: both laws.
use Rattle.std.proofs.Common.{◌≡◌, ℕ, ◌+◌, ◌<◌, ◌≤◌, List, None, true, not, arith, refl, sym, ap, ◌∙◌, subst, inl, inr, eqb, eqb-true}
use Rattle.std.specs.Prelude.{◌||◌}
use Rattle.std.specs.Int.{w16, w32}
use Rattle.std.proofs.Math.Facts.{sfits_to_z}
use Rattle.std.proofs.lemmas.Bool.{not-false, not_from_true, or_cases}
use Rattle.std.proofs.lemmas.Int.{ints}
use Rattle.xp_base.specs.declared.kinds.ConstKind.{ConstKind}
use Rattle.xp_base.specs.declared.kinds.ConstKind.TheVariants as kinds
use Rattle.lib_model.specs.declared.contents.Constant.{Constant}
use Rattle.lib_model.specs.Denotes.{ConstantStands, NameStands, half_at, tag_at, value_at, value_len, word_at}
use Rattle.lib_model.specs.Emit.{kind_tag}
use Rattle.lib_model.specs.Valid.{IsConstant, IsInRange, IsName}
use Rattle.typelib_faults.specs.declared.cursor.Cursor.{Cursor}
use Rattle.typelib_faults.specs.Bytes.{AreBytes}
use Rattle.typelib_faults.specs.Faults.{constant_fault, is_kind_tag, item_fault, name_fault, past}
use Rattle.typelib_faults.specs.Places.{constant_at, constant_end, kind_at, kind_by_tag, name_at}
use Rattle.typelib_faults.specs.Walk.{faulty}
use Rattle.typelib_faults.proofs.MemberLaws.{item_room, room_item}
use Rattle.typelib_faults.proofs.NameLaws.{half_small, name_fine, name_reads, name_sound, word_small}
use Rattle.typelib_faults.proofs.TypeLaws.{inside_past, past_inside}
use Rattle.typelib_faults.proofs.WalkFacts.{faulty_none, fine_faulty, parts6}

-- ---- kinds and values

kind_known : (tag : ℕ) → is_kind_tag tag ≡ true → tag ≡ kind_tag (kind_by_tag tag)
kind_known tag e =
    let P : ℕ → Type 0 = λ t. t ≡ kind_tag (kind_by_tag t)
    in elim (or_cases (eqb tag 1 || eqb tag 2) (eqb tag 5 || eqb tag 6) e) as (λ _. P tag) [
      | inl l ↦ elim (or_cases (eqb tag 1) (eqb tag 2) l) as (λ _. P tag) [
        | inl h ↦ subst P (sym (eqb-true tag 1 h)) refl
        | inr h ↦ subst P (sym (eqb-true tag 2 h)) refl
      ]
      | inr r ↦ elim (or_cases (eqb tag 5) (eqb tag 6) r) as (λ _. P tag) [
        | inl h ↦ subst P (sym (eqb-true tag 5 h)) refl
        | inr h ↦ subst P (sym (eqb-true tag 6 h)) refl
      ]
    ]

kind_reads : (k : ConstKind) → kind_by_tag (kind_tag k) ≡ k
kind_reads kinds.I16 = refl
kind_reads kinds.I32 = refl
kind_reads kinds.U16 = refl
kind_reads kinds.U32 = refl

pub kind_fine : (k : ConstKind) → is_kind_tag (kind_tag k) ≡ true
kind_fine kinds.I16 = refl
kind_fine kinds.I32 = refl
kind_fine kinds.U16 = refl
kind_fine kinds.U32 = refl

value_valid : (x : List ℕ) (k : ConstKind) (p : ℕ) → AreBytes x → IsInRange k (value_at x k p)
value_valid x kinds.I16 p bytes = let small : half_at x p < 65536 = half_small x p bytes in sfits_to_z {w = w16} {n = half_at x p} (omega arith)
value_valid x kinds.I32 p bytes = let small : word_at x p < 4294967296 = word_small x p bytes in sfits_to_z {w = w32} {n = word_at x p} (omega arith)
value_valid x kinds.U16 p bytes = let small : half_at x p < 65536 = half_small x p bytes in (omega (arith, ints), omega (arith, ints))
value_valid x kinds.U32 p bytes = let small : word_at x p < 4294967296 = word_small x p bytes in (omega (arith, ints), omega (arith, ints))

-- ---- read

pub constant_sound : (x : List ℕ) (c : Cursor) → AreBytes x → constant_fault x c ≡ None → ConstantStands x c.place (constant_at x c.place) (constant_end x c.place) × IsConstant (constant_at x c.place)
unfolding constant_fault constant_at constant_end
constant_sound x c bytes e =
    let tag : ℕ = tag_at x (c.place + 4)
    in let m : (item_fault c ≡ None) × (past x c.place 4 ≡ None) × (name_fault x c.place ≡ None) × (past x (c.place + 4) 1 ≡ None) × (faulty (not (is_kind_tag tag)) 11 (c.place + 4) ≡ None) × (past x (c.place + 5) (value_len (kind_at x (c.place + 4))) ≡ None) = parts6 (item_fault c) (past x c.place 4) (name_fault x c.place) (past x (c.place + 4) 1) (faulty (not (is_kind_tag tag)) 11 (c.place + 4)) (past x (c.place + 5) (value_len (kind_at x (c.place + 4)))) e
    in let name : NameStands x c.place (name_at x c.place) × IsName (name_at x c.place) = name_sound x c.place (past_inside x c.place 4 m.1) m.2
    in let known : tag ≡ kind_tag (kind_by_tag tag) = kind_known tag (not-false (is_kind_tag tag) (faulty_none (not (is_kind_tag tag)) 11 (c.place + 4) m.4))
    in (
      record {
        name = name.0;
        kind = (past_inside x (c.place + 4) 1 m.3, known);
        inside = past_inside x (c.place + 5) (value_len (kind_at x (c.place + 4))) m.5;
        value = refl;
        ends = refl;
      },
      record { name = name.1; value = value_valid x (kind_at x (c.place + 4)) (c.place + 5) bytes },
    )

pub constant_room : (x : List ℕ) (c : Cursor) → constant_fault x c ≡ None → c.items + 1 ≤ 1000000
unfolding constant_fault
constant_room x c e =
    let tag : ℕ = tag_at x (c.place + 4)
    in let m : (item_fault c ≡ None) × (past x c.place 4 ≡ None) × (name_fault x c.place ≡ None) × (past x (c.place + 4) 1 ≡ None) × (faulty (not (is_kind_tag tag)) 11 (c.place + 4) ≡ None) × (past x (c.place + 5) (value_len (kind_at x (c.place + 4))) ≡ None) = parts6 (item_fault c) (past x c.place 4) (name_fault x c.place) (past x (c.place + 4) 1) (faulty (not (is_kind_tag tag)) 11 (c.place + 4)) (past x (c.place + 5) (value_len (kind_at x (c.place + 4)))) e
    in item_room c m.0

-- ---- that stand

pub constant_reads : (x : List ℕ) (p : ℕ) (v : Constant) (q : ℕ) → ConstantStands x p v q → IsConstant v → (constant_at x p ≡ v) × (constant_end x p ≡ q)
unfolding constant_at constant_end
constant_reads x p v q stands valid =
    let name : name_at x p ≡ v.name = name_reads x p v.name stands.name valid.name.short valid.name.no_zero
    in let kind : kind_at x (p + 4) ≡ v.kind = ap kind_by_tag stands.kind.1 ∙ kind_reads v.kind
    in (rw (name, kind, stands.value) refl, ap (λ (k : ConstKind). p + 5 + value_len k) kind ∙ sym stands.ends)

pub constant_fine : (x : List ℕ) (c : Cursor) (v : Constant) (q : ℕ) → ConstantStands x c.place v q → IsConstant v → c.items + 1 ≤ 1000000 → constant_fault x c ≡ None
unfolding constant_fault
constant_fine x c v q stands valid room =
    let tag : ℕ = tag_at x (c.place + 4)
    in let kind : kind_at x (c.place + 4) ≡ v.kind = ap kind_by_tag stands.kind.1 ∙ kind_reads v.kind
    in let known : is_kind_tag tag ≡ true = ap is_kind_tag stands.kind.1 ∙ kind_fine v.kind
    in let inside : past x (c.place + 5) (value_len (kind_at x (c.place + 4))) ≡ None = subst (λ (k : ConstKind). past x (c.place + 5) (value_len k) ≡ None) (sym kind) (inside_past x (c.place + 5) (value_len v.kind) stands.inside)
    in let tagged : faulty (not (is_kind_tag tag)) 11 (c.place + 4) ≡ None = fine_faulty (not (is_kind_tag tag)) 11 (c.place + 4) (not_from_true (is_kind_tag tag) known)
    in rw (room_item c room, inside_past x c.place 4 stands.name.stands.0, name_fine x c.place v.name stands.name valid.name, inside_past x (c.place + 4) 1 stands.kind.0, tagged, inside) refl
