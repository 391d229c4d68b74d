-- Bytes with zeros after them make the number that they make alone.
use Rattle.std.proofs.Common.{◌≡◌, ℕ, zero, suc, ◌+◌, ◌-◌, ◌*◌, ◌^◌, ◌≤◌, List, ◌++◌, length, replicate, refl, ap, ◌∙◌, arith, length-append}
use Rattle.std.proofs.lemmas.List.{drop-replicate, length-replicate}
use Rattle.std.specs.Int.{w64, from_le_bytes}
use borrow.Rule.Slice.PartMut.{put_mid}
use Rattle.xp_base.specs.LittleEndian.{number_of}
use Rattle.xp_base.proofs.LittleEndian.{from_le_bytes-number_of, number_of-append}
use Rattle.object_memory.proofs.Bytes.{number_of-small}
use Rattle.object_memory.proofs.blocks.number_of_bytes.Goals as goal

number_of-zeros : (n : ℕ) → number_of (replicate n 0) ≡ 0
number_of-zeros zero = refl
number_of-zeros (suc n) = omega (arith, number_of-zeros n)

number_of-filled : (bytes : List ℕ) → length bytes ≤ 8 → from_le_bytes w64 (put_mid 0 (length bytes) (replicate 8 0) bytes) ≡ number_of bytes
number_of-filled bytes few =
    let n = 8 - length bytes in
    let shape : put_mid 0 (length bytes) (replicate 8 0) bytes ≡ bytes ++ replicate n 0 = rw (drop-replicate {X = ℕ} (length bytes) 8 0) refl in
    let eight : length (bytes ++ replicate n 0) ≡ 8 = omega (arith, few, length-append bytes (replicate n 0), length-replicate {A = ℕ} n 0) in
    let none : number_of bytes + 256 ^ length bytes * 0 ≡ number_of bytes = omega arith in
    ap (from_le_bytes w64) shape
    ∙ from_le_bytes-number_of w64 (bytes ++ replicate n 0) (omega arith) eight
    ∙ number_of-append bytes (replicate n 0)
    ∙ ap (λ k. number_of bytes + 256 ^ length bytes * k) (number_of-zeros n) ∙ none

pub returns-clause-value : goal.returns-clause-value
returns-clause-value c =
    let after = c.copy_from_slice.ensures.after in
    let len : length c.copy_from_slice.new.self ≡ length c.args.bytes.now = ap length after in
    c.from_le_bytes.ensures ∙ ap (λ bytes. from_le_bytes w64 (put_mid 0 (length c.args.bytes.now) (replicate 8 0) bytes)) after
    ∙ number_of-filled c.args.bytes.now c.requires

pub returns-clause-small : goal.returns-clause-small
returns-clause-small c = rw (returns-clause-value c) (number_of-small c.args.bytes.now (λ k. omega (arith, c.type_inv.bytes k)))
