-- How many bytes are read.
use Rattle.std.proofs.Common.{◌≡◌, ℕ, ◌+◌, ◌-◌, ◌≤◌, Bool, true, false, List, length, drop, Option, Some, None, refl, sym, ap, ◌∙◌, arith, length-drop, length-take-le, Bor, IfSome}
use Rattle.std.specs.Option.{option_copied}
use Rattle.std.specs.Prelude.{is_some, slice_range, unwrap_or, if◌then◌else◌}
use Rattle.std.proofs.lemmas.Bool.{false≢true}
use Rattle.object_memory.specs.declared.layout.TheConstants.{CELLS_AT, VTABLE_AT}
use Rattle.object_memory.specs.Memory.{MachineView, bytes_at, cell_bytes, is_within, memory_bytes}
use Rattle.call_replies.proofs.Lawful.{within_is}

range-long : (xs : List ℕ) (i n : ℕ) → i + n ≤ length xs → length (slice_range xs i (i + n)) ≡ n
range-long xs i n fits =
    let count : i + n - i ≡ n = omega arith in
    rw count (length-take-le n (drop i xs) (omega (arith, length-drop i xs, fits)))

-- bytes of a range that begins at `start`
within-long : (start : ℕ) (xs : List ℕ) (at n : ℕ) → is_within start xs at n ≡ true
    → length (slice_range xs (at - start) (at - start + n)) ≡ n
within-long start xs at n e =
    let fits = within_is start xs at n e in range-long xs (at - start) n (omega (arith, fits.0, fits.1))

same-some : (x y : List ℕ) → Some x ≡ Some y → x ≡ y
same-some x y e = ap (λ o. unwrap_or o x) e

-- so many as were asked for
pub bytes-long : (m : MachineView) (at n : ℕ) (x : List ℕ) → bytes_at m at n ≡ Some x → length x ≡ n
bytes-long m at n x = by_place (is_within VTABLE_AT m.memory at n) (is_within CELLS_AT m.cells at n) refl refl
  where
    by_place : (a b : Bool) → is_within VTABLE_AT m.memory at n ≡ a → is_within CELLS_AT m.cells at n ≡ b
        → (if a then Some (memory_bytes m at n) else if b then Some (cell_bytes m at n) else None) ≡ Some x → length x ≡ n
    by_place true b in_memory e is =
        ap length (sym (same-some (memory_bytes m at n) x is)) ∙ within-long VTABLE_AT m.memory at n in_memory
    by_place false true e in_cells is =
        ap length (sym (same-some (cell_bytes m at n) x is)) ∙ within-long CELLS_AT m.cells at n in_cells
    by_place false false e f is = absurd (false≢true (ap is_some is))

pub found-long : (m : MachineView) (at n : ℕ) (r : Option (Bor (List ℕ))) → option_copied r ≡ bytes_at m at n
    → IfSome r (λ x. length x.now ≡ n)
found-long m at n None e = tt
found-long m at n (Some x) e = bytes-long m at n x.now (sym e)
