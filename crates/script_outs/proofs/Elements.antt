-- The elements of arrays.
use Rattle.std.proofs.Common.{◌≡◌, ℕ, ◌<◌, ◌≤◌, List, min, Option, Some, None, refl, sym, ap, ◌∙◌, arith, inl, inr, ◌⊎◌}
use Rattle.std.specs.Prelude.{is_some}
use Rattle.std.proofs.lemmas.Bool.{cases_lt}
use Rattle.object_memory.specs.declared.layout.TheConstants.{CELLS_AT}
use Rattle.object_memory.specs.Memory.{MachineView, IsLaidOut}
use Rattle.object_memory.proofs.Held.{inside-memory}
use Rattle.call_replies.specs.Blocks.{Block, HoldsBlocks, contents, data_at}
use Rattle.call_replies.proofs.Looked.{inside-from}

pub clipped-twice : (n : ℕ) → min (min n 340282366920938463463374607431768211455) 18446744073709551615 ≡ min n 18446744073709551615
clipped-twice n = omega arith

module _ (m : MachineView) (held : List Block) (h : HoldsBlocks m held) (laid : IsLaidOut m) where
  -- no block ends behind the first cell
  too-many : (at n : ℕ) → CELLS_AT ≤ n → data_at held at n ≡ None
  too-many at n much = by_found (data_at held at n) refl
    where
      by_found : (o : Option (List ℕ)) → data_at held at n ≡ o → o ≡ None
      by_found None e = refl
      by_found (Some x) e =
          let inside = inside-from m held h at n (ap is_some e) in
          let within = inside-memory m (contents held) at n inside h.heap in
          absurd (omega (arith, laid.below_cells, within.1, much))

  -- as many bytes as 64 bits can tell are too many
  pub clipped-data : (at n : ℕ) → data_at held at (min n 18446744073709551615) ≡ data_at held at n
  clipped-data at n = by_size (cases_lt 18446744073709551615 n)
    where
      by_size : (18446744073709551615 < n) ⊎ (n ≤ 18446744073709551615) → data_at held at (min n 18446744073709551615) ≡ data_at held at n
      by_size (inl large) =
          too-many at (min n 18446744073709551615) (omega arith) ∙ sym (too-many at n (omega arith))
      by_size (inr small) = let same : min n 18446744073709551615 ≡ n = omega arith in ap (data_at held at) same
