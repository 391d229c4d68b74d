-- Loops over parts that have no fault: at which part a loop is.
use Rattle.std.proofs.Common.{◌≡◌, ℕ, ◌+◌, ◌<◌, Option, None}
use Rattle.typelib_faults.specs.declared.faults.BadTypelib.{BadTypelib}
use Rattle.typelib_faults.specs.Walk.{reach, walk}
use Rattle.typelib_faults.proofs.WalkFacts.{part_fine, step_more}

-- of n parts, which have no fault, the loop is at the one behind i others, or at their end
pub record IsAt {S : Type 0} (f : S → Option BadTypelib) (g : S → S) (from : S) (n : ℕ) (at : S) (i : ℕ) : Type 0 where
  pub fine : walk f g from n ≡ None
  pub reached : at ≡ reach g from i

pub part_here : {S : Type 0} {f : S → Option BadTypelib} {g : S → S} {from : S} {n : ℕ} {at : S} {i : ℕ} → IsAt f g from n at i → i < n → f at ≡ None
part_here {S} {f} {g} {from} {n} {at} {i} is low = part_fine f g from at n i is.fine low is.reached

pub step_on : {S : Type 0} {f : S → Option BadTypelib} {g : S → S} {from : S} {n : ℕ} {at : S} {i : ℕ} (next : S) → IsAt f g from n at i → next ≡ g at → IsAt f g from n next (i + 1)
step_on {S} {f} {g} {from} {n} {at} {i} next is there = record {
  fine = is.fine;
  reached = step_more g from at next i is.reached there;
}
