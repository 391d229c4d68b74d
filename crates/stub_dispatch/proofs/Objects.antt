-- The numbers of the objects of a machine.
use Rattle.std.proofs.Common.{◌≡◌, ℕ, ◌<◌, length, get_or, arith, ◌⊎◌, inl, inr}
use Rattle.std.proofs.lemmas.Grind.{common_steps}
use Rattle.std.proofs.lemmas.Option.{get_or_from_slice_get, slice_get_within}
use Rattle.object_memory.specs.Memory.{IsLaidOut, MachineView}
use Rattle.stub_dispatch.specs.Calls.{IsObject}

apart : (i j : ℕ) → (i < j) ⊎ ((j < i) ⊎ (i ≡ j))
apart i j = grind (arith, common_steps)

-- the addresses of a machine's objects rise, so that one object begins at an address
pub one_number : (m : MachineView) (address i j : ℕ) → IsLaidOut m → IsObject m address i → IsObject m address j → i ≡ j
one_number m address i j laid at-i at-j =
    let xs = m.objects in
    let x : get_or xs i 0 ≡ address = get_or_from_slice_get xs i address 0 at-i in let y : get_or xs j 0 ≡ address = get_or_from_slice_get xs j address 0 at-j in
    let in-i : i < length xs = slice_get_within xs i address at-i in let in-j : j < length xs = slice_get_within xs j address at-j in
    elim (apart i j) [
      | inl less ↦ absurd (omega (arith, laid.rising i j 0 less in-j, x, y))
      | inr more ↦ elim more [ inl less ↦ absurd (omega (arith, laid.rising j i 0 less in-i, x, y)) | inr same ↦ same ]
    ]
