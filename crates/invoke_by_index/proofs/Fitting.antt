-- The numbers of arguments that fit.
use Rattle.std.proofs.Common.{◌≡◌, ℕ, zero, suc, ◌<◌, ◌≤◌, ◌⊎◌, inl, inr, true, List, [], ◌∷◌, length, refl, ap, arith, None}
use Rattle.std.specs.Prelude.{ℤ}
use Rattle.std.proofs.lemmas.Grind.{common_steps}
use Rattle.call_model.specs.declared.ctypes.CType.{CType}
use Rattle.call_model.specs.declared.ctypes.CType.TheVariants as c
use Rattle.call_model.specs.declared.places.Conv.{Conv}
use Rattle.call_model.specs.declared.places.Conv.TheVariants.{SysV64, I386, Aapcs64, Ms64, Aapcs32}
use Rattle.call_model.specs.declared.prototypes.ProtoArg.{ProtoArg}
use Rattle.invoke_by_index.specs.declared.args.Arg.{Arg}
use Rattle.invoke_by_index.specs.declared.args.Arg.TheVariants.{Absent}
use Rattle.invoke_by_index.specs.Arguments.{arg_fault, given_at, number_in, parameters, proto_at}
use Rattle.invoke_by_index.specs.Ranges.{in_range, is_pattern}
use Rattle.invoke_by_index.proofs.FirstFaults.{fitting-ranges}

-- 64 bits hold the numbers of each type
address-pattern : (conv : Conv) (n : ℤ) → in_range conv c.Ptr n ≡ true → is_pattern n ≡ true
address-pattern SysV64 n e = grind (arith, common_steps)
address-pattern I386 n e = grind (arith, common_steps)
address-pattern Aapcs64 n e = grind (arith, common_steps)
address-pattern Ms64 n e = grind (arith, common_steps)
address-pattern Aapcs32 n e = grind (arith, common_steps)

in_range-pattern : (conv : Conv) (t : CType) (n : ℤ) → in_range conv t n ≡ true → is_pattern n ≡ true
in_range-pattern conv c.I8 n e = grind (arith, common_steps)
in_range-pattern conv c.I16 n e = grind (arith, common_steps)
in_range-pattern conv c.I32 n e = grind (arith, common_steps)
in_range-pattern conv c.I64 n e = grind (arith, common_steps)
in_range-pattern conv c.Ptr n e = address-pattern conv n e
in_range-pattern conv t n e = grind (arith, common_steps)

-- no argument is given past the last
none-past : (args : List Arg) (k : ℕ) → length args ≤ k → given_at args k ≡ Absent
none-past [] k past = refl
none-past (x ∷ args) zero past = absurd (omega (arith, past))
none-past (x ∷ args) (suc k) past = none-past args k (omega (arith, past))

inside_or_past : (k n : ℕ) → (k < n) ⊎ (n ≤ k)
inside_or_past k n = grind (arith, common_steps)

-- and those of arguments that fit
pub fitting-pattern : (conv : Conv) (proto : List ProtoArg) (args : List Arg) → arg_fault conv proto args ≡ None → (k : ℕ) → is_pattern (number_in (given_at args k)) ≡ true
fitting-pattern conv proto args fit k =
    elim (inside_or_past k (length args)) as (λ _. is_pattern (number_in (given_at args k)) ≡ true) [
      | inl inside ↦ in_range-pattern conv (proto_at (parameters proto) k).ty (number_in (given_at args k)) (fitting-ranges conv proto args fit k inside)
      | inr past ↦ ap (λ x. is_pattern (number_in x)) (none-past args k past)
    ]
