-- The stack as a count over the whole list of types.
use Rattle.std.proofs.Common.{◌≡◌, ℕ, suc, zero, ◌+◌, ◌*◌, ◌-◌, ◌≤◌, Bool, true, false, not, cond, nat_le, List, [], ◌∷◌, ◌++◌, length, zero-add, take, count_by, add-one, ap, sym, ◌∙◌, arith}
use Rattle.std.specs.List.{range_with_len}
use Rattle.std.proofs.lemmas.List.{take_all}
use Rattle.std.proofs.lemmas.List.Sums.{sum_by_more, sum_by-append}
use Rattle.std.proofs.lemmas.Grind.{common_steps}
use Rattle.call_model.specs.declared.ctypes.CType.{CType}
use Rattle.call_model.specs.declared.ctypes.CType.TheVariants.{I8}
use Rattle.call_model.specs.declared.places.Conv.TheVariants.{SysV64, Aapcs64}
use Rattle.call_model.specs.Types.{is_float, integers, floats}
use Rattle.call_model.specs.Placement.{type_at, finds_no_register, gprs_of, fprs_of, overflow_bytes, overflow_count, CountsOverflow}

-- a range with one number more
range-more : (a n : ℕ) → range_with_len a (suc n) ≡ range_with_len a n ++ (a + n) ∷ []
range-more a zero = ap (λ k. k ∷ []) (omega arith)
range-more a (suc n) = ap (λ ks. a ∷ ks) (range-more (a + 1) n ∙ ap (λ k. range_with_len (a + 1) n ++ k ∷ []) (omega arith))

-- one argument more finds no register exactly where its class has used them all up
one-more : (gprs fprs i f : ℕ) (b : Bool)
    → (i - gprs) + (f - fprs) + cond (cond b (nat_le fprs f) (nat_le gprs i)) 1 0 ≡
    (i + cond (not b) 1 0 - gprs) + (f + cond b 1 0 - fprs)
one-more gprs fprs i f true = grind (arith, common_steps)
one-more gprs fprs i f false = grind (arith, common_steps)

-- how many of the first n arguments find no register
counted : (gprs fprs : ℕ) (types : List CType) (n : ℕ) → n ≤ length types
    → count_by (finds_no_register gprs fprs types) (range_with_len 0 n) ≡
    (integers (take n types) - gprs) + (floats (take n types) - fprs)
counted gprs fprs types zero le = omega arith
counted gprs fprs types (suc n) le =
    let ints : integers (take (suc n) types) ≡ integers (take n types) + cond (not (is_float (type_at types n))) 1 0
    = ap (λ k. integers (take k types)) (sym (add-one n)) ∙ sum_by_more (λ u. cond (not (is_float u)) 1 0) types n I8 (omega arith) in
    let flts : floats (take (suc n) types) ≡ floats (take n types) + cond (is_float (type_at types n)) 1 0
    = ap (λ k. floats (take k types)) (sym (add-one n)) ∙ sum_by_more (λ u. cond (is_float u) 1 0) types n I8 (omega arith) in
    let last : range_with_len 0 (suc n) ≡ range_with_len 0 n ++ n ∷ []
    = range-more 0 n ∙ ap (λ k. range_with_len 0 n ++ k ∷ []) (zero-add n) in
    ap (count_by (finds_no_register gprs fprs types)) last
    ∙ sum_by-append (λ k. cond (finds_no_register gprs fprs types k) 1 0) (range_with_len 0 n) (n ∷ [])
    ∙ omega (arith, counted gprs fprs types n (omega arith), one-more gprs fprs (integers (take n types)) (floats (take n types)) (is_float (type_at types n)), ints, flts)

-- the count over the whole list
counted-all : (gprs fprs : ℕ) (types : List CType)
    → overflow_bytes gprs fprs (integers types) (floats types) ≡ 8 * overflow_count gprs fprs types
counted-all gprs fprs types =
    let all : take (length types) types ≡ types = take_all (length types) types (omega arith) in
    omega (arith, counted gprs fprs types (length types) (omega arith), ap integers all, ap floats all)

pub counts-overflow-sysv64 : CountsOverflow SysV64
counts-overflow-sysv64 types = counted-all (gprs_of SysV64) (fprs_of SysV64) types

pub counts-overflow-aapcs64 : CountsOverflow Aapcs64
counts-overflow-aapcs64 types = counted-all (gprs_of Aapcs64) (fprs_of Aapcs64) types
