-- The prototype of a method: how long it is, and what stands where in it.
use Rattle.std.proofs.Common.{◌≡◌, ◌≢◌, ℕ, zero, suc, ◌+◌, ◌-◌, ◌<◌, ◌≤◌, List, [], ◌∷◌, length, Bool, true, false, not, Option, Some, None, arith, ltb, lt-ltb, le-ltb, refl, sym, ap, ◌∙◌, take, drop}
use Rattle.std.specs.Prelude.{map, option_map, slice_get, ◌++◌, ◌&&◌, if◌then◌else◌}
use Rattle.std.proofs.lemmas.List.{length-append, length-map, length-take, take-append-drop}
use Rattle.call_model.specs.declared.prototypes.ProtoArg.{ProtoArg}
use Rattle.lib_model.specs.declared.contents.Method.{Method}
use Rattle.lib_model.specs.declared.param_types.Param.{Param}
use Rattle.lib_model.specs.Table.{arg_of, context_arg, count_arg, first_args, gives_value, is_attribute, middle_args, position_in, proto_of, takes_context, takes_count, written_count}
use Rattle.lib_model.proofs.Positions.{has_positions}
use Rattle.typelib_faults.specs.declared.faults.BadTypelib.{BadTypelib}
use Rattle.typelib_faults.specs.Places.{param_at, param_end}
use Rattle.typelib_faults.specs.Walk.{reach, values, walk}
use Rattle.typelib_faults.proofs.WalkFacts.{none_orelse, orelse_none}
use Rattle.descriptor_reader.specs.Shapes.{middle_context}
use Rattle.descriptor_reader.proofs.SearchLaws.{behind_front, front_same}

pub proto_length : (m : Method) → length (proto_of m) ≡ length (first_args m) + length m.params + length (middle_args m)
unfolding proto_of
proto_length m =
    let n : ℕ = written_count m.params in
    let front : List ProtoArg = map (arg_of m) (take n m.params) in
    let back : List ProtoArg = map (arg_of m) (drop n m.params) in
    let parts : length (take n m.params) + length (drop n m.params) ≡ length m.params = sym (length-append (take n m.params) (drop n m.params)) ∙ ap (λ (ps : List Param). length ps) (take-append-drop n m.params) in
    omega (arith, length-append (first_args m) (front ++ (middle_args m ++ back)), length-append front (middle_args m ++ back), length-append (middle_args m) back, length-map (take n m.params) (arg_of m), length-map (drop n m.params) (arg_of m), parts)

-- ---- the parameters before those that are added

pub walk_front : {S : Type 0} (f : S → Option BadTypelib) (g : S → S) (s : S) (n k : ℕ) → walk f g s n ≡ None → k ≤ n → walk f g s k ≡ None
walk_front f g s n zero e low = refl
walk_front f g s zero (suc k) e low = absurd (omega (arith, low))
walk_front f g s (suc n) (suc k) e low =
    let parts : (f s ≡ None) × (walk f g (g s) n ≡ None) = orelse_none (f s) (walk f g (g s) n) e
    in none_orelse (f s) (walk f g (g s) k) parts.0 (walk_front f g (g s) n k parts.1 (omega (arith, low)))

one_or_none : (b : Bool) → (if b then 0 else 1) ≤ 1
one_or_none true = omega arith
one_or_none false = omega arith

pub none_written : (x : List ℕ) (p n : ℕ) → n ≡ 0 → 0 ≡ written_count (values (param_at x) (param_end x) p n)
none_written x p zero e = refl
none_written x p (suc n) e = absurd (omega (arith, e))

one_more : (b : Bool) (n : ℕ) → 1 + (if b then n else suc n) ≡ (if b then suc n else suc (suc n))
one_more true n = omega arith
one_more false n = omega arith

pub written_values : (x : List ℕ) (p n : ℕ) → written_count (values (param_at x) (param_end x) p (suc n)) ≡ (if gives_value (param_at x (reach (param_end x) p n)) then n else suc n)
written_values x p zero = refl
written_values x p (suc n) =
    ap (λ (k : ℕ). 1 + k) (written_values x (param_end x p) n) ∙ one_more (gives_value (param_at x (reach (param_end x) (param_end x p) n))) n

pub written_is : (x : List ℕ) (from count last : ℕ) (b : Bool) → count ≢ 0 → last ≡ reach (param_end x) from (count - 1) → gives_value (param_at x last) ≡ b → written_count (values (param_at x) (param_end x) from count) ≡ (if b then count - 1 else count)
written_is x from zero last b some is gives = absurd (some refl)
written_is x from (suc n) last b some is gives =
    let k : suc n - 1 ≡ n = omega arith
    in let there : reach (param_end x) from n ≡ last = sym (is ∙ ap (reach (param_end x) from) k)
    in written_values x from n
    ∙ (ap (λ (c : Bool). if c then n else suc n) (ap (λ (p : ℕ). gives_value (param_at x p)) there ∙ gives) ∙ ap (λ (j : ℕ). if b then j else suc n) (sym k))

pub written_low : (ps : List Param) → written_count ps ≤ length ps
written_low [] = omega arith
written_low (p ∷ []) = one_or_none (gives_value p)
written_low (p ∷ q ∷ ps) = omega (arith, written_low (q ∷ ps))

-- ---- what stands where

one_alone : (b : Bool) (a : ProtoArg) (p : ℕ) → p < length (if b then a ∷ [] else []) → slice_get (if b then a ∷ [] else []) p ≡ Some a
one_alone true a zero low = refl
one_alone true a (suc p) low = absurd (omega (arith, low))
one_alone false a p low = absurd (omega (arith, low))

pub first_stands : (m : Method) (position : ℕ) → position < length (first_args m) → slice_get (proto_of m) position ≡ Some context_arg
unfolding proto_of
first_stands m position low =
    let n : ℕ = written_count m.params in
    front_same (first_args m) (map (arg_of m) (take n m.params) ++ (middle_args m ++ map (arg_of m) (drop n m.params))) position low
    ∙ one_alone (takes_context m && is_attribute m) context_arg position low

-- the argument of a parameter, before those that are added and behind them
pub before_stands : (m : Method) (position k : ℕ) → position ≡ length (first_args m) + k → k < written_count m.params → slice_get (proto_of m) position ≡ option_map (arg_of m) (slice_get m.params k)
before_stands m position k is low =
    let test : ltb k (written_count m.params) ≡ true = lt-ltb k (written_count m.params) low in
    let there : position ≡ position_in m k = rw test (omega (arith, is)) in
    ap (slice_get (proto_of m)) there ∙ (has_positions m).argument k

pub behind_stands : (m : Method) (position k : ℕ) → position ≡ length (first_args m) + k + length (middle_args m) → written_count m.params ≤ k → slice_get (proto_of m) position ≡ option_map (arg_of m) (slice_get m.params k)
behind_stands m position k is high =
    let test : ltb k (written_count m.params) ≡ false = le-ltb k (written_count m.params) high in
    let there : position ≡ position_in m k = rw test (omega (arith, is)) in
    ap (slice_get (proto_of m)) there ∙ (has_positions m).argument k

middle_there : (m : Method) (position k : ℕ) → position ≡ length (first_args m) + (written_count m.params + k) → k < length (middle_args m) → slice_get (proto_of m) position ≡ slice_get (middle_args m) k
unfolding proto_of
middle_there m position k is low =
    let n : ℕ = written_count m.params in
    let front : List ProtoArg = map (arg_of m) (take n m.params) in
    let back : List ProtoArg = map (arg_of m) (drop n m.params) in
    let long : length front ≡ n = omega (arith, length-map (take n m.params) (arg_of m), length-take n m.params, written_low m.params) in
    behind_front (first_args m) (front ++ (middle_args m ++ back)) position (n + k) is
    ∙ (behind_front front (middle_args m ++ back) (n + k) k (omega (arith, long)) ∙ front_same (middle_args m) back k low)

pub context_stands : (m : Method) (position k : ℕ) → position ≡ length (first_args m) + (written_count m.params + k) → k < length (middle_context m) → slice_get (proto_of m) position ≡ Some context_arg
context_stands m position k is low =
    let counts : List ProtoArg = if takes_count m then count_arg ∷ [] else [] in
    let within : k < length (middle_args m) = omega (arith, low, length-append (middle_context m) counts) in
    middle_there m position k is within
    ∙ (front_same (middle_context m) counts k low ∙ one_alone (takes_context m && not (is_attribute m)) context_arg k low)

pub count_stands : (m : Method) (position k : ℕ) → position ≡ length (first_args m) + (written_count m.params + k) → length (middle_context m) ≤ k → k < length (middle_args m) → slice_get (proto_of m) position ≡ Some count_arg
count_stands m position k is high low =
    let counts : List ProtoArg = if takes_count m then count_arg ∷ [] else [] in
    let j : ℕ = k - length (middle_context m) in
    let within : j < length counts = omega (arith, high, low, length-append (middle_context m) counts) in
    middle_there m position k is low
    ∙ (behind_front (middle_context m) counts k j (omega (arith, high)) ∙ one_alone (takes_count m) count_arg j within)
