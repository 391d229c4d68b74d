-- What the flags of a library say. Each law is a test of all 64 cases, which computes.
use Rattle.std.proofs.Common.{◌≡◌, ℕ, ◌==◌, ◌<◌, nat_lt, ltb-true, arith, Bool, true, false, ◌&&◌, not, refl, sym}
use Rattle.std.specs.Int.RustNames.{bit_and}
use Rattle.lib_model.specs.Table.{has}
use Rattle.lib_model.specs.Valid.{AreKnownBits, method_bits, param_bits}
use Rattle.prototype_lowering.specs.Lowering.{method_flags, param_flags}

-- at both values of a test
both : (Bool → Bool) → Bool
both f = f true && f false

abbrev all6 : (Bool → Bool → Bool → Bool → Bool → Bool → Bool) → Bool
all6 f = both (λ a. both (λ b. both (λ c. both (λ d. both (λ e. both (λ g. f a b c d e g))))))

left : (a b : Bool) → (a && b) ≡ true → a ≡ true
left true b h = refl
left false b h = h

right : (a b : Bool) → (a && b) ≡ true → b ≡ true
right true b h = h
right false true h = refl
right false false h = h

each : (f : Bool → Bool) → both f ≡ true → (b : Bool) → f b ≡ true
unfolding both
each f h true = left (f true) (f false) h
each f h false = right (f true) (f false) h

each6 : (f : Bool → Bool → Bool → Bool → Bool → Bool → Bool) → all6 f ≡ true → (a b c d e g : Bool)
    → f a b c d e g ≡ true
each6 f h a b c d e g =
    each (λ x. f a b c d e x)
    (each (λ y. both (λ x. f a b c d y x))
    (each (λ z. both (λ y. both (λ x. f a b c z y x)))
    (each (λ u. both (λ z. both (λ y. both (λ x. f a b u z y x))))
    (each (λ v. both (λ u. both (λ z. both (λ y. both (λ x. f a v u z y x)))))
    (each (λ w. both (λ v. both (λ u. both (λ z. both (λ y. both (λ x. f w v u z y x)))))) h a) b)
    c) d) e) g

abbrev same : Bool → Bool → Bool
same true b = b
same false b = not b

same-true : (a b : Bool) → same a b ≡ true → a ≡ b
same-true true true h = refl
same-true true false h = sym h
same-true false true h = h
same-true false false h = refl

-- ---- parameters

pub param_in : (a b c d e g : Bool) → has (param_flags a b c d e g) 128 ≡ a
unfolding both
param_in a b c d e g =
    same-true (has (param_flags a b c d e g) 128) a
    (each6 (λ a b c d e g. same (has (param_flags a b c d e g) 128) a) refl a b c d e g)

pub param_out : (a b c d e g : Bool) → has (param_flags a b c d e g) 64 ≡ b
unfolding both
param_out a b c d e g =
    same-true (has (param_flags a b c d e g) 64) b
    (each6 (λ a b c d e g. same (has (param_flags a b c d e g) 64) b) refl a b c d e g)

pub param_retval : (a b c d e g : Bool) → has (param_flags a b c d e g) 32 ≡ c
unfolding both
param_retval a b c d e g =
    same-true (has (param_flags a b c d e g) 32) c
    (each6 (λ a b c d e g. same (has (param_flags a b c d e g) 32) c) refl a b c d e g)

pub param_optional : (a b c d e g : Bool) → has (param_flags a b c d e g) 4 ≡ g
unfolding both
param_optional a b c d e g =
    same-true (has (param_flags a b c d e g) 4) g
    (each6 (λ a b c d e g. same (has (param_flags a b c d e g) 4) g) refl a b c d e g)

-- ---- methods

pub method_getter : (a b c d e g : Bool) → has (method_flags a b c d e g) 128 ≡ a
unfolding both
method_getter a b c d e g =
    same-true (has (method_flags a b c d e g) 128) a
    (each6 (λ a b c d e g. same (has (method_flags a b c d e g) 128) a) refl a b c d e g)

pub method_setter : (a b c d e g : Bool) → has (method_flags a b c d e g) 64 ≡ b
unfolding both
method_setter a b c d e g =
    same-true (has (method_flags a b c d e g) 64) b
    (each6 (λ a b c d e g. same (has (method_flags a b c d e g) 64) b) refl a b c d e g)

pub method_notxpcom : (a b c d e g : Bool) → has (method_flags a b c d e g) 32 ≡ c
unfolding both
method_notxpcom a b c d e g =
    same-true (has (method_flags a b c d e g) 32) c
    (each6 (λ a b c d e g. same (has (method_flags a b c d e g) 32) c) refl a b c d e g)

pub method_hidden : (a b c d e g : Bool) → has (method_flags a b c d e g) 8 ≡ d
unfolding both
method_hidden a b c d e g =
    same-true (has (method_flags a b c d e g) 8) d
    (each6 (λ a b c d e g. same (has (method_flags a b c d e g) 8) d) refl a b c d e g)

pub method_argc : (a b c d e g : Bool) → has (method_flags a b c d e g) 4 ≡ e
unfolding both
method_argc a b c d e g =
    same-true (has (method_flags a b c d e g) 4) e
    (each6 (λ a b c d e g. same (has (method_flags a b c d e g) 4) e) refl a b c d e g)

pub method_context : (a b c d e g : Bool) → has (method_flags a b c d e g) 2 ≡ g
unfolding both
method_context a b c d e g =
    same-true (has (method_flags a b c d e g) 2) g
    (each6 (λ a b c d e g. same (has (method_flags a b c d e g) 2) g) refl a b c d e g)

-- ---- known bits

eqb-true : (m n : ℕ) → (m == n) ≡ true → m ≡ n
eqb-true m n h = grind (arith, h)

ltb-so : (m n : ℕ) → nat_lt m n ≡ true → m < n
ltb-so m n h = ltb-true m n h

pub param_known : (a b c d e g : Bool) → AreKnownBits param_bits (param_flags a b c d e g)
unfolding both
param_known a b c d e g = record {
  byte = ltb-so (param_flags a b c d e g) 256
      (each6 (λ a b c d e g. nat_lt (param_flags a b c d e g) 256) refl a b c d e g);
  known_alone =
      eqb-true (bit_and (param_flags a b c d e g) param_bits) (param_flags a b c d e g)
      (each6 (λ a b c d e g. bit_and (param_flags a b c d e g) param_bits == param_flags a b c d e
      g) refl a b c d e g);
}

pub method_known : (a b c d e g : Bool) → AreKnownBits method_bits (method_flags a b c d e g)
unfolding both
method_known a b c d e g = record {
  byte = ltb-so (method_flags a b c d e g) 256
      (each6 (λ a b c d e g. nat_lt (method_flags a b c d e g) 256) refl a b c d e g);
  known_alone =
      eqb-true (bit_and (method_flags a b c d e g) method_bits) (method_flags a b c d e g)
      (each6 (λ a b c d e g. bit_and (method_flags a b c d e g) method_bits == method_flags a b c d
      e g) refl a b c d e g);
}
