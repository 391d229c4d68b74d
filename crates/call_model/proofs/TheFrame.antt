-- No two frames hold the same arguments and zero elsewhere.
use Rattle.std.proofs.Common.{◌≡◌, ◌≢◌, ◌⊎◌, ℕ, suc, zero, ◌+◌, ◌-◌, ◌<◌, ◌≤◌, Bool, true, false, cond, nat_eq, nat_le, nat_lt, ◌&&◌, inl, inr, List, length, get_or, ap, subst, sym, ◌∙◌, refl, arith}
use Rattle.std.specs.List.{slice_index, slice_range}
use Rattle.std.proofs.lemmas.List.{ext_get_or}
use Rattle.std.proofs.lemmas.Bool.{cases_lt, eq-eqb, eqb-true, false≢true, true≢false}
use Rattle.std.proofs.lemmas.Grind.{common_steps}
use Rattle.xp_base.specs.LittleEndian.{low_bytes}
use Rattle.call_model.specs.declared.ctypes.CType.{CType}
use Rattle.call_model.specs.declared.places.Conv.{Conv}
use Rattle.call_model.specs.declared.places.Loc.{Loc}
use Rattle.call_model.specs.declared.places.Loc.TheVariants.{Gpr, Fpr, Stack}
use Rattle.call_model.specs.Placement.{place_at, space_at, stack_len_of}
use Rattle.call_model.specs.Values.{FrameView, byte_at, frame_of, HoldsPattern, HoldsArguments, Covers, IsTheFrame}
use Rattle.call_model.proofs.PlacedFrames.{holds-arguments, slice-byte}

-- a test is true or false, and of the first n numbers one passes it or none does
tells : (b : Bool) → (b ≡ true) ⊎ (b ≡ false)
tells true = inl refl
tells false = inr refl

one-or-none : (test : ℕ → Bool) (n : ℕ)
    → ((i : ℕ) × ((i < n) × (test i ≡ true))) ⊎ ((i : ℕ) → i < n → test i ≡ false)
one-or-none test zero = inr (λ i lt. absurd (omega (arith, lt)))
one-or-none test (suc n) = elim (tells (test n)) [
  | inl here ↦ inl (n, (omega arith, here))
  | inr fails ↦ elim (one-or-none test n) [
    | inl one ↦ inl (one.0, (omega (arith, one.1.0), one.1.1))
    | inr none ↦ inr (λ i lt. elim (cases_lt i n) [
      | inl below ↦ none i below
      | inr ge ↦ let is : i ≡ n = omega (arith, lt, ge) in ap test is ∙ fails
    ])
  ]
]

-- ---- general registers

in-gpr : ℕ → Loc → Bool
in-gpr r (Gpr s) = nat_eq s r
in-gpr r (Fpr s) = false
in-gpr r (Stack at) = false

gpr-is : (r : ℕ) (loc : Loc) → in-gpr r loc ≡ true → loc ≡ Gpr r
unfolding in-gpr
gpr-is r (Gpr s) e = ap Gpr (eqb-true s r e)
gpr-is r (Fpr s) e = absurd (false≢true e)
gpr-is r (Stack at) e = absurd (false≢true e)

gpr-is-not : (r : ℕ) (loc : Loc) → in-gpr r loc ≡ false → loc ≢ Gpr r
unfolding in-gpr
gpr-is-not r loc e is = true≢false (sym (eq-eqb r r refl) ∙ (sym (ap (in-gpr r) is) ∙ e))

gpr-holds : (frame : FrameView) (space p r : ℕ) (loc : Loc) → HoldsPattern frame space p loc
    → loc ≡ Gpr r → slice_index frame.gprs r ≡ p
gpr-holds frame space p r loc holds is = subst (HoldsPattern frame space p) is holds

-- ---- float registers

in-fpr : ℕ → Loc → Bool
in-fpr r (Gpr s) = false
in-fpr r (Fpr s) = nat_eq s r
in-fpr r (Stack at) = false

fpr-is : (r : ℕ) (loc : Loc) → in-fpr r loc ≡ true → loc ≡ Fpr r
unfolding in-fpr
fpr-is r (Gpr s) e = absurd (false≢true e)
fpr-is r (Fpr s) e = ap Fpr (eqb-true s r e)
fpr-is r (Stack at) e = absurd (false≢true e)

fpr-is-not : (r : ℕ) (loc : Loc) → in-fpr r loc ≡ false → loc ≢ Fpr r
unfolding in-fpr
fpr-is-not r loc e is = true≢false (sym (eq-eqb r r refl) ∙ (sym (ap (in-fpr r) is) ∙ e))

fpr-holds : (frame : FrameView) (space p r : ℕ) (loc : Loc) → HoldsPattern frame space p loc
    → loc ≡ Fpr r → slice_index frame.fprs r ≡ p
fpr-holds frame space p r loc holds is = subst (HoldsPattern frame space p) is holds

-- ---- the stack

covers : ℕ → Loc → ℕ → Bool
covers b (Gpr s) space = false
covers b (Fpr s) space = false
covers b (Stack at) space = nat_le at b && nat_lt b (at + space)

between : (at b end : ℕ) → (nat_le at b && nat_lt b end) ≡ true → (at ≤ b) × (b < end)
between at b end e = (grind (arith, common_steps, e), grind (arith, common_steps, e))

not-between : (at b end : ℕ) → (nat_le at b && nat_lt b end) ≡ false → ¬ ((at ≤ b) × (b < end))
not-between at b end e there = grind (arith, common_steps, e, there.0, there.1)

covers-is : (b : ℕ) (loc : Loc) (space : ℕ) → covers b loc space ≡ true → Covers loc space b
unfolding covers
covers-is b (Gpr s) space e = absurd (false≢true e)
covers-is b (Fpr s) space e = absurd (false≢true e)
covers-is b (Stack at) space e = between at b (at + space) e

covers-is-not : (b : ℕ) (loc : Loc) (space : ℕ) → covers b loc space ≡ false → ¬ Covers loc space b
unfolding covers
covers-is-not b (Gpr s) space e there = there
covers-is-not b (Fpr s) space e there = there
covers-is-not b (Stack at) space e there = not-between at b (at + space) e there

-- a byte in the space of a pattern that stands whole is a byte of the pattern
pattern-byte : ℕ → Loc → (space p : ℕ) → ℕ
pattern-byte b (Gpr s) space p = 0
pattern-byte b (Fpr s) space p = 0
pattern-byte b (Stack at) space p = get_or (low_bytes space p) (b - at) 0

byte-holds : (frame : FrameView) (space p b : ℕ) (loc : Loc) → HoldsPattern frame space p loc
    → Covers loc space b → slice_index frame.stack b ≡ pattern-byte b loc space p
unfolding pattern-byte
byte-holds frame space p b (Gpr s) holds there = absurd there
byte-holds frame space p b (Fpr s) holds there = absurd there
byte-holds frame space p b (Stack at) holds there =
    let k : ℕ = b - at in
    let in_space : k < space = omega (arith, there.0, there.1) in
    let again : at + k ≡ b = omega (arith, there.0) in
    sym (ap (λ j. get_or frame.stack j 0) again)
    ∙ sym (slice-byte frame.stack at space k in_space)
    ∙ ap (λ bytes. get_or bytes k 0) holds

-- ---- two frames that hold the same

module _ (conv : Conv) (types : List CType) (patterns : List ℕ) (one other : FrameView)
    (f : HoldsArguments conv types patterns one) (g : HoldsArguments conv types patterns other) where
  same-gpr : (r : ℕ) → slice_index one.gprs r ≡ slice_index other.gprs r
  same-gpr r = elim (one-or-none (λ i. in-gpr r (place_at conv types i)) (length types)) [
    | inl found ↦
        let is : place_at conv types found.0 ≡ Gpr r = gpr-is r (place_at conv types found.0) found.1.1 in
        gpr-holds one (space_at conv types found.0) (slice_index patterns found.0) r (place_at conv types found.0) (f.each found.0 found.1.0) is
        ∙ sym (gpr-holds other (space_at conv types found.0) (slice_index patterns found.0) r (place_at conv types found.0) (g.each found.0 found.1.0) is)
    | inr none ↦
        let free : (i : ℕ) → i < length types → place_at conv types i ≢ Gpr r
        = λ i lt. gpr-is-not r (place_at conv types i) (none i lt) in
        f.elsewhere.gprs_are r free ∙ sym (g.elsewhere.gprs_are r free)
  ]

  same-fpr : (r : ℕ) → slice_index one.fprs r ≡ slice_index other.fprs r
  same-fpr r = elim (one-or-none (λ i. in-fpr r (place_at conv types i)) (length types)) [
    | inl found ↦
        let is : place_at conv types found.0 ≡ Fpr r = fpr-is r (place_at conv types found.0) found.1.1 in
        fpr-holds one (space_at conv types found.0) (slice_index patterns found.0) r (place_at conv types found.0) (f.each found.0 found.1.0) is
        ∙ sym (fpr-holds other (space_at conv types found.0) (slice_index patterns found.0) r (place_at conv types found.0) (g.each found.0 found.1.0) is)
    | inr none ↦
        let free : (i : ℕ) → i < length types → place_at conv types i ≢ Fpr r
        = λ i lt. fpr-is-not r (place_at conv types i) (none i lt) in
        f.elsewhere.fprs_are r free ∙ sym (g.elsewhere.fprs_are r free)
  ]

  same-byte : (b : ℕ) → slice_index one.stack b ≡ slice_index other.stack b
  same-byte b = elim (one-or-none (λ i. covers b (place_at conv types i) (space_at conv types i)) (length types)) [
    | inl found ↦
        let there : Covers (place_at conv types found.0) (space_at conv types found.0) b
        = covers-is b (place_at conv types found.0) (space_at conv types found.0) found.1.1 in
        byte-holds one (space_at conv types found.0) (slice_index patterns found.0) b (place_at conv types found.0) (f.each found.0 found.1.0) there
        ∙ sym (byte-holds other (space_at conv types found.0) (slice_index patterns found.0) b (place_at conv types found.0) (g.each found.0 found.1.0) there)
    | inr none ↦
        let free : (i : ℕ) → i < length types → ¬ Covers (place_at conv types i) (space_at conv types i) b
        = λ i lt. covers-is-not b (place_at conv types i) (space_at conv types i) (none i lt) in
        f.elsewhere.stack_is b free ∙ sym (g.elsewhere.stack_is b free)
  ]

  same-frame : one ≡ other
  same-frame =
      ap (λ gprs. record { gprs = gprs; fprs = one.fprs; stack = one.stack })
      (ext_get_or 0 one.gprs other.gprs (f.gprs_are ∙ sym g.gprs_are) (λ r lt. same-gpr r))
      ∙ ap (λ fprs. record { gprs = other.gprs; fprs = fprs; stack = one.stack })
      (ext_get_or 0 one.fprs other.fprs (f.fprs_are ∙ sym g.fprs_are) (λ r lt. same-fpr r))
      ∙ ap (λ stack. record { gprs = other.gprs; fprs = other.fprs; stack = stack })
      (ext_get_or 0 one.stack other.stack (f.stack_is ∙ sym g.stack_is) (λ b lt. same-byte b))

pub is-the-frame : (conv : Conv) → IsTheFrame conv
is-the-frame conv types patterns e frame = (
  λ holds. same-frame conv types patterns frame (frame_of conv types patterns) holds (holds-arguments conv types patterns e),
  λ is. subst (HoldsArguments conv types patterns) (sym is) (holds-arguments conv types patterns e),
)
