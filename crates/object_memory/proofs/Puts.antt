-- A write of low bytes, byte by byte.
use Rattle.std.proofs.Common.{◌≡◌, ℕ, ◌+◌, ◌-◌, ◌<◌, ◌≤◌, cond, ◌&&◌, List, ◌++◌, length, take, drop, get_or, refl, sym, subst, ap, ◌∙◌, arith, length-take}
use Rattle.std.specs.Prelude.{nat_le, nat_lt}
use Rattle.std.proofs.lemmas.List.{get_or-take, get_or-drop, get_or_append_left, get_or-append_right}
use Rattle.std.proofs.lemmas.Grind.{common_steps}
use Rattle.raw_block.specs.Bytes.{overwritten}
use Rattle.call_model.specs.Values.{FrameView}
use Rattle.xp_base.specs.LittleEndian.{low_bytes}
use Rattle.call_model.specs.declared.places.Loc.TheVariants.{Stack}
use Rattle.object_memory.specs.Frames.{Puts}
use Rattle.object_memory.proofs.Lists.{length-overwritten}
use Rattle.xp_base.proofs.LittleEndian.{length-low_bytes}

module _ (xs : List ℕ) (at : ℕ) (ys : List ℕ) (within : at + length ys ≤ length xs) where
  front_len : length (take at xs) ≡ at
  front_len = omega (arith, length-take at xs, within)

  pub get_or-before : (b : ℕ) → b < at → get_or (overwritten xs at ys) b 0 ≡ get_or xs b 0
  get_or-before b lt =
      let low : b < length (take at xs) = omega (arith, front_len) in
      get_or_append_left (take at xs) (ys ++ drop (at + length ys) xs) 0 b low ∙ get_or-take at xs b 0 lt

  pub get_or-written : (b : ℕ) → at ≤ b → b < at + length ys → get_or (overwritten xs at ys) b 0 ≡ get_or ys (b - at) 0
  get_or-written b le lt =
      let low : b - at < length ys = omega (arith, le, lt) in
      get_or-append_right (take at xs) (ys ++ drop (at + length ys) xs) at b 0 front_len le ∙ get_or_append_left ys (drop (at + length ys) xs) 0 (b - at) low

  pub get_or-behind : (b : ℕ) → at + length ys ≤ b → get_or (overwritten xs at ys) b 0 ≡ get_or xs b 0
  get_or-behind b le =
      let low : at ≤ b = omega (arith, le) in let high : length ys ≤ b - at = omega (arith, le) in
      let again : at + length ys + (b - at - length ys) ≡ b = omega (arith, le) in
      get_or-append_right (take at xs) (ys ++ drop (at + length ys) xs) at b 0 front_len low
      ∙ get_or-append_right ys (drop (at + length ys) xs) (length ys) (b - at) 0 refl high
      ∙ get_or-drop (at + length ys) xs (b - at - length ys) 0 ∙ ap (λ k. get_or xs k 0) again

by_place : (b at n x y z : ℕ) → (b < at → x ≡ z) → (at ≤ b → b < at + n → x ≡ y) → (at + n ≤ b → x ≡ z) → x ≡ cond (nat_le at b && nat_lt b (at + n)) y z
by_place b at n x y z before there behind = grind (arith, common_steps, before, there, behind)

-- byte b after the n low bytes of v were written
pub byte_put : (xs : List ℕ) (at n v b : ℕ) → at + n ≤ length xs
    → get_or (overwritten xs at (low_bytes n v)) b 0 ≡ cond (nat_le at b && nat_lt b (at + n)) (get_or (low_bytes n v) (b - at) 0) (get_or xs b 0)
byte_put xs at n v b within =
    let count = length-low_bytes n v in
    let fits : at + length (low_bytes n v) ≤ length xs = omega (arith, within, count) in
    by_place b at n _ _ _ (λ lt. get_or-before xs at (low_bytes n v) fits b lt)
    (λ le lt. get_or-written xs at (low_bytes n v) fits b le (omega (arith, lt, count)))
    (λ le. get_or-behind xs at (low_bytes n v) fits b (omega (arith, le, count)))

-- the low bytes of v were written into a stack of len bytes
pub puts_stack : (gprs fprs bytes : List ℕ) (len at n v : ℕ) → len ≤ length bytes → at + n ≤ len
    → Puts (record { gprs = gprs; fprs = fprs; stack = take len bytes }) (record { gprs = gprs; fprs = fprs; stack = take len (overwritten bytes at (low_bytes n v)) }) (Stack at) n v
puts_stack gprs fprs bytes len at n v enough within =
    let written = overwritten bytes at (low_bytes n v) in
    let fits : at + length (low_bytes n v) ≤ length bytes = omega (arith, enough, within, length-low_bytes n v) in
    let same : length written ≡ length bytes = length-overwritten bytes at (low_bytes n v) fits in
    record {
      gprs_stay = refl;
      fprs_stay = refl;
      stack_stays = omega (arith, length-take len written, length-take len bytes, same);
      gpr = λ r lt. refl;
      fpr = λ r lt. refl;
      byte = λ b lt. let low : b < len = omega (arith, lt, length-take len bytes) in
          get_or-take len written b 0 low ∙ byte_put bytes at n v b (omega (arith, enough, within))
          ∙ ap (λ x. cond (nat_le at b && nat_lt b (at + n)) (get_or (low_bytes n v) (b - at) 0) x) (sym (get_or-take len bytes b 0 low));
    }

-- the same of a frame that has these registers and bytes
pub puts_written : (old : FrameView) (gprs fprs bytes written : List ℕ) (len at n v : ℕ) → record { gprs = gprs; fprs = fprs; stack = take len bytes } ≡ old → written ≡ overwritten bytes at (low_bytes n v)
    → len ≤ length bytes → at + n ≤ length old.stack → Puts old (record { gprs = gprs; fprs = fprs; stack = take len written }) (Stack at) n v
puts_written old gprs fprs bytes written len at n v view is enough within =
    let low : at + n ≤ len = omega (arith, within, ap (λ (f : FrameView). length f.stack) view, length-take len bytes) in
    subst (λ (w : List ℕ). Puts old (record { gprs = gprs; fprs = fprs; stack = take len w }) (Stack at) n v) (sym is)
    (subst (λ (f : FrameView). Puts f (record { gprs = gprs; fprs = fprs; stack = take len (overwritten bytes at (low_bytes n v)) }) (Stack at) n v) view
    (puts_stack gprs fprs bytes len at n v enough low))
