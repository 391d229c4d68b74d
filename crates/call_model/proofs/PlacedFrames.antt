-- What the frame of a call holds.
use Rattle.std.proofs.Common.{◌≡◌, ◌≢◌, ℕ, suc, ◌+◌, ◌-◌, ◌<◌, ◌≤◌, cond, nat_lt, nat_le, ◌&&◌, inl, inr, List, [], ◌∷◌, ◌++◌, length, take, drop, map, append_assoc, get_or, ap, subst, sym, ◌∙◌, refl, arith}
use Rattle.std.specs.List.{fold, range_with_len, slice_index, slice_range}
use Rattle.std.proofs.lemmas.List.{append-nil, ext_get_or, get_or-drop, get_or-take, length-drop, length-take-le, take-append-drop, take-take}
use Rattle.std.proofs.Math.Seq.{drop-cons}
use Rattle.std.proofs.lemmas.List.Sums.{fold-append}
use Rattle.std.proofs.lemmas.List.FromFn.{get_or-map-range_with_len, length-map-range_with_len}
use Rattle.std.proofs.lemmas.List.{get_or_past}
use Rattle.std.proofs.lemmas.Bool.{cases_lt}
use Rattle.std.proofs.lemmas.Bool.Decides.{eqb_tells}
use Rattle.std.proofs.lemmas.Grind.{common_steps}
use Rattle.xp_base.specs.LittleEndian.{low_bytes}
use Rattle.xp_base.proofs.LittleEndian.{length-low_bytes}
use Rattle.call_model.specs.declared.ctypes.CType.{CType}
use Rattle.call_model.specs.declared.ctypes.CType.TheVariants.{I8}
use Rattle.call_model.specs.declared.places.Conv.{Conv}
use Rattle.call_model.specs.declared.places.Conv.TheVariants.{SysV64, I386, Aapcs64, Ms64, Aapcs32}
use Rattle.call_model.specs.declared.places.Loc.{Loc}
use Rattle.call_model.specs.declared.places.Loc.TheVariants.{Gpr, Fpr, Stack}
use Rattle.call_model.specs.Placement.{place, place_at, type_at, space_at, space_of, stack_len_of, StandsBefore, IsWithin, gprs_of, fprs_of}
use Rattle.call_model.specs.Laws.{places-apart, places-within}
use Rattle.call_model.specs.Values.{Argument, argument, arguments, arguments_after, frame_registers, gpr_at, fpr_at, byte_at, gpr_of, fpr_of, byte_of, frame_of, HoldsPattern, HoldsEach, Covers, IsZeroElsewhere, HoldsArguments}

-- the first n bytes of a longer slice
pub shorter-slice : (xs : List ℕ) (at n m : ℕ) → n ≤ m
    → slice_range xs at (at + n) ≡ take n (slice_range xs at (at + m))
shorter-slice xs at n m le =
    let one : at + n - at ≡ n = omega arith in
    let other : at + m - at ≡ m = omega arith in
    rw (one, other) (sym (take-take n m (drop at xs) le))

-- byte k of a slice within the bytes
pub slice-byte : (xs : List ℕ) (at n k : ℕ) → k < n
    → get_or (slice_range xs at (at + n)) k 0 ≡ get_or xs (at + k) 0
slice-byte xs at n k lt =
    let count : at + n - at ≡ n = omega arith in
    rw count (get_or-take n (drop at xs) k 0 lt ∙ get_or-drop at xs k 0)

-- a slice that has the low bytes of a number, one by one
slice-is : (xs : List ℕ) (at n v : ℕ) → at + n ≤ length xs
    → ((k : ℕ) → k < n → get_or xs (at + k) 0 ≡ get_or (low_bytes n v) k 0)
    → slice_range xs at (at + n) ≡ low_bytes n v
slice-is xs at n v fits each =
    let count : at + n - at ≡ n = omega arith in
    let long : length (slice_range xs at (at + n)) ≡ n
    = rw count (length-take-le n (drop at xs) (omega (arith, length-drop at xs, fits))) in
    ext_get_or 0 (slice_range xs at (at + n)) (low_bytes n v) (long ∙ sym (length-low_bytes n v))
    (λ k lt. let below : k < n = omega (arith, lt, long) in slice-byte xs at n k below ∙ each k below)

-- arguments in two parts
pub arguments_after-append : (conv : Conv) (earlier types more : List CType)
    (patterns others : List ℕ)
    → length types ≡ length patterns
    → arguments_after conv earlier (types ++ more) (patterns ++ others) ≡ arguments_after conv
    earlier types patterns ++ arguments_after conv (earlier ++ types) more others
arguments_after-append conv earlier [] more [] others e = ap (λ es. arguments_after conv es more others) (sym (append-nil earlier))
arguments_after-append conv earlier [] more (p ∷ patterns) others e = absurd (omega (arith, e))
arguments_after-append conv earlier (t ∷ types) more [] others e = absurd (omega (arith, e))
arguments_after-append conv earlier (t ∷ types) more (p ∷ patterns) others e =
    ap (λ rest. argument conv earlier t p ∷ rest)
    (arguments_after-append conv (earlier ++ t ∷ []) types more patterns others (omega (arith, e))
    ∙ ap (λ es. arguments_after conv (earlier ++ t ∷ []) types patterns ++ arguments_after conv es more others) (append_assoc earlier (t ∷ []) types))

-- the arguments with one more
pub arguments-push : (conv : Conv) (types : List CType) (patterns : List ℕ) (t : CType) (p : ℕ)
    → length types ≡ length patterns
    → arguments conv (types ++ t ∷ []) (patterns ++ p ∷ []) ≡ arguments conv types patterns ++
    argument conv types t p ∷ []
arguments-push conv types patterns t p e =
    arguments_after-append conv [] types (t ∷ []) patterns (p ∷ []) e

-- arguments after one keep what it put into a register or a byte, if no location after its own
-- changes that
pub fold-kept : (conv : Conv) (earlier : List CType) (t : CType) (between types : List CType)
    (patterns : List ℕ) (f : ℕ → Argument → ℕ) (start : ℕ)
    →
    ((other : ℕ) (a : Argument) → StandsBefore (place conv earlier t) (space_of conv t) a.at → f other a ≡ other)
    → fold f start (arguments_after conv (earlier ++ t ∷ between) types patterns) ≡ start
fold-kept conv earlier t between [] patterns f start keeps = refl
fold-kept conv earlier t between (u ∷ types) [] f start keeps = refl
fold-kept conv earlier t between (u ∷ types) (p ∷ patterns) f start keeps =
    let now : f start (argument conv (earlier ++ t ∷ between) u p) ≡ start
    = keeps start (argument conv (earlier ++ t ∷ between) u p) (places-apart conv earlier t between u) in
    ap (λ s. fold f s (arguments_after conv ((earlier ++ t ∷ between) ++ u ∷ []) types patterns)) now
    ∙ ap (λ es. fold f start (arguments_after conv es types patterns)) (append_assoc earlier (t ∷ between) (u ∷ []))
    ∙ fold-kept conv earlier t (between ++ u ∷ []) types patterns f start keeps

-- so the arguments leave what the one in the middle put there
pub fold-middle : (conv : Conv) (earlier : List CType) (t : CType) (later : List CType)
    (before : List ℕ) (p : ℕ) (after : List ℕ) (f : ℕ → Argument → ℕ)
    → length earlier ≡ length before
    →
    ((other : ℕ) (a : Argument) → StandsBefore (place conv earlier t) (space_of conv t) a.at → f other a ≡ other)
    → fold f 0 (arguments conv (earlier ++ t ∷ later) (before ++ p ∷ after)) ≡ f
    (fold f 0 (arguments conv earlier before)) (argument conv earlier t p)
fold-middle conv earlier t later before p after f e keeps =
    ap (fold f 0) (arguments_after-append conv [] earlier (t ∷ later) before (p ∷ after) e)
    ∙ fold-append f 0 (arguments conv earlier before) _
    ∙ fold-kept conv earlier t [] later after f (f (fold f 0 (arguments conv earlier before)) (argument conv earlier t p)) keeps

-- what stands before another location is not changed by it
gpr-keeps : (r : ℕ) (loc other : Loc) (space n p : ℕ) → loc ≡ Gpr r → StandsBefore loc space other
    → gpr_at r n other p ≡ n
gpr-keeps r loc (Gpr s) space n p is before = let lt : r < s = subst (λ l. StandsBefore l space (Gpr s)) is before in grind (arith, common_steps)
gpr-keeps r loc (Fpr s) space n p is before = refl
gpr-keeps r loc (Stack at) space n p is before = refl

fpr-keeps : (r : ℕ) (loc other : Loc) (space n p : ℕ) → loc ≡ Fpr r → StandsBefore loc space other
    → fpr_at r n other p ≡ n
fpr-keeps r loc (Gpr s) space n p is before = refl
fpr-keeps r loc (Fpr s) space n p is before = let lt : r < s = subst (λ l. StandsBefore l space (Fpr s)) is before in grind (arith, common_steps)
fpr-keeps r loc (Stack at) space n p is before = refl

byte-keeps : (at k : ℕ) (loc other : Loc) (space wide n p : ℕ) → loc ≡ Stack at → k < space
    → StandsBefore loc space other → byte_at (at + k) n other wide p ≡ n
byte-keeps at k loc (Gpr s) space wide n p is lt before = refl
byte-keeps at k loc (Fpr s) space wide n p is lt before = refl
byte-keeps at k loc (Stack next) space wide n p is lt before = let le : at + space ≤ next = subst (λ l. StandsBefore l space (Stack next)) is before in grind (arith, common_steps)

-- what is put at a location stands there
gpr-put : (r n p : ℕ) → gpr_at r n (Gpr r) p ≡ p
gpr-put r n p = grind (arith, common_steps)

fpr-put : (r n p : ℕ) → fpr_at r n (Fpr r) p ≡ p
fpr-put r n p = grind (arith, common_steps)

byte-put : (at k n space p : ℕ) → k < space
    → byte_at (at + k) n (Stack at) space p ≡ get_or (low_bytes space p) k 0
byte-put at k n space p lt =
    let is : (at + k) - at ≡ k = omega arith in
    grind (arith, common_steps, ap (λ j. get_or (low_bytes space p) j 0) is)

-- no convention has more than 8 registers of a class
registers-at-most : (conv : Conv) → (gprs_of conv ≤ 8) × (fprs_of conv ≤ 8)
registers-at-most SysV64 = (omega arith, omega arith)
registers-at-most I386 = (omega arith, omega arith)
registers-at-most Aapcs64 = (omega arith, omega arith)
registers-at-most Ms64 = (omega arith, omega arith)
registers-at-most Aapcs32 = (omega arith, omega arith)

-- the frame of patterns holds the one in the middle at the place of its type
holds-middle : (conv : Conv) (earlier : List CType) (t : CType) (later : List CType)
    (before : List ℕ) (p : ℕ) (after : List ℕ)
    → length earlier ≡ length before → (loc : Loc) → place conv earlier t ≡ loc
    → HoldsPattern (frame_of conv (earlier ++ t ∷ later) (before ++ p ∷ after)) (space_of conv t) p
    loc
holds-middle conv earlier t later before p after e (Gpr r) is =
    let within : r < gprs_of conv = subst (λ l. IsWithin conv (stack_len_of conv (earlier ++ t ∷ later)) l (space_of conv t)) is (places-within conv earlier t later) in
    get_or-map-range_with_len (gpr_of (arguments conv (earlier ++ t ∷ later) (before ++ p ∷ after))) 0 8 r r 0 (omega (arith, (registers-at-most conv).0)) (omega arith)
    ∙ fold-middle conv earlier t later before p after (λ other a. gpr_at r other a.at a.pattern) e (λ other a apart. gpr-keeps r (place conv earlier t) a.at (space_of conv t) other a.pattern is apart)
    ∙ ap (λ l. gpr_at r (gpr_of (arguments conv earlier before) r) l p) is
    ∙ gpr-put r _ p
holds-middle conv earlier t later before p after e (Fpr r) is =
    let within : r < fprs_of conv = subst (λ l. IsWithin conv (stack_len_of conv (earlier ++ t ∷ later)) l (space_of conv t)) is (places-within conv earlier t later) in
    get_or-map-range_with_len (fpr_of (arguments conv (earlier ++ t ∷ later) (before ++ p ∷ after))) 0 8 r r 0 (omega (arith, (registers-at-most conv).1)) (omega arith)
    ∙ fold-middle conv earlier t later before p after (λ other a. fpr_at r other a.at a.pattern) e (λ other a apart. fpr-keeps r (place conv earlier t) a.at (space_of conv t) other a.pattern is apart)
    ∙ ap (λ l. fpr_at r (fpr_of (arguments conv earlier before) r) l p) is
    ∙ fpr-put r _ p
holds-middle conv earlier t later before p after e (Stack at) is =
    let within : at + space_of conv t ≤ stack_len_of conv (earlier ++ t ∷ later) = subst (λ l. IsWithin conv (stack_len_of conv (earlier ++ t ∷ later)) l (space_of conv t)) is (places-within conv earlier t later) in
    let stack : List ℕ = (frame_of conv (earlier ++ t ∷ later) (before ++ p ∷ after)).stack in
    slice-is stack at (space_of conv t) p
    (omega (arith, within, length-map-range_with_len (byte_of (arguments conv (earlier ++ t ∷ later) (before ++ p ∷ after))) 0 (stack_len_of conv (earlier ++ t ∷ later))))
    (λ k lt. get_or-map-range_with_len (byte_of (arguments conv (earlier ++ t ∷ later) (before ++ p ∷ after))) 0 (stack_len_of conv (earlier ++ t ∷ later)) (at + k) (at + k) 0 (omega (arith, within, lt)) (omega arith)
    ∙ fold-middle conv earlier t later before p after (λ other a. byte_at (at + k) other a.at a.space a.pattern) e (λ other a apart. byte-keeps at k (place conv earlier t) a.at (space_of conv t) a.space other a.pattern is lt apart)
    ∙ ap (λ l. byte_at (at + k) (byte_of (arguments conv earlier before) (at + k)) l (space_of conv t) p) is
    ∙ byte-put at k _ (space_of conv t) p lt)

-- a list is what comes before a place, the element there, and the rest
split-at : {X : Type 0} (xs : List X) (i : ℕ) (d : X) → i < length xs
    → take i xs ++ get_or xs i d ∷ drop (suc i) xs ≡ xs
split-at xs i d lt = ap (λ ys. take i xs ++ ys) (sym (drop-cons xs i d lt)) ∙ take-append-drop i xs

pub holds-each : (conv : Conv) (types : List CType) (patterns : List ℕ)
    → length types ≡ length patterns
    → HoldsEach conv types patterns (frame_of conv types patterns)
holds-each conv types patterns e i lt =
    let in_patterns : i < length patterns = omega (arith, e, lt) in
    let same_front : length (take i types) ≡ length (take i patterns)
    = length-take-le i types (omega arith) ∙ sym (length-take-le i patterns (omega arith)) in
    let frames : frame_of conv (take i types ++ type_at types i ∷ drop (suc i) types) (take i patterns ++ slice_index patterns i ∷ drop (suc i) patterns) ≡ frame_of conv types patterns
    = ap (λ ts. frame_of conv ts (take i patterns ++ slice_index patterns i ∷ drop (suc i) patterns)) (split-at types i I8 lt) ∙ ap (frame_of conv types) (split-at patterns i 0 in_patterns) in
    subst (λ fr. HoldsPattern fr (space_of conv (type_at types i)) (slice_index patterns i) (place_at conv types i)) frames
    (holds-middle conv (take i types) (type_at types i) (drop (suc i) types) (take i patterns) (slice_index patterns i) (drop (suc i) patterns) same_front (place_at conv types i) refl)

-- arguments that leave a register or a byte alone leave it as it was
fold-untouched : (conv : Conv) (earlier types : List CType) (patterns : List ℕ)
    (f : ℕ → Argument → ℕ) (start : ℕ)
    →
    ((i : ℕ) → i < length types → (other p : ℕ) → f other (argument conv (earlier ++ take i types) (type_at types i) p) ≡ other)
    → fold f start (arguments_after conv earlier types patterns) ≡ start
fold-untouched conv earlier [] patterns f start leaves = refl
fold-untouched conv earlier (t ∷ types) [] f start leaves = refl
fold-untouched conv earlier (t ∷ types) (p ∷ patterns) f start leaves =
    let now : f start (argument conv earlier t p) ≡ start
    = ap (λ es. f start (argument conv es t p)) (sym (append-nil earlier)) ∙ leaves 0 (omega arith) start p in
    ap (λ s. fold f s (arguments_after conv (earlier ++ t ∷ []) types patterns)) now
    ∙ fold-untouched conv (earlier ++ t ∷ []) types patterns f start
    (λ i lt other q. ap (λ es. f other (argument conv es (type_at types i) q)) (append_assoc earlier (t ∷ []) (take i types)) ∙ leaves (suc i) (omega (arith, lt)) other q)

-- a pattern that is put elsewhere leaves a register or a byte alone
gpr-untouched : (r n p : ℕ) (loc : Loc) → loc ≢ Gpr r → gpr_at r n loc p ≡ n
gpr-untouched r n p (Gpr s) ne = elim (eqb_tells r s) [ inl h ↦ absurd (ne (ap Gpr (sym h.1))) | inr h ↦ ap (λ b. cond b p n) h.0 ]
gpr-untouched r n p (Fpr s) ne = refl
gpr-untouched r n p (Stack at) ne = refl

fpr-untouched : (r n p : ℕ) (loc : Loc) → loc ≢ Fpr r → fpr_at r n loc p ≡ n
fpr-untouched r n p (Gpr s) ne = refl
fpr-untouched r n p (Fpr s) ne = elim (eqb_tells r s) [ inl h ↦ absurd (ne (ap Fpr (sym h.1))) | inr h ↦ ap (λ b. cond b p n) h.0 ]
fpr-untouched r n p (Stack at) ne = refl

outside : (b n p at end q : ℕ) → ((at ≤ b) × (b < end) → ⊥)
    → cond (nat_le at b && nat_lt b end) q n ≡ n
outside b n p at end q not_in = grind (arith, common_steps)

byte-untouched : (b n space p : ℕ) (loc : Loc) → ¬ Covers loc space b → byte_at b n loc space p ≡ n
byte-untouched b n space p (Gpr s) not_in = refl
byte-untouched b n space p (Fpr s) not_in = refl
byte-untouched b n space p (Stack at) not_in = outside b n p at (at + space) (get_or (low_bytes space p) (b - at) 0) not_in

-- a list of what is zero up to n is zero at each place
zero-at : (f : ℕ → ℕ) (n r : ℕ) → (r < n → f r ≡ 0) → get_or (map f (range_with_len 0 n)) r 0 ≡ 0
zero-at f n r is = elim (cases_lt r n) [
  | inl lt ↦ get_or-map-range_with_len f 0 n r r 0 lt (omega arith) ∙ is lt
  | inr ge ↦ get_or_past (map f (range_with_len 0 n)) r 0 (omega (arith, ge, length-map-range_with_len f 0 n))
]

pub is-zero-elsewhere : (conv : Conv) (types : List CType) (patterns : List ℕ)
    → IsZeroElsewhere conv types (frame_of conv types patterns)
is-zero-elsewhere conv types patterns =
    let args : List Argument = arguments conv types patterns in
    record {
      gprs_are = λ r none. zero-at (gpr_of args) frame_registers r
          (λ _. fold-untouched conv [] types patterns (λ other a. gpr_at r other a.at a.pattern) 0 (λ i lt other p. gpr-untouched r other p (place_at conv types i) (none i lt)));
      fprs_are = λ r none. zero-at (fpr_of args) frame_registers r
          (λ _. fold-untouched conv [] types patterns (λ other a. fpr_at r other a.at a.pattern) 0 (λ i lt other p. fpr-untouched r other p (place_at conv types i) (none i lt)));
      stack_is = λ b none. zero-at (byte_of args) (stack_len_of conv types) b
          (λ _. fold-untouched conv [] types patterns (λ other a. byte_at b other a.at a.space a.pattern) 0 (λ i lt other p. byte-untouched b other (space_at conv types i) p (place_at conv types i) (none i lt)));
    }

pub holds-arguments : (conv : Conv) (types : List CType) (patterns : List ℕ)
    → length types ≡ length patterns
    → HoldsArguments conv types patterns (frame_of conv types patterns)
holds-arguments conv types patterns e =
    let args : List Argument = arguments conv types patterns in
    record {
      gprs_are = length-map-range_with_len (gpr_of args) 0 frame_registers;
      fprs_are = length-map-range_with_len (fpr_of args) 0 frame_registers;
      stack_is = length-map-range_with_len (byte_of args) 0 (stack_len_of conv types);
      each = holds-each conv types patterns e;
      elsewhere = is-zero-elsewhere conv types patterns;
    }
