-- What a frame holds when some of the arguments of a call stand in it.
use Rattle.std.proofs.Common.{◌≡◌, ℕ, suc, ◌+◌, ◌<◌, ◌≤◌, List, [], ◌∷◌, ◌++◌, length, map, take, drop, replicate, get_or, ap, sym, subst, refl, ◌∙◌, arith}
use Rattle.std.specs.List.{range_with_len, slice_index}
use Rattle.std.proofs.lemmas.List.{ext_get_or, get_or-replicate, length-replicate, length-take-le, take_more}
use Rattle.std.proofs.Math.Seq.{split_at}
use Rattle.std.proofs.lemmas.List.FromFn.{get_or-map-range_with_len, length-map-range_with_len}
use Rattle.std.proofs.lemmas.List.Sums.{fold-append}
use Rattle.call_model.specs.declared.ctypes.CType.{CType}
use Rattle.call_model.specs.declared.ctypes.CType.TheVariants.{I8}
use Rattle.call_model.specs.declared.places.Conv.{Conv}
use Rattle.call_model.specs.declared.places.Conv.TheVariants.{SysV64, I386, Aapcs64, Ms64, Aapcs32}
use Rattle.call_model.specs.declared.places.Loc.{Loc}
use Rattle.call_model.specs.declared.places.Loc.TheVariants.{Gpr, Fpr, Stack}
use Rattle.call_model.specs.Placement.{place, space_of, stack_len_of, type_at, gprs_of, fprs_of, IsWithin, PlacesWithin}
use Rattle.call_model.specs.Values.{Argument, FrameView, argument, arguments, gpr_at, fpr_at, byte_at, gpr_of, fpr_of, byte_of, frame_of}
use Rattle.call_model.proofs.PlacedFrames.{arguments-push}
use Rattle.object_memory.specs.Frames.{IsPlace, Puts}

-- the frame holds these arguments and zeros, on a stack of this length
pub record Holds (args : List Argument) (len : ℕ) (frame : FrameView) : Type 0 where
  pub gprs_len : length frame.gprs ≡ 8
  pub fprs_len : length frame.fprs ≡ 8
  pub stack_len : length frame.stack ≡ len
  pub gprs : (r : ℕ) → r < 8 → slice_index frame.gprs r ≡ gpr_of args r
  pub fprs : (r : ℕ) → r < 8 → slice_index frame.fprs r ≡ fpr_of args r
  pub bytes : (b : ℕ) → b < len → slice_index frame.stack b ≡ byte_of args b

pub holds-nothing : (len : ℕ) → Holds [] len (record { gprs = replicate 8 0; fprs = replicate 8 0; stack = replicate len 0 })
holds-nothing len = record {
  gprs_len = refl;
  fprs_len = refl;
  stack_len = length-replicate len 0;
  gprs = λ r lt. get_or-replicate 8 r 0 0 lt;
  fprs = λ r lt. get_or-replicate 8 r 0 0 lt;
  bytes = λ b lt. get_or-replicate len b 0 0 lt;
}

-- one more argument
holds-push : (args : List Argument) (a : Argument) (len : ℕ) (old new : FrameView) → Holds args len old → Puts old new a.at a.space a.pattern → Holds (args ++ a ∷ []) len new
holds-push args a len old new h p = record {
  gprs_len = p.gprs_stay ∙ h.gprs_len;
  fprs_len = p.fprs_stay ∙ h.fprs_len;
  stack_len = p.stack_stays ∙ h.stack_len;
  gprs = λ r lt. p.gpr r (omega (arith, lt, h.gprs_len)) ∙ ap (λ n. gpr_at r n a.at a.pattern) (h.gprs r lt) ∙ sym (fold-append (λ other (b : Argument). gpr_at r other b.at b.pattern) 0 args (a ∷ []));
  fprs = λ r lt. p.fpr r (omega (arith, lt, h.fprs_len)) ∙ ap (λ n. fpr_at r n a.at a.pattern) (h.fprs r lt) ∙ sym (fold-append (λ other (b : Argument). fpr_at r other b.at b.pattern) 0 args (a ∷ []));
  bytes = λ b lt. p.byte b (omega (arith, lt, h.stack_len)) ∙ ap (λ n. byte_at b n a.at a.space a.pattern) (h.bytes b lt) ∙ sym (fold-append (λ other (c : Argument). byte_at b other c.at c.space c.pattern) 0 args (a ∷ []));
}

-- one argument more, by what the steps of a walk answer for it
pub holds-more : (conv : Conv) (types : List CType) (patterns : List ℕ) (t : CType) (p len : ℕ) (old new : FrameView) (at : Loc) (space pattern : ℕ) → length types ≡ length patterns
    → at ≡ place conv types t → space ≡ space_of conv t → pattern ≡ p
    → Holds (arguments conv types patterns) len old → Puts old new at space pattern → Holds (arguments conv (types ++ t ∷ []) (patterns ++ p ∷ [])) len new
holds-more conv types patterns t p len old new at space pattern paired at-is space-is p-is h puts =
    rw (arguments-push conv types patterns t p paired)
    (holds-push (arguments conv types patterns) (argument conv types t p) len old new h (rw (at-is, space-is, p-is) at puts))

-- the argument at place i after those before it
pub holds-next : (conv : Conv) (types : List CType) (patterns : List ℕ) (i len : ℕ) (old new : FrameView) (at : Loc) (space : ℕ) → length types ≡ length patterns → i < length types
    → at ≡ place conv (take i types) (type_at types i) → space ≡ space_of conv (type_at types i)
    → Holds (arguments conv (take i types) (take i patterns)) len old → Puts old new at space (slice_index patterns i)
    → Holds (arguments conv (take (i + 1) types) (take (i + 1) patterns)) len new
holds-next conv types patterns i len old new at space paired lt at-is space-is h p =
    let in_patterns : i < length patterns = omega (arith, paired, lt) in
    let same : length (take i types) ≡ length (take i patterns)
    = length-take-le i types (omega arith) ∙ sym (length-take-le i patterns (omega arith)) in
    rw (
      take_more types i I8 lt,
      take_more patterns i 0 in_patterns,
      arguments-push conv (take i types) (take i patterns) (type_at types i) (slice_index patterns i) same,
    )
    (holds-push (arguments conv (take i types) (take i patterns)) (argument conv (take i types) (type_at types i) (slice_index patterns i)) len old new h (rw (at-is, space-is) at p))

whole : (f : ℕ → ℕ) (n : ℕ) (xs : List ℕ) → length xs ≡ n → ((i : ℕ) → i < n → get_or xs i 0 ≡ f i) → xs ≡ map f (range_with_len 0 n)
whole f n xs len each =
    ext_get_or 0 xs (map f (range_with_len 0 n)) (len ∙ sym (length-map-range_with_len f 0 n))
    (λ i lt. let below : i < n = omega (arith, lt, len) in each i below ∙ sym (get_or-map-range_with_len f 0 n i i 0 below (omega arith)))

-- a frame that holds all arguments is the frame of the call
pub holds-all : (conv : Conv) (types : List CType) (patterns : List ℕ) (frame : FrameView) → Holds (arguments conv types patterns) (stack_len_of conv types) frame → frame ≡ frame_of conv types patterns
holds-all conv types patterns frame h =
    ap (λ gprs. record { gprs = gprs; fprs = frame.fprs; stack = frame.stack }) (whole (gpr_of (arguments conv types patterns)) 8 frame.gprs h.gprs_len h.gprs)
    ∙ ap (λ fprs. record { gprs = (frame_of conv types patterns).gprs; fprs = fprs; stack = frame.stack }) (whole (fpr_of (arguments conv types patterns)) 8 frame.fprs h.fprs_len h.fprs)
    ∙ ap (λ stack. record { gprs = (frame_of conv types patterns).gprs; fprs = (frame_of conv types patterns).fprs; stack = stack }) (whole (byte_of (arguments conv types patterns)) (stack_len_of conv types) frame.stack h.stack_len h.bytes)

-- no convention has more than 8 registers of a class
pub registers : (conv : Conv) → (gprs_of conv ≤ 8) × (fprs_of conv ≤ 8)
registers SysV64 = (omega arith, omega arith)
registers I386 = (omega arith, omega arith)
registers Aapcs64 = (omega arith, omega arith)
registers Ms64 = (omega arith, omega arith)
registers Aapcs32 = (omega arith, omega arith)

-- what the convention has, the frame has
pub is-place : (conv : Conv) (frame : FrameView) (len : ℕ) (loc : Loc) (space : ℕ) → IsWithin conv len loc space → space ≤ 8 → length frame.stack ≡ len → IsPlace frame loc space
is-place conv frame len (Gpr r) space within small is = omega (arith, within, (registers conv).0)
is-place conv frame len (Fpr r) space within small is = omega (arith, within, (registers conv).1)
is-place conv frame len (Stack at) space within small is = (small, omega (arith, within, is))

-- the place of the argument at place i
pub is-next-place : (conv : Conv) (types : List CType) (i : ℕ) (frame : FrameView) (at : Loc) (space : ℕ) → PlacesWithin conv → i < length types → length frame.stack ≡ stack_len_of conv types
    → at ≡ place conv (take i types) (type_at types i) → space ≡ space_of conv (type_at types i) → space ≤ 8 → IsPlace frame at space
is-next-place conv types i frame at space within lt len at-is space-is small =
    let inside : IsWithin conv (stack_len_of conv types) (place conv (take i types) (type_at types i)) (space_of conv (type_at types i))
    = subst (λ ts. IsWithin conv (stack_len_of conv ts) (place conv (take i types) (type_at types i)) (space_of conv (type_at types i))) (sym (split_at types i I8 lt)) (within (take i types) (type_at types i) (drop (suc i) types)) in
    is-place conv frame (stack_len_of conv types) at space (rw (at-is, space-is) inside) small len
