-- A frame while the items of a line are put into it.
use Rattle.std.proofs.Common.{◌≡◌, ℕ, suc, ◌+◌, ◌-◌, ◌<◌, ◌≤◌, Bool, true, false, cond, leb, not, List, [], ◌∷◌, ◌++◌, Some, None, length, map, take, drop, get_or, ap, sym, subst, refl, ◌∙◌, arith, inl, inr, ◌⊎◌}
use Rattle.std.specs.Prelude.{fold, is_some, nat_le, nat_lt, slice_index}
use Rattle.std.specs.List.{position, position_or_len, range_with_len}
use Rattle.std.proofs.lemmas.Bool.{cases_lt, false≢true, le-leb, leb-true, lt-leb, lt-ltb, ltb-false}
use Rattle.std.proofs.lemmas.List.{append-nil, ext_get_or, get_or-replicate, get_or-take, length-append, length-replicate, length-take-le, nil_from_length, length-drop}
use Rattle.std.proofs.lemmas.List.FromFn.{get_or-map-range_with_len, length-map-range_with_len}
use Rattle.std.proofs.lemmas.List.Sums.{fold-append}
use Rattle.call_model.specs.declared.places.Conv.{Conv}
use Rattle.call_model.specs.declared.places.Conv.TheVariants.{SysV64, I386, Aapcs64, Ms64, Aapcs32}
use Rattle.call_model.specs.declared.places.Loc.{Loc}
use Rattle.call_model.specs.declared.places.Loc.TheVariants.{Gpr, Fpr, Stack as StackAt}
use Rattle.call_model.specs.Placement.{word_of}
use Rattle.call_model.specs.Values.{FrameView, byte_at, fpr_at, gpr_at}
use Rattle.call_scripts.specs.declared.script.EnterItem.{EnterItem}
use Rattle.call_scripts.specs.declared.script.EnterItem.TheVariants.{Register, Stack}
use Rattle.object_memory.specs.declared.layout.TheConstants.{STACK_LIMIT}
use Rattle.object_memory.specs.Frames.{IsPlace, Puts, with_stack_bytes, zero_frame}
use Rattle.xp_base.specs.LittleEndian.{low_bytes}
use Rattle.xp_base.proofs.LittleEndian.{length-low_bytes}
use Rattle.script_meaning.specs.Enters.{entered_fpr, entered_frame, entered_gpr, fpr_after, gpr_after, misformed, place_of_this, pushed_this, register_named, stack_after, takes_frame_item, takes_register, takes_stack}
use Rattle.entered_frames.specs.Frames.{HoldsItems, Takes}
use Rattle.entered_frames.specs.Registers.{IsRegister}

-- ---- the object's address

pub four-pushed : (this : ℕ) → length (low_bytes 4 this) ≡ 4
four-pushed this = length-low_bytes 4 this

this-fits : (conv : Conv) (frame : FrameView) (this : ℕ)
    → length (pushed_this conv this) ≤ length frame.stack → IsPlace frame (place_of_this conv) (word_of conv)
this-fits SysV64 frame this few = omega arith
this-fits Aapcs64 frame this few = omega arith
this-fits Ms64 frame this few = omega arith
this-fits I386 frame this few = (omega arith, omega (arith, few, length-low_bytes 4 this))
this-fits Aapcs32 frame this few = (omega arith, omega (arith, few, length-low_bytes 4 this))

this-is_no_fpr : (conv : Conv) (r other this : ℕ) → fpr_at r other (place_of_this conv) this ≡ other
this-is_no_fpr SysV64 r other this = refl
this-is_no_fpr Aapcs64 r other this = refl
this-is_no_fpr Ms64 r other this = refl
this-is_no_fpr I386 r other this = refl
this-is_no_fpr Aapcs32 r other this = refl

word-byte : (b this : ℕ) → b < 4 → byte_at b 0 (StackAt 0) 4 this ≡ slice_index (low_bytes 4 this) b
word-byte b this lt =
    let under : nat_lt b (0 + 4) ≡ true = lt-ltb b 4 lt in
    let above : nat_le 0 b ≡ true = le-leb 0 b (omega arith) in
    let same : b - 0 ≡ b = omega arith in rw (above, under, same) refl

pushed-byte : (conv : Conv) (b this : ℕ) → b < length (pushed_this conv this)
    → byte_at b 0 (place_of_this conv) (word_of conv) this ≡ slice_index (pushed_this conv this) b
pushed-byte SysV64 b this lt = absurd (omega (arith, lt))
pushed-byte Aapcs64 b this lt = absurd (omega (arith, lt))
pushed-byte Ms64 b this lt = absurd (omega (arith, lt))
pushed-byte I386 b this lt = word-byte b this (omega (arith, lt, length-low_bytes 4 this))
pushed-byte Aapcs32 b this lt = word-byte b this (omega (arith, lt, length-low_bytes 4 this))

-- ---- the frame without items

module _ (conv : Conv) (this : ℕ) (bytes : List ℕ) (zero put : FrameView) (pushed : ℕ)
    (pushed-is : pushed ≡ length (pushed_this conv this))
    (zero-is : zero ≡ zero_frame (pushed + length bytes)) where
  stack-long : length zero.stack ≡ pushed + length bytes
  stack-long = ap (λ (f : FrameView). length f.stack) zero-is ∙ length-replicate (pushed + length bytes) 0

  pub place-fits : IsPlace zero (place_of_this conv) (word_of conv)
  place-fits = this-fits conv zero this (omega (arith, pushed-is, stack-long))

  module _ (puts : Puts zero put (place_of_this conv) (word_of conv) this) where
    put-long : length put.stack ≡ pushed + length bytes
    put-long = puts.stack_stays ∙ stack-long

    pub bytes-fit : pushed + length bytes ≤ length put.stack
    bytes-fit = omega (arith, put-long)

    front : take pushed put.stack ≡ pushed_this conv this
    front =
        let long : length (take pushed put.stack) ≡ pushed =
        length-take-le pushed put.stack (omega (arith, put-long)) in
        ext_get_or 0 (take pushed put.stack) (pushed_this conv this) (long ∙ pushed-is)
        (λ b lt.
        let within : b < pushed = omega (arith, lt, long) in
        get_or-take pushed put.stack b 0 within
        ∙ puts.byte b (omega (arith, within, stack-long))
        ∙ ap (λ (f : FrameView). byte_at b (slice_index f.stack b) (place_of_this conv) (word_of conv) this) zero-is
        ∙ ap (λ n. byte_at b n (place_of_this conv) (word_of conv) this)
        (get_or-replicate (pushed + length bytes) b 0 0 (omega (arith, within)))
        ∙ pushed-byte conv b this (omega (arith, within, pushed-is)))

    behind : drop (pushed + length bytes) put.stack ≡ []
    behind = nil_from_length (drop (pushed + length bytes) put.stack)
        (length-drop (pushed + length bytes) put.stack ∙ omega (arith, put-long))

    pub begun : HoldsItems conv this [] bytes (with_stack_bytes put pushed bytes)
    begun = record {
      gprs_len = puts.gprs_stay ∙ ap (λ (f : FrameView). length f.gprs) zero-is;
      fprs_len = puts.fprs_stay ∙ ap (λ (f : FrameView). length f.fprs) zero-is;
      gprs = λ r lt.
          puts.gpr r (subst (λ (f : FrameView). r < length f.gprs) (sym zero-is) lt)
          ∙ ap (λ (f : FrameView). gpr_at r (slice_index f.gprs r) (place_of_this conv) this) zero-is
          ∙ ap (λ n. gpr_at r n (place_of_this conv) this) (get_or-replicate 8 r 0 0 lt);
      fprs = λ r lt.
          puts.fpr r (subst (λ (f : FrameView). r < length f.fprs) (sym zero-is) lt)
          ∙ this-is_no_fpr conv r (slice_index zero.fprs r) this
          ∙ ap (λ (f : FrameView). slice_index f.fprs r) zero-is
          ∙ get_or-replicate 8 r 0 0 lt;
      stack = (λ j. front j ++ (bytes ++ behind j)) ∙ ap (λ bs. pushed_this conv this ++ bs) (append-nil bytes);
    }

-- ---- an item

pub register-fits : (at : Loc) (frame : FrameView) → IsRegister at → IsPlace frame at 8
register-fits (Gpr r) frame is = is
register-fits (Fpr r) frame is = is
register-fits (StackAt at) frame is = absurd is

no_byte : (at : Loc) (b other value : ℕ) → IsRegister at → byte_at b other at 8 value ≡ other
no_byte (Gpr r) b other value is = refl
no_byte (Fpr r) b other value is = refl
no_byte (StackAt at) b other value is = absurd is

module _ (conv : Conv) (name : List ℕ) (value : ℕ) (old new : FrameView) where
  pub named-taken : (at : Loc) → IsRegister at → Some at ≡ register_named conv name
      → Puts old new at 8 value → Takes conv (Register name value) old new
  named-taken at register is puts = record {
    gprs_stay = puts.gprs_stay;
    fprs_stay = puts.fprs_stay;
    gprs = λ r lt. puts.gpr r lt ∙ rw (sym is) refl;
    fprs = λ r lt. puts.fpr r lt ∙ rw (sym is) refl;
    stack = ext_get_or 0 new.stack old.stack puts.stack_stays
        (λ b lt. puts.byte b (omega (arith, lt, puts.stack_stays))
        ∙ no_byte at b (slice_index old.stack b) value register);
  }

  pub unnamed-taken : None ≡ register_named conv name → Takes conv (Register name value) old old
  unnamed-taken is = record {
    gprs_stay = refl;
    fprs_stay = refl;
    gprs = λ r lt. rw (sym is) refl;
    fprs = λ r lt. rw (sym is) refl;
    stack = refl;
  }

-- one item more
pub holds-more : (conv : Conv) (this : ℕ) (items : List EnterItem) (item : EnterItem) (bytes : List ℕ)
    (old new : FrameView) → HoldsItems conv this items bytes old → Takes conv item old new
    → HoldsItems conv this (items ++ item ∷ []) bytes new
holds-more conv this items item bytes old new holds takes = record {
  gprs_len = takes.gprs_stay ∙ holds.gprs_len;
  fprs_len = takes.fprs_stay ∙ holds.fprs_len;
  gprs = λ r lt.
      takes.gprs r (omega (arith, lt, holds.gprs_len))
      ∙ ap (λ n. gpr_after conv r n item) (holds.gprs r lt)
      ∙ sym (fold-append (gpr_after conv r) (gpr_at r 0 (place_of_this conv) this) items (item ∷ []));
  fprs = λ r lt.
      takes.fprs r (omega (arith, lt, holds.fprs_len))
      ∙ ap (λ n. fpr_after conv r n item) (holds.fprs r lt)
      ∙ sym (fold-append (fpr_after conv r) 0 items (item ∷ []));
  stack = takes.stack ∙ holds.stack;
}

-- ---- the whole frame

whole : (f : ℕ → ℕ) (n : ℕ) (xs : List ℕ) → length xs ≡ n → ((i : ℕ) → i < n → get_or xs i 0 ≡ f i)
    → xs ≡ map f (range_with_len 0 n)
whole f n xs len each =
    ext_get_or 0 xs (map f (range_with_len 0 n)) (len ∙ sym (length-map-range_with_len f 0 n))
    (λ i lt.
    let below : i < n = omega (arith, lt, len) in
    each i below ∙ sym (get_or-map-range_with_len f 0 n i i 0 below (omega arith)))

pub entered : (conv : Conv) (this : ℕ) (items : List EnterItem) (frame : FrameView)
    → HoldsItems conv this items (fold stack_after [] items) frame
    → frame ≡ entered_frame conv this items
unfolding entered_frame
entered conv this items frame holds = λ j. record {
  gprs = whole (entered_gpr conv this items) 8 frame.gprs holds.gprs_len holds.gprs j;
  fprs = whole (entered_fpr conv items) 8 frame.fprs holds.fprs_len holds.fprs j;
  stack = holds.stack j;
}

-- ---- the stack is no longer than one may be

le-moved : (p n limit : ℕ) → p ≤ limit → leb n (limit - p) ≡ leb (p + n) limit
le-moved p n limit few = by_order (cases_lt (limit - p) n)
  where
    by_order : (limit - p < n) ⊎ (n ≤ limit - p) → leb n (limit - p) ≡ leb (p + n) limit
    by_order (inl more) =
        lt-leb n (limit - p) more ∙ sym (lt-leb (p + n) limit (omega (arith, more, few)))
    by_order (inr less) = le-leb n (limit - p) less ∙ sym (le-leb (p + n) limit (omega (arith, less, few)))

pub takes-stack : (conv : Conv) (bytes : List ℕ) (pushed : ℕ)
    → ((this : ℕ) → pushed ≡ length (pushed_this conv this)) → pushed ≤ 4
    → leb (length bytes) (4096 - pushed) ≡ takes_stack conv bytes
takes-stack conv bytes pushed is few =
    le-moved pushed (length bytes) 4096 (omega (arith, few))
    ∙ ap (λ n. leb n 4096)
    (ap (λ p. p + length bytes) (is 0) ∙ sym (length-append (pushed_this conv 0) bytes))

-- every item is taken where none is the first that is not
none-first : {X : Type 0} (p : X → Bool) (xs : List X) → position p xs ≡ None
    → length xs ≤ position_or_len p xs
none-first p xs is = by_test (nat_lt (position_or_len p xs) (length xs)) refl is
  where
    by_test : (b : Bool) → nat_lt (position_or_len p xs) (length xs) ≡ b
        → cond b (Some (position_or_len p xs)) None ≡ None → length xs ≤ position_or_len p xs
    by_test true test is = absurd (false≢true (sym (ap is_some is)))
    by_test false test is = ltb-false (position_or_len p xs) (length xs) test

next-taken : (taken : Bool) (n rest : ℕ) → suc n ≤ cond (not (not taken)) (1 + rest) 0
    → (taken ≡ true) × (n ≤ rest)
next-taken true n rest le = (refl, omega (arith, le))
next-taken false n rest le = absurd (omega (arith, le))

abbrev is_left : Conv → EnterItem → Bool
is_left conv item = not (takes_frame_item conv item)

last-taken : (conv : Conv) (items : List EnterItem) (bytes : List ℕ) → takes_stack conv bytes ≡ true
    → length items ≤ position_or_len (is_left conv) items
    → takes_stack conv (fold stack_after bytes items) ≡ true
last-taken conv [] bytes fits all = fits
last-taken conv (Register name value ∷ items) bytes fits all =
    let next = next-taken (takes_register conv name) (length items) (position_or_len (is_left conv) items) all in
    last-taken conv items bytes fits next.1
last-taken conv (Stack given ∷ items) bytes fits all =
    let next = next-taken (takes_stack conv given) (length items) (position_or_len (is_left conv) items) all in
    last-taken conv items given next.0 next.1

nothing-fits : (conv : Conv) → takes_stack conv [] ≡ true
nothing-fits SysV64 = refl
nothing-fits Aapcs64 = refl
nothing-fits Ms64 = refl
nothing-fits I386 = le-leb (length (low_bytes 4 0 ++ [])) 4096 (omega (arith, length-append (low_bytes 4 0) [], length-low_bytes 4 0))
nothing-fits Aapcs32 = le-leb (length (low_bytes 4 0 ++ [])) 4096 (omega (arith, length-append (low_bytes 4 0) [], length-low_bytes 4 0))

pub stack-fits : (conv : Conv) (items : List EnterItem) → misformed conv items ≡ None
    → length (pushed_this conv 0) + length (fold stack_after [] items) ≤ STACK_LIMIT
stack-fits conv items is =
    let bytes = fold stack_after [] items in
    let test : takes_stack conv bytes ≡ true =
    last-taken conv items [] (nothing-fits conv) (none-first (is_left conv) items is) in
    omega (
      arith,
      leb-true (length (pushed_this conv 0 ++ bytes)) 4096 test,
      length-append (pushed_this conv 0) bytes,
    )
