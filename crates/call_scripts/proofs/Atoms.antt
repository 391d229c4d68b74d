-- The words one by one: what is read is spelled so, and what is spelled so is read.
use Rattle.std.proofs.Common.{◌≡◌, ℕ, zero, suc, ◌<◌, Bool, true, false, cond, eqb, List, [], ◌∷◌, ◌++◌, length, drop, ℤ, pos, neg_ℤ, Option, Some, None, Result, Ok, Err, refl, sym, ap, subst, ◌∙◌, inl, inr, arith}
use Rattle.std.specs.Prelude.{codes, find}
use Rattle.std.specs.Option.{option_map, option_map_or}
use Rattle.std.specs.Result.{result_ok}
use Rattle.std.specs.Str.{bytes_eq}
use Rattle.std.specs.Str.Parse.{digits_value, starts_with_minus}
use Rattle.std.proofs.lemmas.Bool.{false≢true, ne_eqb}
use Rattle.std.proofs.lemmas.Option.{cond_some, none-some, same_Some}
use Rattle.std.proofs.lemmas.Slice.Eq.{bytes_eq-Decides}
use Rattle.call_model.specs.declared.places.Conv.{Conv}
use Rattle.call_model.specs.declared.places.Conv.TheVariants.{SysV64, I386, Aapcs64, Ms64, Aapcs32}
use Rattle.hex.specs.Hex.{decode_of}
use Rattle.xp_base.specs.Digits.{IsNatural, IsDecimal, decimal_value}
use Rattle.line_words.specs.Words.{Word, after}
use Rattle.line_words.proofs.Prefixes.{after_read, after_spelled}
use Rattle.call_scripts.specs.Reading.{bytes_of, conv_of, decimal_of, digits_of, iid_of, name_of, number_of}
use Rattle.call_scripts.specs.Spellings.{conv_word, is_name, IsNumber, IsDigits, IsBytes, IsIid}
use Rattle.call_scripts.proofs.Numerals.{digits_yes, digits_read}

-- ---- names, bytes and IIDs

pub name_read : (w name : Word) → name_of w ≡ Some name → (w ≡ name) × (is_name name ≡ true)
unfolding name_of
name_read w name is = let read = cond_some (is_name w) w name is in (read.1, subst (λ v. is_name v ≡ true) read.1 read.0)

pub name_spelled : (w : Word) → is_name w ≡ true → name_of w ≡ Some w
unfolding name_of
name_spelled w is = rw is refl

no_bytes : {A : Type 0} (x : A) (b : Bool) (o : Option A) → cond b None o ≡ Some x → (b ≡ false) × (o ≡ Some x)
no_bytes x true o h = absurd (none-some x h)
no_bytes x false o h = (refl, h)

ok_is : {A E : Type 0} (r : Result A E) (x : A) → result_ok r ≡ Some x → r ≡ Ok x
ok_is (Ok y) x h = ap Ok (same_Some y x h)
ok_is (Err e) x h = absurd (none-some x h)

some_from : (n : ℕ) → eqb n 0 ≡ false → 0 < n
some_from zero h = absurd (false≢true (sym h))
some_from (suc n) h = omega arith

pub test_some : (n : ℕ) → 0 < n → eqb n 0 ≡ false
test_some n h = ne_eqb n 0 (λ e. absurd (omega arith))

pub bytes_read : (w bytes : Word) → bytes_of w ≡ Some bytes → IsBytes w bytes
unfolding bytes_of
bytes_read w bytes is =
    let read = no_bytes bytes (eqb (length w) 0) (result_ok (decode_of w)) is in (some_from (length w) read.0, ok_is (decode_of w) bytes read.1)

pub bytes_spelled : (w bytes : Word) → IsBytes w bytes → bytes_of w ≡ Some bytes
unfolding bytes_of
bytes_spelled w bytes is = let some : eqb (length w) 0 ≡ false = test_some (length w) is.0 in rw (some, is.1) refl

pub iid_read : (w bytes : Word) → iid_of w ≡ Some bytes → IsIid w bytes
unfolding iid_of
iid_read w bytes is = is

pub iid_spelled : (w bytes : Word) → IsIid w bytes → iid_of w ≡ Some bytes
unfolding iid_of
iid_spelled w bytes is = is

-- ---- conventions

-- what is found passes the test
found_passes : {A : Type 0} (test : A → Bool) (xs : List A) (x : A) → find test xs ≡ Some x → test x ≡ true
found_passes test [] x h = absurd (none-some x h)
found_passes test (y ∷ xs) x h = by_test (test y) refl (found_passes test xs x) h
  where
    by_test : (b : Bool) → test y ≡ b → (find test xs ≡ Some x → test x ≡ true) → cond b (Some y) (find test xs) ≡ Some x → test x ≡ true
    by_test true e later h = subst (λ z. test z ≡ true) (same_Some y x h) e
    by_test false e later h = later h

pub conv_read : (w : Word) (conv : Conv) → conv_of w ≡ Some conv → w ≡ conv_word conv
unfolding conv_of
conv_read w conv is = (bytes_eq-Decides w (conv_word conv)).0 (found_passes (λ c. bytes_eq w (conv_word c)) (SysV64 ∷ I386 ∷ Aapcs64 ∷ Ms64 ∷ Aapcs32 ∷ []) conv is)

pub conv_spelled : (conv : Conv) → conv_of (conv_word conv) ≡ Some conv
unfolding conv_of
conv_spelled SysV64 = refl
conv_spelled I386 = refl
conv_spelled Aapcs64 = refl
conv_spelled Ms64 = refl
conv_spelled Aapcs32 = refl

-- ---- numbers

pub digits_spelled : (radix longest : ℕ) (w : Word) (n : ℕ) → IsDigits radix longest w n → digits_of radix longest w ≡ Some n
digits_spelled radix longest w n is = digits_yes radix longest w is.0 ∙ ap Some (sym is.1)

mapped : {A B : Type 0} (f : A → B) (o : Option A) (y : B) → option_map f o ≡ Some y → (x : A) × (o ≡ Some x) × (f x ≡ y)
mapped f None y h = absurd (none-some y h)
mapped f (Some x) y h = (x, refl, same_Some (f x) y h)

decimal_read : (w : Word) (n : ℤ) → decimal_of w ≡ Some n → IsDecimal w × (n ≡ decimal_value w)
unfolding decimal_of
decimal_read w n is = by_sign (starts_with_minus w) is
  where
    by_sign : (b : Bool) → cond b (option_map (λ n. neg_ℤ (pos n)) (digits_of 10 20 (drop 1 w))) (option_map pos (digits_of 10 20 w)) ≡ Some n
        → IsNatural 10 20 (cond b (drop 1 w) w) × (n ≡ cond b (neg_ℤ (pos (digits_value 10 (drop 1 w)))) (pos (digits_value 10 w)))
    by_sign true h =
        let m = mapped (λ n. neg_ℤ (pos n)) (digits_of 10 20 (drop 1 w)) n h in
        let read = digits_read 10 20 (drop 1 w) m.0 m.1 in (read.0, sym m.2 ∙ ap (λ k. neg_ℤ (pos k)) read.1)
    by_sign false h =
        let m = mapped pos (digits_of 10 20 w) n h in
        let read = digits_read 10 20 w m.0 m.1 in (read.0, sym m.2 ∙ ap pos read.1)

decimal_spelled : (w : Word) → IsDecimal w → decimal_of w ≡ Some (decimal_value w)
unfolding decimal_of
decimal_spelled w is = by_sign (starts_with_minus w) is
  where
    by_sign : (b : Bool) → IsNatural 10 20 (cond b (drop 1 w) w)
        → cond b (option_map (λ n. neg_ℤ (pos n)) (digits_of 10 20 (drop 1 w))) (option_map pos (digits_of 10 20 w))
        ≡ Some (cond b (neg_ℤ (pos (digits_value 10 (drop 1 w)))) (pos (digits_value 10 w)))
    by_sign true h = rw (digits_yes 10 20 (drop 1 w) h) refl
    by_sign false h = rw (digits_yes 10 20 w h) refl

pub number_read : (w : Word) (n : ℤ) → number_of w ≡ Some n → IsNumber w n
unfolding number_of
number_read w n is = by_prefix (after (codes "0x") w) refl is
  where
    by_prefix : (o : Option Word) → after (codes "0x") w ≡ o → option_map_or (λ digits. option_map pos (digits_of 16 16 digits)) o (decimal_of w) ≡ Some n → IsNumber w n
    by_prefix None e h = inl (decimal_read w n h)
    by_prefix (Some digits) e h =
        let m = mapped pos (digits_of 16 16 digits) n h in
        let read = digits_read 16 16 digits m.0 m.1 in
        inr (digits, after_read (codes "0x") w digits e, read.0, sym m.2 ∙ ap pos read.1)

pub number_spelled : (w : Word) (n : ℤ) → IsNumber w n → number_of w ≡ Some n
unfolding number_of
number_spelled w n (inr h) = rw (h.1, after_spelled (codes "0x") h.0, digits_yes 16 16 h.0 h.2, h.3) refl
number_spelled w n (inl h) = by_prefix (after (codes "0x") w) refl
  where
    by_prefix : (o : Option Word) → after (codes "0x") w ≡ o → option_map_or (λ digits. option_map pos (digits_of 16 16 digits)) o (decimal_of w) ≡ Some n
    by_prefix None e = decimal_spelled w h.0 ∙ ap Some (sym h.1)
    by_prefix (Some digits) e =
        let no_digit : IsDecimal (codes "0x" ++ digits) = subst IsDecimal (after_read (codes "0x") w digits e) h.0 in
        let x_is_digit : 33 < 10 = no_digit.0.1.1.0 in absurd (omega arith)
