-- The frame of an enter passes the object's address, whatever its items are.
use Rattle.std.proofs.Common.{◌≡◌, ◌∙◌, ◌<◌, ◌≤◌, ◌+◌, ◌*◌, ◌^◌, ℕ, zero, suc, Bool, true, false, cond, not, List, [], ◌∷◌, ◌++◌, drop, fold, length, nat_lt, Option, Some, None, is_some, bytes_eq, eqb, if◌then◌else◌, ap, refl, sym, arith}
use Rattle.std.specs.Prelude.{position, slice_range}
use Rattle.std.specs.List.{list_any, position_or_len}
use Rattle.std.specs.Option.{option_map, option_map_or, option_or}
use Rattle.std.proofs.Math.Nat.{mod-eq_of_lt}
use Rattle.std.proofs.lemmas.Bool.{false≢true, ltb-false}
use Rattle.std.proofs.lemmas.Grind.{common_steps}
use Rattle.std.proofs.lemmas.List.{take_at}
use Rattle.std.proofs.lemmas.List.Quantifiers.{position-Some}
use Rattle.std.proofs.lemmas.Slice.Eq.{bytes_eq-Decides}
use Rattle.call_model.specs.declared.places.Conv.{Conv}
use Rattle.call_model.specs.declared.places.Conv.TheVariants.{SysV64, I386, Aapcs64, Ms64, Aapcs32}
use Rattle.call_model.specs.declared.places.Loc.TheVariants.{Gpr, Fpr}
use Rattle.call_model.specs.Values.{gpr_at}
use Rattle.call_scripts.specs.declared.script.EnterItem.{EnterItem}
use Rattle.call_scripts.specs.declared.script.EnterItem.TheVariants.{Register, Stack}
use Rattle.stub_dispatch.specs.Calls.{this_in}
use Rattle.xp_base.specs.LittleEndian.{low_bytes, number_of}
use Rattle.xp_base.proofs.LittleEndian.{length-low_bytes, number_of-low_bytes}
use Rattle.script_meaning.specs.Enters.{entered_frame, fpr_names, gpr_after, gpr_names, misformed, stack_after, takes_frame_item, takes_register}
use Rattle.script_meaning.specs.State.{Name}

-- ---- items that are taken

all-taken : (p : EnterItem → Bool) (items : List EnterItem) → position p items ≡ None
    → length items ≤ position_or_len p items
all-taken p items is = by_test (nat_lt (position_or_len p items) (length items)) refl is
  where
    by_test : (b : Bool) → nat_lt (position_or_len p items) (length items) ≡ b
        → cond b (Some (position_or_len p items)) None ≡ None → length items ≤ position_or_len p items
    by_test true test is = absurd (false≢true (sym (ap is_some is)))
    by_test false test is = ltb-false (position_or_len p items) (length items) test

next-taken : (taken : Bool) (n rest : ℕ) → suc n ≤ cond (not (not taken)) (1 + rest) 0
    → (taken ≡ true) × (n ≤ rest)
next-taken true n rest le = (refl, omega (arith, le))
next-taken false n rest le = absurd (omega (arith, le))

-- ---- the first general register

not-first-one : (r : ℕ) → eqb 0 (suc r) ≡ false
not-first-one r = grind (arith, common_steps)

-- a register of another name is not the first general one
other-register : (name first : Name) (rest fprs : List Name) (value other : ℕ)
    → bytes_eq name first ≡ false
    → option_map_or
    (λ loc. gpr_at 0 other loc value)
    (option_or
    (option_map Gpr (position (bytes_eq name) (first ∷ rest)))
    (option_map Fpr (position (bytes_eq name) fprs)))
    other
    ≡ other
other-register name first rest fprs value other apart =
    by_place (position (bytes_eq name) (first ∷ rest)) refl (position (bytes_eq name) fprs)
  where
    by_place : (o : Option ℕ) → position (bytes_eq name) (first ∷ rest) ≡ o → (p : Option ℕ)
        → option_map_or
        (λ loc. gpr_at 0 other loc value)
        (option_or (option_map Gpr o) (option_map Fpr p))
        other
        ≡ other
    by_place None is None = refl
    by_place None is (Some r) = refl
    by_place (Some zero) is p =
        absurd (false≢true (sym apart ∙ (position-Some (bytes_eq name) (first ∷ rest) zero first is).1))
    by_place (Some (suc r)) is p = ap (λ t. if t then value else other) (not-first-one r)

-- the first general register is none that a line may give
not-first : (name first : Name) (others : List Name) → list_any (bytes_eq first) others ≡ false
    → list_any (bytes_eq name) others ≡ true → bytes_eq name first ≡ false
not-first name first others none takes = by_test (bytes_eq name first) refl
  where
    by_test : (t : Bool) → bytes_eq name first ≡ t → t ≡ false
    by_test false is = refl
    by_test true is =
        let same : name ≡ first = (bytes_eq-Decides name first).0 is in
        absurd (false≢true (sym none ∙ ap (λ n. list_any (bytes_eq n) others) (sym same) ∙ takes))

-- the convention passes the address in a register, of which no item that is taken changes the value
record InRegister (conv : Conv) : Type 0 where
  stays : (name : Name) (value other : ℕ) → takes_register conv name ≡ true
      → gpr_after conv 0 other (Register name value) ≡ other

stays-in : (conv : Conv) → InRegister conv → (items : List EnterItem) (this : ℕ)
    → length items ≤ position_or_len (λ item. not (takes_frame_item conv item)) items
    → fold (gpr_after conv 0) this items ≡ this
stays-in conv in_register [] this all = refl
stays-in conv in_register (Register name value ∷ items) this all =
    let next = next-taken (takes_register conv name) (length items)
    (position_or_len (λ item. not (takes_frame_item conv item)) items) all in
    ap (λ a. fold (gpr_after conv 0) a items) (in_register.stays name value this next.0)
    ∙ stays-in conv in_register items this next.1
stays-in conv in_register (Stack bytes ∷ items) this all =
    let next = next-taken (takes_frame_item conv (Stack bytes)) (length items)
    (position_or_len (λ item. not (takes_frame_item conv item)) items) all in
    stays-in conv in_register items this next.1

in-register : (conv : Conv) (first : Name) (rest : List Name) → gpr_names conv ≡ first ∷ rest
    → list_any (bytes_eq first) (rest ++ fpr_names conv) ≡ false → InRegister conv
in-register conv first rest are none = record {
  stays = λ name value other takes.
      let taken : list_any (bytes_eq name) (rest ++ fpr_names conv) ≡ true =
      ap (λ names. list_any (bytes_eq name) (drop 1 names ++ fpr_names conv)) (sym are) ∙ takes in
      ap (λ names. option_map_or (λ loc. gpr_at 0 other loc value)
      (option_or (option_map Gpr (position (bytes_eq name) names)) (option_map Fpr (position (bytes_eq name) (fpr_names conv)))) other) are
      ∙ other-register name first rest (fpr_names conv) value other
      (not-first name first (rest ++ fpr_names conv) none taken);
}

-- ---- the address

read-back : (n this : ℕ) → this < 2 ^ (8 * n) → number_of (low_bytes n this) ≡ this
read-back n this low = number_of-low_bytes n this ∙ mod-eq_of_lt low

on-stack : (this : ℕ) (bytes : List ℕ) → this < 2 ^ 32
    → number_of (slice_range (low_bytes 4 this ++ bytes) 0 4) ≡ this
on-stack this bytes low =
    ap number_of (take_at (low_bytes 4 this) bytes 4 (length-low_bytes 4 this)) ∙ read-back 4 this low

pub this-of-entered : (conv : Conv) (this : ℕ) (items : List EnterItem) → this < 2 ^ 32
    → misformed conv items ≡ None → this_in conv (entered_frame conv this items) ≡ this
unfolding entered_frame
this-of-entered SysV64 this items low is =
    ap (λ v. number_of (low_bytes 8 v))
    (stays-in SysV64 (in-register SysV64 _ _ refl refl) items this (all-taken _ items is))
    ∙ read-back 8 this (omega (arith, low))
this-of-entered Aapcs64 this items low is =
    ap (λ v. number_of (low_bytes 8 v))
    (stays-in Aapcs64 (in-register Aapcs64 _ _ refl refl) items this (all-taken _ items is))
    ∙ read-back 8 this (omega (arith, low))
this-of-entered Ms64 this items low is =
    ap (λ v. number_of (low_bytes 8 v))
    (stays-in Ms64 (in-register Ms64 _ _ refl refl) items this (all-taken _ items is))
    ∙ read-back 8 this (omega (arith, low))
this-of-entered I386 this items low is = on-stack this (fold stack_after [] items) low
this-of-entered Aapcs32 this items low is = on-stack this (fold stack_after [] items) low
