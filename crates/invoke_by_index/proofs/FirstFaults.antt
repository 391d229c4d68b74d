-- What is known of arguments that were judged in order, one more at a time.
use Rattle.std.proofs.Common.{◌≡◌, ℕ, zero, suc, ◌+◌, ◌-◌, ◌<◌, ◌≤◌, ◌⊎◌, inl, inr, Bool, true, false, cond, not, ◌&&◌, ◌||◌, List, [], ◌∷◌, ◌++◌, length, take, refl, sym, ap, ◌∙◌, arith, Option, Some, None}
use Rattle.std.specs.Prelude.{◌==◌, if◌then◌else◌, find, count_by}
use Rattle.std.specs.List.{list_any, range_with_len, sum_by}
use Rattle.std.specs.Option.{option_map, option_or}
use Rattle.std.proofs.lemmas.Bool.{eq-eqb}
use Rattle.std.proofs.lemmas.Grind.{common_steps}
use Rattle.std.proofs.lemmas.List.Folds.{find-append, list_any_more}
use Rattle.std.proofs.lemmas.List.Sums.{sum_by-append}
use Rattle.call_model.specs.declared.places.Conv.{Conv}
use Rattle.call_model.specs.declared.prototypes.ProtoArg.{ProtoArg}
use Rattle.invoke_by_index.specs.declared.args.Arg.{Arg}
use Rattle.invoke_by_index.specs.declared.args.Arg.TheVariants.{Absent}
use Rattle.invoke_by_index.specs.declared.args.ArgFault.TheVariants.{Count, Form, Range}
use Rattle.invoke_by_index.specs.Arguments.{arg_fault, first_failing, given_at, has_form, has_range, is_absent, is_given, number_in, parameters, proto_at, takes_form}
use Rattle.invoke_by_index.specs.Ranges.{in_range}

-- ---- numbers in order

-- the numbers from a on, one more
pub range-more : (a n j : ℕ) → a + n ≡ j → range_with_len a (n + 1) ≡ range_with_len a n ++ j ∷ []
range-more a zero j e =
    let same : a ≡ j = omega (arith, e) in ap (λ k. k ∷ []) same
range-more a (suc n) j e =
    let next : suc n + 1 ≡ suc (n + 1) = omega arith in
    ap (range_with_len a) next ∙ ap (λ l. a ∷ l) (range-more (a + 1) n j (omega (arith, e)))

-- and m more
range-split : (a n m : ℕ) → range_with_len a (n + m) ≡ range_with_len a n ++ range_with_len (a + n) m
range-split a zero m =
    let none : zero + m ≡ m = omega arith in let same : a ≡ a + zero = omega arith in
    (λ i. range_with_len (same i) (none i))
range-split a (suc n) m =
    let next : suc n + m ≡ suc (n + m) = omega arith in let same : a + 1 + n ≡ a + suc n = omega arith in
    ap (range_with_len a) next ∙ ap (λ l. a ∷ l) (range-split (a + 1) n m ∙ ap (λ b. range_with_len (a + 1) n ++ range_with_len b m) same)

-- ---- the first place where a test fails

fails-here : (b : Bool) (k : ℕ) → cond (not b) (Some k) None ≡ (if b then None else Some k)
fails-here true k = refl
fails-here false k = refl

-- among the places up to k
pub first-more : (test : ℕ → Bool) (k : ℕ) → first_failing test (k + 1) ≡ option_or (first_failing test k) (if test k then None else Some k)
first-more test k =
    let fails = λ (j : ℕ). not (test j) in
    ap (find fails) (range-more 0 k k (omega arith))
    ∙ find-append fails (range_with_len 0 k) (k ∷ [])
    ∙ ap (option_or (first_failing test k)) (fails-here (test k) k)

-- it stays the first, however many places there are
first-stays : (test : ℕ → Bool) (k n v : ℕ) → k ≤ n → first_failing test k ≡ Some v → first_failing test n ≡ Some v
first-stays test k n v le e =
    let fails = λ (j : ℕ). not (test j) in let m = n - k in
    let sum : n ≡ k + m = omega (arith, le) in
    ap (first_failing test) sum ∙ ap (find fails) (range-split 0 k m)
    ∙ find-append fails (range_with_len 0 k) (range_with_len (0 + k) m)
    ∙ ap (λ o. option_or o (find fails (range_with_len (0 + k) m))) e

-- place k is the first, where none before it is
pub first-here : (test : ℕ → Bool) (k n : ℕ) → k < n → first_failing test k ≡ None → test k ≡ false → first_failing test n ≡ Some k
first-here test k n lt none fails =
    first-stays test (k + 1) n k (omega (arith, lt)) (first-more test k ∙ (λ i. option_or (none i) (if fails i then None else Some k)))

passes-first : (b : Bool) (a : ℕ) (rest : Option ℕ) → cond (not b) (Some a) rest ≡ None → (b ≡ true) × (rest ≡ None)
passes-first true a rest e = (refl, e)
passes-first false a rest e = cc

first_or_later : (a j : ℕ) → a ≤ j → (j ≡ a) ⊎ (a + 1 ≤ j)
first_or_later a j le = grind (arith, common_steps)

-- where it fails nowhere, it passes everywhere
passes-from : (test : ℕ → Bool) (a n : ℕ) → find (λ (j : ℕ). not (test j)) (range_with_len a n) ≡ None → (j : ℕ) → a ≤ j → j < a + n → test j ≡ true
passes-from test a zero none j le lt = absurd (omega (arith, le, lt))
passes-from test a (suc n) none j le lt =
    let here = passes-first (test a) a (find (λ (k : ℕ). not (test k)) (range_with_len (a + 1) n)) none in
    elim (first_or_later a j le) as (λ _. test j ≡ true) [
      | inl same ↦ ap test same ∙ here.0
      | inr later ↦ passes-from test (a + 1) n here.1 j later (omega (arith, lt))
    ]

pub passes-each : (test : ℕ → Bool) (n : ℕ) → first_failing test n ≡ None → (j : ℕ) → j < n → test j ≡ true
passes-each test n none j lt = passes-from test 0 n none j (omega arith) (omega (arith, lt))

-- ---- the first k arguments

-- the optional ones among them, whether one is absent, and the first out of range; each has the
-- form of its parameter
pub record Judged (conv : Conv) (params : List ProtoArg) (args : List Arg) (k : ℕ) (left_out : Bool) (given : ℕ) (out : Option ℕ) : Type 0 where
  pub absent : left_out ≡ list_any is_absent (take k args)
  pub count : given ≡ count_by (is_given params args) (range_with_len 0 k)
  pub forms : first_failing (has_form params args) k ≡ None
  pub ranges : out ≡ first_failing (has_range conv params args) k

pub judged-none : (conv : Conv) (params : List ProtoArg) (args : List Arg) → Judged conv params args 0 false 0 None
judged-none conv params args = record { absent = refl; count = refl; forms = refl; ranges = refl }

module _ (conv : Conv) (params : List ProtoArg) (args : List Arg) (k : ℕ) (left_out : Bool) (given : ℕ) (out : Option ℕ) (judged : Judged conv params args k left_out given out)
    (p : ProtoArg) (p-is : proto_at params k ≡ p) (x : Arg) (x-is : x ≡ given_at args k) (inside : k < length args) where
  -- the form of the next argument
  form-here : (b : Bool) → takes_form left_out p.optional p.pass x ≡ b → has_form params args k ≡ b
  form-here b e = (λ i. takes_form (sym judged.absent i) (p-is i).optional (p-is i).pass (sym x-is i)) ∙ e

  pub judged-more : takes_form left_out p.optional p.pass x ≡ true
      → Judged conv params args (k + 1) (left_out || is_absent x) (given + cond (p.optional && not (is_absent x)) 1 0)
      (option_or out (if in_range conv p.ty (number_in x) then None else Some k))
  judged-more takes =
      let worth : ℕ → ℕ = λ j. cond (is_given params args j) 1 0 in
      let one : worth k ≡ cond (p.optional && not (is_absent x)) 1 0 = (λ i. cond ((p-is i).optional && not (is_absent (sym x-is i))) 1 0) in
      let counted : sum_by worth (range_with_len 0 (k + 1)) ≡ sum_by worth (range_with_len 0 k) + sum_by worth (k ∷ []) =
      ap (sum_by worth) (range-more 0 k k (omega arith)) ∙ sum_by-append worth (range_with_len 0 k) (k ∷ []) in
      record {
        absent = (λ i. judged.absent i || is_absent (x-is i)) ∙ sym (list_any_more is_absent args k Absent inside);
        count = omega (arith, judged.count, counted, one);
        forms = first-more (has_form params args) k ∙ (λ i. option_or (judged.forms i) (if form-here true takes i then None else Some k));
        ranges = (λ i. option_or (judged.ranges i) (if in_range conv (sym p-is i).ty (number_in (x-is i)) then None else Some k)) ∙ sym (first-more (has_range conv params args) k);
      }

  -- it is the first that has not its form
  pub misformed-here : takes_form left_out p.optional p.pass x ≡ false → first_failing (has_form params args) (length args) ≡ Some k
  misformed-here fails = first-here (has_form params args) k (length args) inside judged.forms (form-here false fails)

-- ---- all arguments

module _ (conv : Conv) (proto : List ProtoArg) (args : List Arg) where
  -- as many as parameters
  fault-of-pairs : length args ≡ length (parameters proto)
      → arg_fault conv proto args
      ≡ option_or (option_map Form (first_failing (has_form (parameters proto) args) (length args))) (option_map Range (first_failing (has_range conv (parameters proto) args) (length args)))
  fault-of-pairs paired =
      ap (λ b. if not b then Some Count else option_or (option_map Form (first_failing (has_form (parameters proto) args) (length args))) (option_map Range (first_failing (has_range conv (parameters proto) args) (length args))))
      (eq-eqb (length args) (length (parameters proto)) paired)

  pub fault-of-form : (k : ℕ) → length args ≡ length (parameters proto) → first_failing (has_form (parameters proto) args) (length args) ≡ Some k → arg_fault conv proto args ≡ Some (Form k)
  fault-of-form k paired first =
      fault-of-pairs paired ∙ ap (λ o. option_or (option_map Form o) (option_map Range (first_failing (has_range conv (parameters proto) args) (length args)))) first

  pub fault-of-range : (left_out : Bool) (given : ℕ) (out : Option ℕ) → length args ≡ length (parameters proto) → Judged conv (parameters proto) args (length args) left_out given out
      → arg_fault conv proto args ≡ option_map Range out
  fault-of-range left_out given out paired judged =
      fault-of-pairs paired ∙ (λ i. option_or (option_map Form (judged.forms i)) (option_map Range (sym judged.ranges i)))

  none-of : (b : Bool) (form range : Option ℕ) → (if b then Some Count else option_or (option_map Form form) (option_map Range range)) ≡ None → range ≡ None
  none-of true form range e = cc
  none-of false (Some k) range e = cc
  none-of false None (Some k) e = cc
  none-of false None None e = refl

  -- of arguments that fit, each is in its range
  pub fitting-ranges : arg_fault conv proto args ≡ None → (k : ℕ) → k < length args → has_range conv (parameters proto) args k ≡ true
  fitting-ranges fit =
      passes-each (has_range conv (parameters proto) args) (length args)
      (none-of (not (length args == length (parameters proto))) (first_failing (has_form (parameters proto) args) (length args)) (first_failing (has_range conv (parameters proto) args) (length args)) fit)
