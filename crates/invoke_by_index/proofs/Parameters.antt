-- The parameters of a prototype, one more at a time, and those of a method.
use Rattle.std.proofs.Common.{◌≡◌, ℕ, ◌+◌, ◌≤◌, Bool, true, false, cond, not, ◌&&◌, List, [], ◌∷◌, ◌++◌, length, map, take, drop, refl, sym, ap, ◌∙◌, arith, length-append}
use Rattle.std.specs.Prelude.{if◌then◌else◌}
use Rattle.std.specs.List.{All}
use Rattle.std.proofs.lemmas.List.{length-map, map-append, take-append-drop}
use Rattle.std.proofs.lemmas.List.Elements.{All-append, All-cons, All-nil, filter-append}
use Rattle.std.proofs.Math.Seq.{get_or-append_seam}
use mir.Val.{bool_byte}
use Rattle.call_model.specs.declared.prototypes.Pass.TheVariants.{ByValue}
use Rattle.call_model.specs.declared.prototypes.ProtoArg.{ProtoArg}
use Rattle.call_model.specs.declared.prototypes.Status.{Status}
use Rattle.call_model.specs.declared.prototypes.Status.TheVariants.{Callable, Hidden, NotXpcom, Opaque}
use Rattle.lib_model.specs.declared.contents.Method.{Method}
use Rattle.lib_model.specs.declared.param_types.Param.{Param}
use Rattle.lib_model.specs.declared.param_types.XType.{XType}
use Rattle.lib_model.specs.declared.param_types.XType.TheVariants as types
use Rattle.lib_model.specs.Table.{arg_of, context_arg, count_arg, first_args, middle_args, is_attribute, note_of, proto_if, proto_of, takes_context, takes_count, written_count}
use Rattle.invoke_by_index.specs.Arguments.{is_added, parameters, proto_at, stands_for_param}

length-one : (b : Bool) (a : ProtoArg) → length (cond b (a ∷ []) []) ≡ cond b 1 0
length-one true a = refl
length-one false a = refl

-- one element of a prototype more
pub count-push : (front : List ProtoArg) (a : ProtoArg) → length (parameters (front ++ a ∷ [])) ≡ length (parameters front) + cond (stands_for_param a) 1 0
count-push front a = ap length (filter-append stands_for_param front (a ∷ [])) ∙ length-append (parameters front) (parameters (a ∷ [])) ∙ ap (λ n. length (parameters front) + n) (length-one (stands_for_param a) a)

-- a Bool as a number
pub number-of-bool : (b : Bool) → bool_byte b ≡ cond b 1 0
number-of-bool true = refl
number-of-bool false = refl

pub one-at-most : (b : Bool) → cond b 1 0 ≤ 1
one-at-most true = omega arith
one-at-most false = omega arith

one-of : (b : Bool) (a : ProtoArg) (rest : List ProtoArg) → b ≡ true → cond b (a ∷ rest) rest ≡ a ∷ rest
one-of b a rest e = ap (λ c. cond c (a ∷ rest) rest) e

-- an element that stands for a parameter, among the parameters
module _ (proto front : List ProtoArg) (arg : ProtoArg) (back : List ProtoArg) (whole : front ++ arg ∷ back ≡ proto) (stands : stands_for_param arg ≡ true) where
  around : parameters proto ≡ parameters front ++ arg ∷ parameters back
  around =
      ap parameters (sym whole) ∙ filter-append stands_for_param front (arg ∷ back) ∙ ap (λ l. parameters front ++ l) (one-of (stands_for_param arg) arg (parameters back) stands)

  pub parameter-there : (k : ℕ) → k ≡ length (parameters front) → proto_at (parameters proto) k ≡ arg
  parameter-there k at =
      (λ i. proto_at (around i) (at i)) ∙ get_or-append_seam (parameters front) arg (parameters back) (proto_at [] 0)

  pub parameter-inside : length (parameters front) + 1 ≤ length (parameters proto)
  parameter-inside = omega (arith, ap length around, length-append (parameters front) (arg ∷ parameters back))

-- ---- the prototype of a method

-- an added element is passed by value
abbrev pub IsAddedByValue : ProtoArg → Type 0
IsAddedByValue a = is_added a.note ≡ true → a.pass ≡ ByValue

module _ (m : Method) where
  stands-for-its-own : (t : XType) → is_added (note_of m t) ≡ false
  stands-for-its-own (types.Plain tag) = refl
  stands-for-its-own (types.Iface number) = refl
  stands-for-its-own (types.IidIs param) = refl
  stands-for-its-own (types.Array size len elem) = refl
  stands-for-its-own (types.SizedString size len) = refl
  stands-for-its-own (types.SizedWString size len) = refl

  -- the arguments of parameters stand for these
  own-parameters : (ps : List Param) → parameters (map (arg_of m) ps) ≡ map (arg_of m) ps
  own-parameters [] = refl
  own-parameters (p ∷ ps) =
      one-of (stands_for_param (arg_of m p)) (arg_of m p) (parameters (map (arg_of m) ps)) (ap not (stands-for-its-own p.ty)) ∙ ap (λ l. arg_of m p ∷ l) (own-parameters ps)

  own-by-value : (ps : List Param) → All IsAddedByValue (map (arg_of m) ps)
  own-by-value [] = All-nil IsAddedByValue
  own-by-value (p ∷ ps) =
      All-cons IsAddedByValue (arg_of m p) (map (arg_of m) ps) (λ added. let own = stands-for-its-own p.ty in cc) (own-by-value ps)

  no-first : (b : Bool) → parameters (if b then context_arg ∷ [] else []) ≡ []
  no-first true = refl
  no-first false = refl

  no-middle : (b c : Bool) → parameters ((if b then context_arg ∷ [] else []) ++ (if c then count_arg ∷ [] else [])) ≡ []
  no-middle true true = refl
  no-middle true false = refl
  no-middle false true = refl
  no-middle false false = refl

  first-by-value : (b : Bool) → All IsAddedByValue (if b then context_arg ∷ [] else [])
  first-by-value true = All-cons IsAddedByValue context_arg [] (λ _. refl) (All-nil IsAddedByValue)
  first-by-value false = All-nil IsAddedByValue

  count-by-value : (b : Bool) → All IsAddedByValue (if b then count_arg ∷ [] else [])
  count-by-value true = All-cons IsAddedByValue count_arg [] (λ _. refl) (All-nil IsAddedByValue)
  count-by-value false = All-nil IsAddedByValue

  length-proto_of : length (parameters (proto_of m)) ≡ length m.params
  unfolding proto_of
  length-proto_of =
      let w = written_count m.params in let front = map (arg_of m) (take w m.params) in let back = map (arg_of m) (drop w m.params) in
      let first = no-first (takes_context m && is_attribute m) in
      let middle = no-middle (takes_context m && not (is_attribute m)) (takes_count m) in
      let parts : parameters (proto_of m) ≡ [] ++ (front ++ ([] ++ back))
      = filter-append stands_for_param (first_args m) (front ++ (middle_args m ++ back))
      ∙ (λ i. first i ++ filter-append stands_for_param front (middle_args m ++ back) i)
      ∙ (λ i. [] ++ (own-parameters (take w m.params) i ++ filter-append stands_for_param (middle_args m) back i))
      ∙ (λ i. [] ++ (front ++ (middle i ++ own-parameters (drop w m.params) i))) in
      ap length parts ∙ ap length (sym (map-append (arg_of m) (take w m.params) (drop w m.params)))
      ∙ length-map (take w m.params ++ drop w m.params) (arg_of m) ∙ ap length (take-append-drop w m.params)

  all-by-value : All IsAddedByValue (proto_of m)
  unfolding proto_of
  all-by-value =
      let w = written_count m.params in let P = IsAddedByValue in
      All-append P (first_args m) _ (first-by-value (takes_context m && is_attribute m))
      (All-append P (map (arg_of m) (take w m.params)) _ (own-by-value (take w m.params))
      (All-append P (middle_args m) (map (arg_of m) (drop w m.params))
      (All-append P (if takes_context m && not (is_attribute m) then context_arg ∷ [] else []) (if takes_count m then count_arg ∷ [] else [])
      (first-by-value (takes_context m && not (is_attribute m))) (count-by-value (takes_count m)))
      (own-by-value (drop w m.params))))

  -- one that may be called has as many parameters by its prototype as it has; any other has none
  pub length-callable : (s : Status) → s ≡ Callable → length m.params ≡ length (parameters (proto_if s m))
  length-callable s e = sym length-proto_of ∙ ap (λ t. length (parameters (proto_if t m))) (sym e)

  pub added-by-value : (s : Status) → All IsAddedByValue (proto_if s m)
  added-by-value Callable = all-by-value
  added-by-value Hidden = All-nil IsAddedByValue
  added-by-value NotXpcom = All-nil IsAddedByValue
  added-by-value Opaque = All-nil IsAddedByValue
