-- The arguments of a function in a header mean the types of the prototype.
use Rattle.std.proofs.Common.{◌≡◌, ℕ, suc, ◌+◌, ◌≤◌, Bool, true, false, cond, ◌&&◌, not, List, [], ◌∷◌, ◌++◌, length, map, refl, sym, ap, subst, ◌∙◌, inl, arith, length-append}
use Rattle.std.specs.Prelude.{codes}
use Rattle.std.specs.List.{AllByRecursion, enumerate_from, list_all}
use Rattle.std.proofs.lemmas.List.{length-map, map-append}
use Rattle.call_model.specs.declared.ctypes.CType.{CType}
use Rattle.call_model.specs.declared.prototypes.MemberKind.{MemberKind}
use Rattle.call_model.specs.declared.prototypes.ProtoArg.{ProtoArg}
use Rattle.call_model.specs.Prototype.{passed_type}
use Rattle.idl_meaning.specs.declared.scope.ScopeIface.{ScopeIface}
use Rattle.idl_meaning.specs.declared.scope.ScopeParam.{ScopeParam}
use Rattle.idl_meaning.specs.Accepted.{IsMeant}
use Rattle.lib_model.specs.Table.{context_arg, count_arg}
use Rattle.vtable_layout.specs.Slots.{Slot}
use Rattle.prototype_lowering.specs.Directory.{directory_of}
use Rattle.prototype_lowering.specs.StaticTable.{arg_of, back, first as first_args, front, is_method, middle as middle_args, proto_of}
use Rattle.line_words.specs.Words.{Each}
use Rattle.header_model.specs.Words.{IsArgument, IsType, is_name_byte}
use Rattle.header_text.specs.declared.arguments.Argument.{Argument}
use Rattle.header_text.specs.Header.{argument_of, argument_text, arguments_of, context_if, count_if, first, middle, name_of}
use Rattle.header_text.specs.Meaning.{types_in}
use Rattle.header_text.proofs.NameLaws.{placed-name}
use Rattle.header_text.proofs.TypeLaws.{AreNames, type-is}

-- what is known of a parameter: its type, and the bytes of the name that it gets
pub record IsTold (ifaces : List ScopeIface) (of : MemberKind) (p : ScopeParam) : Type 0 where
  pub typed : IsMeant (length ifaces) p.ty
  pub short : length (name_of of p) ≤ 255
  pub bytes : list_all is_name_byte (name_of of p) ≡ true

passed : ProtoArg → CType
passed a = passed_type a.pass a.ty

-- an argument has the type of one of the prototype, and a name
record IsSaid (a : Argument) (type : CType) : Type 0 where
  typed : IsType a.ty type
  short : length a.name ≤ 255
  bytes : list_all is_name_byte a.name ≡ true

AreSaid : List Argument → List CType → Type 0
AreSaid [] types = types ≡ []
AreSaid (a ∷ more) [] = ⊥
AreSaid (a ∷ more) (t ∷ types) = IsSaid a t × AreSaid more types

said-append : (xs bs : List Argument) (ts us : List CType) → AreSaid xs ts → AreSaid bs us → AreSaid (xs ++ bs) (ts ++ us)
unfolding AreSaid
said-append [] bs ts us one two = subst (λ v. AreSaid bs (v ++ us)) (sym one) two
said-append (a ∷ xs) bs [] us one two = absurd one
said-append (a ∷ xs) bs (t ∷ ts) us one two = (one.0, said-append xs bs ts us one.1 two)

params-said : (ifaces : List ScopeIface) (d : List ℕ) (s : Slot) (ps : List ScopeParam) → AreNames ifaces → AllByRecursion (IsTold ifaces s.kind) ps
    → AreSaid (map (argument_of ifaces s.kind) ps) (map passed (map (arg_of d s) ps))
unfolding AreSaid passed
params-said ifaces d s [] names told = refl
params-said ifaces d s (p ∷ ps) names told =
    (record { typed = type-is ifaces p names told.0.typed; short = told.0.short; bytes = told.0.bytes }, params-said ifaces d s ps names told.1)

context-said : (b : Bool) → AreSaid (context_if b) (map passed (cond b (context_arg ∷ []) []))
unfolding AreSaid passed
context-said true = (record { typed = inl (codes "JSContext", codes "*", refl, refl, inl (omega arith, refl)); short = omega arith; bytes = refl }, refl)
context-said false = refl

count-said : (b : Bool) → AreSaid (count_if b) (map passed (cond b (count_arg ∷ []) []))
unfolding AreSaid passed
count-said true = (record { typed = refl; short = omega arith; bytes = refl }, refl)
count-said false = refl

-- ---- the parameters before the value and behind

front-told : (P : ScopeParam → Type 0) (ps : List ScopeParam) → AllByRecursion P ps → AllByRecursion P (front ps)
front-told P [] all = tt
front-told P (p ∷ ps) all = go p.retval (front-told P ps all.1)
  where
    go : (b : Bool) → AllByRecursion P (front ps) → AllByRecursion P (cond b [] (p ∷ front ps))
    go true later = tt
    go false later = (all.0, later)

back-told : (P : ScopeParam → Type 0) (ps : List ScopeParam) → AllByRecursion P ps → AllByRecursion P (back ps)
back-told P [] all = tt
back-told P (p ∷ ps) all = go p.retval (back-told P ps all.1)
  where
    go : (b : Bool) → AllByRecursion P (back ps) → AllByRecursion P (cond b (p ∷ ps) (back ps))
    go true later = all
    go false later = later

both-long : (ps : List ScopeParam) → length (front ps) + length (back ps) ≡ length ps
both-long [] = refl
both-long (p ∷ ps) = go p.retval (both-long ps)
  where
    go : (b : Bool) → length (front ps) + length (back ps) ≡ length ps → length (cond b [] (p ∷ front ps)) + length (cond b (p ∷ ps) (back ps)) ≡ suc (length ps)
    go true later = omega arith
    go false later = omega (arith, later)

-- ---- all arguments

context-long : (b : Bool) → length (context_if b) ≤ 1
context-long true = omega arith
context-long false = omega arith

count-long : (b : Bool) → length (count_if b) ≤ 1
count-long true = omega arith
count-long false = omega arith

pub arguments-long : (ifaces : List ScopeIface) (s : Slot) → length (arguments_of ifaces s) ≤ length s.params + 3
arguments-long ifaces s =
    let fronts = map (argument_of ifaces s.kind) (front s.params) in
    let backs = map (argument_of ifaces s.kind) (back s.params) in
    omega (
      arith,
      length-append (first s) (fronts ++ (middle s ++ backs)),
      length-append fronts (middle s ++ backs),
      length-append (middle s) backs,
      length-append (context_if (s.context && is_method s.kind)) (count_if s.argc),
      context-long (s.context && not (is_method s.kind)),
      context-long (s.context && is_method s.kind),
      count-long s.argc,
      length-map (front s.params) (argument_of ifaces s.kind),
      length-map (back s.params) (argument_of ifaces s.kind),
      both-long s.params,
    )

arguments-said : (ifaces : List ScopeIface) (s : Slot) → AreNames ifaces → AllByRecursion (IsTold ifaces s.kind) s.params
    → AreSaid (arguments_of ifaces s) (types_in ifaces s)
unfolding proto_of passed
arguments-said ifaces s names told =
    let d = directory_of ifaces in
    let fronts = map (arg_of d s) (front s.params) in
    let backs = map (arg_of d s) (back s.params) in
    let context = cond (s.context && is_method s.kind) (context_arg ∷ []) [] in
    let count = cond s.argc (count_arg ∷ []) [] in
    let split : map passed (first_args s ++ (fronts ++ (middle_args s ++ backs)))
    ≡ map passed (first_args s) ++ (map passed fronts ++ ((map passed context ++ map passed count) ++ map passed backs)) =
    map-append passed (first_args s) (fronts ++ (middle_args s ++ backs))
    ∙ ap (λ v. map passed (first_args s) ++ v) (map-append passed fronts (middle_args s ++ backs)
    ∙ ap (λ v. map passed fronts ++ v) (map-append passed (middle_args s) backs ∙ ap (λ v. v ++ map passed backs) (map-append passed context count))) in
    let all = said-append (first s) _ (map passed (first_args s)) _ (context-said (s.context && not (is_method s.kind)))
    (said-append (map (argument_of ifaces s.kind) (front s.params)) _ (map passed fronts) _
    (params-said ifaces d s (front s.params) names (front-told (IsTold ifaces s.kind) s.params told))
    (said-append (middle s) _ (map passed context ++ map passed count) _
    (said-append (context_if (s.context && is_method s.kind)) (count_if s.argc) (map passed context) (map passed count) (context-said (s.context && is_method s.kind)) (count-said s.argc))
    (params-said ifaces d s (back s.params) names (back-told (IsTold ifaces s.kind) s.params told)))) in
    subst (λ v. AreSaid (arguments_of ifaces s) v) (sym split) all

-- each with its position
numbered : (xs : List Argument) (ts : List CType) (k : ℕ) → k + length xs ≤ 260 → AreSaid xs ts → Each IsArgument (map argument_text (enumerate_from k xs)) ts
unfolding AreSaid
numbered [] ts k few said = said
numbered (a ∷ xs) [] k few said = absurd said
numbered (a ∷ xs) (t ∷ ts) k few said =
    ((a.ty, _, refl, said.0.typed, placed-name k a.name (omega (arith, few)) said.0.short said.0.bytes), numbered xs ts (k + 1) (omega (arith, few)) said.1)

pub arguments-are : (ifaces : List ScopeIface) (s : Slot) → AreNames ifaces → AllByRecursion (IsTold ifaces s.kind) s.params → length s.params ≤ 255
    → Each IsArgument (map argument_text (enumerate_from 0 (arguments_of ifaces s))) (types_in ifaces s)
arguments-are ifaces s names told narrow =
    numbered (arguments_of ifaces s) (types_in ifaces s) 0 (omega (arith, arguments-long ifaces s, narrow)) (arguments-said ifaces s names told)
