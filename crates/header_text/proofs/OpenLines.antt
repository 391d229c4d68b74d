-- What is not hidden, not `notxpcom`, and has no value that no call can pass, has a function.
use Rattle.std.proofs.Common.{◌≡◌, ℕ, Bool, true, false, ◌||◌, List, ◌++◌, codes, Option, Some, None, Result, refl, sym, subst, ap, ◌∙◌, true≢false, if◌then◌else◌}
use Rattle.std.specs.Prelude.{IfOk}
use Rattle.std.specs.List.{list_any}
use Rattle.std.proofs.lemmas.List.Folds.{list_any-append}
use Rattle.xp_base.specs.declared.errors.Memory.{Memory}
use Rattle.call_model.specs.declared.prototypes.Status.TheVariants.{Callable, Hidden, NotXpcom, Opaque}
use Rattle.line_words.specs.Words.{Word}
use Rattle.idl_meaning.specs.declared.scope.Meant.{Meant}
use Rattle.idl_meaning.specs.declared.scope.ScopeIface.{ScopeIface}
use Rattle.idl_meaning.specs.declared.scope.ScopeParam.{ScopeParam}
use Rattle.vtable_layout.specs.Slots.{Slot, getter, given, method, setter}
use Rattle.prototype_lowering.specs.StaticTable.{is_opaque, is_opaque_meaning, status_of}
use Rattle.header_text.specs.declared.arguments.Argument.{Argument}
use Rattle.header_text.specs.Header.{arguments_of, arguments_text, line_by, member_name, slot_line}

-- the line of a function with these arguments
abbrev pub line_with : Slot → List Argument → Word
line_with s arguments =
    codes "  virtual nsresult " ++ member_name s.kind s.name ++ codes "("
    ++ arguments_text arguments ++ codes ") = 0;"

callable_line : (ifaces : List ScopeIface) (k : ℕ) (s : Slot) (arguments : List Argument)
    → status_of s ≡ Callable → arguments ≡ arguments_of ifaces s
    → line_with s arguments ≡ slot_line ifaces (k, s)
callable_line ifaces k s arguments callable is =
    ap (line_with s) is ∙ ap (λ st. line_by st ifaces (k, s)) (sym callable)

-- neither of three
none_of : (a b c : Bool) → (a || b || c) ≡ false → (a ≡ false) × (b ≡ false) × (c ≡ false)
none_of true b c h = absurd (true≢false h)
none_of false true c h = absurd (true≢false h)
none_of false false c h = (refl, refl, h)

none_by : (hidden notxpcom : Bool) (params : Bool → List ScopeParam) → hidden ≡ false
    → notxpcom ≡ false → list_any is_opaque (params false) ≡ false
    → (if hidden then Hidden else if notxpcom then NotXpcom
    else if list_any is_opaque (params notxpcom) then Opaque else Callable) ≡ Callable
none_by true notxpcom params h n o = absurd (true≢false h)
none_by false true params h n o = absurd (true≢false n)
none_by false false params h n o = ap (λ b. if b then Opaque else Callable) o

-- ---- for each slot

pub getter_line : (made : Result (List ℕ) Memory) (ifaces : List ScopeIface) (k : ℕ) (name : Word)
    (hidden notxpcom context : Bool) (ty : Meant) (arguments : List Argument)
    → (hidden || notxpcom || is_opaque_meaning ty None) ≡ false
    → arguments ≡ arguments_of ifaces (getter name hidden false context ty)
    → IfOk made (λ line. line ≡ line_with (getter name hidden false context ty) arguments)
    → IfOk made (λ line. line ≡ slot_line ifaces (k, getter name hidden notxpcom context ty))
getter_line made ifaces k name hidden notxpcom context ty arguments kept is written =
    let p = none_of hidden notxpcom (is_opaque_meaning ty None) kept
    in let callable : status_of (getter name hidden notxpcom context ty) ≡ Callable =
    none_by hidden notxpcom (λ b. given b (Some ty)) p.0 p.1 (ap (λ b. b || false) p.2)
    in subst (λ t. IfOk made (λ line. line ≡ t))
    (callable_line ifaces k (getter name hidden notxpcom context ty) arguments callable
    (is ∙ ap (λ b. arguments_of ifaces (getter name hidden b context ty)) (sym p.1))) written

pub setter_line : (made : Result (List ℕ) Memory) (ifaces : List ScopeIface) (k : ℕ) (name : Word)
    (hidden notxpcom context : Bool) (ty : Meant) (arguments : List Argument)
    → (hidden || notxpcom || is_opaque_meaning ty None) ≡ false
    → arguments ≡ arguments_of ifaces (setter name hidden false context ty)
    → IfOk made (λ line. line ≡ line_with (setter name hidden false context ty) arguments)
    → IfOk made (λ line. line ≡ slot_line ifaces (k, setter name hidden notxpcom context ty))
setter_line made ifaces k name hidden notxpcom context ty arguments kept is written =
    let p = none_of hidden notxpcom (is_opaque_meaning ty None) kept
    in let callable : status_of (setter name hidden notxpcom context ty) ≡ Callable =
    none_by hidden notxpcom (λ b. (setter name hidden b context ty).params) p.0 p.1
    (ap (λ b. b || false) p.2)
    in subst (λ t. IfOk made (λ line. line ≡ t))
    (callable_line ifaces k (setter name hidden notxpcom context ty) arguments callable is) written

pub method_line : (made : Result (List ℕ) Memory) (ifaces : List ScopeIface) (k : ℕ) (name : Word)
    (hidden notxpcom argc context : Bool) (gives : Option Meant) (params : List ScopeParam)
    (arguments : List Argument)
    → (hidden || notxpcom || (list_any is_opaque params || list_any is_opaque (given false gives)))
    ≡ false
    → arguments ≡ arguments_of ifaces (method name hidden false argc context gives params)
    → IfOk made (λ line. line
    ≡ line_with (method name hidden false argc context gives params) arguments)
    → IfOk made (λ line. line
    ≡ slot_line ifaces (k, method name hidden notxpcom argc context gives params))
method_line made ifaces k name hidden notxpcom argc context gives params arguments kept is written =
    let p = none_of hidden notxpcom
    (list_any is_opaque params || list_any is_opaque (given false gives)) kept
    in let s = method name hidden notxpcom argc context gives params
    in let callable : status_of s ≡ Callable =
    none_by hidden notxpcom (λ b. params ++ given b gives) p.0 p.1
    (list_any-append is_opaque params (given false gives) ∙ p.2)
    in subst (λ t. IfOk made (λ line. line ≡ t))
    (callable_line ifaces k s arguments callable
    (is ∙ ap (λ b. arguments_of ifaces (method name hidden b argc context gives params))
    (sym p.1))) written
