-- The parameters of a method, up to the one that gives the value and from it on.
use Rattle.std.proofs.Common.{◌≡◌, ℕ, ◌≤◌, ◌-◌, Bool, true, false, ◌&&◌, List, [], ◌∷◌, ◌++◌, length, length-drop, take, drop, map, Option, Some, None, refl, sym, ap, ◌∙◌, arith, append_assoc, if◌then◌else◌}
use Rattle.std.proofs.lemmas.List.{map-append, take_all}
use Rattle.call_model.specs.declared.prototypes.MemberKind.TheVariants as kind
use Rattle.line_words.specs.Words.{Word}
use Rattle.idl_meaning.specs.declared.scope.Meant.{Meant}
use Rattle.idl_meaning.specs.declared.scope.ScopeIface.{ScopeIface}
use Rattle.idl_meaning.specs.declared.scope.ScopeParam.{ScopeParam}
use Rattle.vtable_layout.specs.Slots.{given, method}
use Rattle.prototype_lowering.specs.StaticTable.{back, front}
use Rattle.header_text.specs.declared.arguments.Argument.{Argument}
use Rattle.header_text.specs.Header.{argument_of, arguments_of, context_if, count_if}

-- ---- with the value that a method returns

front-given : (ps : List ScopeParam) (gives : Option Meant)
    → front (ps ++ given false gives) ≡ take (length (front ps)) ps
front-given [] None = refl
front-given [] (Some ty) = refl
front-given (p ∷ ps) gives = go p.retval (front-given ps gives)
  where
    go : (b : Bool) → front (ps ++ given false gives) ≡ take (length (front ps)) ps
        → (if b then [] else (p ∷ front (ps ++ given false gives)))
        ≡ take (length (if b then [] else (p ∷ front ps))) (p ∷ ps)
    go true rest = refl
    go false rest = ap (λ more. p ∷ more) rest

back-given : (ps : List ScopeParam) (gives : Option Meant)
    → back (ps ++ given false gives) ≡ drop (length (front ps)) ps ++ given false gives
back-given [] None = refl
back-given [] (Some ty) = refl
back-given (p ∷ ps) gives = go p.retval (back-given ps gives)
  where
    go : (b : Bool) → back (ps ++ given false gives)
        ≡ drop (length (front ps)) ps ++ given false gives
        → (if b then (p ∷ (ps ++ given false gives)) else back (ps ++ given false gives))
        ≡ drop (length (if b then [] else (p ∷ front ps))) (p ∷ ps) ++ given false gives
    go true rest = refl
    go false rest = rest

-- ---- the arguments of a method

regrouped : (a b c d e : List Argument)
    → ((((a ++ b) ++ c) ++ d) ++ e) ≡ a ++ ((b ++ c) ++ (d ++ e))
regrouped a b c d e =
    append_assoc (((a ++ b) ++ c)) d e
    ∙ append_assoc (a ++ b) c (d ++ e)
    ∙ append_assoc a b (c ++ (d ++ e))
    ∙ ap (λ x. a ++ x) (sym (append_assoc b c (d ++ e)))

-- a method's context does not stand first
placed_context : (context : Bool)
    → (before value : List Argument) (argc : Bool)
    → context_if (context && false) ++ (before ++ ((context_if (context && true) ++ count_if argc) ++ value))
    ≡ before ++ ((context_if context ++ count_if argc) ++ value)
placed_context true before value argc = refl
placed_context false before value argc = refl

method_split : (ifaces : List ScopeIface) (name : Word) (hidden argc context : Bool)
    (gives : Option Meant) (ps : List ScopeParam) (n : ℕ) → n ≡ length (front ps)
    → (((map (argument_of ifaces kind.Plain) (take n ps) ++ context_if context) ++ count_if argc)
    ++ map (argument_of ifaces kind.Plain) (drop n ps))
    ++ map (argument_of ifaces kind.Plain) (given false gives)
    ≡ arguments_of ifaces (method name hidden false argc context gives ps)
method_split ifaces name hidden argc context gives ps n is =
    let f = argument_of ifaces kind.Plain
    in regrouped (map f (take n ps)) (context_if context) (count_if argc) (map f (drop n ps))
    (map f (given false gives))
    ∙ ap (λ x. map f (take n ps) ++ ((context_if context ++ count_if argc) ++ x))
    (sym (map-append f (drop n ps) (given false gives)))
    ∙ ap (λ m. map f (take m ps)
    ++ ((context_if context ++ count_if argc) ++ map f (drop m ps ++ given false gives))) is
    ∙ ap (λ x. map f x ++ ((context_if context ++ count_if argc)
    ++ map f (drop (length (front ps)) ps ++ given false gives))) (sym (front-given ps gives))
    ∙ ap (λ x. map f (front (ps ++ given false gives))
    ++ ((context_if context ++ count_if argc) ++ map f x)) (sym (back-given ps gives))
    ∙ sym (placed_context context (map f (front (ps ++ given false gives)))
    (map f (back (ps ++ given false gives))) argc)

-- the parameters from the one of number n on
rest_taken : (ps : List ScopeParam) (n : ℕ) → n ≤ length ps
    → take (length ps - n) (drop n ps) ≡ drop n ps
rest_taken ps n within = take_all (length ps - n) (drop n ps) (omega (arith, length-drop n ps))

-- the arguments of a method, part by part
pub method_made : (ifaces : List ScopeIface) (name : Word) (hidden argc context : Bool)
    (gives : Option Meant) (ps : List ScopeParam) (n : ℕ) → n ≡ length (front ps) → n ≤ length ps
    → (none before given_context counted behind all : List Argument) → none ≡ []
    → before ≡ none ++ map (argument_of ifaces kind.Plain) (take n ps)
    → given_context ≡ before ++ context_if context
    → counted ≡ given_context ++ count_if argc
    → behind ≡ counted ++ map (argument_of ifaces kind.Plain) (take (length ps - n) (drop n ps))
    → all ≡ behind ++ map (argument_of ifaces kind.Plain) (given false gives)
    → all ≡ arguments_of ifaces (method name hidden false argc context gives ps)
method_made ifaces name hidden argc context gives ps n is within none before given_context counted
    behind all e b x y z w =
    let f = argument_of ifaces kind.Plain
    in let first : before ≡ map f (take n ps) = b ∙ ap (λ t. t ++ map f (take n ps)) e
    in let second : given_context ≡ map f (take n ps) ++ context_if context =
    x ∙ ap (λ t. t ++ context_if context) first
    in let third : counted ≡ (map f (take n ps) ++ context_if context) ++ count_if argc =
    y ∙ ap (λ t. t ++ count_if argc) second
    in let fourth : behind ≡ ((map f (take n ps) ++ context_if context) ++ count_if argc)
    ++ map f (drop n ps) =
    z ∙ ap (λ t. counted ++ map f t) (rest_taken ps n within)
    ∙ ap (λ t. t ++ map f (drop n ps)) third
    in w ∙ ap (λ t. t ++ map f (given false gives)) fourth
    ∙ method_split ifaces name hidden argc context gives ps n is
