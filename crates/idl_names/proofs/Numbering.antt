-- The parameters of a method by name, from the last to the first.
use Rattle.std.proofs.Common.{◌≡◌, ℕ, suc, ◌<◌, List, ◌∷◌, length, get_or, drop, drop-cons, Option, Some, sym, ap, ◌∙◌, option_map}
use Rattle.idl_grammar.specs.declared.tree.ParamDecl.{ParamDecl}
use Rattle.idl_meaning.specs.Meaning.{learns}
use Rattle.idl_meaning.specs.Scopes.{number_from}
use Rattle.idl_meaning.specs.Faults.{param_of}
use Rattle.idl_names.specs.declared.parameters.Numbered.{Numbered}
use Rattle.idl_names.specs.Parameters.{number_of, param_in}
use Rattle.idl_names.proofs.Learned.{learns-mapped}

-- the rest of the parameters, with the one before it
one_more : (ps : List ParamDecl) (m : ℕ) (p : ParamDecl) → m < length ps → p ≡ get_or ps m p → drop m ps ≡ p ∷ drop (suc m) ps
one_more ps m p inside is = drop-cons ps m p inside ∙ ap (λ (q : ParamDecl). q ∷ drop (suc m) ps) (sym is)

pub numbers-more : (ps : List ParamDecl) (m left : ℕ) (p : ParamDecl) (name : List ℕ) (old now : List ℕ → Option Numbered) (one : Numbered)
    → now ≡ learns old name (Some one) → name ≡ p.name → one.number ≡ m → left ≡ suc m → m < length ps → p ≡ get_or ps m p
    → ◌≡◌ {A = List ℕ → Option ℕ} (λ n. option_map number_of (old n)) (number_from left (drop left ps))
    → ◌≡◌ {A = List ℕ → Option ℕ} (λ n. option_map number_of (now n)) (number_from m (drop m ps))
numbers-more ps m left p name old now one put named same e inside is before =
    (λ j n. option_map number_of (put j n))
    ∙ learns-mapped number_of old name one
    ∙ (λ j. learns (before j) (named j) (Some (same j)))
    ∙ (λ j. learns (number_from (e j) (drop (e j) ps)) p.name (Some m))
    ∙ sym (ap (number_from m) (one_more ps m p inside is))

pub params-more : (ps : List ParamDecl) (m left : ℕ) (p : ParamDecl) (name : List ℕ) (old now : List ℕ → Option Numbered) (one : Numbered)
    → now ≡ learns old name (Some one) → name ≡ p.name → one.param.now ≡ p → left ≡ suc m → m < length ps → p ≡ get_or ps m p
    → ◌≡◌ {A = List ℕ → Option ParamDecl} (λ n. option_map param_in (old n)) (param_of (drop left ps))
    → ◌≡◌ {A = List ℕ → Option ParamDecl} (λ n. option_map param_in (now n)) (param_of (drop m ps))
params-more ps m left p name old now one put named same e inside is before =
    (λ j n. option_map param_in (put j n))
    ∙ learns-mapped param_in old name one
    ∙ (λ j. learns (before j) (named j) (Some (same j)))
    ∙ (λ j. learns (param_of (drop (e j) ps)) p.name (Some p))
    ∙ sym (ap param_of (one_more ps m p inside is))
