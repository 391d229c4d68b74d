-- The first of the faults, where lists of faults are joined.
use Rattle.std.proofs.Common.{◌≡◌, ℕ, List, [], ◌∷◌, ◌++◌, Option, Some, None, refl, ap}
use Rattle.idl_meaning.specs.declared.idl_error.IdlError.{IdlError}
use Rattle.idl_meaning.specs.declared.idl_error.IdlError.TheVariants as error
use Rattle.idl_meaning.specs.Faults.{Fault, IsFirst, first, Declaration, when, codes_at, faults_with}
use Rattle.idl_meaning.specs.Scopes.{Known, redeclares}
use Rattle.idl_grammar.specs.declared.tree.ItemBody.{ItemBody}
use Rattle.std.proofs.Common.{Bool, true, false, option_map}

-- the first of a list is the first of a longer one
pub is_first_append : (e : IdlError) (xs ys : List Fault) → IsFirst e xs → IsFirst e (xs ++ ys)
is_first_append error.Memory xs ys h = tt
is_first_append (error.Fault code file decl number) [] ys h = absurd cc
is_first_append (error.Fault code file decl number) (x ∷ xs) ys h = h

-- behind what has no faults
pub is_first_behind : (e : IdlError) (xs ys : List Fault) → xs ≡ [] → IsFirst e ys → IsFirst e (xs ++ ys)
is_first_behind e [] ys none h = h
is_first_behind e (x ∷ xs) ys none h = absurd cc

-- a list without a first is empty
pub none_first : (codes : List ℕ) → first codes ≡ None → codes ≡ []
none_first [] e = refl
none_first (c ∷ codes) e = absurd cc

head-when : (b : Bool) (code : ℕ) (rest : List ℕ) → when b code ++ rest ≡ [] → b ≡ false
head-when true code rest e = absurd cc
head-when false code rest e = refl

-- a declaration without a code is no double one
pub not_redeclared : (k : Known) (d : ItemBody) → codes_at (Declaration k d) ≡ [] → redeclares k.names d ≡ false
not_redeclared k d e = head-when (redeclares k.names d) 1 _ e

-- the first of the codes of a place is the first fault there
pub first-with : (file decl number code : ℕ) (codes : List ℕ) → first codes ≡ Some code
    → first (faults_with file decl number codes) ≡ Some (record { code = code; file = file; decl = decl; member = number })
first-with file decl number code [] e = absurd cc
first-with file decl number code (c ∷ codes) e = ap (λ (o : Option ℕ). option_map (λ n. record { code = n; file = file; decl = decl; member = number }) o) e
