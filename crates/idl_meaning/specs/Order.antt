-- The order of faults, and what it is to be the least one.
use Rattle.std.specs.Prelude.{◌≡◌, ◌<◌, ◌⊎◌, ◌↔◌, List, [], ◌∷◌}
use Rattle.idl_grammar.specs.declared.tree.ClosedFile.{ClosedFile}
use Rattle.idl_meaning.specs.declared.idl_error.IdlError.{IdlError}
use Rattle.idl_meaning.specs.declared.idl_error.IdlError.TheVariants as error
use Rattle.idl_meaning.specs.Faults.{Fault, IsFault, faults_of}

-- x is an element of the list
abbrev pub Among : {A : Type 0} → A → List A → Type 0
Among x [] = ⊥
Among x (y ∷ ys) = (x ≡ y) ⊎ Among x ys

-- each element stands in this relation to each later one
abbrev pub Ascending : {A : Type 0} → (A → A → Type 0) → List A → Type 0
Ascending R [] = Unit {0}
Ascending {A} R (x ∷ xs) = ((y : A) → Among y xs → R x y) × Ascending R xs

-- by file, declaration, member and code
abbrev pub Before : Fault → Fault → Type 0
Before q r =
    (q.file < r.file)
    ⊎ ((q.file ≡ r.file)
    × ((q.decl < r.decl)
    ⊎ ((q.decl ≡ r.decl)
    × ((q.member < r.member)
    ⊎ ((q.member ≡ r.member) × (q.code < r.code))))))

-- The list of all faults has each fault, and nothing else.
abbrev pub HasEachFault : List ClosedFile → Type 0
HasEachFault files = (q : Fault) → Among q (faults_of files) ↔ IsFault files q

-- no condition of a code holds at any place
abbrev pub HasNoFault : List ClosedFile → Type 0
HasNoFault files = (q : Fault) → IsFault files q → ⊥

-- The fault is one of the files, and stands before each other one.
pub record IsLeast (files : List ClosedFile) (q : Fault) : Type 0 where
  pub holds_there : IsFault files q
  pub stands_first : (r : Fault) → IsFault files r → (r ≡ q) ⊎ Before q r

-- the error names the least fault; want of memory names none
abbrev pub IsLeastFault : List ClosedFile → IdlError → Type 0
IsLeastFault files (error.Fault code file decl member) =
    IsLeast files (record { code = code; file = file; decl = decl; member = member })
IsLeastFault files error.Memory = Unit {0}
