-- A table of names whose meanings are seen through a function.
use Rattle.std.proofs.Common.{◌≡◌, ℕ, Bool, true, false, List, Option, Some, refl, if◌then◌else◌, option_map}
use Rattle.std.specs.Str.{bytes_eq}
use Rattle.idl_meaning.specs.Meaning.{learns}

mapped_at : {A B : Type 0} (f : A → B) (v : A) (b : Bool) (x : Option A) → option_map f (if b then Some v else x) ≡ (if b then Some (f v) else option_map f x)
mapped_at f v true x = refl
mapped_at f v false x = refl

-- one name more is one name more
pub learns-mapped : {A B : Type 0} (f : A → B) (old : List ℕ → Option A) (name : List ℕ) (v : A)
    → ◌≡◌ {A = List ℕ → Option B} (λ n. option_map f (learns old name (Some v) n)) (learns (λ n. option_map f (old n)) name (Some (f v)))
learns-mapped f old name v = λ j n. mapped_at f v (bytes_eq name n) (old n) j
