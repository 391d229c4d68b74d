use Rattle.std.proofs.Common.{◌≡◌, Option, Some, None, refl}
use Rattle.idl_names.proofs.attributes.iid_bytes.Goals as goal

-- what has no value is None
without : {A : Type 0} (o : Option A) → ((x : A) → o ≡ Some x → ⊥) → None ≡ o
without None h = refl
without (Some x) h = absurd (h x refl)

pub returns-in-Err : goal.returns-in-Err
returns-in-Err c = without _ (λ x e. let h = c.in-Err.ensures.ok.1 (x, e) in cc)
