-- Conventions with the same word have the same canonical patterns.
use Rattle.std.proofs.Common.{◌≡◌, ℕ, ◌*◌, ◌%◌, ◌^◌, List, [], ◌∷◌, refl, ap, ◌∙◌}
use Rattle.call_model.specs.declared.ctypes.CType.{CType}
use Rattle.call_model.specs.declared.ctypes.CType.TheVariants.{Ptr}
use Rattle.call_model.specs.declared.places.Conv.{Conv}
use Rattle.call_model.specs.Placement.{word_of}
use Rattle.call_model.specs.Values.{canon, canon_all}
use Rattle.call_model.proofs.Patterns.{canon-canon}

pub canon-word : (c d : Conv) (t : CType) (v : ℕ) → word_of c ≡ word_of d → canon c t v ≡ canon d t v
canon-word c d Ptr v same = ap (λ n. v % 2 ^ (8 * n)) same
canon-word c d t v same = refl

-- the canonical patterns of canonical patterns are these
pub canon_all-across : (c d : Conv) (types : List CType) (values : List ℕ) → word_of c ≡ word_of d
    → canon_all d types (canon_all c types values) ≡ canon_all d types values
canon_all-across c d [] values same = refl
canon_all-across c d (t ∷ types) [] same = refl
canon_all-across c d (t ∷ types) (v ∷ values) same =
    ap (λ p. p ∷ canon_all d types (canon_all c types values)) (ap (canon d t) (canon-word c d t v same) ∙ canon-canon d t v)
    ∙ ap (λ ps. canon d t v ∷ ps) (canon_all-across c d types values same)
