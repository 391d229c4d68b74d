-- Words read one after the other: what is read so far and what is left, and what the readings say
-- of the words.
use Rattle.std.proofs.Common.{◌≡◌, List, [], ◌∷◌, ◌++◌, Option, Some, None, refl, sym, ap, subst}
use Rattle.std.proofs.lemmas.Option.{same_Some}
use Rattle.line_words.specs.Words.{◌>>=◌, Each, Word, each_of}
use Rattle.line_words.proofs.Choices.{bound}

-- a reading with what was read before it
abbrev pub with_front : {A : Type 0} → List A → Option (List A) → Option (List A)
with_front front None = None
with_front front (Some more) = Some (front ++ more)

pub each_read : {A : Type 0} (read : Word → Option A) (Is : Word → A → Type 0) → ((w : Word) (v : A) → read w ≡ Some v → Is w v)
    → (ws : List Word) (vs : List A) → each_of read ws ≡ Some vs → Each Is ws vs
each_read read Is one [] vs h = sym (same_Some [] vs h)
each_read {A} read Is one (w ∷ ws) vs h =
    let v = bound (read w) (λ v. each_of read ws >>= λ vs. Some (v ∷ vs)) vs h in
    let more = bound (each_of read ws) (λ vs. Some (v.0 ∷ vs)) vs v.2 in
    subst (λ us. Each Is (w ∷ ws) us) (same_Some (v.0 ∷ more.0) vs more.2) (one w v.0 v.1, each_read read Is one ws more.0 more.1)

pub each_spelled : {A : Type 0} (read : Word → Option A) (Is : Word → A → Type 0) → ((w : Word) (v : A) → Is w v → read w ≡ Some v)
    → (ws : List Word) (vs : List A) → Each Is ws vs → each_of read ws ≡ Some vs
each_spelled read Is one [] vs h = ap Some (sym h)
each_spelled read Is one (w ∷ ws) [] h = absurd h
each_spelled read Is one (w ∷ ws) (v ∷ vs) h = rw (one w v h.0, each_spelled read Is one ws vs h.1) refl
