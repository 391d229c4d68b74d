-- Tests and choices: what it says that one came out as it did.
use Rattle.std.proofs.Common.{◌≡◌, Bool, true, false, not, cond, ◌&&◌, Option, Some, None, refl, inl, inr}
use Rattle.std.specs.Prelude.{◌⊎◌}
use Rattle.std.specs.Option.{option_map_or}
use Rattle.std.proofs.lemmas.Bool.{false≢true}
use Rattle.std.proofs.lemmas.Option.{none-some}
use Rattle.line_words.specs.Words.{◌>>=◌}

pub both : (a b : Bool) → (a && b) ≡ true → (a ≡ true) × (b ≡ true)
both true true h = (refl, refl)
both true false h = absurd (false≢true h)
both false b h = absurd (false≢true h)

pub not_true : (b : Bool) → not b ≡ true → b ≡ false
not_true true h = absurd (false≢true h)
not_true false h = refl

-- what makes the second test fail makes both fail
pub fails_too : (a x y : Bool) → (a && x) ≡ false → (x ≡ false → y ≡ false) → (a && y) ≡ false
fails_too true x y h f = f h
fails_too false x y h f = refl

pub fails_second : (a : Bool) → (a && false) ≡ false
fails_second true = refl
fails_second false = refl

-- a test that fails gives nothing
pub untested : {A : Type 0} (b : Bool) (x : A) → (b ≡ true → ⊥) → cond b (Some x) None ≡ None
untested true x h = absurd (h refl)
untested false x h = refl

-- what comes of two steps comes of the first and then the second
pub bound : {A B : Type 0} (o : Option A) (f : A → Option B) (y : B) → (o >>= f) ≡ Some y → (x : A) × (o ≡ Some x) × (f x ≡ Some y)
bound None f y h = absurd (none-some y h)
bound (Some x) f y h = (x, refl, h)

-- one of two ways was taken
pub ways : {A B : Type 0} (o : Option A) (f : A → B) (d y : B) → option_map_or f o d ≡ y → ((x : A) × (o ≡ Some x) × (f x ≡ y)) ⊎ ((o ≡ None) × (d ≡ y))
ways None f d y h = inr (refl, h)
ways (Some x) f d y h = inl (x, refl, h)

pub chosen : {A : Type 0} (b : Bool) (x y z : A) → cond b x y ≡ z → ((b ≡ true) × (x ≡ z)) ⊎ ((b ≡ false) × (y ≡ z))
chosen true x y z h = inl (refl, h)
chosen false x y z h = inr (refl, h)
