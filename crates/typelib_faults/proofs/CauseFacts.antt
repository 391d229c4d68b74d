-- Facts on what first faults blame, whatever the parts are.
use Rattle.std.proofs.Common.{◌≡◌, ℕ, zero, suc, ◌<◌, List, Option, Some, None, Bool, true, false, cond, arith, refl}
use Rattle.std.specs.Prelude.{IfSome}
use Rattle.typelib_faults.specs.declared.faults.BadTypelib.{BadTypelib}
use Rattle.typelib_faults.specs.Causes.{IsFault}
use Rattle.typelib_faults.specs.Walk.{faulty, reach, walk, ◌orelse◌}
use Rattle.typelib_faults.proofs.WalkFacts.{none_orelse}

-- a fault that is there has its cause
abbrev pub Blames : List ℕ → Option BadTypelib → Type 0
Blames x fault = IfSome fault (IsFault x)

pub blames_then : (x : List ℕ) (f g : Option BadTypelib) → Blames x f → (f ≡ None → Blames x g) → Blames x (f orelse g)
blames_then x None g first rest = rest refl
blames_then x (Some f) g first rest = first

pub blames_both : (x : List ℕ) (f g : Option BadTypelib) → Blames x f → Blames x g → Blames x (f orelse g)
blames_both x f g first rest = blames_then x f g first (λ e. rest)

pub blames_test : (x : List ℕ) (b : Bool) (code p : ℕ) → (b ≡ true → IsFault x (record { code = code; at = p })) → Blames x (faulty b code p)
blames_test x true code p cause = cause refl
blames_test x false code p cause = tt

pub blames_unless : (x : List ℕ) (b : Bool) (f : Option BadTypelib) → (b ≡ false → Blames x f) → Blames x (cond b None f)
blames_unless x true f rest = tt
blames_unless x false f rest = rest refl

pub blames_walk : {S : Type 0} (x : List ℕ) (f : S → Option BadTypelib) (g : S → S) (s : S) (n : ℕ) → ((i : ℕ) → i < n → walk f g s i ≡ None → Blames x (f (reach g s i))) → Blames x (walk f g s n)
blames_walk x f g s zero each = tt
blames_walk x f g s (suc n) each =
    blames_then x (f s) (walk f g (g s) n) (each zero (omega arith) refl)
    (λ e. blames_walk x f g (g s) n (λ i low fine. each (suc i) (omega (arith, low)) (none_orelse (f s) (walk f g (g s) i) e fine)))

-- a test that holds is a fault
pub fault_there : (b : Bool) (code p : ℕ) → b ≡ true → faulty b code p ≡ None → ⊥
fault_there true code p e fine = absurd (cc)
fault_there false code p e fine = absurd (cc)
