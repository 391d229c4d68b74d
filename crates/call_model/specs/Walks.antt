-- Walks along the arguments of a call, which stand for the types that they have passed by.
use Rattle.std.specs.Prelude.{◌≡◌, ℕ, List, [], ◌∷◌, ◌++◌}
use Rattle.call_model.specs.declared.class_walk.ClassWalk.{ClassWalk}
use Rattle.call_model.specs.declared.ctypes.CType.{CType}
use Rattle.call_model.specs.Types.{integers, floats}

-- a walk that stood for types stands for these and one more
abbrev pub GoesPast : {W : Type 0} → (W → List CType → Type 0) → (old new : W) → CType → Type 0
GoesPast stands_for old new t =
    (types : List CType) → stands_for old types → stands_for new (types ++ t ∷ [])

-- a walk by class has passed by arguments of these types
abbrev pub HasCounted : {gprs fprs : ℕ} → ClassWalk gprs fprs → List CType → Type 0
HasCounted walk types = (walk.integers ≡ integers types) × (walk.floats ≡ floats types)
