-- The parts of a typelib that are read again when they are known to have no fault.
use Rattle.std.specs.Prelude.{◌≡◌, ◌<◌, ℕ, List, slice_get, Option, Some, None, option_map}
use Rattle.lib_model.specs.declared.contents.Constant.{Constant}
use Rattle.lib_model.specs.declared.contents.Method.{Method}
use Rattle.lib_model.specs.declared.param_types.Param.{Param}
use Rattle.lib_model.specs.Valid.{tag_of}
use Rattle.typelib_faults.specs.Faults.{constant_fault, constant_next, directory_cursor, entry_fault, entry_next, method_fault, method_next, param_fault, param_next}
use Rattle.typelib_faults.specs.Places.{constant_at, constant_end, count_of, method_at, method_end, param_at, param_end}
use Rattle.typelib_faults.specs.Walk.{values, walk}
use Rattle.typelib_check.specs.declared.parts.Constants.{Constants}
use Rattle.typelib_check.specs.declared.parts.Methods.{Methods}
use Rattle.typelib_check.specs.declared.parts.Params.{Params}

-- these parameters of a method have no fault, and what they are
abbrev pub AreFineParams : List ℕ → Params → Type 0
AreFineParams x params = walk (param_fault x) (param_next x) params.from params.count ≡ None

abbrev pub params_of : List ℕ → Params → List Param
params_of x params = values (param_at x) (param_end x) params.from.place params.count

-- the same of an interface's own methods, and of its own constants
abbrev pub AreFineMethods : List ℕ → Methods → Type 0
AreFineMethods x methods =
    walk (method_fault x) (method_next x) methods.from methods.count ≡ None

abbrev pub methods_of : List ℕ → Methods → List Method
methods_of x methods = values (method_at x) (method_end x) methods.from.place methods.count

abbrev pub AreFineConstants : List ℕ → Constants → Type 0
AreFineConstants x constants =
    walk (constant_fault x) (constant_next x) constants.from constants.count ≡ None

abbrev pub constants_of : List ℕ → Constants → List Constant
constants_of x constants =
    values (constant_at x) (constant_end x) constants.from.place constants.count

-- no entry of the directory has a fault
abbrev pub AreFineEntries : List ℕ → Type 0
AreFineEntries x = walk (entry_fault x) (entry_next x) (directory_cursor x) (count_of x) ≡ None

-- the tag of the parameter of each number that a byte can hold; None where there is no such
-- parameter
abbrev pub HasTags : List (Option ℕ) → List Param → Type 0
HasTags tags params =
    (number : ℕ) → number < 256
    → slice_get tags number
    ≡ Some (option_map (λ (p : Param). tag_of p.ty) (slice_get params number))
