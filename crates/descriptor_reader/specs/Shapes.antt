-- Where the arguments that are added stand in the prototype of a method.
use Rattle.std.specs.Prelude.{◌≡◌, ℕ, ◌+◌, ◌-◌, ◌<◌, ◌≤◌, ◌^◌, min, Bool, true, false, ◌&&◌, not, nat_lt, List, [], ◌∷◌, length, slice_get, Option, Some, None, option_map, if◌then◌else◌}
use Rattle.call_model.specs.declared.prototypes.ProtoArg.{ProtoArg}
use Rattle.call_model.specs.declared.prototypes.Status.{Status}
use Rattle.call_model.specs.declared.prototypes.Status.TheVariants.{Callable, Hidden, NotXpcom, Opaque}
use Rattle.lib_model.specs.declared.contents.Method.{Method}
use Rattle.lib_model.specs.Table.{arg_of, context_arg, count_arg, first_args, is_attribute, middle_args, position_in, proto_of, slot_of, status_of, takes_context, written_count}
use Rattle.typelib_faults.specs.declared.cursor.Cursor.{Cursor}
use Rattle.typelib_faults.specs.Faults.{method_fault}
use Rattle.typelib_faults.specs.Places.{method_at, param_end}
use Rattle.typelib_faults.specs.Walk.{reach}
use Rattle.descriptor_reader.specs.declared.shapes.Part.{Part}
use Rattle.descriptor_reader.specs.declared.shapes.Part.TheVariants as part
use Rattle.descriptor_reader.specs.declared.shapes.Shape.{Shape}

-- the context, where it is added behind the written parameters
abbrev pub middle_context : Method → List ProtoArg
middle_context m = if takes_context m && not (is_attribute m) then context_arg ∷ [] else []

-- these are the numbers of a method's prototype
pub record HasShape (s : Shape) (m : Method) : Type 0 where
  pub first : s.first ≡ length (first_args m)
  pub written : s.written ≡ written_count m.params
  pub middle : s.middle ≡ length (middle_args m)
  pub context : s.context ≡ length (middle_context m)

-- what stands at a position of a method's prototype
abbrev pub StandsAt : Method → ℕ → Part → Type 0
StandsAt m position part.Context = slice_get (proto_of m) position ≡ Some context_arg
StandsAt m position part.Count = slice_get (proto_of m) position ≡ Some count_arg
StandsAt m position (part.OfParam number) =
    slice_get (proto_of m) position ≡ option_map (arg_of m) (slice_get m.params number)

abbrev pub is_callable : Status → Bool
is_callable Callable = true
is_callable Hidden = false
is_callable NotXpcom = false
is_callable Opaque = false

-- the position of the parameter of this number, where there is one and the method may be called
abbrev pub position_of_param : Method → ℕ → Option ℕ
position_of_param m number =
    if is_callable (status_of m) && nat_lt number (length m.params) then Some (position_in m number)
    else None

-- how many parameters have their arguments before a position
abbrev pub params_before : Shape → ℕ → ℕ
params_before s position =
    min (position - s.first) s.written + (position - s.first - s.written - s.middle)

-- what stands at a position is the argument of the next parameter, or one that is added
abbrev pub IsNext : Shape → ℕ → Part → Type 0
IsNext s position part.Context = params_before s (position + 1) ≡ params_before s position
IsNext s position part.Count = params_before s (position + 1) ≡ params_before s position
IsNext s position (part.OfParam number) =
    (params_before s position ≡ number) × (params_before s (position + 1) ≡ number + 1)

-- an iterator over the arguments of the method at a cursor stands at a position, and the place of
-- the next parameter
pub record IsAtArg (x : List ℕ) (method : Cursor) (s : Shape) (position place : ℕ) : Type 0 where
  pub fine : method_fault x method ≡ None
  pub shape : HasShape s (method_at x method.place)
  pub few : s.first + s.middle ≤ 3
  pub reached : place ≡ reach (param_end x) (method.place + 6) (params_before s position)

-- the same, where the prototype of the method ends at a position
pub record IsArgIter (x : List ℕ) (method : Cursor) (s : Shape) (position end place : ℕ) : Type 0
  where
    pub at : IsAtArg x method s position place
    pub ends : end ≡ length (slot_of (method_at x method.place)).proto
    pub low : end < 2 ^ 32
