-- How an iterator goes through the arguments of a method's prototype.
use Rattle.std.proofs.Common.{◌≡◌, ℕ, zero, suc, ◌+◌, ◌<◌, List, [], ◌∷◌, length, Some, None, arith, refl, sym, ap, ◌∙◌, drop, inl, inr, get_or}
use Rattle.std.specs.Prelude.{option_map, slice_get}
use Rattle.std.proofs.lemmas.Bool.{cases_lt}
use Rattle.std.proofs.lemmas.Option.{slice_get-get_or, slice_get_past}
use Rattle.call_model.specs.declared.prototypes.Status.{Status}
use Rattle.call_model.specs.declared.prototypes.Status.TheVariants.{Callable, Hidden, NotXpcom, Opaque}
use Rattle.lib_model.specs.declared.contents.Method.{Method}
use Rattle.lib_model.specs.Table.{arg_of, context_arg, proto_if, proto_of}
use Rattle.typelib_faults.specs.declared.cursor.Cursor.{Cursor}
use Rattle.typelib_faults.specs.Faults.{form_fault, params_cursor}
use Rattle.typelib_faults.specs.Places.{method_at, param_at, param_count_at, param_end}
use Rattle.typelib_faults.specs.Walk.{reach}
use Rattle.typelib_faults.proofs.WalkFacts.{length_values, values_get}
use Rattle.typelib_check.specs.declared.parts.Params.{Params}
use Rattle.typelib_check.proofs.PartLaws.{method_params, param_there}
use Rattle.descriptor_reader.specs.declared.shapes.Shape.{Shape}
use Rattle.descriptor_reader.specs.Shapes.{IsAtArg, params_before}

-- a position inside the prototype that is a parameter's is that of one that is there
param_counted : (m : Method) (position number : ℕ) → position < length (proto_of m) → slice_get (proto_of m) position ≡ option_map (arg_of m) (slice_get m.params number) → number < length m.params
param_counted m position number low stands =
    elim (cases_lt number (length m.params)) as (λ _. number < length m.params) [
      | inl within ↦ within
      | inr past ↦
          let none : slice_get (proto_of m) position ≡ None = stands ∙ ap (option_map (arg_of m)) (slice_get_past m.params number past)
          in let some : slice_get (proto_of m) position ≡ Some (get_or (proto_of m) position context_arg) = slice_get-get_or (proto_of m) position context_arg low
          in absurd (cc)
    ]

pub arg_there : (x : List ℕ) (c : Cursor) (s : Shape) (position place number : ℕ) → IsAtArg x c s position place → position < length (proto_of (method_at x c.place)) → slice_get (proto_of (method_at x c.place)) position ≡ option_map (arg_of (method_at x c.place)) (slice_get (method_at x c.place).params number) → params_before s position ≡ number → (form_fault x (place + 1) ≡ None) × (place < length x) × (slice_get (method_at x c.place).params number ≡ Some (param_at x place))
unfolding method_at
arg_there x c s position place number is low stands before =
    let n : ℕ = param_count_at x c.place
    in let params : Params = record { from = params_cursor c; count = n }
    in let there : place ≡ reach (param_end x) (c.place + 6) number = is.reached ∙ ap (reach (param_end x) (c.place + 6)) before
    in let within : number < n = omega (arith, param_counted (method_at x c.place) position number low stands, length_values (param_at x) (param_end x) (c.place + 6) n)
    in let inside : (form_fault x (place + 1) ≡ None) × (place < length x) = param_there x params number place (method_params x c is.fine) within there
    in (inside.0, inside.1, values_get (param_at x) (param_end x) (c.place + 6) n number within ∙ ap (λ (p : ℕ). Some (param_at x p)) (sym there))

-- a prototype that has a position is that of a method that may be called
pub called : (status : Status) (m : Method) (position : ℕ) → position < length (proto_if status m) → proto_if status m ≡ proto_of m
called Callable m position low = refl
called Hidden m position low = absurd (omega (arith, low))
called NotXpcom m position low = absurd (omega (arith, low))
called Opaque m position low = absurd (omega (arith, low))

pub dropped : {A : Type 0} (xs : List A) (p : ℕ) (a : A) → slice_get xs p ≡ Some a → drop p xs ≡ a ∷ drop (p + 1) xs
dropped [] p a e = absurd (cc)
dropped (x ∷ xs) zero a e =
    let same : x ≡ a = cc
    in ap (λ y. y ∷ xs) same
dropped (x ∷ xs) (suc p) a e =
    let k : suc p + 1 ≡ suc (p + 1) = omega arith
    in rw k (dropped xs p a e)
