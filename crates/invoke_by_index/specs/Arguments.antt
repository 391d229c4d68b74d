-- The arguments of a call: whether they fit a prototype, the values that a call with them passes,
-- and the cells that these are filled into.
use Rattle.std.specs.Prelude.{ℕ, ◌+◌, ◌*◌, ◌&&◌, ◌==◌, Bool, true, false, not, ℤ, pos, List, length, map, filter, find, take, count_by, Option, Some, if◌then◌else◌}
use Rattle.std.specs.Int.{w64, cast_unsigned}
use Rattle.std.specs.List.{list_any, range_with_len, slice_index_or}
use Rattle.std.specs.Option.{option_map, option_or}
use Rattle.call_model.specs.declared.ctypes.CType.{CType}
use Rattle.call_model.specs.declared.ctypes.CType.TheVariants.{I8}
use Rattle.call_model.specs.declared.places.Conv.{Conv}
use Rattle.call_model.specs.declared.prototypes.Note.{Note}
use Rattle.call_model.specs.declared.prototypes.Note.TheVariants.{Plain, Argc, Context}
use Rattle.call_model.specs.declared.prototypes.Pass.{Pass}
use Rattle.call_model.specs.declared.prototypes.Pass.TheVariants.{ByValue, ByRef, ByCell}
use Rattle.call_model.specs.declared.prototypes.ProtoArg.{ProtoArg}
use Rattle.call_model.specs.Prototype.{passed_type}
use Rattle.call_model.specs.Values.{canon}
use Rattle.invoke_by_index.specs.declared.args.Arg.{Arg}
use Rattle.invoke_by_index.specs.declared.args.Arg.TheVariants.{Value, Cell, ValueCell, Absent}
use Rattle.invoke_by_index.specs.declared.args.ArgFault.{ArgFault}
use Rattle.invoke_by_index.specs.declared.args.ArgFault.TheVariants.{Count, Form, Range}
use Rattle.invoke_by_index.specs.Ranges.{in_range}

-- ---- parameters and arguments

-- whether an argument of a prototype stands for no parameter, but is added: the count of optional
-- arguments, or the context
abbrev pub is_added : Note → Bool
is_added Argc = true
is_added Context = true
is_added _ = false

abbrev pub stands_for_param : ProtoArg → Bool
stands_for_param p = not (is_added p.note)

-- the arguments of a prototype that stand for its parameters, in order
abbrev pub parameters : List ProtoArg → List ProtoArg
parameters proto = filter stands_for_param proto

-- element i of a prototype, and argument k that was given
abbrev pub proto_at : List ProtoArg → ℕ → ProtoArg
proto_at proto i =
    slice_index_or proto i (record { pass = ByValue; ty = I8; optional = false; note = Plain })

abbrev pub given_at : List Arg → ℕ → Arg
given_at args k = slice_index_or args k Absent

-- whether an argument is absent
abbrev pub is_absent : Arg → Bool
is_absent Absent = true
is_absent _ = false

-- the number that an argument gives
abbrev pub number_in : Arg → ℤ
number_in (Value n) = n
number_in (ValueCell n) = n
number_in Cell = pos 0
number_in Absent = pos 0

-- ---- which arguments fit

-- a value by itself takes a number; an optional one may be absent, and once one was absent it must
abbrev pub takes_value : (left_out optional : Bool) → Arg → Bool
takes_value left_out optional (Value n) = not (left_out && optional)
takes_value left_out optional Absent = optional
takes_value left_out optional Cell = false
takes_value left_out optional (ValueCell n) = false

-- a value in a cell takes a cell, with a number where the cell has one before the call
abbrev pub takes_cell : (inward : Bool) → Arg → Bool
takes_cell inward Cell = not inward
takes_cell inward (ValueCell n) = inward
takes_cell inward (Value n) = false
takes_cell inward Absent = false

-- the form of an argument, by how its parameter is passed
abbrev pub takes_form : (left_out optional : Bool) → Pass → Arg → Bool
takes_form left_out optional ByValue arg = takes_value left_out optional arg
takes_form left_out optional ByRef arg = takes_value left_out optional arg
takes_form left_out optional (ByCell inward) arg = takes_cell inward arg

-- argument k has the form of its parameter, after those before it
abbrev pub has_form : (params : List ProtoArg) (args : List Arg) (k : ℕ) → Bool
has_form params args k =
    takes_form
    (list_any is_absent (take k args))
    (proto_at params k).optional
    (proto_at params k).pass
    (given_at args k)

-- its number is in the range of its parameter's type, which for a value in a cell is the type of
-- the cell
abbrev pub has_range : Conv → (params : List ProtoArg) (args : List Arg) (k : ℕ) → Bool
has_range conv params args k =
    in_range conv (proto_at params k).ty (number_in (given_at args k))

-- the first of n places where a test fails
abbrev pub first_failing : (ℕ → Bool) → (n : ℕ) → Option ℕ
first_failing test n = find (λ k. not (test k)) (range_with_len 0 n)

-- why arguments don't fit a prototype: there are not as many as parameters; or else one has the
-- wrong form, and the first of these counts; or else one is out of range, and the first counts
abbrev pub arg_fault : Conv → List ProtoArg → List Arg → Option ArgFault
arg_fault conv proto args =
    if not (length args == length (parameters proto)) then Some Count
    else option_or
    (option_map Form (first_failing (has_form (parameters proto) args) (length args)))
    (option_map Range (first_failing (has_range conv (parameters proto) args) (length args)))

-- ---- what is passed

-- whether parameter k is an optional one that was given
abbrev pub is_given : (params : List ProtoArg) (args : List Arg) (k : ℕ) → Bool
is_given params args k = (proto_at params k).optional && not (is_absent (given_at args k))

-- how many optional parameters were given
abbrev pub given_count : (params : List ProtoArg) (args : List Arg) → ℕ
given_count params args = count_by (is_given params args) (range_with_len 0 (length args))

-- what was given for element i of a prototype: the argument of its parameter
abbrev pub arg_of : List ProtoArg → List Arg → (i : ℕ) → Arg
arg_of proto args i = given_at args (length (parameters (take i proto)))

-- a number of 64 bits in two's complement
abbrev pub pattern_of : ℤ → ℕ
pattern_of n = cast_unsigned w64 n

-- the value that a call passes for a parameter: a number, or the address of the cell
abbrev pub value_by : Pass → (cell : ℕ) → Arg → ℕ
value_by ByValue cell arg = pattern_of (number_in arg)
value_by ByRef cell arg = pattern_of (number_in arg)
value_by (ByCell inward) cell arg = cell

-- with the count of given optional arguments, and the context, where these are added
abbrev pub value_for : Note → (given context value : ℕ) → ℕ
value_for Argc given context value = given
value_for Context given context value = context
value_for _ given context value = value

-- the value of element i of a prototype, whose cells begin at the address `base`
abbrev pub value_at : (base context : ℕ) → List ProtoArg → List Arg → (i : ℕ) → ℕ
value_at base context proto args i =
    value_for
    (proto_at proto i).note
    (given_count (parameters proto) args)
    context
    (value_by (proto_at proto i).pass (base + 8 * i) (arg_of proto args i))

-- the values of a call, without the object's address
abbrev pub values_of : (base context : ℕ) → List ProtoArg → List Arg → List ℕ
values_of base context proto args =
    map (value_at base context proto args) (range_with_len 0 (length proto))

-- ---- cells

-- what stands in the cell of an argument: for a value in a cell its number, or zero, and else the
-- value that is passed
abbrev pub cell_by : Conv → Pass → CType → Arg → (value : ℕ) → ℕ
cell_by conv (ByCell inward) t arg value = canon conv t (pattern_of (number_in arg))
cell_by conv pass t arg value = canon conv (passed_type pass t) value

abbrev pub cell_at : Conv → (base context : ℕ) → List ProtoArg → List Arg → (i : ℕ) → ℕ
cell_at conv base context proto args i =
    cell_by
    conv
    (proto_at proto i).pass
    (proto_at proto i).ty
    (arg_of proto args i)
    (value_at base context proto args i)

-- the cells of a call, each the canonical pattern of its value
abbrev pub cells_of : Conv → (base context : ℕ) → List ProtoArg → List Arg → List ℕ
cells_of conv base context proto args =
    map (cell_at conv base context proto args) (range_with_len 0 (length proto))
