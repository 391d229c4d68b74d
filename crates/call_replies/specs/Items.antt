-- Which items a reply can have for a prototype.
use Rattle.std.specs.Prelude.{ℕ, Bool, true, false, not, ◌&&◌, is_some, List, slice_get, Option, Some, None}
use Rattle.std.specs.List.{list_all}
use Rattle.std.specs.Option.{option_map_or}
use Rattle.call_model.specs.declared.ctypes.CType.{CType}
use Rattle.call_model.specs.declared.ctypes.CType.TheVariants.{Ptr}
use Rattle.call_model.specs.declared.prototypes.Pass.{Pass}
use Rattle.call_model.specs.declared.prototypes.Pass.TheVariants.{ByValue, ByRef, ByCell}
use Rattle.call_model.specs.declared.prototypes.ProtoArg.{ProtoArg}
use Rattle.call_scripts.specs.declared.script.ReplyItem.{ReplyItem}
use Rattle.call_scripts.specs.declared.script.ReplyItem.TheVariants as items
use Rattle.call_scripts.specs.declared.script.Term.{Term}
use Rattle.call_scripts.specs.declared.script.Term.TheVariants as terms

abbrev pub is_by_cell : Pass → Bool
is_by_cell ByValue = false
is_by_cell ByRef = false
is_by_cell (ByCell inward) = true

abbrev pub is_pointer : CType → Bool
is_pointer Ptr = true
is_pointer _ = false

-- an argument that is an address itself: a pointer that is no address of a cell
abbrev pub is_address : ProtoArg → Bool
is_address p = not (is_by_cell p.pass) && is_pointer p.ty

-- there is an argument at position k; its value is passed in a cell; it is an address
abbrev pub has_position : List ProtoArg → (k : ℕ) → Bool
has_position proto k = is_some (slice_get proto k)

abbrev pub passes_cell : List ProtoArg → (k : ℕ) → Bool
passes_cell proto k = option_map_or (λ (p : ProtoArg). is_by_cell p.pass) (slice_get proto k) false

abbrev pub passes_address : List ProtoArg → (k : ℕ) → Bool
passes_address proto k = option_map_or is_address (slice_get proto k) false

-- a term names positions that there are, and in `*aPOS` one whose value is in a cell
abbrev pub takes_term : List ProtoArg → Term → Bool
takes_term proto (terms.Number n) = true
takes_term proto (terms.Address name) = true
takes_term proto (terms.Arg k) = has_position proto k
takes_term proto (terms.InCell k) = passes_cell proto k

abbrev pub takes_second : List ProtoArg → Option Term → Bool
takes_second proto None = true
takes_second proto (Some term) = takes_term proto term

-- an item for a cell names a position whose value is in one, and an item for memory one with an
-- address
abbrev pub takes_item : List ProtoArg → ReplyItem → Bool
takes_item proto (items.Result n) = true
takes_item proto (items.Set k first second) =
    passes_cell proto k && takes_term proto first && takes_second proto second
takes_item proto (items.Fill k offset bytes) = passes_address proto k

abbrev pub takes_items : List ProtoArg → List ReplyItem → Bool
takes_items proto items = list_all (takes_item proto) items
