-- Replies of small calls, by computing.
use Rattle.std.proofs.Common.{◌≡◌, ℕ, true, false, List, [], ◌∷◌, Some, None, pos, refl}
use Rattle.std.specs.List.{flat_map}
use Rattle.std.specs.Prelude.{neg_ℤ}
use Rattle.call_model.specs.declared.ctypes.CType.TheVariants.{I32, Ptr}
use Rattle.call_model.specs.declared.ctypes.CType.TheVariants.{Bool as BoolType}
use Rattle.call_model.specs.declared.places.Conv.TheVariants.{SysV64}
use Rattle.call_model.specs.declared.prototypes.Note.TheVariants.{Plain}
use Rattle.call_model.specs.declared.prototypes.Pass.{Pass}
use Rattle.call_model.specs.declared.prototypes.Pass.TheVariants.{ByValue, ByRef, ByCell}
use Rattle.call_model.specs.declared.ctypes.CType.{CType}
use Rattle.call_model.specs.declared.prototypes.ProtoArg.{ProtoArg}
use Rattle.call_scripts.specs.declared.script.ReplyItem.{ReplyItem}
use Rattle.call_scripts.specs.declared.script.ReplyItem.TheVariants as items
use Rattle.call_scripts.specs.declared.script.Term.TheVariants as terms
use Rattle.xp_base.specs.LittleEndian.{low_bytes}
use Rattle.call_replies.specs.Blocks.{Data, Object}
use Rattle.call_replies.specs.Items.{takes_item, takes_items}
use Rattle.call_replies.specs.Reply.{Asked, Memory, reply}
use Rattle.call_replies.specs.Writes.{asked_by, has_cells}

abbrev arg : Pass → CType → ProtoArg
arg pass ty = record { pass = pass; ty = ty; optional = false; note = Plain }

abbrev cells : List ℕ → List ℕ
cells numbers = flat_map (low_bytes 8) numbers

-- ---- a call of `long add(in long a, in long b)` with 2 and -1

abbrev add : List ProtoArg
add = arg ByValue I32 ∷ arg ByValue I32 ∷ arg (ByCell false) I32 ∷ []

abbrev sum_called : Asked
sum_called = asked_by false add (2 ∷ 0xffff_ffff_ffff_ffff ∷ 0x4000_0010 ∷ [])

abbrev sum_memory : (out : ℕ) → Memory
sum_memory out = record { cells = cells (2 ∷ 0xffff_ffff_ffff_ffff ∷ out ∷ []); blocks = [] }

abbrev sum_rule : List ReplyItem
sum_rule = items.Set 2 (terms.Arg 0) (Some (terms.Arg 1)) ∷ []

sum_suits : takes_items add sum_rule ≡ true
sum_suits = refl

sum_has_cells : has_cells sum_called (sum_memory 0).cells ≡ true
unfolding low_bytes
sum_has_cells = refl

sum_replied : reply SysV64 (Some sum_rule) sum_called (sum_memory 0) ≡ record { result = 0; memory = sum_memory 1 }
unfolding low_bytes
sum_replied = refl

no_rule : reply SysV64 None sum_called (sum_memory 0) ≡ record { result = 0x8000_4001; memory = sum_memory 0 }
no_rule = refl

-- a result that is named, and a number below zero
result_named : reply SysV64 (Some (items.Set 2 (terms.Number (neg_ℤ (pos 7))) None ∷ items.Result 0x8000_4005 ∷ [])) sum_called (sum_memory 0)
    ≡ record { result = 0x8000_4005; memory = sum_memory 0xffff_fff9 }
unfolding low_bytes
result_named = refl

-- the values are those before: two swapped cells, each with a sign
abbrev swap : List ProtoArg
swap = arg (ByCell true) I32 ∷ arg (ByCell true) I32 ∷ []

abbrev swap_called : Asked
swap_called = asked_by false swap (0x4000_0000 ∷ 0x4000_0008 ∷ [])

abbrev swap_memory : (one other : ℕ) → Memory
swap_memory one other = record { cells = cells (one ∷ other ∷ []); blocks = [] }

cells_swapped : reply SysV64 (Some (items.Set 0 (terms.InCell 1) None ∷ items.Set 1 (terms.InCell 0) (Some (terms.Number (pos 1))) ∷ [])) swap_called (swap_memory 0xffff_ffff_ffff_fffe 5)
    ≡ record { result = 0; memory = swap_memory 0xffff_ffff_0000_0005 0xffff_ffff }
unfolding low_bytes
cells_swapped = refl

-- ---- `void b8(out boolean v)` entered with an address in a block, and behind it

abbrev out_bool : List ProtoArg
out_bool = arg (ByCell false) BoolType ∷ []

abbrev bool_entered : (at : ℕ) → Asked
bool_entered at = asked_by true out_bool (at ∷ [])

abbrev block_memory : List ℕ → Memory
block_memory bytes = record { cells = []; blocks = record { name = []; at = 0x107d0; held = Data bytes } ∷ record { name = []; at = 0x107e0; held = Object 0 1 } ∷ [] }

abbrev bool_rule : List ReplyItem
bool_rule = items.Set 0 (terms.Number (pos 1)) None ∷ []

one_byte_written : reply SysV64 (Some bool_rule) (bool_entered 0x107d1) (block_memory (0x11 ∷ 0x22 ∷ 0x33 ∷ 0x44 ∷ 0x55 ∷ 0x66 ∷ 0x77 ∷ 0x88 ∷ []))
    ≡ record { result = 0; memory = block_memory (0x11 ∷ 0x01 ∷ 0x33 ∷ 0x44 ∷ 0x55 ∷ 0x66 ∷ 0x77 ∷ 0x88 ∷ []) }
unfolding low_bytes
one_byte_written = refl

behind_the_block : reply SysV64 (Some bool_rule) (bool_entered 0x107d8) (block_memory (0x11 ∷ 0x22 ∷ 0x33 ∷ 0x44 ∷ 0x55 ∷ 0x66 ∷ 0x77 ∷ 0x88 ∷ []))
    ≡ record { result = 0x8000_4003; memory = block_memory (0x11 ∷ 0x22 ∷ 0x33 ∷ 0x44 ∷ 0x55 ∷ 0x66 ∷ 0x77 ∷ 0x88 ∷ []) }
unfolding low_bytes
behind_the_block = refl

-- ---- bytes behind an address that was passed, as of a string

abbrev address_called : Asked
address_called = asked_by false (arg ByRef Ptr ∷ []) (0x107d0 ∷ [])

abbrev two_bytes : ReplyItem
two_bytes = items.Fill 0 1 (0x41 ∷ 0x42 ∷ [])

bytes_filled : reply SysV64 (Some (two_bytes ∷ [])) address_called (block_memory (0 ∷ 0 ∷ 0 ∷ 0 ∷ []))
    ≡ record { result = 0; memory = block_memory (0 ∷ 0x41 ∷ 0x42 ∷ 0 ∷ []) }
bytes_filled = refl

-- a fault that comes later changes nothing
nothing_filled : reply SysV64 (Some (two_bytes ∷ items.Fill 0 3 (1 ∷ 2 ∷ []) ∷ [])) address_called (block_memory (0 ∷ 0 ∷ 0 ∷ 0 ∷ []))
    ≡ record { result = 0x8000_4003; memory = block_memory (0 ∷ 0 ∷ 0 ∷ 0 ∷ []) }
nothing_filled = refl

-- an address is no value in a cell, and a value is no address
forms : (takes_item add (items.Set 0 (terms.Number (pos 1)) None) ≡ false) × (takes_item add (items.Fill 2 0 (1 ∷ [])) ≡ false) × (takes_item add (items.Set 2 (terms.Arg 3) None) ≡ false)
forms = (refl, refl, refl)
