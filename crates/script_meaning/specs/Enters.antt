-- The frame that an `enter` line gives: the registers and the stack that its items name, and the
-- object's address where the convention passes it.
use Rattle.std.specs.Prelude.{ℕ, Bool, not, ◌++◌, List, [], ◌∷◌, map, fold, length, drop, nat_le, position, option_map, Option, codes}
use Rattle.std.specs.List.{list_any, range_with_len}
use Rattle.std.specs.Option.{option_map_or, option_or}
use Rattle.std.specs.Str.{bytes_eq}
use Rattle.call_model.specs.declared.ctypes.CType.TheVariants.{Ptr}
use Rattle.call_model.specs.declared.places.Conv.{Conv}
use Rattle.call_model.specs.declared.places.Conv.TheVariants.{SysV64, I386, Aapcs64, Ms64, Aapcs32}
use Rattle.call_model.specs.declared.places.Loc.{Loc}
use Rattle.call_model.specs.declared.places.Loc.TheVariants as locs
use Rattle.call_model.specs.Placement.{place, word_of}
use Rattle.call_model.specs.Values.{FrameView, fpr_at, frame_registers, gpr_at}
use Rattle.call_scripts.specs.declared.script.EnterItem.{EnterItem}
use Rattle.call_scripts.specs.declared.script.EnterItem.TheVariants.{Register, Stack}
use Rattle.object_memory.specs.declared.layout.TheConstants.{STACK_LIMIT}
use Rattle.xp_base.specs.LittleEndian.{low_bytes}
use Rattle.script_meaning.specs.State.{Name}

-- ---- registers

-- the general registers that take arguments, and the float registers that do, in order
abbrev pub gpr_names : Conv → List Name
gpr_names SysV64 =
    codes "rdi" ∷ codes "rsi" ∷ codes "rdx" ∷ codes "rcx" ∷ codes "r8" ∷ codes "r9" ∷ []
gpr_names I386 = []
gpr_names Aapcs64 =
    codes "x0" ∷ codes "x1" ∷ codes "x2" ∷ codes "x3"
    ∷ codes "x4" ∷ codes "x5" ∷ codes "x6" ∷ codes "x7" ∷ []
gpr_names Ms64 = codes "rcx" ∷ codes "rdx" ∷ codes "r8" ∷ codes "r9" ∷ []
gpr_names Aapcs32 = []

abbrev pub fpr_names : Conv → List Name
fpr_names SysV64 =
    codes "xmm0" ∷ codes "xmm1" ∷ codes "xmm2" ∷ codes "xmm3"
    ∷ codes "xmm4" ∷ codes "xmm5" ∷ codes "xmm6" ∷ codes "xmm7" ∷ []
fpr_names I386 = []
fpr_names Aapcs64 =
    codes "v0" ∷ codes "v1" ∷ codes "v2" ∷ codes "v3"
    ∷ codes "v4" ∷ codes "v5" ∷ codes "v6" ∷ codes "v7" ∷ []
fpr_names Ms64 = codes "xmm0" ∷ codes "xmm1" ∷ codes "xmm2" ∷ codes "xmm3" ∷ []
fpr_names Aapcs32 = []

-- the register of a name
abbrev pub register_named : Conv → Name → Option Loc
register_named conv name =
    option_or
    (option_map locs.Gpr (position (bytes_eq name) (gpr_names conv)))
    (option_map locs.Fpr (position (bytes_eq name) (fpr_names conv)))

-- ---- the object's address

abbrev pub place_of_this : Conv → Loc
place_of_this conv = place conv [] Ptr

-- what stands on the stack where the address stands there, before the bytes that an item gives
abbrev pub pushed_at : Loc → (word : List ℕ) → List ℕ
pushed_at (locs.Gpr r) word = []
pushed_at (locs.Fpr r) word = []
pushed_at (locs.Stack at) word = word

abbrev pub pushed_this : Conv → (this : ℕ) → List ℕ
pushed_this conv this = pushed_at (place_of_this conv) (low_bytes (word_of conv) this)

-- ---- which items a frame takes

-- a register of the convention, but not the first general one, which has the object's address
abbrev pub takes_register : Conv → Name → Bool
takes_register conv name =
    list_any (bytes_eq name) (drop 1 (gpr_names conv) ++ fpr_names conv)

-- a stack that with the object's address is no longer than a stack may be
abbrev pub takes_stack : Conv → List ℕ → Bool
takes_stack conv bytes = nat_le (length (pushed_this conv 0 ++ bytes)) STACK_LIMIT

abbrev pub takes_frame_item : Conv → EnterItem → Bool
takes_frame_item conv (Register name value) = takes_register conv name
takes_frame_item conv (Stack bytes) = takes_stack conv bytes

-- the first item that a frame does not take
abbrev pub misformed : Conv → List EnterItem → Option ℕ
misformed conv items = position (λ item. not (takes_frame_item conv item)) items

-- ---- the frame. Of the items for one register, or for the stack, the last counts

abbrev pub gpr_after : Conv → (r other : ℕ) → EnterItem → ℕ
gpr_after conv r other (Register name value) =
    option_map_or (λ loc. gpr_at r other loc value) (register_named conv name) other
gpr_after conv r other (Stack bytes) = other

abbrev pub fpr_after : Conv → (r other : ℕ) → EnterItem → ℕ
fpr_after conv r other (Register name value) =
    option_map_or (λ loc. fpr_at r other loc value) (register_named conv name) other
fpr_after conv r other (Stack bytes) = other

abbrev pub stack_after : (other : List ℕ) → EnterItem → List ℕ
stack_after other (Register name value) = other
stack_after other (Stack bytes) = bytes

abbrev pub entered_gpr : Conv → (this : ℕ) → List EnterItem → (r : ℕ) → ℕ
entered_gpr conv this items r =
    fold (gpr_after conv r) (gpr_at r 0 (place_of_this conv) this) items

abbrev pub entered_fpr : Conv → List EnterItem → (r : ℕ) → ℕ
entered_fpr conv items r = fold (fpr_after conv r) 0 items

-- a register that no item names is zero
unfoldable pub entered_frame : Conv → (this : ℕ) → List EnterItem → FrameView
entered_frame conv this items = record {
  gprs = map (entered_gpr conv this items) (range_with_len 0 frame_registers);
  fprs = map (entered_fpr conv items) (range_with_len 0 frame_registers);
  stack = pushed_this conv this ++ fold stack_after [] items;
}
