-- Where each convention passes an argument, and how long the stack is. The place of an argument
-- depends on the types of the arguments before it and on its own.
--
-- SysV64: System V ABI for x86-64, part 3.2.3. I386: System V ABI for i386, part 2.2.3. Aapcs64:
-- procedure call standard for the Arm 64-bit architecture, part 6.8.2. Ms64: Microsoft x64 calling
-- convention, "Parameter passing". Aapcs32: procedure call standard for the Arm architecture, part
-- 6.5, base standard with soft float.
use Rattle.std.specs.Prelude.{◌≡◌, ◌≢◌, ◌⊎◌, ℕ, ◌+◌, ◌*◌, ◌-◌, ◌/◌, ◌%◌, ◌<◌, ◌≤◌, ◌&&◌, Bool, true, false, nat_lt, nat_le, nat_eq, max, take, count_by, List, [], ◌∷◌, ◌++◌, length, sum_by, fold, slice_get, EachIndex, Some, if◌then◌else◌}
use Rattle.std.specs.List.{range_with_len, slice_index_or}
use Rattle.call_model.specs.declared.ctypes.CType.{CType}
use Rattle.call_model.specs.declared.ctypes.CType.TheVariants.{I8}
use Rattle.call_model.specs.declared.places.Conv.{Conv}
use Rattle.call_model.specs.declared.places.Conv.TheVariants.{SysV64, I386, Aapcs64, Ms64, Aapcs32}
use Rattle.call_model.specs.declared.places.Loc.{Loc}
use Rattle.call_model.specs.declared.places.Loc.TheVariants.{Gpr, Fpr, Stack}
use Rattle.call_model.specs.Types.{is_float, is_wide, integers, floats}

-- ---- what a convention has

-- how many bytes a word has
abbrev pub word_of : Conv → ℕ
word_of SysV64 = 8
word_of I386 = 4
word_of Aapcs64 = 8
word_of Ms64 = 8
word_of Aapcs32 = 4

-- how many general registers take arguments
abbrev pub gprs_of : Conv → ℕ
gprs_of SysV64 = 6
gprs_of I386 = 0
gprs_of Aapcs64 = 8
gprs_of Ms64 = 4
gprs_of Aapcs32 = 0

-- how many float registers do
abbrev pub fprs_of : Conv → ℕ
fprs_of SysV64 = 8
fprs_of I386 = 0
fprs_of Aapcs64 = 8
fprs_of Ms64 = 4
fprs_of Aapcs32 = 0

-- the home that Ms64 keeps on the stack for its registers, 8 bytes for each position that has one
abbrev pub home_bytes : ℕ
home_bytes = 8 * gprs_of Ms64

-- the bytes of r0 to r3, with which the area of the arguments begins under Aapcs32
abbrev pub core_bytes : ℕ
core_bytes = 16

-- the bytes that an argument takes where words have 4 bytes
abbrev pub four_or_eight : CType → ℕ
four_or_eight t = if is_wide t then 8 else 4

-- the bytes that an argument takes on the stack
abbrev pub space_of : Conv → CType → ℕ
space_of SysV64 t = 8
space_of I386 t = four_or_eight t
space_of Aapcs64 t = 8
space_of Ms64 t = 8
space_of Aapcs32 t = four_or_eight t

-- ---- places

-- the bytes of the arguments that find no register left of their class, 8 for each
abbrev pub overflow_bytes : (gprs fprs integers floats : ℕ) → ℕ
overflow_bytes gprs fprs integers floats = 8 * ((integers - gprs) + (floats - fprs))

-- where an argument goes after so many of either class: the next register of its class, or after
-- the others on the stack
abbrev pub place_by_class : (gprs fprs integers floats : ℕ) (is_float : Bool) → Loc
place_by_class gprs fprs integers floats true =
    if nat_lt floats fprs then Fpr floats else Stack (overflow_bytes gprs fprs integers floats)
place_by_class gprs fprs integers floats false =
    if nat_lt integers gprs then Gpr integers else Stack (overflow_bytes gprs fprs integers floats)

-- the stack of so many arguments by position: the home, and 8 bytes for each without a register
abbrev pub positions_end : ℕ → ℕ
positions_end count = home_bytes + 8 * (count - gprs_of Ms64)

-- where an argument goes at position i: the register of that number, or its slot behind the home
abbrev pub place_by_position : (i : ℕ) (is_float : Bool) → Loc
place_by_position i true = if nat_lt i (fprs_of Ms64) then Fpr i else Stack (positions_end i)
place_by_position i false = if nat_lt i (gprs_of Ms64) then Gpr i else Stack (positions_end i)

-- the first place from `at` on that suits the type: a wide one begins at a multiple of 8
abbrev pub rounded : ℕ → CType → ℕ
rounded at t = if is_wide t then (at + 7) / 8 * 8 else at

-- where an argument of the type ends that begins there
abbrev pub rounded_end : ℕ → CType → ℕ
rounded_end at t = rounded at t + four_or_eight t

-- where the arguments end in the area of r0 to r3 and the stack after them
abbrev pub area_end : List CType → ℕ
area_end types = fold (λ at t. rounded_end at t) 0 types

-- the place of an argument by class after arguments of these types, and their stack
abbrev pub class_place : Conv → List CType → CType → Loc
class_place conv earlier t =
    place_by_class (gprs_of conv) (fprs_of conv) (integers earlier) (floats earlier) (is_float t)

abbrev pub class_stack : Conv → List CType → ℕ
class_stack conv types =
    overflow_bytes (gprs_of conv) (fprs_of conv) (integers types) (floats types)

-- the place of an argument of this type after arguments of these types
abbrev pub place : Conv → List CType → CType → Loc
place SysV64 earlier t = class_place SysV64 earlier t
place I386 earlier t = Stack (sum_by four_or_eight earlier)
place Aapcs64 earlier t = class_place Aapcs64 earlier t
place Ms64 earlier t = place_by_position (length earlier) (is_float t)
place Aapcs32 earlier t = Stack (rounded (area_end earlier) t)

-- how many bytes of stack the arguments of these types need
abbrev pub stack_len_of : Conv → List CType → ℕ
stack_len_of SysV64 types = class_stack SysV64 types
stack_len_of I386 types = sum_by four_or_eight types
stack_len_of Aapcs64 types = class_stack Aapcs64 types
stack_len_of Ms64 types = positions_end (length types)
stack_len_of Aapcs32 types = max core_bytes (area_end types)

-- the type and the place of argument i
abbrev pub type_at : List CType → ℕ → CType
type_at types i = slice_index_or types i I8

abbrev pub place_at : Conv → List CType → ℕ → Loc
place_at conv types i = place conv (take i types) (type_at types i)

-- the bytes that it takes on the stack
abbrev pub space_at : Conv → List CType → ℕ → ℕ
space_at conv types i = space_of conv (type_at types i)

-- arguments of these types are passed at these locations, with a stack of so many bytes
abbrev pub PassesAt : Conv → List CType → List Loc → (stack_len : ℕ) → Type 0
PassesAt conv types locations stack_len =
    EachIndex types (λ i. slice_get locations i ≡ Some (place_at conv types i))
    × (stack_len ≡ stack_len_of conv types)

-- ---- laws of places

-- whether no register of its class is left for argument i
abbrev pub finds_no_register : (gprs fprs : ℕ) → List CType → ℕ → Bool
finds_no_register gprs fprs types i =
    if is_float (type_at types i) then nat_le fprs (floats (take i types))
    else nat_le gprs (integers (take i types))

-- how many arguments of the whole list find no register of their class left
abbrev pub overflow_count : (gprs fprs : ℕ) → List CType → ℕ
overflow_count gprs fprs types =
    count_by (finds_no_register gprs fprs types) (range_with_len 0 (length types))

-- the stack has 8 bytes for each of them
abbrev pub CountsOverflow : Conv → Type 0
CountsOverflow conv =
    (types : List CType)
    → stack_len_of conv types ≡ 8 * overflow_count (gprs_of conv) (fprs_of conv) types

-- the first location, which takes so much space, stands before the second one: among the registers
-- of a class by number, on the stack with its whole space. Those of different kinds never overlap
abbrev pub StandsBefore : Loc → (space : ℕ) → Loc → Type 0
StandsBefore (Gpr r) space (Gpr s) = r < s
StandsBefore (Gpr r) space (Fpr s) = Unit {0}
StandsBefore (Gpr r) space (Stack next) = Unit {0}
StandsBefore (Fpr r) space (Gpr s) = Unit {0}
StandsBefore (Fpr r) space (Fpr s) = r < s
StandsBefore (Fpr r) space (Stack next) = Unit {0}
StandsBefore (Stack at) space (Gpr s) = Unit {0}
StandsBefore (Stack at) space (Fpr s) = Unit {0}
StandsBefore (Stack at) space (Stack next) = at + space ≤ next

-- no two locations of one list of types overlap: each stands before all later ones of its kind
abbrev pub PlacesApart : Conv → Type 0
PlacesApart conv =
    (earlier : List CType) (t : CType) (between : List CType) (u : CType)
    → StandsBefore (place conv earlier t) (space_of conv t) (place conv (earlier ++ t ∷ between) u)

-- the location is a register that the convention has, or lies on a stack of this length
abbrev pub IsWithin : Conv → (len : ℕ) → Loc → (space : ℕ) → Type 0
IsWithin conv len (Gpr r) space = r < gprs_of conv
IsWithin conv len (Fpr r) space = r < fprs_of conv
IsWithin conv len (Stack at) space = at + space ≤ len

-- each location of a list of types is a register of the convention, or lies on the list's stack
abbrev pub PlacesWithin : Conv → Type 0
PlacesWithin conv =
    (earlier : List CType) (t : CType) (later : List CType)
    → IsWithin conv (stack_len_of conv (earlier ++ t ∷ later))
    (place conv earlier t) (space_of conv t)

-- where the spaces of the arguments begin: after the home, or with the stack
abbrev pub stack_start : Conv → ℕ
stack_start SysV64 = 0
stack_start I386 = 0
stack_start Aapcs64 = 0
stack_start Ms64 = home_bytes
stack_start Aapcs32 = 0

-- where they end
abbrev pub arguments_end : Conv → List CType → ℕ
arguments_end SysV64 types = stack_len_of SysV64 types
arguments_end I386 types = stack_len_of I386 types
arguments_end Aapcs64 types = stack_len_of Aapcs64 types
arguments_end Ms64 types = stack_len_of Ms64 types
arguments_end Aapcs32 types = area_end types

-- the bytes that are left free before an argument: 4 before a wide one that would begin at an odd
-- word
abbrev pub padding : Conv → (earlier : List CType) → CType → ℕ
padding SysV64 earlier t = 0
padding I386 earlier t = 0
padding Aapcs64 earlier t = 0
padding Ms64 earlier t = 0
padding Aapcs32 earlier t = if is_wide t && nat_eq (area_end earlier % 8) 4 then 4 else 0

-- an argument at this location begins where the space before it ends, and the space goes on to its
-- own end
abbrev pub Continues : (before after : ℕ) → Loc → (space : ℕ) → Type 0
Continues before after (Gpr r) space = after ≡ before
Continues before after (Fpr r) space = after ≡ before
Continues before after (Stack at) space = (at ≡ before) × (after ≡ before + space)

-- where the next argument may begin: behind those before it, and what is left free for it
abbrev pub next_start : Conv → (earlier : List CType) → CType → ℕ
next_start conv earlier t = arguments_end conv earlier + padding conv earlier t

-- the space that a convention has on the stack even where no argument needs it
abbrev pub least_stack : Conv → ℕ
least_stack SysV64 = 0
least_stack I386 = 0
least_stack Aapcs64 = 0
least_stack Ms64 = home_bytes
least_stack Aapcs32 = core_bytes

-- the spaces of the arguments on the stack follow each other, with nothing but padding between,
-- from the start to the end of the stack; what the stack has above that is the least space
pub record FillsStack (conv : Conv) : Type 0 where
  pub starts : arguments_end conv [] ≡ stack_start conv
  pub continues : (earlier : List CType) (t : CType)
      → Continues (next_start conv earlier t) (arguments_end conv (earlier ++ t ∷ []))
      (place conv earlier t) (space_of conv t)
  pub whole : (types : List CType)
      → stack_len_of conv types ≡ max (least_stack conv) (arguments_end conv types)

-- more types never need a shorter stack
abbrev pub StackGrows : Conv → Type 0
StackGrows conv =
    (types more : List CType) → stack_len_of conv types ≤ stack_len_of conv (types ++ more)

-- the stack of a prototype, which with the object's address has at most 258 types, has at most
-- 2,064 bytes
abbrev pub StackIsBounded : Conv → Type 0
StackIsBounded conv =
    (types : List CType) → length types ≤ 258 → stack_len_of conv types ≤ 2064

-- ---- the words of AAPCS32

-- the area of r0 to r3 and the stack after them, as the standard names its places: byte `at` is the
-- first of a core register or, behind these, a byte of the stack
abbrev pub core_or_stack : ℕ → Loc
core_or_stack at = if nat_lt at core_bytes then Gpr (at / 4) else Stack (at - core_bytes)

-- where the standard passes an argument of this type after arguments of these types
abbrev pub aapcs32_place : List CType → CType → Loc
aapcs32_place earlier t = core_or_stack (rounded (area_end earlier) t)

-- a whole word: a register, or a multiple of 4 on the stack
abbrev pub IsAtWord : Loc → Type 0
IsAtWord (Gpr r) = Unit {0}
IsAtWord (Fpr r) = ⊥
IsAtWord (Stack at) = at % 4 ≡ 0

-- a double word: an even register, or a multiple of 8 on the stack
abbrev pub IsAtDoubleWord : Loc → Type 0
IsAtDoubleWord (Gpr r) = r % 2 ≡ 0
IsAtDoubleWord (Fpr r) = ⊥
IsAtDoubleWord (Stack at) = at % 8 ≡ 0

-- a value of so many bytes that begins in a core register ends in one
abbrev pub IsUnsplit : Loc → (space : ℕ) → Type 0
IsUnsplit (Gpr r) space = 4 * r + space ≤ core_bytes
IsUnsplit (Fpr r) space = ⊥
IsUnsplit (Stack at) space = Unit {0}

-- after an argument on the stack none is in a register
abbrev pub EndsRegisters : Loc → Loc → Type 0
EndsRegisters (Gpr r) later = Unit {0}
EndsRegisters (Fpr r) later = Unit {0}
EndsRegisters (Stack at) (Gpr r) = ⊥
EndsRegisters (Stack at) (Fpr r) = ⊥
EndsRegisters (Stack at) (Stack next) = at < next

-- the rules of the standard: a wide value begins at a double word and each other one at a word, no
-- value is split between registers and stack, and none is in a register after one on the stack
pub record FollowsAapcs32 : Type 0 where
  pub wide : (earlier : List CType) (t : CType) → is_wide t ≡ true
      → IsAtDoubleWord (aapcs32_place earlier t)
  pub word : (earlier : List CType) (t : CType) → IsAtWord (aapcs32_place earlier t)
  pub whole : (earlier : List CType) (t : CType)
      → IsUnsplit (aapcs32_place earlier t) (space_of Aapcs32 t)
  pub ends : (earlier : List CType) (t : CType) (between : List CType) (u : CType)
      → EndsRegisters (aapcs32_place earlier t) (aapcs32_place (earlier ++ t ∷ between) u)
