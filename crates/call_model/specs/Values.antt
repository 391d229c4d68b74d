-- What stands at the place of an argument: the pattern of a value, the frame that holds the values
-- of a call, which frames hold given values as the convention asks, and which values a frame gives
-- to the one who is called.
use Rattle.std.specs.Prelude.{◌≡◌, ◌≢◌, ◌↔◌, ℕ, ◌+◌, ◌*◌, ◌-◌, ◌%◌, ◌^◌, ◌<◌, ◌≤◌, nat_lt, nat_le, nat_eq, ◌&&◌, List, [], ◌∷◌, ◌++◌, length, map, fold, slice_index, slice_range, if◌then◌else◌}
use Rattle.std.specs.List.{range_with_len}
use Rattle.xp_base.specs.LittleEndian.{low_bytes, number_of}
use Rattle.call_model.specs.declared.ctypes.CType.{CType}
use Rattle.call_model.specs.declared.ctypes.CType.TheVariants.{I8, I16, I32, I64, U8, U16, U32, U64, F32, F64, Char, WChar, Ptr}
use Rattle.call_model.specs.declared.ctypes.CType.TheVariants.{Bool as BoolType}
use Rattle.call_model.specs.declared.places.Conv.{Conv}
use Rattle.call_model.specs.declared.places.Loc.{Loc}
use Rattle.call_model.specs.declared.places.Loc.TheVariants.{Gpr, Fpr, Stack}
use Rattle.call_model.specs.Types.{is_signed}
use Rattle.call_model.specs.Placement.{word_of, place, space_of, stack_len_of, type_at, place_at, space_at}

-- ---- patterns

-- how many bytes are a value's own; a pointer has a word
abbrev pub own_len : Conv → CType → ℕ
own_len conv I8 = 1
own_len conv I16 = 2
own_len conv I32 = 4
own_len conv I64 = 8
own_len conv U8 = 1
own_len conv U16 = 2
own_len conv U32 = 4
own_len conv U64 = 8
own_len conv F32 = 4
own_len conv F64 = 8
own_len conv BoolType = 1
own_len conv Char = 1
own_len conv WChar = 2
own_len conv Ptr = word_of conv

-- a number of n bytes in two's complement, as a number of 8 bytes
abbrev pub sign_extended : ℕ → ℕ → ℕ
sign_extended n own = if nat_lt own (2 ^ (8 * n - 1)) then own else own + (2 ^ 64 - 2 ^ (8 * n))

-- own bytes as a number of 8 bytes: by the sign for a type that has one, by zeros for any other
abbrev pub extended : Conv → CType → ℕ → ℕ
extended conv t own = if is_signed t then sign_extended (own_len conv t) own else own

-- the canonical pattern, of 8 bytes, of the value whose own bytes are the low ones of v
abbrev pub canon : Conv → CType → ℕ → ℕ
canon conv t v = extended conv t (v % 2 ^ (8 * own_len conv t))

-- the canonical patterns of the values of a call
abbrev pub canon_all : Conv → List CType → List ℕ → List ℕ
canon_all conv [] values = []
canon_all conv (t ∷ types) [] = []
canon_all conv (t ∷ types) (v ∷ values) = canon conv t v ∷ canon_all conv types values

-- ---- frames

-- how many registers of each class a frame has: no convention passes arguments in more
abbrev pub frame_registers : ℕ
frame_registers = 8

-- the general registers, the float registers and the stack at the moment of a call
pub record FrameView : Type 0 where
  pub gprs : List ℕ
  pub fprs : List ℕ
  pub stack : List ℕ

-- an argument in its place: where, how many bytes of stack it takes if it stands there, and what
-- stands there
pub record Argument : Type 0 where
  pub at : Loc
  pub space : ℕ
  pub pattern : ℕ

-- the argument of this type and pattern, which comes after arguments of the earlier types
abbrev pub argument : Conv → (earlier : List CType) → CType → (pattern : ℕ) → Argument
argument conv earlier t p =
    record { at = place conv earlier t; space = space_of conv t; pattern = p }

-- the arguments of these types and patterns, which come after arguments of the earlier types
abbrev pub arguments_after : Conv → (earlier types : List CType) (patterns : List ℕ) → List Argument
arguments_after conv earlier [] patterns = []
arguments_after conv earlier (t ∷ types) [] = []
arguments_after conv earlier (t ∷ types) (p ∷ patterns) =
    argument conv earlier t p ∷ arguments_after conv (earlier ++ t ∷ []) types patterns

abbrev pub arguments : Conv → (types : List CType) (patterns : List ℕ) → List Argument
arguments conv types patterns = arguments_after conv [] types patterns

-- what general register r holds after the pattern p was put there, where it held `other` before
abbrev pub gpr_at : (r other : ℕ) → Loc → (p : ℕ) → ℕ
gpr_at r other (Gpr s) p = if nat_eq r s then p else other
gpr_at r other (Fpr s) p = other
gpr_at r other (Stack at) p = other

-- the same of float register r
abbrev pub fpr_at : (r other : ℕ) → Loc → (p : ℕ) → ℕ
fpr_at r other (Gpr s) p = other
fpr_at r other (Fpr s) p = if nat_eq r s then p else other
fpr_at r other (Stack at) p = other

-- the same of byte b of the stack, where the low bytes of the pattern fill its space
abbrev pub byte_at : (b other : ℕ) → Loc → (space p : ℕ) → ℕ
byte_at b other (Gpr s) space p = other
byte_at b other (Fpr s) space p = other
byte_at b other (Stack at) space p =
    if nat_le at b && nat_lt b (at + space) then slice_index (low_bytes space p) (b - at) else other

-- what the arguments leave in a register or a byte of the stack: the pattern of the one that stands
-- there, else zero
abbrev pub gpr_of : List Argument → ℕ → ℕ
gpr_of args r = fold (λ other (a : Argument). gpr_at r other a.at a.pattern) 0 args

abbrev pub fpr_of : List Argument → ℕ → ℕ
fpr_of args r = fold (λ other (a : Argument). fpr_at r other a.at a.pattern) 0 args

abbrev pub byte_of : List Argument → ℕ → ℕ
byte_of args b = fold (λ other (a : Argument). byte_at b other a.at a.space a.pattern) 0 args

-- the frame with a stack of so many bytes that holds these arguments, and zero elsewhere
abbrev pub frame_with : List Argument → (stack_len : ℕ) → FrameView
frame_with args stack_len = record {
  gprs = map (gpr_of args) (range_with_len 0 frame_registers);
  fprs = map (fpr_of args) (range_with_len 0 frame_registers);
  stack = map (byte_of args) (range_with_len 0 stack_len);
}

-- the frame that holds these patterns at the places of these types, and zero elsewhere
abbrev pub frame_of : Conv → List CType → List ℕ → FrameView
frame_of conv types patterns = frame_with (arguments conv types patterns) (stack_len_of conv types)

-- the frame of a call: the canonical patterns of its values, each at its place
abbrev pub placed : Conv → List CType → List ℕ → FrameView
placed conv types values = frame_of conv types (canon_all conv types values)

-- ---- what a frame holds

-- the pattern stands whole at the location: in the register, or in its space on the stack
abbrev pub HoldsPattern : FrameView → (space p : ℕ) → Loc → Type 0
HoldsPattern frame space p (Gpr r) = slice_index frame.gprs r ≡ p
HoldsPattern frame space p (Fpr r) = slice_index frame.fprs r ≡ p
HoldsPattern frame space p (Stack at) =
    slice_range frame.stack at (at + space) ≡ low_bytes space p

-- the frame has each pattern at the place of its type
abbrev pub HoldsEach : Conv → List CType → List ℕ → FrameView → Type 0
HoldsEach conv types patterns frame =
    (i : ℕ) → i < length types
    → HoldsPattern frame (space_at conv types i) (slice_index patterns i) (place_at conv types i)

-- whether byte b of the stack belongs to the location and its space
abbrev pub Covers : Loc → (space b : ℕ) → Type 0
Covers (Gpr r) space b = ⊥
Covers (Fpr r) space b = ⊥
Covers (Stack at) space b = (at ≤ b) × (b < at + space)

-- no argument of these types is in the register
abbrev pub IsFreeRegister : Conv → List CType → Loc → Type 0
IsFreeRegister conv types register = (i : ℕ) → i < length types → place_at conv types i ≢ register

-- no argument of these types has the byte of the stack in its space
abbrev pub IsFreeByte : Conv → List CType → (b : ℕ) → Type 0
IsFreeByte conv types b =
    (i : ℕ) → i < length types → ¬ Covers (place_at conv types i) (space_at conv types i) b

-- a register or a byte of the stack that belongs to no argument of these types is zero
pub record IsZeroElsewhere (conv : Conv) (types : List CType) (frame : FrameView) : Type 0 where
  pub gprs_are : (r : ℕ) → IsFreeRegister conv types (Gpr r) → slice_index frame.gprs r ≡ 0
  pub fprs_are : (r : ℕ) → IsFreeRegister conv types (Fpr r) → slice_index frame.fprs r ≡ 0
  pub stack_is : (b : ℕ) → IsFreeByte conv types b → slice_index frame.stack b ≡ 0

-- all registers, a stack of just the length that the types need, each pattern at the place of its
-- type, and zero elsewhere
pub record HoldsArguments (conv : Conv) (types : List CType) (patterns : List ℕ) (frame : FrameView)
    : Type 0 where
  pub gprs_are : length frame.gprs ≡ frame_registers
  pub fprs_are : length frame.fprs ≡ frame_registers
  pub stack_is : length frame.stack ≡ stack_len_of conv types
  pub each : HoldsEach conv types patterns frame
  pub elsewhere : IsZeroElsewhere conv types frame

-- the frame of patterns, one for each type, holds them so, and no other frame does
abbrev pub IsTheFrame : Conv → Type 0
IsTheFrame conv =
    (types : List CType) (patterns : List ℕ) → length types ≡ length patterns
    → (frame : FrameView)
    → HoldsArguments conv types patterns frame ↔ (frame ≡ frame_of conv types patterns)

-- ---- what the one who is called receives

-- the n low bytes at a location
abbrev pub own_bytes : FrameView → (n : ℕ) → Loc → List ℕ
own_bytes frame n (Gpr r) = low_bytes n (slice_index frame.gprs r)
own_bytes frame n (Fpr r) = low_bytes n (slice_index frame.fprs r)
own_bytes frame n (Stack at) = slice_range frame.stack at (at + n)

-- the number that they are
abbrev pub own_at : FrameView → (n : ℕ) → Loc → ℕ
own_at frame n loc = number_of (own_bytes frame n loc)

-- how many bytes are argument i's own, and those that stand at its place
abbrev pub own_len_at : Conv → List CType → (i : ℕ) → ℕ
own_len_at conv types i = own_len conv (type_at types i)

abbrev pub bytes_at : Conv → List CType → FrameView → (i : ℕ) → List ℕ
bytes_at conv types frame i = own_bytes frame (own_len_at conv types i) (place_at conv types i)

-- a frame that holds these values: its stack is long enough, and at the place of each argument the
-- low bytes are the value's own. All other bits and bytes are free
pub record Conforms (conv : Conv) (types : List CType) (values : List ℕ) (frame : FrameView)
    : Type 0 where
  pub paired : length types ≡ length values
  pub enough : stack_len_of conv types ≤ length frame.stack
  pub own : (i : ℕ) → i < length types
      → bytes_at conv types frame i ≡ low_bytes (own_len_at conv types i) (slice_index values i)

-- the value that the one who is called receives as argument i: the canonical pattern of the own
-- bytes at its place
abbrev pub received : Conv → List CType → FrameView → ℕ → ℕ
received conv types frame i =
    extended conv (type_at types i) (own_at frame (own_len_at conv types i) (place_at conv types i))

-- the frame of a call conforms to the call's values
abbrev pub PlacedConforms : Conv → Type 0
PlacedConforms conv =
    (types : List CType) (values : List ℕ) → length types ≡ length values
    → Conforms conv types values (placed conv types values)

-- whatever stands in the free bits, a frame that conforms to values gives their canonical patterns
abbrev pub ReceivesCanonical : Conv → Type 0
ReceivesCanonical conv =
    (types : List CType) (values : List ℕ) (frame : FrameView) → Conforms conv types values frame
    → (i : ℕ) → i < length types
    → received conv types frame i ≡ canon conv (type_at types i) (slice_index values i)
