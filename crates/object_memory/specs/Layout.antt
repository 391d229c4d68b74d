-- Where the things of the machine stand.
use Rattle.std.specs.Prelude.{ℕ, zero, suc, ◌+◌, ◌-◌, ◌*◌, ◌/◌, max, List, [], ◌++◌, length, replicate}
use Rattle.call_model.specs.declared.places.Conv.{Conv}
use Rattle.call_model.specs.Placement.{word_of}
use Rattle.object_memory.specs.declared.layout.TheConstants.{SLOTS}
use Rattle.xp_base.specs.LittleEndian.{low_bytes}

-- the space that n bytes occupy: rounded up to 16, and at least 16
abbrev pub space_for : ℕ → ℕ
space_for n = max 16 ((n + 15) / 16 * 16)

-- bytes, with zeros up to the space that they occupy
abbrev pub padded : List ℕ → List ℕ
padded bytes = bytes ++ replicate (space_for (length bytes) - length bytes) 0

-- the entry address of a slot
abbrev pub entry_of : ℕ → ℕ
entry_of slot = 0x1000 + 16 * slot

-- the words of the first n slots, each the entry address of its slot
unfoldable pub slot_words : (word n : ℕ) → List ℕ
slot_words word zero = []
slot_words word (suc n) = slot_words word n ++ low_bytes word (entry_of n)

-- the vtable, which all objects share
abbrev pub vtable : Conv → List ℕ
vtable conv = padded (slot_words (word_of conv) SLOTS)

-- the space that it occupies; the first block of the heap stands after it
abbrev pub vtable_space : Conv → ℕ
vtable_space conv = space_for (SLOTS * word_of conv)
