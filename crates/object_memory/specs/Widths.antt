-- How many bytes are read or written at once.
use Rattle.std.specs.Prelude.{ℕ}
use Rattle.object_memory.specs.declared.width.Width.{Width}
use Rattle.object_memory.specs.declared.width.Width.TheVariants.{W1, W2, W4, W8}

-- the bytes of a width
abbrev pub bytes_of : Width → ℕ
bytes_of W1 = 1
bytes_of W2 = 2
bytes_of W4 = 4
bytes_of W8 = 8
