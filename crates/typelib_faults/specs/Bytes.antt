-- Lists of bytes.
use Rattle.std.specs.Prelude.{ℕ, ◌<◌, List}
use Rattle.lib_model.specs.Denotes.{byte_at}

abbrev pub AreBytes : List ℕ → Type 0
AreBytes x = (p : ℕ) → byte_at x p < 256
