-- What a run ends as, once a `&mut` to its items has ended.
use Rattle.std.specs.Prelude.{ℕ, List}
use Rattle.std.specs.Borrow.{Fml, MutBor, Array, Lends, u8}
use Rattle.raw_block.specs.declared.run.Run.{Run}
use Rattle.raw_block.specs.contracts.run.Run.{the_row}

abbrev pub with_items : Run → List ℕ → Run
with_items r xs = record { ptr = r.ptr; items = xs; room = r.room }

abbrev pub lends_all : MutBor Run → MutBor (List ℕ) → Fml
lends_all s r = Lends the_row (Array u8 0) s r (with_items s.now)
