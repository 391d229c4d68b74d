-- What is true of every state that a script leaves.
use Rattle.std.specs.Prelude.{◌≡◌, ◌≤◌, ℕ, ◌+◌, cond, List, [], ◌∷◌}
use Rattle.call_model.specs.declared.places.Conv.{Conv}
use Rattle.invoke_by_index.specs.Ranges.{FitsWord}
use Rattle.object_memory.specs.declared.layout.TheConstants.{HEAP_LIMIT}
use Rattle.object_memory.specs.Heap.{heap_at}
use Rattle.call_replies.specs.Blocks.{ArePlaced, Block, Held, Data, Object, Forwarder}
use Rattle.script_meaning.specs.Chain.{AllHandDown}
use Rattle.script_meaning.specs.State.{State, is_object, occupied_by}

-- an object has this number
abbrev pub IsNumbered : ℕ → Held → Type 0
IsNumbered n (Data bytes) = Unit {0}
IsNumbered n (Object number iface) = number ≡ n
IsNumbered n (Forwarder number iface target own) = number ≡ n

-- the objects among the blocks are numbered in order, from a number on
abbrev pub AreNumbered : ℕ → List Block → Type 0
AreNumbered n [] = Unit {0}
AreNumbered n (b ∷ blocks) =
    IsNumbered n b.held × AreNumbered (n + cond (is_object b.held) 1 0) blocks

-- each block stands behind the one before it, and all in the room that the heap has; the objects
-- are numbered from 0; and each forwarder hands its calls down to an object of a smaller number
pub record AreLawful (conv : Conv) (blocks : List Block) : Type 0 where
  pub placed : ArePlaced conv (heap_at conv) blocks
  pub fits : occupied_by conv blocks ≤ HEAP_LIMIT
  pub numbered : AreNumbered 0 blocks
  pub down : AllHandDown blocks

-- and the context is an address
pub record IsLawful (conv : Conv) (state : State) : Type 0 where
  pub blocks : AreLawful conv state.blocks
  pub context : FitsWord conv state.context
