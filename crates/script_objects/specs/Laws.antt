-- What is true of the objects among blocks, and of rules.
use Rattle.std.specs.Prelude.{◌≡◌, ◌≤◌, ◌*◌, ℕ, List, [], ◌∷◌, ◌++◌, length, Option, Some, None}
use Rattle.call_model.specs.declared.places.Conv.{Conv}
use Rattle.call_replies.specs.Blocks.{Block, Data, HoldsBlocks, blocks_after}
use Rattle.call_replies.specs.Reply.{Asked, Memory, reply}
use Rattle.object_memory.specs.declared.layout.TheConstants.{HEAP_LIMIT}
use Rattle.object_memory.specs.Memory.{MachineView}
use Rattle.stub_dispatch.specs.Calls.{IsObject}
use Rattle.script_meaning.specs.Lawful.{AreLawful}
use Rattle.script_meaning.specs.State.{Name, Rule, Rules, object_numbered, ruled}
use Rattle.script_objects.specs.Known.{AreKnown, ObjectsView}
use Rattle.script_objects.specs.Ruling.{without}

-- bytes that are written into data leave what is known of the objects
abbrev pub WritesKeepObjects : Type 0
WritesKeepObjects =
    (conv : Conv) (known : ObjectsView) (blocks : List Block) (address : ℕ) (bytes : List ℕ)
    → AreKnown conv known blocks → AreKnown conv known (blocks_after blocks address bytes)

-- and so does a reply
abbrev pub RepliesKeepObjects : Type 0
RepliesKeepObjects =
    (conv : Conv) (known : ObjectsView) (rule : Option Rule) (call : Asked) (memory : Memory)
    → AreKnown conv known memory.blocks
    → AreKnown conv known (reply conv rule call memory).memory.blocks

-- a new data block adds no object
abbrev pub DataAddsNoObject : Type 0
DataAddsNoObject =
    (conv : Conv) (known : ObjectsView) (blocks : List Block)
    → AreKnown conv known blocks
    → (name : Name) (at : ℕ) (bytes : List ℕ)
    → AreKnown conv known (blocks ++ record { name = name; at = at; held = Data bytes } ∷ [])

-- each object occupies 16 bytes of the heap
abbrev pub ObjectsAreFew : Type 0
ObjectsAreFew =
    (conv : Conv) (known : ObjectsView) (blocks : List Block)
    → AreLawful conv blocks → AreKnown conv known blocks → 16 * length known.objects ≤ HEAP_LIMIT

-- on a machine that holds blocks the object of a number begins where the block of this number does
abbrev pub ObjectsStand : Type 0
ObjectsStand =
    (m : MachineView) (blocks : List Block) → HoldsBlocks m blocks → AreLawful m.conv blocks
    → (number : ℕ) (b : Block) → object_numbered blocks number ≡ Some b
    → IsObject m b.at number

-- a rule that was taken out and is put back leaves the rules as they were; and so does the taking
-- where there is none
pub record RulesGoBack : Type 0 where
  pub put_back : (rules : Rules) (object slot : ℕ) (rule : Rule) → rules object slot ≡ Some rule
      → ruled (without rules object slot) object slot rule ≡ rules
  pub nothing_taken : (rules : Rules) (object slot : ℕ) → rules object slot ≡ None
      → without rules object slot ≡ rules
