-- Bytes that are written into a block, on the machine and in the state.
use Rattle.std.proofs.Common.{◌≡◌, ◌≤◌, ◌∙◌, ℕ, ◌+◌, ◌-◌, Bool, true, false, cond, find, List, [], ◌∷◌, length, Option, Some, option_map, bytes_eq, if◌then◌else◌, ap, refl, sym, subst, arith}
use Rattle.std.proofs.lemmas.List.{take-append-drop}
use Rattle.raw_block.specs.Bytes.{overwritten}
use Rattle.object_memory.specs.Heap.{Stores, lies_in}
use Rattle.object_memory.specs.Memory.{MachineView, Inside, is_within, with_cells, with_memory, written}
use Rattle.object_memory.specs.declared.layout.TheConstants.{CELLS_AT, VTABLE_AT}
use Rattle.object_memory.proofs.Access.{written-memory}
use Rattle.object_memory.proofs.Held.{inside-memory}
use Rattle.call_replies.specs.Blocks.{Block, Held, Data, Object, Forwarder, HoldsBlocks, block_after, blocks_after, contents, held_after}
use Rattle.call_replies.proofs.Looked.{holds_blocks-written, inside-from}
use Rattle.script_meaning.specs.Lawful.{IsLawful}
use Rattle.script_meaning.specs.State.{Name, State, named, with_bytes}
use Rattle.script_meaning.proofs.Kept.{data-kept}
use Rattle.script_objects.specs.Known.{AreKnown}
use Rattle.script_objects.proofs.Kept.{writes-keep}
use Rattle.script_stage.specs.declared.placed.Kind.TheVariants as kinds
use Rattle.script_stage.specs.declared.stages.Stage.{Stage}
use Rattle.script_stage.specs.Standing.{Stands, kind_of, noted, noted_as}
use Rattle.script_stage.proofs.Held.{some-found}

-- ---- no byte at all

overwritten-nothing : (xs : List ℕ) (at : ℕ) → overwritten xs at [] ≡ xs
overwritten-nothing xs at = let none : at + 0 ≡ at = omega arith in rw none (take-append-drop at xs)

unchanged-by : {A : Type 0} (s t : Bool) (x one other : A) → one ≡ x → other ≡ x
    → cond s one (cond t other x) ≡ x
unchanged-by true t x one other first second = first
unchanged-by false true x one other first second = second
unchanged-by false false x one other first second = refl

written-nothing : (m : MachineView) (at : ℕ) → written m at [] ≡ m
written-nothing m at =
    unchanged-by (is_within VTABLE_AT m.memory at 0) (is_within CELLS_AT m.cells at 0) m
    (with_memory m at []) (with_cells m at [])
    (ap (λ bytes. record m { memory = bytes }) (overwritten-nothing m.memory (at - VTABLE_AT)))
    (ap (λ bytes. record m { cells = bytes }) (overwritten-nothing m.cells (at - CELLS_AT)))

choice-same : (t : Bool) (new old : List ℕ) → new ≡ old → (if t then Data new else Data old) ≡ Data old
choice-same true new old same = ap Data same
choice-same false new old same = refl

held-nothing : (at : ℕ) (held : Held) (a : ℕ) → held_after at held a [] ≡ held
held-nothing at (Data old) a =
    choice-same (lies_in at old a 0) (overwritten old (a - at) []) old (overwritten-nothing old (a - at))
held-nothing at (Object number iface) a = refl
held-nothing at (Forwarder number iface target own) a = refl

blocks-nothing : (blocks : List Block) (a : ℕ) → blocks_after blocks a [] ≡ blocks
blocks-nothing [] a = refl
blocks-nothing (b ∷ blocks) a =
    λ j. record b { held = held-nothing b.at b.held a j } ∷ blocks-nothing blocks a j

-- ---- the machine

-- what a write of bytes that lie in one data block leaves of a machine that holds blocks
pub record IsWritten (m new : MachineView) (blocks : List Block) : Type 0 where
  pub conv : new.conv ≡ m.conv
  pub cells : new.cells ≡ m.cells
  pub holds : HoldsBlocks new blocks

module _ (m : MachineView) (blocks : List Block) (holds : HoldsBlocks m blocks) (a : ℕ) (new : MachineView) where
  is-written : (w : List ℕ) → new ≡ written m a w → (1 ≤ length w → Inside m.blocks a (length w))
      → IsWritten m new (blocks_after blocks a w)
  is-written [] stored inside =
      let same : new ≡ m = stored ∙ written-nothing m a in
      record {
        conv = ap (λ (k : MachineView). k.conv) same;
        cells = ap (λ (k : MachineView). k.cells) same;
        holds = subst (λ k. HoldsBlocks k (blocks_after blocks a [])) (sym same)
            (subst (HoldsBlocks m) (sym (blocks-nothing blocks a)) holds);
      }
  is-written (x ∷ w) stored inside =
      let lies : Inside m.blocks a (length (x ∷ w)) = inside (omega arith) in
      let is : written m a (x ∷ w) ≡ with_memory m a (x ∷ w) =
      written-memory m a (x ∷ w) (inside-memory m (contents blocks) a (length (x ∷ w)) lies holds.heap) in
      record {
        conv = ap (λ (k : MachineView). k.conv) (stored ∙ is);
        cells = ap (λ (k : MachineView). k.cells) (stored ∙ is);
        holds = subst (λ k. HoldsBlocks k (blocks_after blocks a (x ∷ w))) (sym stored)
            (holds_blocks-written m blocks a (x ∷ w) holds lies (ap (λ (k : MachineView). k.conv) is));
      }

-- ---- what the stage keeps of blocks

noted-after : (a : ℕ) (w : List ℕ) (b : Block) → noted (block_after a w b) ≡ noted b
noted-after a w b = ap (λ k. record { at = b.at; kind = k }) (kind-after b.held)
  where
    kind-after : (h : Held) → kind_of (held_after b.at h a w) ≡ kind_of h
    kind-after (Data old) =
        data-kept b.at a w old (λ h. kind_of h ≡ kinds.Data (length old)) (λ bytes same. ap kinds.Data same)
    kind-after (Object number iface) = refl
    kind-after (Forwarder number iface target own) = refl

found-after : (name : Name) (a : ℕ) (w : List ℕ) (blocks : List Block)
    → option_map noted (find (λ (b : Block). bytes_eq b.name name) (blocks_after blocks a w))
    ≡ option_map noted (find (λ (b : Block). bytes_eq b.name name) blocks)
found-after name a w [] = refl
found-after name a w (b ∷ blocks) = by_test _ _ (bytes_eq b.name name) (found-after name a w blocks)
  where
    by_test : (later other : Option Block) (t : Bool) → option_map noted later ≡ option_map noted other
        → option_map noted (cond t (Some (block_after a w b)) later) ≡ option_map noted (cond t (Some b) other)
    by_test later other true same = ap Some (noted-after a w b)
    by_test later other false same = same

pub noted_as-after : (state : State) (a : ℕ) (w : List ℕ) → noted_as (with_bytes state a w) ≡ noted_as state
noted_as-after state a w = λ j name. found-after name a w state.blocks j

-- ---- the stage

module _ (old : Stage) (state : State) (stands : Stands old state) (name : Name) (b : Block) (bytes : List ℕ)
    (is : named state name ≡ Some b) (held : b.held ≡ Data bytes) where
  -- bytes that end within the data are written into it
  pub kept-written : (new : MachineView) (a offset : ℕ) (w : List ℕ) (result : Bool) → a ≡ b.at + offset
      → offset + length w ≤ length bytes → Stores old.machine new a (length w) w result
      → IsWritten old.machine new (blocks_after state.blocks (b.at + offset) w)
  kept-written new a offset w result at fits stores =
      is-written old.machine state.blocks stands.holds (b.at + offset) new w
      (stores.stored ∙ ap (λ k. written old.machine k w) at)
      (λ some. inside-from old.machine state.blocks stands.holds (b.at + offset) (length w)
      (some-found (λ (c : Block). bytes_eq c.name name) b bytes held state.blocks offset (length w) is some fits))

  -- and then a stage stands for the state with these bytes
  pub stands-written : (new : MachineView) (at : ℕ) (w : List ℕ)
      → IsWritten old.machine new (blocks_after state.blocks at w)
      → IsLawful old.machine.conv (with_bytes state at w)
      → Stands (record old { machine = new }) (with_bytes state at w)
  stands-written new at w kept lawful = record {
    lawful = subst (λ k. IsLawful k (with_bytes state at w)) (sym kept.conv) lawful;
    holds = kept.holds;
    cells = kept.cells ∙ stands.cells;
    blocks = stands.blocks ∙ sym (noted_as-after state at w);
    variables = stands.variables;
    objects = subst (λ k. AreKnown k old.objects (blocks_after state.blocks at w)) (sym kept.conv)
        (writes-keep old.machine.conv old.objects state.blocks at w stands.objects);
    rules = stands.rules;
    context = stands.context;
  }
