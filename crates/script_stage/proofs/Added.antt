-- One block more, on the machine and in the state.
use Rattle.std.proofs.Common.{◌≡◌, ◌<◌, ◌≤◌, ◌∙◌, ℕ, ◌+◌, Bool, true, false, cond, List, [], ◌∷◌, ◌++◌, length, replicate, Option, Some, None, Ok, Err, Result, is_ok, ◌↔◌, is_some, option_map, bytes_eq, ap, refl, sym, subst, arith}
use Rattle.std.specs.Option.{option_or}
use Rattle.std.proofs.lemmas.Bool.{false≢true}
use Rattle.std.proofs.lemmas.Grind.{common_steps}
use Rattle.std.proofs.lemmas.List.{length-append, length-replicate}
use Rattle.std.proofs.lemmas.List.Folds.{find-append}
use Rattle.std.proofs.lemmas.List.Sums.{sum_by-cons}
use Rattle.std.proofs.lemmas.Slice.Eq.{bytes_eq-Decides}
use Rattle.call_model.specs.declared.places.Conv.{Conv}
use Rattle.call_scripts.specs.declared.script.Fill.{Fill}
use Rattle.call_scripts.specs.declared.script.Fill.TheVariants.{Given, Zeros}
use Rattle.transcript_text.specs.declared.refusals.Refusal.{Refusal}
use Rattle.transcript_text.specs.declared.refusals.Refusal.TheVariants as refusal
use Rattle.object_memory.specs.declared.errors.HeapError.{HeapError}
use Rattle.object_memory.specs.declared.errors.HeapError.TheVariants as heap_errors
use Rattle.object_memory.specs.Heap.{Holds, HoldsMore, blocks_image, content_bytes, heap_at, space_of}
use Rattle.object_memory.specs.Memory.{MachineView, occupied}
use Rattle.object_memory.specs.Layout.{padded, space_for, vtable, vtable_space}
use Rattle.object_memory.specs.declared.layout.TheConstants.{HEAP_LIMIT, VTABLE_AT}
use Rattle.object_memory.proofs.Growth.{length-padded}
use Rattle.object_memory.proofs.Held.{length-vtable}
use Rattle.call_replies.specs.Blocks.{ArePlaced, Block, Data, Held, HoldsBlocks, content_of, contents}
use Rattle.script_meaning.specs.State.{Name, State, has_room, learned, named, next_at, occupied_by, with_block}
use Rattle.script_meaning.specs.Lawful.{IsLawful}
use Rattle.script_meaning.specs.Step.{Stepped, new_data, placed_block}
use Rattle.script_meaning.specs.Refusing.{◌then◌, refuse, require}
use Rattle.script_meaning.specs.Words.{bytes_of, length_of}
use Rattle.script_objects.specs.Known.{AreKnown}
use Rattle.script_objects.specs.Ruling.{known_rules}
use Rattle.script_stage.specs.declared.placed.Placed.{Placed}
use Rattle.script_stage.specs.declared.stages.Stage.{Stage}
use Rattle.script_stage.specs.Standing.{Stands, known, noted, noted_as}

-- ---- where the next block stands

image_length : (conv : Conv) (blocks : List Block)
    → length (blocks_image conv (contents blocks)) ≡ occupied_by conv blocks
image_length conv [] = refl
image_length conv (b ∷ blocks) =
    omega (
      arith,
      length-append (padded (content_bytes conv (content_of b.held))) (blocks_image conv (contents blocks)),
      length-padded (content_bytes conv (content_of b.held)),
      image_length conv blocks,
      sum_by-cons (λ (b : Block). space_of conv (content_of b.held)) b blocks,
    )

module _ (m : MachineView) (blocks : List Block) (held : HoldsBlocks m blocks) where
  pub memory_length : length m.memory ≡ vtable_space m.conv + occupied_by m.conv blocks
  memory_length =
      omega (
        arith,
        ap length held.heap.memory,
        length-append (vtable m.conv) (blocks_image m.conv (contents blocks)),
        length-vtable m.conv,
        image_length m.conv blocks,
      )

  pub occupied-is : occupied m ≡ occupied_by m.conv blocks
  occupied-is = omega (arith, memory_length)

  pub end-is : VTABLE_AT + length m.memory ≡ heap_at m.conv + occupied_by m.conv blocks
  end-is = omega (arith, memory_length)

-- ---- names

-- what a name stands for, after one more block has a name that none had
same_name : (name other : Name) → bytes_eq name other ≡ true → name ≡ other
same_name name other is = (bytes_eq-Decides name other).0 is

none-of : {A B : Type 0} (f : A → B) (o : Option A) → option_map f o ≡ None → o ≡ None
none-of f None is = refl
none-of f (Some x) is = absurd (false≢true (sym (ap is_some is)))

or-none : {A : Type 0} (o : Option A) → option_or o None ≡ o
or-none None = refl
or-none (Some x) = refl

by_name : (t : Bool) (b : Block) (found : Option Block) → (t ≡ true → found ≡ None)
    → cond t (Some (noted b)) (option_map noted found)
    ≡ option_map noted (option_or found (cond t (Some b) None))
by_name true b found new = ap (λ f. option_map noted (option_or f (Some b))) (sym (new refl))
by_name false b found new = ap (option_map noted) (sym (or-none found))

pub names-push : (state : State) (b : Block) → noted_as state b.name ≡ None
    → learned (noted_as state) b.name (noted b)
    ≡ noted_as (record state { blocks = state.blocks ++ b ∷ [] })
names-push state b free =
    λ j other. (
    by_name (bytes_eq b.name other) b (named state other)
    (λ same. subst (λ n. named state n ≡ None) (same_name b.name other same) (none-of noted (named state b.name) free))
    ∙ ap (option_map noted) (sym (find-append (λ (b : Block). bytes_eq b.name other) state.blocks (b ∷ [])))
    ) j

-- ---- the stage

contents-push : (blocks : List Block) (b : Block)
    → contents (blocks ++ b ∷ []) ≡ contents blocks ++ content_of b.held ∷ []
contents-push [] b = refl
contents-push (c ∷ blocks) b = ap (λ heap. content_of c.held ∷ heap) (contents-push blocks b)

-- a stage with one block more stands for the state with one block more
module _ (old new : Stage) (state : State) (stands : Stands old state) (name : Name) (held : Held) where
  abbrev block : Block
  block = record { name = name; at = next_at old.machine.conv state; held = held }

  abbrev more_blocks : State
  more_blocks = with_block old.machine.conv state name held

  pub stands-more : new.machine.conv ≡ old.machine.conv
      → HoldsMore old.machine new.machine (content_of held)
      → new.machine.cells ≡ old.machine.cells
      → known new.blocks ≡ learned (known old.blocks) name (noted block)
      → known new.variables ≡ known old.variables
      → AreKnown old.machine.conv new.objects more_blocks.blocks → known_rules new.rules ≡ known_rules old.rules
      → new.context ≡ old.context
      → noted_as state name ≡ None → IsLawful old.machine.conv more_blocks
      → Stands new more_blocks
  stands-more conv more cells blocks variables objects rules context free lawful = record {
    lawful = subst (λ k. IsLawful k more_blocks) (sym conv) lawful;
    holds = record {
      heap = subst (Holds new.machine) (sym (contents-push state.blocks block))
          (more (contents state.blocks) stands.holds.heap);
      placed = subst (λ k. ArePlaced k (heap_at k) more_blocks.blocks) (sym conv) lawful.blocks.placed;
    };
    cells = cells ∙ stands.cells;
    blocks = blocks ∙ ap (λ f. learned f name (noted block)) stands.blocks ∙ names-push state block free;
    variables = variables ∙ stands.variables;
    objects = subst (λ k. AreKnown k new.objects more_blocks.blocks) (sym conv) objects;
    rules = rules ∙ stands.rules;
    context = context ∙ stands.context;
  }

-- ---- the answers of a new data block

pub some-noted : (state : State) (name : Name) → is_some (noted_as state name) ≡ is_some (named state name)
some-noted state name = by_found (named state name)
  where
    by_found : (o : Option Block) → is_some (option_map noted o) ≡ is_some o
    by_found None = refl
    by_found (Some b) = refl

pub none-noted : (o : Option Placed) → is_some o ≡ false → o ≡ None
none-noted None is = refl
none-noted (Some p) is = absurd (false≢true (sym is))

module _ (conv : Conv) (state : State) (name : Name) (fill : Fill) where
  pub taken : is_some (noted_as state name) ≡ true
      → new_data conv state name fill ≡ Err refusal.Taken
  unfolding new_data
  taken is = rw (sym (some-noted state name) ∙ is) refl

  pub full : is_some (noted_as state name) ≡ false
      → HEAP_LIMIT < occupied_by conv state.blocks + space_for (length_of fill)
      → new_data conv state name fill ≡ Err refusal.Heap
  unfolding new_data
  full free over =
      let test : has_room conv state (space_for (length_of fill)) ≡ false = grind (arith, common_steps) in
      rw (sym (some-noted state name) ∙ free, test) refl

  pub made : is_some (noted_as state name) ≡ false
      → occupied_by conv state.blocks + space_for (length_of fill) ≤ HEAP_LIMIT
      → new_data conv state name fill ≡ Ok (placed_block conv state name (Data (bytes_of fill)))
  unfolding new_data
  made free room =
      let test : has_room conv state (space_for (length_of fill)) ≡ true = grind (arith, common_steps) in
      rw (sym (some-noted state name) ∙ free, test) refl

-- zeros are given as the bytes that they are
pub zeros-given : (conv : Conv) (name : Name) (n : ℕ)
    → ◌≡◌ {A = State → Result Stepped Refusal}
    (λ state. new_data conv state name (Given (replicate n 0)))
    (λ state. new_data conv state name (Zeros n))
unfolding new_data
zeros-given conv name n =
    λ j state. (
    ap (λ k.
    refuse (is_some (named state name)) refusal.Taken
    then λ _. require (has_room conv state (space_for k)) refusal.Heap
    then λ _. Ok (placed_block conv state name (Data (replicate n 0))))
    (length-replicate {A = ℕ} n 0)
    ) j

-- more bytes than the heap can have need more room than it has
pub too-many : (n used : ℕ) → HEAP_LIMIT < n → HEAP_LIMIT < used + space_for n
too-many n used over = omega (arith, over)

-- ---- room

some_ok : {A E : Type 0} (v : A) (e : E) → ◌≡◌ {A = Result A E} (Ok v) (Err e) → ⊥
some_ok v e is = absurd (false≢true (sym (ap is_ok is)))

at_most : (limit after : ℕ) → (limit < after → ⊥) → after ≤ limit
at_most limit after none = grind (arith, common_steps, none)

-- where a block was added there was room
pub not_full : (address limit after : ℕ)
    → (◌≡◌ {A = Result ℕ HeapError} (Ok address) (Err heap_errors.Full)) ↔ (limit < after)
    → after ≤ limit
not_full address limit after full =
    at_most limit after (λ over. some_ok address heap_errors.Full (full.1 over))
