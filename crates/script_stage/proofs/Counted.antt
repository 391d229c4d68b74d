-- New objects and forwarders: what their lines do, and how many objects there are.
use Rattle.std.proofs.Common.{◌≡◌, ◌<◌, ◌≤◌, ◌∙◌, ℕ, ◌+◌, true, false, cond, List, [], ◌∷◌, length, Option, Some, None, Ok, Err, Result, is_some, ap, refl, sym, arith}
use Rattle.std.specs.Prelude.{count_by}
use Rattle.std.proofs.lemmas.Grind.{common_steps}
use Rattle.std.proofs.lemmas.List.Sums.{sum_by-cons}
use Rattle.call_model.specs.declared.places.Conv.{Conv}
use Rattle.call_model.specs.declared.places.Conv.TheVariants.{SysV64, I386, Aapcs64, Ms64, Aapcs32}
use Rattle.call_model.specs.declared.tables.Table.{Table}
use Rattle.call_model.specs.Tables.{iface_named}
use Rattle.object_memory.specs.declared.layout.TheConstants.{HEAP_LIMIT}
use Rattle.object_memory.specs.Heap.{along, heap_at, object_shown, space_of}
use Rattle.object_memory.specs.Memory.{MachineView}
use Rattle.transcript_text.specs.declared.refusals.Refusal.{Refusal}
use Rattle.transcript_text.specs.declared.refusals.Refusal.TheVariants as refusal
use Rattle.call_replies.specs.Blocks.{Block, Held, Data, Object, Forwarder, HoldsBlocks, content_of, contents}
use Rattle.script_meaning.specs.Members.{as_object}
use Rattle.script_meaning.specs.Refusing.{◌then◌, refuse, require, there_is}
use Rattle.script_meaning.specs.State.{Name, State, has_room, is_object, named, next_number, occupied_by}
use Rattle.script_meaning.specs.Step.{Stepped, forwarder_to, has_depth, joins, new_forwarder, new_object, object_space, placed_block}
use Rattle.script_objects.specs.Known.{AreKnown, ObjectsView}
use Rattle.script_objects.proofs.Kept.{count-among}
use Rattle.script_stage.specs.Finding.{target_of}
use Rattle.script_stage.specs.Standing.{noted_as}
use Rattle.script_stage.proofs.Added.{some-noted}

-- ---- how many there are

pub known-count : (conv : Conv) (known : ObjectsView) (state : State) → AreKnown conv known state.blocks
    → length known.objects ≡ next_number state
known-count conv known state is = ap length is.objects ∙ count-among state.blocks

shown-count : (conv : Conv) (at : ℕ) (blocks : List Block)
    → length (along object_shown conv at (contents blocks)) ≡ count_by (λ (b : Block). is_object b.held) blocks
shown-count conv at [] = refl
shown-count conv at (b ∷ blocks) =
    by_held b.held
    ∙ ap (λ n. cond (is_object b.held) 1 0 + n) (shown-count conv (at + space_of conv (content_of b.held)) blocks)
    ∙ sym (sum_by-cons (λ (c : Block). cond (is_object c.held) 1 0) b blocks)
  where
    by_held : (h : Held)
        → length (along object_shown conv at (content_of h ∷ contents blocks))
        ≡ cond (is_object h) 1 0 + length (along object_shown conv (at + space_of conv (content_of h)) (contents blocks))
    by_held (Data bytes) = omega arith
    by_held (Object number iface) = omega arith
    by_held (Forwarder number iface target own) = omega arith

pub machine-count : (m : MachineView) (state : State) → HoldsBlocks m state.blocks
    → length m.objects ≡ next_number state
machine-count m state holds =
    ap length holds.heap.objects ∙ shown-count m.conv (heap_at m.conv) state.blocks

-- ---- room

pub object-room : (conv : Conv) → object_space conv ≡ 16
object-room SysV64 = refl
object-room I386 = refl
object-room Aapcs64 = refl
object-room Ms64 = refl
object-room Aapcs32 = refl

module _ (conv : Conv) (state : State) where
  no-room : HEAP_LIMIT < occupied_by conv state.blocks + 16 → has_room conv state (object_space conv) ≡ false
  no-room over = ap (has_room conv state) (object-room conv) ∙ (grind (arith, common_steps))

  some-room : occupied_by conv state.blocks + 16 ≤ HEAP_LIMIT → has_room conv state (object_space conv) ≡ true
  some-room room = ap (has_room conv state) (object-room conv) ∙ (grind (arith, common_steps))

-- ---- objects

module _ (table : Table) (conv : Conv) (state : State) (name iface : Name) where
  pub object-taken : is_some (noted_as state name) ≡ true → new_object table conv state name iface ≡ Err refusal.Taken
  unfolding new_object
  object-taken is = rw (sym (some-noted state name) ∙ is) refl

  pub object-unknown : is_some (noted_as state name) ≡ false → iface_named table iface ≡ None
      → new_object table conv state name iface ≡ Err refusal.NoInterface
  unfolding new_object
  object-unknown free none = rw (sym (some-noted state name) ∙ free, none) refl

  pub object-full : (number : ℕ) → is_some (noted_as state name) ≡ false → iface_named table iface ≡ Some number
      → HEAP_LIMIT < occupied_by conv state.blocks + 16
      → new_object table conv state name iface ≡ Err refusal.Heap
  unfolding new_object
  object-full number free known over =
      rw (sym (some-noted state name) ∙ free, known, no-room conv state over) refl

  pub object-made : (number : ℕ) → is_some (noted_as state name) ≡ false → iface_named table iface ≡ Some number
      → occupied_by conv state.blocks + 16 ≤ HEAP_LIMIT
      → new_object table conv state name iface ≡ Ok (placed_block conv state name (Object (next_number state) number))
  unfolding new_object
  object-made number free known room =
      rw (sym (some-noted state name) ∙ free, known, some-room conv state room) refl

-- ---- forwarders

module _ (conv : Conv) (state : State) (name target : Name) (own : Option Conv) where
  abbrev place : Block → Result Stepped Refusal
  place object =
      require (has_room conv state (object_space conv)) refusal.Heap
      then λ _. Ok (placed_block conv state name (forwarder_to state object own))

  -- a forwarder is an object that has its target, and room
  forwarder-is : new_forwarder conv state name target own ≡ (target_of conv state name target own then place)
  unfolding new_forwarder target_of
  forwarder-is =
      by_five (refuse (is_some (named state name)) refusal.Taken)
      (there_is (named state target) refusal.NoName)
      (λ (b : Block). there_is (as_object b) refusal.NotAnObject)
      (require (joins conv own) refusal.Word)
      (λ (b : Block). require (has_depth conv state b) refusal.Depth)
    where
      last : (b : Block) (fourth fifth : Result (Unit {0}) Refusal)
          → (fourth then λ _. fifth then λ _. place b) ≡ ((fourth then λ _. fifth then λ _. Ok b) then place)
      last b (Err e) fifth = refl
      last b (Ok u) (Err e) = refl
      last b (Ok u) (Ok v) = refl

      third_on : (third : Result Block Refusal) (fourth : Result (Unit {0}) Refusal) (fifth : Block → Result (Unit {0}) Refusal)
          → (third then λ object. fourth then λ _. fifth object then λ _. place object)
          ≡ ((third then λ object. fourth then λ _. fifth object then λ _. Ok object) then place)
      third_on (Err e) fourth fifth = refl
      third_on (Ok b) fourth fifth = last b fourth (fifth b)

      by_five : (first : Result (Unit {0}) Refusal) (second : Result Block Refusal) (third : Block → Result Block Refusal)
          (fourth : Result (Unit {0}) Refusal) (fifth : Block → Result (Unit {0}) Refusal)
          → (first then λ _. second then λ found. third found then λ object. fourth then λ _. fifth object then λ _. place object)
          ≡ ((first then λ _. second then λ found. third found then λ object. fourth then λ _. fifth object then λ _. Ok object) then place)
      by_five (Err e) second third fourth fifth = refl
      by_five (Ok u) (Err e) third fourth fifth = refl
      by_five (Ok u) (Ok b) third fourth fifth = third_on (third b) fourth fifth

  pub forwarder-refused : (e : Refusal) → target_of conv state name target own ≡ Err e
      → new_forwarder conv state name target own ≡ Err e
  forwarder-refused e is = forwarder-is ∙ ap (λ r. r then place) is

  pub forwarder-full : (object : Block) → target_of conv state name target own ≡ Ok object
      → HEAP_LIMIT < occupied_by conv state.blocks + 16
      → new_forwarder conv state name target own ≡ Err refusal.Heap
  forwarder-full object is over =
      forwarder-is ∙ ap (λ r. r then place) is
      ∙ ap (λ t. require t refusal.Heap then λ _. Ok (placed_block conv state name (forwarder_to state object own)))
      (no-room conv state over)

  pub forwarder-made : (object : Block) → target_of conv state name target own ≡ Ok object
      → occupied_by conv state.blocks + 16 ≤ HEAP_LIMIT
      → new_forwarder conv state name target own ≡ Ok (placed_block conv state name (forwarder_to state object own))
  forwarder-made object is room =
      forwarder-is ∙ ap (λ r. r then place) is
      ∙ ap (λ t. require t refusal.Heap then λ _. Ok (placed_block conv state name (forwarder_to state object own)))
      (some-room conv state room)
