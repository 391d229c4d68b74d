-- Blocks stay lawful when one is added, and when bytes are written into their data.
use Rattle.std.proofs.Common.{◌≡◌, ◌<◌, ◌≤◌, ◌∙◌, ℕ, ◌+◌, ◌-◌, Bool, true, false, cond, List, [], ◌∷◌, ◌++◌, length, fold, All, Option, Some, None, count_by, if◌then◌else◌, ap, refl, sym, subst, arith}
use Rattle.std.proofs.lemmas.Grind.{common_steps}
use Rattle.std.proofs.lemmas.List.Elements.{All-append, All-cons, All-head, All-nil, All-tail}
use Rattle.std.proofs.lemmas.List.Sums.{sum_by-append, sum_by-cons}
use Rattle.raw_block.specs.Bytes.{overwritten}
use Rattle.call_model.specs.declared.places.Conv.{Conv}
use Rattle.call_scripts.specs.declared.script.ReplyItem.{ReplyItem}
use Rattle.object_memory.specs.declared.layout.TheConstants.{CELLS_AT, HEAP_LIMIT}
use Rattle.object_memory.specs.Heap.{heap_at, lies_in, space_of}
use Rattle.object_memory.specs.Heap.{Data as DataContent}
use Rattle.object_memory.specs.Layout.{space_for}
use Rattle.object_memory.proofs.Lists.{length-overwritten}
use Rattle.call_replies.specs.Blocks.{ArePlaced, Block, Held, Data, Object, Forwarder, block_after, blocks_after, content_of, held_after}
use Rattle.call_replies.specs.Reply.{Asked, Memory, Write, reply, reply_by, result_of, writes_of, written}
use Rattle.call_replies.proofs.Looked.{placed-after}
use Rattle.script_meaning.specs.Chain.{AllHandDown, HandsDown}
use Rattle.script_meaning.specs.Lawful.{AreLawful, AreNumbered, IsNumbered}
use Rattle.script_meaning.specs.State.{is_object, number_in, occupied_by}

-- ---- one block more

abbrev pub objects : List Block → ℕ
objects blocks = count_by (λ (b : Block). is_object b.held) blocks

objects-cons : (b : Block) (blocks : List Block)
    → objects (b ∷ blocks) ≡ cond (is_object b.held) 1 0 + objects blocks
objects-cons b blocks = sum_by-cons (λ (b : Block). cond (is_object b.held) 1 0) b blocks

placed-push : (conv : Conv) (at : ℕ) (blocks : List Block) (b : Block)
    → ArePlaced conv at blocks → b.at ≡ at + occupied_by conv blocks
    → ArePlaced conv at (blocks ++ b ∷ [])
placed-push conv at [] b placed is = (is ∙ omega arith, tt)
placed-push conv at (c ∷ blocks) b placed is = (
  placed.0,
  placed-push conv (at + space_of conv (content_of c.held)) blocks b placed.1
      (omega (arith, is, sum_by-cons (λ (b : Block). space_of conv (content_of b.held)) c blocks)),
)

numbered-push : (n : ℕ) (blocks : List Block) (b : Block)
    → AreNumbered n blocks → IsNumbered (n + objects blocks) b.held
    → AreNumbered n (blocks ++ b ∷ [])
numbered-push n [] b numbered is =
    let none : n + objects [] ≡ n = omega arith in (subst (λ k. IsNumbered k b.held) none is, tt)
numbered-push n (c ∷ blocks) b numbered is =
    let next : n + objects (c ∷ blocks) ≡ (n + cond (is_object c.held) 1 0) + objects blocks =
    omega (arith, objects-cons c blocks) in (
      numbered.0,
      numbered-push (n + cond (is_object c.held) 1 0) blocks b numbered.1
          (subst (λ k. IsNumbered k b.held) next is),
    )

occupied-push : (conv : Conv) (blocks : List Block) (b : Block)
    → occupied_by conv (blocks ++ b ∷ []) ≡ occupied_by conv blocks + space_of conv (content_of b.held)
occupied-push conv blocks b =
    omega (
      arith,
      sum_by-append (λ (b : Block). space_of conv (content_of b.held)) blocks (b ∷ []),
      sum_by-cons (λ (b : Block). space_of conv (content_of b.held)) b [],
    )

pub lawful-push : (conv : Conv) (blocks : List Block) (b : Block) → AreLawful conv blocks
    → b.at ≡ heap_at conv + occupied_by conv blocks
    → occupied_by conv blocks + space_of conv (content_of b.held) ≤ HEAP_LIMIT
    → IsNumbered (objects blocks) b.held → HandsDown b.held
    → AreLawful conv (blocks ++ b ∷ [])
lawful-push conv blocks b lawful at room number down = record {
  placed = placed-push conv (heap_at conv) blocks b lawful.placed at;
  fits = omega (arith, occupied-push conv blocks b, room);
  numbered = numbered-push 0 blocks b lawful.numbered
      (subst (λ k. IsNumbered k b.held) (omega arith) number);
  down = All-append (λ (b : Block). HandsDown b.held) blocks (b ∷ []) lawful.down
      (All-cons (λ (b : Block). HandsDown b.held) b [] down (All-nil (λ (b : Block). HandsDown b.held)));
}

-- an object has a smaller number than the next one
number-below : (n : ℕ) (h : Held) → IsNumbered n h → is_object h ≡ true → number_in h ≤ n
number-below n (Data bytes) is object = absurd (grind (arith, common_steps, object))
number-below n (Object number iface) is object = omega (arith, is)
number-below n (Forwarder number iface target own) is object = omega (arith, is)

abbrev pub IsBelow : ℕ → Block → Type 0
IsBelow n b = is_object b.held ≡ true → number_in b.held < n

pub numbers-below : (n : ℕ) (blocks : List Block) → AreNumbered n blocks
    → All (IsBelow (n + objects blocks)) blocks
numbers-below n [] numbered = All-nil (IsBelow (n + objects []))
numbers-below n (c ∷ blocks) numbered =
    let next : (n + cond (is_object c.held) 1 0) + objects blocks ≡ n + objects (c ∷ blocks) =
    omega (arith, objects-cons c blocks) in
    All-cons (IsBelow (n + objects (c ∷ blocks))) c blocks
    (λ object. omega (arith, number-below n c.held numbered.0 object, ap {B = ℕ} (λ t. cond t 1 0) object, next))
    (subst (λ k. All (IsBelow k) blocks) next
    (numbers-below (n + cond (is_object c.held) 1 0) blocks numbered.1))

-- ---- bytes that are written

-- data stays data of its length
bound : (at a : ℕ) (w old : List ℕ) → lies_in at old a (length w) ≡ true
    → (a - at) + length w ≤ length old
bound at a w old is = grind (arith, common_steps, is)

pub data-kept : (at a : ℕ) (w old : List ℕ) (P : Held → Type 0)
    → ((bytes : List ℕ) → length bytes ≡ length old → P (Data bytes))
    → P (held_after at (Data old) a w)
data-kept at a w old P each = by_test (lies_in at old a (length w)) refl
  where
    by_test : (t : Bool) → lies_in at old a (length w) ≡ t
        → P (if t then Data (overwritten old (a - at) w) else Data old)
    by_test true is =
        each (overwritten old (a - at) w) (length-overwritten old (a - at) w (bound at a w old is))
    by_test false is = each old refl

-- what a block holds stays of its kind
space-kept : (conv : Conv) (at a : ℕ) (w : List ℕ) (h : Held)
    → space_of conv (content_of (held_after at h a w)) ≡ space_of conv (content_of h)
space-kept conv at a w (Data old) =
    data-kept at a w old (λ h. space_of conv (content_of h) ≡ space_of conv (DataContent old))
    (λ bytes same. ap space_for same)
space-kept conv at a w (Object number iface) = refl
space-kept conv at a w (Forwarder number iface target own) = refl

object-kept : (at a : ℕ) (w : List ℕ) (h : Held) → is_object (held_after at h a w) ≡ is_object h
object-kept at a w (Data old) = data-kept at a w old (λ h. is_object h ≡ false) (λ bytes same. refl)
object-kept at a w (Object number iface) = refl
object-kept at a w (Forwarder number iface target own) = refl

number-kept : (n at a : ℕ) (w : List ℕ) (h : Held) → IsNumbered n h → IsNumbered n (held_after at h a w)
number-kept n at a w (Data old) is = data-kept at a w old (IsNumbered n) (λ bytes same. tt)
number-kept n at a w (Object number iface) is = is
number-kept n at a w (Forwarder number iface target own) is = is

down-kept : (at a : ℕ) (w : List ℕ) (h : Held) → HandsDown h → HandsDown (held_after at h a w)
down-kept at a w (Data old) is = data-kept at a w old HandsDown (λ bytes same. tt)
down-kept at a w (Object number iface) is = is
down-kept at a w (Forwarder number iface target own) is = is

occupied-kept : (conv : Conv) (blocks : List Block) (a : ℕ) (w : List ℕ)
    → occupied_by conv (blocks_after blocks a w) ≡ occupied_by conv blocks
occupied-kept conv [] a w = refl
occupied-kept conv (b ∷ blocks) a w =
    omega (
      arith,
      sum_by-cons (λ (b : Block). space_of conv (content_of b.held)) (block_after a w b) (blocks_after blocks a w),
      sum_by-cons (λ (b : Block). space_of conv (content_of b.held)) b blocks,
      space-kept conv b.at a w b.held,
      occupied-kept conv blocks a w,
    )

numbered-kept : (n : ℕ) (blocks : List Block) (a : ℕ) (w : List ℕ)
    → AreNumbered n blocks → AreNumbered n (blocks_after blocks a w)
numbered-kept n [] a w numbered = tt
numbered-kept n (b ∷ blocks) a w numbered = (
  number-kept n b.at a w b.held numbered.0,
  subst (λ t. AreNumbered (n + cond t 1 0) (blocks_after blocks a w)) (sym (object-kept b.at a w b.held))
      (numbered-kept (n + cond (is_object b.held) 1 0) blocks a w numbered.1),
)

all-down-kept : (blocks : List Block) (a : ℕ) (w : List ℕ)
    → AllHandDown blocks → AllHandDown (blocks_after blocks a w)
all-down-kept [] a w down = All-nil (λ (b : Block). HandsDown b.held)
all-down-kept (b ∷ blocks) a w down =
    All-cons (λ (b : Block). HandsDown b.held) (block_after a w b) (blocks_after blocks a w)
    (down-kept b.at a w b.held (All-head (λ (b : Block). HandsDown b.held) b blocks down))
    (all-down-kept blocks a w (All-tail (λ (b : Block). HandsDown b.held) b blocks down))

pub lawful-after : (conv : Conv) (blocks : List Block) (a : ℕ) (w : List ℕ)
    → AreLawful conv blocks → AreLawful conv (blocks_after blocks a w)
lawful-after conv blocks a w lawful = record {
  placed = placed-after conv (heap_at conv) blocks a w lawful.placed;
  fits = omega (arith, occupied-kept conv blocks a w, lawful.fits);
  numbered = numbered-kept 0 blocks a w lawful.numbered;
  down = all-down-kept blocks a w lawful.down;
}

-- ---- replies

lawful-written : (conv : Conv) (memory : Memory) (w : Write)
    → AreLawful conv memory.blocks → AreLawful conv (written memory w).blocks
lawful-written conv memory w lawful = by_test w.to_cell
  where
    by_test : (t : Bool)
        → AreLawful conv
        (if t then record memory { cells = overwritten memory.cells (w.at - CELLS_AT) w.bytes }
        else record memory { blocks = blocks_after memory.blocks w.at w.bytes }).blocks
    by_test true = lawful
    by_test false = lawful-after conv memory.blocks w.at w.bytes lawful

lawful-fold : (conv : Conv) (memory : Memory) (writes : List Write)
    → AreLawful conv memory.blocks → AreLawful conv (fold written memory writes).blocks
lawful-fold conv memory [] lawful = lawful
lawful-fold conv memory (w ∷ writes) lawful =
    lawful-fold conv (written memory w) writes (lawful-written conv memory w lawful)

lawful-by : (conv : Conv) (memory : Memory) (result : ℕ) (writes : Option (List Write))
    → AreLawful conv memory.blocks → AreLawful conv (reply_by memory result writes).memory.blocks
lawful-by conv memory result None lawful = lawful
lawful-by conv memory result (Some writes) lawful = lawful-fold conv memory writes lawful

-- a reply keeps the blocks lawful
pub lawful-reply : (conv : Conv) (rule : Option (List ReplyItem)) (call : Asked) (memory : Memory)
    → AreLawful conv memory.blocks → AreLawful conv (reply conv rule call memory).memory.blocks
lawful-reply conv None call memory lawful = lawful
lawful-reply conv (Some rule) call memory lawful =
    lawful-by conv memory (result_of rule) (writes_of conv call memory rule) lawful
