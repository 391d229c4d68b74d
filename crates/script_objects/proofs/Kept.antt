-- What is known of objects stays known: with one block more, after writes, and of rules that go
-- back.
use Rattle.std.proofs.Common.{◌≡◌, ◌≤◌, ◌∙◌, ℕ, ◌+◌, ◌*◌, ◌-◌, ◌==◌, ◌&&◌, Bool, true, false, cond, List, [], ◌∷◌, ◌++◌, count_by, filter, fold, length, map, Option, Some, None, if◌then◌else◌, ap, refl, sym, arith}
use Rattle.std.proofs.lemmas.Grind.{common_steps, flat_map-append}
use Rattle.std.proofs.lemmas.List.{append-nil, map-append}
use Rattle.std.proofs.lemmas.List.Elements.{All-append, All-cons, All-head, All-nil, All-tail, filter-append}
use Rattle.std.proofs.lemmas.List.Sums.{sum_by-cons}
use Rattle.raw_block.specs.Bytes.{overwritten}
use Rattle.call_model.specs.declared.places.Conv.{Conv}
use Rattle.call_replies.specs.Blocks.{Block, Held, Data, Object, Forwarder, block_after, blocks_after, content_of, held_after}
use Rattle.object_memory.specs.Heap.{lies_in, space_of}
use Rattle.object_memory.specs.Heap.{Object as ObjectContent}
use Rattle.call_replies.specs.Reply.{Memory, Write, reply_by, result_of, writes_of, written}
use Rattle.object_memory.specs.declared.layout.TheConstants.{CELLS_AT}
use Rattle.script_meaning.specs.State.{Rule, Rules, iface_in, is_object, occupied_by}
use Rattle.script_objects.specs.Known.{AllJoined, AreKnown, IsJoined, ObjectsView, forwards_among, kept, numbered_forward, objects_among}
use Rattle.script_objects.specs.Laws.{DataAddsNoObject, ObjectsAreFew, RepliesKeepObjects, RulesGoBack, WritesKeepObjects}

-- ---- how many there are

one-first : (t : Bool) (b : Block) (rest : List Block)
    → length (map kept (cond t (b ∷ rest) rest)) ≡ cond t 1 0 + length (map kept rest)
one-first true b rest = omega arith
one-first false b rest = omega arith

pub count-among : (blocks : List Block)
    → length (objects_among blocks) ≡ count_by (λ (b : Block). is_object b.held) blocks
count-among [] = refl
count-among (b ∷ blocks) =
    omega (
      arith,
      one-first (is_object b.held) b (filter (λ (b : Block). is_object b.held) blocks),
      count-among blocks,
      sum_by-cons (λ (b : Block). cond (is_object b.held) 1 0) b blocks,
    )

-- ---- one block more

pub objects-push : (blocks : List Block) (b : Block)
    → objects_among (blocks ++ b ∷ []) ≡ objects_among blocks ++ objects_among (b ∷ [])
objects-push blocks b =
    ap (map kept) (filter-append (λ (b : Block). is_object b.held) blocks (b ∷ []))
    ∙ map-append kept (filter (λ (b : Block). is_object b.held) blocks) (filter (λ (b : Block). is_object b.held) (b ∷ []))

pub forwards-push : (blocks : List Block) (b : Block)
    → forwards_among (blocks ++ b ∷ []) ≡ forwards_among blocks ++ forwards_among (b ∷ [])
forwards-push blocks b = flat_map-append (λ (b : Block). numbered_forward b.held) blocks (b ∷ [])

-- what is known grows by what is known of the block
pub known-push : (conv : Conv) (old new : ObjectsView) (blocks : List Block) (b : Block)
    → AreKnown conv old blocks → IsJoined conv b.held
    → new.objects ≡ old.objects ++ objects_among (b ∷ [])
    → new.forwards ≡ old.forwards ++ forwards_among (b ∷ [])
    → AreKnown conv new (blocks ++ b ∷ [])
known-push conv old new blocks b known joined objects forwards = record {
  objects = objects ∙ ap (λ l. l ++ objects_among (b ∷ [])) known.objects ∙ sym (objects-push blocks b);
  forwards = forwards ∙ ap (λ l. l ++ forwards_among (b ∷ [])) known.forwards ∙ sym (forwards-push blocks b);
  joined = All-append (λ (b : Block). IsJoined conv b.held) blocks (b ∷ []) known.joined
      (All-cons (λ (b : Block). IsJoined conv b.held) b [] joined (All-nil (λ (b : Block). IsJoined conv b.held)));
}

pub data-adds-none : DataAddsNoObject
data-adds-none conv known blocks is name at bytes =
    known-push conv known known blocks (record { name = name; at = at; held = Data bytes }) is tt
    (sym (append-nil known.objects)) (sym (append-nil known.forwards))

-- ---- writes

same-after : {X : Type 0} (f : Held → X) → ((x y : List ℕ) → f (Data x) ≡ f (Data y))
    → (at a : ℕ) (w : List ℕ) (h : Held) → f (held_after at h a w) ≡ f h
same-after f same at a w (Data old) = by_test (lies_in at old a (length w))
  where
    by_test : (t : Bool) → f (if t then Data (overwritten old (a - at) w) else Data old) ≡ f (Data old)
    by_test true = same (overwritten old (a - at) w) old
    by_test false = refl
same-after f same at a w (Object number iface) = refl
same-after f same at a w (Forwarder number iface target own) = refl

abbrev among : List Block → List Block
among blocks = filter (λ (b : Block). is_object b.held) blocks

kept-after : (a : ℕ) (w : List ℕ) (b : Block) (rest blocks : List Block) → map kept rest ≡ objects_among blocks
    → (t : Bool) → map kept (cond t (block_after a w b ∷ rest) rest) ≡ map kept (cond t (b ∷ among blocks) (among blocks))
kept-after a w b rest blocks same true =
    ap (λ i. record { at = b.at; iface = i } ∷ map kept rest)
    (same-after iface_in (λ x y. refl) b.at a w b.held)
    ∙ ap (λ l. kept b ∷ l) same
kept-after a w b rest blocks same false = same

objects-after : (blocks : List Block) (a : ℕ) (w : List ℕ)
    → objects_among (blocks_after blocks a w) ≡ objects_among blocks
objects-after [] a w = refl
objects-after (b ∷ blocks) a w =
    ap (λ t. map kept (cond t (block_after a w b ∷ among (blocks_after blocks a w)) (among (blocks_after blocks a w))))
    (same-after is_object (λ x y. refl) b.at a w b.held)
    ∙ kept-after a w b (among (blocks_after blocks a w)) blocks (objects-after blocks a w) (is_object b.held)

forwards-after : (blocks : List Block) (a : ℕ) (w : List ℕ)
    → forwards_among (blocks_after blocks a w) ≡ forwards_among blocks
forwards-after [] a w = refl
forwards-after (b ∷ blocks) a w =
    ap (λ l. l ++ forwards_among (blocks_after blocks a w)) (same-after numbered_forward (λ x y. refl) b.at a w b.held)
    ∙ ap (λ l. numbered_forward b.held ++ l) (forwards-after blocks a w)

joined-after : (conv : Conv) (at a : ℕ) (w : List ℕ) (h : Held) → IsJoined conv h
    → IsJoined conv (held_after at h a w)
joined-after conv at a w (Data old) joined = by_test (lies_in at old a (length w))
  where
    by_test : (t : Bool) → IsJoined conv (if t then Data (overwritten old (a - at) w) else Data old)
    by_test true = tt
    by_test false = tt
joined-after conv at a w (Object number iface) joined = joined
joined-after conv at a w (Forwarder number iface target own) joined = joined

all-joined-after : (conv : Conv) (blocks : List Block) (a : ℕ) (w : List ℕ)
    → AllJoined conv blocks → AllJoined conv (blocks_after blocks a w)
all-joined-after conv [] a w joined = All-nil (λ (b : Block). IsJoined conv b.held)
all-joined-after conv (b ∷ blocks) a w joined =
    All-cons (λ (b : Block). IsJoined conv b.held) (block_after a w b) (blocks_after blocks a w)
    (joined-after conv b.at a w b.held (All-head (λ (b : Block). IsJoined conv b.held) b blocks joined))
    (all-joined-after conv blocks a w (All-tail (λ (b : Block). IsJoined conv b.held) b blocks joined))

pub writes-keep : WritesKeepObjects
writes-keep conv known blocks a w is = record {
  objects = is.objects ∙ sym (objects-after blocks a w);
  forwards = is.forwards ∙ sym (forwards-after blocks a w);
  joined = all-joined-after conv blocks a w is.joined;
}

known-written : (conv : Conv) (known : ObjectsView) (memory : Memory) (w : Write)
    → AreKnown conv known memory.blocks → AreKnown conv known (written memory w).blocks
known-written conv known memory w is = by_test w.to_cell
  where
    by_test : (t : Bool)
        → AreKnown conv known
        (if t then record memory { cells = overwritten memory.cells (w.at - CELLS_AT) w.bytes }
        else record memory { blocks = blocks_after memory.blocks w.at w.bytes }).blocks
    by_test true = is
    by_test false = writes-keep conv known memory.blocks w.at w.bytes is

known-fold : (conv : Conv) (known : ObjectsView) (memory : Memory) (writes : List Write)
    → AreKnown conv known memory.blocks → AreKnown conv known (fold written memory writes).blocks
known-fold conv known memory [] is = is
known-fold conv known memory (w ∷ writes) is =
    known-fold conv known (written memory w) writes (known-written conv known memory w is)

known-by : (conv : Conv) (known : ObjectsView) (memory : Memory) (result : ℕ) (writes : Option (List Write))
    → AreKnown conv known memory.blocks → AreKnown conv known (reply_by memory result writes).memory.blocks
known-by conv known memory result None is = is
known-by conv known memory result (Some writes) is = known-fold conv known memory writes is

pub replies-keep : RepliesKeepObjects
replies-keep conv known None call memory is = is
replies-keep conv known (Some rule) call memory is =
    known-by conv known memory (result_of rule) (writes_of conv call memory rule) is

-- ---- room

object-space : (conv : Conv) (number : ℕ) → 16 ≤ space_of conv (ObjectContent number)
object-space conv number = omega arith

first-fits : (conv : Conv) (b : Block) (rest : List Block) (h : Held)
    → 16 * length (map kept (cond (is_object h) (b ∷ rest) rest))
    ≤ space_of conv (content_of h) + 16 * length (map kept rest)
first-fits conv b rest (Data bytes) = omega arith
first-fits conv b rest (Object number iface) = omega (arith, object-space conv number)
first-fits conv b rest (Forwarder number iface target own) = omega (arith, object-space conv number)

objects-fit : (conv : Conv) (blocks : List Block)
    → 16 * length (objects_among blocks) ≤ occupied_by conv blocks
objects-fit conv [] = omega arith
objects-fit conv (b ∷ blocks) =
    omega (
      arith,
      first-fits conv b (filter (λ (b : Block). is_object b.held) blocks) b.held,
      objects-fit conv blocks,
      sum_by-cons (λ (b : Block). space_of conv (content_of b.held)) b blocks,
    )

pub objects-few : ObjectsAreFew
objects-few conv known blocks lawful is =
    omega (arith, ap length is.objects, objects-fit conv blocks, lawful.fits)

-- ---- rules

same-pair : (object o slot s : ℕ) → ((object == o) && (slot == s)) ≡ true → (object ≡ o) × (slot ≡ s)
same-pair object o slot s is = (grind (arith, common_steps, is), grind (arith, common_steps, is))

given-back : (rules : Rules) (object slot : ℕ) (rule : Option Rule) → rules object slot ≡ rule
    → (o s : ℕ) (t : Bool) → ((object == o) && (slot == s)) ≡ t
    → (if t then rule else rules o s) ≡ rules o s
given-back rules object slot rule is o s true same =
    let pair = same-pair object o slot s same in
    sym is ∙ ap (λ k. rules k slot) pair.0 ∙ ap (rules o) pair.1
given-back rules object slot rule is o s false same = refl

twice : {X : Type 0} (t : Bool) (first second third : X)
    → (if t then first else (if t then second else third)) ≡ (if t then first else third)
twice true first second third = refl
twice false first second third = refl

pub rules-back : RulesGoBack
rules-back = record {
  put_back = λ rules object slot rule is j o s.
      (twice ((object == o) && (slot == s)) (Some rule) None (rules o s)
      ∙ given-back rules object slot (Some rule) is o s ((object == o) && (slot == s)) refl) j;
  nothing_taken = λ rules object slot is j o s.
      given-back rules object slot None is o s ((object == o) && (slot == s)) refl j;
}
