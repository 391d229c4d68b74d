-- The frame of a call that is handed on passes the target's address and the values that were
-- received.
use Rattle.std.proofs.Common.{◌≡◌, ◌<◌, ◌≤◌, ◌∙◌, ℕ, zero, suc, ◌^◌, ◌+◌, ◌==◌, ◌||◌, not, Bool, true, false, List, [], ◌∷◌, All, drop, length, Option, Some, None, ap, refl, sym, arith}
use Rattle.std.specs.Prelude.{slice_index}
use Rattle.std.proofs.lemmas.Bool.{false≢true}
use Rattle.std.proofs.lemmas.List.Elements.{All-cons, All-nil}
use Rattle.std.proofs.lemmas.List.FromFn.{length-map-range_with_len}
use Rattle.std.proofs.lemmas.List.Sums.{sum_by-cons}
use Rattle.call_model.specs.declared.ctypes.CType.TheVariants.{Ptr}
use Rattle.call_model.specs.declared.places.Conv.{Conv}
use Rattle.call_model.specs.declared.places.Conv.TheVariants.{SysV64, I386, Aapcs64, Ms64, Aapcs32}
use Rattle.call_model.specs.declared.prototypes.ProtoArg.{ProtoArg}
use Rattle.call_model.specs.Placement.{stack_len_of, type_at, word_of}
use Rattle.call_model.specs.Prototype.{types_of}
use Rattle.call_model.specs.Values.{FrameView, canon, placed, received}
use Rattle.call_model.proofs.Conforming.{canon_all-canonical, placed-conforms}
use Rattle.invoke_by_index.proofs.Prototypes.{length-types_of}
use Rattle.object_memory.specs.Heap.{heap_at, space_of}
use Rattle.object_memory.specs.declared.layout.TheConstants.{HEAP_LIMIT}
use Rattle.stub_dispatch.specs.Calls.{AreCanonical, this_in}
use Rattle.stub_dispatch.specs.Cells.{received_cells}
use Rattle.stub_dispatch.proofs.Recovered.{gives-canonical}
use Rattle.stub_dispatch.proofs.SameWord.{canon-word}
use Rattle.stub_dispatch.proofs.Thises.{this-of-placed}
use Rattle.call_replies.specs.Blocks.{ArePlaced, Block, Held, Data, Object, Forwarder, content_of}
use Rattle.script_meaning.specs.Chain.{conv_behind}
use Rattle.script_meaning.specs.Lawful.{AreLawful}
use Rattle.script_meaning.specs.State.{has_number, object_numbered, occupied_by}
use Rattle.script_meaning.proofs.Ways.{first-found}
use Rattle.script_objects.specs.Known.{AllJoined, IsJoined}

-- ---- addresses

all-low : (conv : Conv) (at most : ℕ) (blocks : List Block) → ArePlaced conv at blocks
    → at + occupied_by conv blocks ≤ most → All (λ (b : Block). b.at ≤ most) blocks
all-low conv at most [] placed fits = All-nil (λ (b : Block). b.at ≤ most)
all-low conv at most (b ∷ blocks) placed fits =
    let more = sum_by-cons (λ (b : Block). space_of conv (content_of b.held)) b blocks in
    All-cons (λ (b : Block). b.at ≤ most) b blocks (omega (arith, placed.0, fits))
    (all-low conv (at + space_of conv (content_of b.held)) most blocks placed.1 (omega (arith, fits, more)))

low-address : (conv : Conv) (at : ℕ) → at < 2 ^ 32 → canon conv Ptr at ≡ at
low-address SysV64 at low = omega (arith, low)
low-address I386 at low = omega (arith, low)
low-address Aapcs64 at low = omega (arith, low)
low-address Ms64 at low = omega (arith, low)
low-address Aapcs32 at low = omega (arith, low)

heap-low : (conv : Conv) → heap_at conv ≤ 2 ^ 30
heap-low SysV64 = omega arith
heap-low I386 = omega arith
heap-low Aapcs64 = omega arith
heap-low Ms64 = omega arith
heap-low Aapcs32 = omega arith

-- an object begins at an address of 32 bits
pub object-low : (conv : Conv) (blocks : List Block) → AreLawful conv blocks
    → (number : ℕ) (b : Block) → object_numbered blocks number ≡ Some b → b.at < 2 ^ 32
object-low conv blocks lawful number b is =
    let all = all-low conv (heap_at conv) (heap_at conv + HEAP_LIMIT) blocks lawful.placed (omega (arith, lawful.fits)) in
    let most = (first-found (λ (b : Block). has_number number b.held) (λ b. b.at ≤ heap_at conv + HEAP_LIMIT) blocks b all is).1 in
    omega (arith, most, heap-low conv)

-- ---- words

eight : (conv : Conv) → (word_of conv == 4) ≡ false → word_of conv ≡ 8
eight SysV64 is = refl
eight I386 is = absurd (false≢true (sym is))
eight Aapcs64 is = refl
eight Ms64 is = refl
eight Aapcs32 is = absurd (false≢true (sym is))

neither : (a b : Bool) → not (a || b) ≡ true → (a ≡ false) × (b ≡ false)
neither true b is = absurd (false≢true is)
neither false true is = absurd (false≢true is)
neither false false is = (refl, refl)

own-word : (conv : Conv) (own : Option Conv) (by : Conv) (h : Held) → IsJoined conv h
    → word_of by ≡ word_of conv → word_of (conv_behind h by) ≡ word_of conv
own-word conv own by (Data bytes) joined same = same
own-word conv own by (Object number iface) joined same = same
own-word conv own by (Forwarder number iface target None) joined same = same
own-word conv own by (Forwarder number iface target (Some c)) joined same =
    let both = neither (word_of conv == 4) (word_of c == 4) joined in
    eight c both.1 ∙ sym (eight conv both.0)

-- the object behind one is entered under a convention with the machine's word
pub word-behind : (conv : Conv) (blocks : List Block) → AllJoined conv blocks
    → (number : ℕ) (b : Block) → object_numbered blocks number ≡ Some b
    → (by : Conv) → word_of by ≡ word_of conv → word_of (conv_behind b.held by) ≡ word_of conv
word-behind conv blocks joined number b is by same =
    own-word conv None by b.held
    (first-found (λ (b : Block). has_number number b.held) (λ b. IsJoined conv b.held) blocks b joined is).1
    same

-- ---- frames

pub length-received : (conv : Conv) (proto : List ProtoArg) (frame : FrameView)
    → length (received_cells conv proto frame) ≡ length proto
length-received conv proto frame =
    length-map-range_with_len (λ i. received conv (types_of proto) frame (i + 1)) 0 (length proto)

module _ (from to : Conv) (proto : List ProtoArg) (this : ℕ) (values : List ℕ)
    (same : word_of from ≡ word_of to) (low : this < 2 ^ 32) (canonical : AreCanonical from proto values) where
  abbrev frame : FrameView
  frame = placed to (types_of proto) (this ∷ values)

  paired : length (types_of proto) ≡ length (this ∷ values)
  paired = omega (arith, length-types_of proto, canonical.paired)

  each : (i : ℕ) → i < length (types_of proto)
      → canon to (type_at (types_of proto) i) (slice_index (this ∷ values) i) ≡ slice_index (this ∷ values) i
  each zero less = low-address to this low
  each (suc k) less =
      let next : suc k ≡ k + 1 = omega arith in
      let inside : k < length values = omega (arith, less, paired) in
      sym (canon-word from to (type_at (types_of proto) (suc k)) (slice_index values k) same)
      ∙ ap (λ j. canon from (type_at (types_of proto) j) (slice_index values k)) next
      ∙ canonical.each k inside

  pub frame-receives : received_cells to proto frame ≡ values
  frame-receives =
      ap (drop 1)
      (gives-canonical to proto frame this values (placed-conforms to (types_of proto) (this ∷ values) paired)
      ∙ canon_all-canonical to (types_of proto) (this ∷ values) paired each)

  pub frame-this : this_in to frame ≡ this
  frame-this = this-of-placed to proto this values paired ∙ low-address to this low

  pub frame-enough : stack_len_of to (types_of proto) ≤ length frame.stack
  frame-enough = (placed-conforms to (types_of proto) (this ∷ values) paired).enough
