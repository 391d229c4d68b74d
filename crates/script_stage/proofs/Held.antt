-- The data of a block that a name finds: where it stands among the others, and on the machine.
use Rattle.std.proofs.Common.{◌≡◌, ◌<◌, ◌≤◌, ◌∙◌, ℕ, ◌+◌, ◌-◌, ◌^◌, Bool, true, false, ◌&&◌, cond, find, List, [], ◌∷◌, length, All, Option, Some, None, is_some, nat_lt, if◌then◌else◌, ap, refl, sym, arith}
use Rattle.std.specs.Prelude.{slice_range}
use Rattle.std.specs.Option.{option_or}
use Rattle.std.proofs.Math.Seq.{take-length}
use Rattle.std.proofs.lemmas.Bool.{false≢true, true≢false}
use Rattle.std.proofs.lemmas.Grind.{common_steps}
use Rattle.std.proofs.lemmas.List.Elements.{All-cons, All-nil}
use Rattle.std.proofs.lemmas.Option.{none-some, same_Some}
use Rattle.std.proofs.lemmas.List.Sums.{sum_by-cons}
use Rattle.call_model.specs.declared.places.Conv.{Conv}
use Rattle.call_model.specs.declared.places.Conv.TheVariants.{SysV64, I386, Aapcs64, Ms64, Aapcs32}
use Rattle.object_memory.specs.declared.layout.TheConstants.{HEAP_LIMIT}
use Rattle.object_memory.specs.Heap.{ReadsBlock, heap_at, lies_in, space_of}
use Rattle.object_memory.specs.Layout.{space_for}
use Rattle.object_memory.specs.Memory.{MachineView}
use Rattle.call_replies.specs.Blocks.{ArePlaced, Block, Held, Data, Object, Forwarder, HoldsBlocks, bytes_in, content_of, contents, data_at}
use Rattle.call_replies.proofs.Looked.{heap_bytes-is, inside-from}
use Rattle.script_meaning.specs.Lawful.{AreLawful}
use Rattle.script_meaning.specs.State.{occupied_by}
use Rattle.script_meaning.proofs.Ways.{first-found}

-- ---- where a block stands

-- each block stands at the first one's address or behind it
behind : (conv : Conv) (low at : ℕ) (blocks : List Block) → low ≤ at → ArePlaced conv at blocks
    → All (λ (b : Block). low ≤ b.at) blocks
behind conv low at [] below placed = All-nil (λ (b : Block). low ≤ b.at)
behind conv low at (b ∷ blocks) below placed =
    All-cons (λ (b : Block). low ≤ b.at) b blocks (omega (arith, below, placed.0))
    (behind conv low (at + space_of conv (content_of b.held)) blocks (omega (arith, below)) placed.1)

pub found-behind : (conv : Conv) (at : ℕ) (blocks : List Block) (p : Block → Bool) (b : Block)
    → ArePlaced conv at blocks → find p blocks ≡ Some b → at ≤ b.at
found-behind conv at blocks p b placed is =
    (first-found p (λ (b : Block). at ≤ b.at) blocks b (behind conv at at blocks (omega arith) placed) is).1

space-enough : (n : ℕ) → n ≤ space_for n
space-enough n = omega arith

-- and it ends where the heap does, or before
before : (conv : Conv) (high at : ℕ) (blocks : List Block) → at + occupied_by conv blocks ≤ high
    → ArePlaced conv at blocks → All (λ (b : Block). b.at + space_of conv (content_of b.held) ≤ high) blocks
before conv high at [] above placed = All-nil (λ (b : Block). b.at + space_of conv (content_of b.held) ≤ high)
before conv high at (b ∷ blocks) above placed =
    let whole = sum_by-cons (λ (b : Block). space_of conv (content_of b.held)) b blocks in
    All-cons (λ (b : Block). b.at + space_of conv (content_of b.held) ≤ high) b blocks
    (omega (arith, above, placed.0, whole))
    (before conv high (at + space_of conv (content_of b.held)) blocks (omega (arith, above, whole)) placed.1)

heap-low : (conv : Conv) → heap_at conv ≤ 0x20000
heap-low SysV64 = omega arith
heap-low I386 = omega arith
heap-low Aapcs64 = omega arith
heap-low Ms64 = omega arith
heap-low Aapcs32 = omega arith

-- in a lawful state addresses are so small that places in data never wrap
pub place-low : (conv : Conv) (blocks : List Block) → AreLawful conv blocks → (p : Block → Bool) (b : Block)
    → find p blocks ≡ Some b → (bytes : List ℕ) → b.held ≡ Data bytes
    → (offset : ℕ) → offset ≤ length bytes → b.at + offset < 2 ^ 64
place-low conv blocks lawful p b is bytes held offset fits =
    let inside = (first-found p (λ (c : Block). c.at + space_of conv (content_of c.held) ≤ heap_at conv + HEAP_LIMIT) blocks b
    (before conv (heap_at conv + HEAP_LIMIT) (heap_at conv) blocks (omega (arith, lawful.fits)) lawful.placed) is).1 in
    let space : space_of conv (content_of b.held) ≡ space_for (length bytes) =
    ap (λ h. space_of conv (content_of h)) held in
    omega (arith, inside, space, space-enough (length bytes), heap-low conv, fits)

-- and no block begins where no address is
pub begin-low : (conv : Conv) (blocks : List Block) → AreLawful conv blocks → (p : Block → Bool) (b : Block)
    → find p blocks ≡ Some b → b.at < 2 ^ 64
begin-low conv blocks lawful p b is =
    let inside = (first-found p (λ (c : Block). c.at + space_of conv (content_of c.held) ≤ heap_at conv + HEAP_LIMIT) blocks b
    (before conv (heap_at conv + HEAP_LIMIT) (heap_at conv) blocks (omega (arith, lawful.fits)) lawful.placed) is).1 in
    omega (arith, inside, heap-low conv)

-- ---- what a block has at an address

whole-slice : (at : ℕ) (bytes : List ℕ)
    → slice_range bytes (at - at) (at - at + length bytes) ≡ bytes
whole-slice at bytes =
    let none : at - at ≡ 0 = omega arith in
    let count : 0 + length bytes - 0 ≡ length bytes = omega arith in
    rw (none, count) (take-length bytes)

-- it has its bytes where it stands
own-bytes : (at : ℕ) (bytes : List ℕ) → 1 ≤ length bytes
    → bytes_in at (Data bytes) at (length bytes) ≡ Some bytes
own-bytes at bytes some =
    let here : (nat_lt 0 (length bytes) && lies_in at bytes at (length bytes)) ≡ true =
    grind (arith, common_steps) in
    ap (λ t. if t then Some (slice_range bytes (at - at) (at - at + length bytes)) else None) here
    ∙ ap Some (whole-slice at bytes)

-- and some of them behind
some-bytes : (at : ℕ) (bytes : List ℕ) (offset n : ℕ) → 1 ≤ n → offset + n ≤ length bytes
    → is_some (bytes_in at (Data bytes) (at + offset) n) ≡ true
some-bytes at bytes offset n some fits =
    let here : (nat_lt 0 n && lies_in at bytes (at + offset) n) ≡ true =
    grind (arith, common_steps) in
    ap (λ t. is_some (if t then Some (slice_range bytes (at + offset - at) (at + offset - at + n)) else None)) here

neither : {A : Type 0} (s t : Bool) (x : A) → t ≡ false → (if s && t then Some x else None) ≡ None
neither s true x is = absurd (true≢false is)
neither true false x is = refl
neither false false x is = refl

-- and none behind its space
none-behind : (conv : Conv) (at : ℕ) (held : Held) (a n : ℕ) → 1 ≤ n
    → at + space_of conv (content_of held) ≤ a → bytes_in at held a n ≡ None
none-behind conv at (Data bytes) a n some after =
    let past : at + length bytes < a + n =
    omega (arith, space-enough (length bytes), after, some) in
    let test : lies_in at bytes a n ≡ false = grind (arith, common_steps) in
    neither (nat_lt 0 n) (lies_in at bytes a n) (slice_range bytes (a - at) (a - at + n)) test
none-behind conv at (Object number iface) a n some after = refl
none-behind conv at (Forwarder number iface target own) a n some after = refl

-- ---- the data of a block that is found

some-first : {A : Type 0} (o later : Option A) → is_some o ≡ true → is_some (option_or o later) ≡ true
some-first None later is = absurd (false≢true is)
some-first (Some x) later is = refl

some-later : {A : Type 0} (o later : Option A) → is_some later ≡ true → is_some (option_or o later) ≡ true
some-later None later is = is
some-later (Some x) later is = refl

module _ (p : Block → Bool) (b : Block) (bytes : List ℕ) (held : b.held ≡ Data bytes) where
  first-bytes : (c : Block) (later : Option (List ℕ)) → c ≡ b → 1 ≤ length bytes
      → option_or (bytes_in c.at c.held b.at (length bytes)) later ≡ Some bytes
  first-bytes c later same some =
      ap (λ (z : Block). option_or (bytes_in z.at z.held b.at (length bytes)) later) same
      ∙ ap (λ h. option_or (bytes_in b.at h b.at (length bytes)) later) held
      ∙ ap (λ o. option_or o later) (own-bytes b.at bytes some)

  first-some : (c : Block) (later : Option (List ℕ)) (offset n : ℕ) → c ≡ b → 1 ≤ n → offset + n ≤ length bytes
      → is_some (option_or (bytes_in c.at c.held (b.at + offset) n) later) ≡ true
  first-some c later offset n same some fits =
      ap (λ (z : Block). is_some (option_or (bytes_in z.at z.held (b.at + offset) n) later)) same
      ∙ ap (λ h. is_some (option_or (bytes_in b.at h (b.at + offset) n) later)) held
      ∙ some-first (bytes_in b.at (Data bytes) (b.at + offset) n) later (some-bytes b.at bytes offset n some fits)

  -- its bytes are read where it stands
  data-found : (conv : Conv) (at : ℕ) (blocks : List Block) → ArePlaced conv at blocks
      → find p blocks ≡ Some b → 1 ≤ length bytes → data_at blocks b.at (length bytes) ≡ Some bytes
  data-found conv at [] placed is some = absurd (none-some b is)
  data-found conv at (c ∷ blocks) placed is some =
      by_test (p c) (data-found conv (at + space_of conv (content_of c.held)) blocks placed.1) is
    where
      by_test : (t : Bool)
          → (find p blocks ≡ Some b → 1 ≤ length bytes → data_at blocks b.at (length bytes) ≡ Some bytes)
          → cond t (Some c) (find p blocks) ≡ Some b → data_at (c ∷ blocks) b.at (length bytes) ≡ Some bytes
      by_test true rest is = first-bytes c (data_at blocks b.at (length bytes)) (same_Some c b is) some
      by_test false rest is =
          let next = found-behind conv (at + space_of conv (content_of c.held)) blocks p b placed.1 is in
          ap (λ o. option_or o (data_at blocks b.at (length bytes)))
          (none-behind conv c.at c.held b.at (length bytes) some (omega (arith, placed.0, next)))
          ∙ rest is some

  -- and some of them are there to be written
  pub some-found : (blocks : List Block) (offset n : ℕ) → find p blocks ≡ Some b → 1 ≤ n
      → offset + n ≤ length bytes → is_some (data_at blocks (b.at + offset) n) ≡ true
  some-found [] offset n is some fits = absurd (none-some b is)
  some-found (c ∷ blocks) offset n is some fits =
      by_test (p c) (λ later. some-found blocks offset n later some fits) is
    where
      by_test : (t : Bool)
          → (find p blocks ≡ Some b → is_some (data_at blocks (b.at + offset) n) ≡ true)
          → cond t (Some c) (find p blocks) ≡ Some b → is_some (data_at (c ∷ blocks) (b.at + offset) n) ≡ true
      by_test true rest is = first-some c (data_at blocks (b.at + offset) n) offset n (same_Some c b is) some fits
      by_test false rest is =
          some-later (bytes_in c.at c.held (b.at + offset) n) (data_at blocks (b.at + offset) n) (rest is)

  -- what a machine reads there
  pub data-read : (m : MachineView) (blocks : List Block) → HoldsBlocks m blocks → find p blocks ≡ Some b
      → (read : Option (List ℕ)) → (length bytes ≡ 0 → read ≡ Some []) → ReadsBlock m b.at (length bytes) read
      → read ≡ Some bytes
  data-read m blocks holds is read empty reads = by_bytes bytes refl
    where
      by_bytes : (known : List ℕ) → bytes ≡ known → read ≡ Some bytes
      by_bytes [] none = empty (ap length none) ∙ ap Some (sym none)
      by_bytes (x ∷ xs) more =
          let some : 1 ≤ length bytes = omega (arith, ap length more) in
          let found = data-found m.conv (heap_at m.conv) blocks holds.placed is some in
          let inside = inside-from m blocks holds b.at (length bytes) (ap is_some found) in
          reads inside (contents blocks) holds.heap
          ∙ heap_bytes-is m blocks holds b.at (length bytes) inside
          ∙ found
