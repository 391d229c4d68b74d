-- What is true of a machine's parts stays true when a block is added.
use Rattle.std.proofs.Common.{◌≡◌, ℕ, zero, suc, ◌+◌, ◌-◌, ◌*◌, ◌<◌, ◌≤◌, List, [], ◌∷◌, ◌++◌, length, take, drop, replicate, sym, ap, ◌∙◌, arith, add-one, length-append}
use Rattle.std.specs.List.{All}
use Rattle.std.proofs.lemmas.List.{length-take-le, length-replicate, take-replicate, drop-replicate, drop_all, drop-drop, length_push}
use Rattle.std.proofs.lemmas.List.Elements.{All-push}
use Rattle.std.proofs.lemmas.List.Quantifiers.{all_pairs_push}
use Rattle.std.proofs.Math.Seq.{take-append-add}
use Rattle.std.proofs.Math.Nat.{mul-le-mul_right}
use Rattle.call_model.specs.declared.places.Conv.{Conv}
use Rattle.call_model.specs.declared.places.Conv.TheVariants.{SysV64, I386, Aapcs64, Ms64, Aapcs32}
use Rattle.call_model.specs.Placement.{word_of}
use Rattle.raw_block.specs.Bytes.{overwritten}
use Rattle.object_memory.specs.declared.data_block.DataBlock.{DataBlock}
use Rattle.object_memory.specs.declared.layout.TheConstants.{VTABLE_AT, SLOTS, HEAP_LIMIT, MOST_CELLS}
use Rattle.xp_base.specs.LittleEndian.{low_bytes}
use Rattle.object_memory.specs.Layout.{space_for, padded, entry_of, slot_words, vtable, vtable_space}
use Rattle.object_memory.specs.WellFormed.{HasSpare, Grown, IsPlaced, EndsBefore, IsWellFormed}
use Rattle.object_memory.proofs.Lists.{length-overwritten, drop-overwritten, overwritten_next, overwritten_none}
use Rattle.xp_base.proofs.LittleEndian.{length-low_bytes}

-- ---- the vtable
slot_words-next : (word n : ℕ) → slot_words word (n + 1) ≡ slot_words word n ++ low_bytes word (entry_of n)
unfolding slot_words
slot_words-next word n = ap (λ k. slot_words word k) (add-one n)

pub length-slot_words : (word n : ℕ) → length (slot_words word n) ≡ n * word
unfolding slot_words
length-slot_words word zero = omega arith
length-slot_words word (suc n) =
    omega (arith, length-append (slot_words word n) (low_bytes word (entry_of n)), length-slot_words word n, length-low_bytes word (entry_of n))

pub no_words : (b : List ℕ) (word : ℕ) → b ≡ overwritten b 0 (slot_words word 0)
unfolding slot_words
no_words b word = sym (overwritten_none b 0)

rows : (word slot : ℕ) → slot < SLOTS → slot * word + word ≤ SLOTS * word
rows word slot lt =
    let more : slot + 1 ≤ SLOTS = omega (arith, lt) in omega (arith, mul-le-mul_right word more)

pub slot_fits : (word slot len : ℕ) → slot < SLOTS → len ≡ space_for (SLOTS * word) → slot * word + word ≤ len
slot_fits word slot len lt is = omega (arith, rows word slot lt, is)

pub words_next : (b : List ℕ) (word slot entry : ℕ) → slot < SLOTS → length b ≡ space_for (SLOTS * word) → entry ≡ entry_of slot
    → overwritten (overwritten b 0 (slot_words word slot)) (slot * word) (low_bytes word entry) ≡ overwritten b 0 (slot_words word (slot + 1))
words_next b word slot entry lt long is =
    let before = slot_words word slot in
    let count : slot * word ≡ 0 + length before = omega (arith, length-slot_words word slot) in
    let room : 0 + length before ≤ length b = omega (arith, length-slot_words word slot, slot_fits word slot (length b) lt long) in
    let more : 0 + length before + length (low_bytes word (entry_of slot)) ≤ length b = omega (arith, length-slot_words word slot, length-low_bytes word (entry_of slot), slot_fits word slot (length b) lt long) in
    (λ i. overwritten (overwritten b 0 before) (count i) (low_bytes word (is i)))
    ∙ overwritten_next b 0 before room (low_bytes word (entry_of slot)) more
    ∙ ap (λ l. overwritten b 0 l) (sym (slot_words-next word slot))

pub all_words : (b final : List ℕ) (word slot : ℕ) → b ≡ replicate (space_for (SLOTS * word)) 0 → final ≡ overwritten b 0 (slot_words word slot) → slot ≡ SLOTS → final ≡ padded (slot_words word SLOTS)
all_words b final word slot zeros is last =
    let ws = slot_words word slot in
    let count : length ws ≡ SLOTS * word = length-slot_words word slot ∙ ap (λ k. k * word) last in
    let none : 0 + length ws ≡ length ws = omega arith in
    is ∙ ap (λ l. overwritten l 0 ws) zeros
    ∙ ap (λ l. ws ++ l) (ap (λ k. drop k (replicate (space_for (SLOTS * word)) 0)) none ∙ drop-replicate (length ws) (space_for (SLOTS * word)) 0 ∙ ap (λ k. replicate (space_for k - length ws) 0) (sym count))
    ∙ ap (λ k. padded (slot_words word k)) last

pub length-padded : (bytes : List ℕ) → length (padded bytes) ≡ space_for (length bytes)
length-padded bytes =
    let n = space_for (length bytes) - length bytes in let fill : List ℕ = replicate n 0 in let filled : length fill ≡ n = length-replicate n 0 in
    omega (arith, length-append bytes fill, filled)

-- ---- the space behind what is in use
module _ (h : List ℕ) (u : ℕ) (xs : List ℕ) (space : ℕ) (spare : HasSpare h u) (enough : u + space ≤ length h) (short : length xs ≤ space) where
  within : u + length xs ≤ length h
  within = omega (arith, enough, short)

  behind : drop (u + length xs) h ≡ replicate (length h - (u + length xs)) 0
  behind =
      let left : length h - u - length xs ≡ length h - (u + length xs) = omega arith in
      sym (drop-drop (length xs) u h) ∙ ap (λ l. drop (length xs) l) spare.zeros ∙ drop-replicate (length xs) (length h - u) 0 ∙ ap (λ k. replicate k 0) left

  pub added_bytes : take (u + space) (overwritten h u xs) ≡ take u h ++ (xs ++ replicate (space - length xs) 0)
  added_bytes =
      let rest = drop (u + length xs) h in let k = space - length xs in
      let front : length (take u h) ≡ u = length-take-le u h spare.fits in
      let split : u + space ≡ u + (length xs + k) = omega (arith, short) in
      let fits : k ≤ length h - (u + length xs) = omega (arith, enough) in
      ap (λ j. take j (overwritten h u xs)) (split ∙ ap (λ j. j + (length xs + k)) (sym front))
      ∙ take-append-add (take u h) (xs ++ rest) (length xs + k)
      ∙ ap (λ l. take u h ++ l) (take-append-add xs rest k ∙ ap (λ l. xs ++ l) (ap (λ l. take k l) behind ∙ take-replicate k (length h - (u + length xs)) 0 fits))

  pub added_spare : HasSpare (overwritten h u xs) (u + space)
  added_spare =
      let same : length (overwritten h u xs) ≡ length h = length-overwritten h u xs within in
      let past : u + length xs ≤ u + space = omega (arith, short) in
      let left : length h - u - space ≡ length (overwritten h u xs) - (u + space) = omega (arith, same) in
      record {
        fits = omega (arith, enough, same);
        zeros = drop-overwritten h u xs within (u + space) past ∙ sym (drop-drop space u h) ∙ ap (λ l. drop space l) spare.zeros ∙ drop-replicate space (length h - u) 0 ∙ ap (λ k. replicate k 0) left;
      }

-- ---- a machine with one block more
pub space-le : (conv : Conv) → vtable_space conv ≤ 2000
space-le SysV64 = omega arith
space-le I386 = omega arith
space-le Aapcs64 = omega arith
space-le Ms64 = omega arith
space-le Aapcs32 = omega arith

module _ (conv : Conv) (h : List ℕ) (u : ℕ) (blocks : List DataBlock) (objects cells : List ℕ) (pushed : ℕ) (ok : IsWellFormed conv h u blocks objects cells pushed) where
  -- the heap has grown, and nothing is added yet
  pub well_formed-grown : (g : List ℕ) (more : ℕ) → Grown h g u more → IsWellFormed conv g u blocks objects cells pushed
  well_formed-grown g more grown = record {
    spare = grown.spare;
    starts = ok.starts;
    limited = ok.limited;
    counted = ok.counted;
    placed = ok.placed;
    apart = ok.apart;
    below = ok.below;
    rising = ok.rising;
    all_cells = ok.all_cells;
    in_cells = ok.in_cells;
  }

  module _ (g xs : List ℕ) (space : ℕ) (grown : Grown h g u space) (short : length xs ≤ space) (at_least : 16 ≤ space) (limited : u + space ≤ vtable_space conv + HEAP_LIMIT) where
    still_placed : All (IsPlaced (vtable_space conv) (u + space)) blocks
    still_placed = λ k d lt. let here = ok.placed k d lt in (here.0, omega (arith, here.1))

    still_below : All (λ address. address < VTABLE_AT + (u + space)) objects
    still_below = λ k d lt. omega (arith, ok.below k d lt)

    pub well_formed-data : (block : DataBlock) → block.address ≡ VTABLE_AT + u → block.length ≤ space → IsWellFormed conv (overwritten g u xs) (u + space) (blocks ++ block ∷ []) objects cells pushed
    well_formed-data block at len = record {
      spare = added_spare g u xs space grown.spare grown.enough short;
      starts = omega (arith, ok.starts);
      limited = limited;
      counted = omega (arith, ok.counted, at_least, length_push blocks block);
      placed = All-push (IsPlaced (vtable_space conv) (u + space)) blocks block still_placed (omega (arith, ok.starts, at), omega (arith, at, len));
      apart = all_pairs_push EndsBefore blocks block ok.apart (λ k d lt. omega (arith, (ok.placed k d lt).1, at));
      below = still_below;
      rising = ok.rising;
      all_cells = ok.all_cells;
      in_cells = ok.in_cells;
    }

    pub well_formed-object : (address : ℕ) → address ≡ VTABLE_AT + u → IsWellFormed conv (overwritten g u xs) (u + space) blocks (objects ++ address ∷ []) cells pushed
    well_formed-object address at = record {
      spare = added_spare g u xs space grown.spare grown.enough short;
      starts = omega (arith, ok.starts);
      limited = limited;
      counted = omega (arith, ok.counted, at_least, length_push objects address);
      placed = still_placed;
      apart = ok.apart;
      below = All-push (λ a. a < VTABLE_AT + (u + space)) objects address still_below (omega (arith, at, at_least));
      rising = all_pairs_push (λ a b. a < b) objects address ok.rising (λ k d lt. omega (arith, ok.below k d lt, at));
      all_cells = ok.all_cells;
      in_cells = ok.in_cells;
    }

none_left : (h : List ℕ) (used : ℕ) → used ≡ length h → drop used h ≡ replicate (length h - used) 0
none_left h used all =
    let past : length h ≤ used = omega (arith, all) in let none : 0 ≡ length h - used = omega (arith, all) in drop_all used h past ∙ ap (λ k. replicate k 0) none

-- a machine that nothing was added to
pub well_formed-new : (conv : Conv) (h : List ℕ) (used : ℕ) (cells : List ℕ) → h ≡ vtable conv → used ≡ length h → length cells ≡ 8 * MOST_CELLS → IsWellFormed conv h used [] [] cells 0
well_formed-new conv h used cells is all long =
    let count = length-slot_words (word_of conv) SLOTS in
    let whole : length h ≡ vtable_space conv = ap length is ∙ length-padded (slot_words (word_of conv) SLOTS) ∙ ap space_for count in
    record {
      spare = record { fits = omega (arith, all); zeros = none_left h used all };
      starts = omega (arith, all, whole);
      limited = omega (arith, all, whole);
      counted = omega (arith, all, whole);
      placed = λ k d lt. absurd (omega (arith, lt));
      apart = λ i j d lt below. absurd (omega (arith, below));
      below = λ k d lt. absurd (omega (arith, lt));
      rising = λ i j d lt below. absurd (omega (arith, below));
      all_cells = long;
      in_cells = omega arith;
    }

-- ---- the bytes of what is added
pub added_memory : (h g new xs : List ℕ) (u space : ℕ) → Grown h g u space → new ≡ overwritten g u xs → space ≡ space_for (length xs) → take (u + space) new ≡ take u h ++ padded xs
added_memory h g new xs u space grown is size =
    let short : length xs ≤ space = omega (arith, size) in
    ap (λ l. take (u + space) l) is ∙ added_bytes g u xs space grown.spare grown.enough short ∙ (λ i. grown.same i ++ (xs ++ replicate (size i - length xs) 0))

module _ (conv : Conv) (word number : ℕ) (is : word ≡ word_of conv) where
  abbrev object : List ℕ
  object = low_bytes (word_of conv) VTABLE_AT ++ low_bytes (word_of conv) number

  pub object_len : length object ≡ 2 * word
  object_len = omega (arith, length-append (low_bytes (word_of conv) VTABLE_AT) (low_bytes (word_of conv) number), length-low_bytes (word_of conv) VTABLE_AT, length-low_bytes (word_of conv) number, is)

  pub two_words : (g one two : List ℕ) (u : ℕ) → one ≡ overwritten g u (low_bytes word VTABLE_AT) → two ≡ overwritten one (u + word) (low_bytes word number) → u + 2 * word ≤ length g → two ≡ overwritten g u object
  two_words g one two u first second room =
      let a = low_bytes word VTABLE_AT in let b = low_bytes word number in
      let here : u + length a ≤ length g = omega (arith, room, length-low_bytes word VTABLE_AT) in
      let more : u + length a + length b ≤ length g = omega (arith, room, length-low_bytes word VTABLE_AT, length-low_bytes word number) in
      let at : u + word ≡ u + length a = omega (arith, length-low_bytes word VTABLE_AT) in
      second ∙ (λ i. overwritten (first i) (at i) b) ∙ overwritten_next g u a here b more ∙ (λ i. overwritten g u (low_bytes (is i) VTABLE_AT ++ low_bytes (is i) number))
