-- The cells that numbers were put into, one more at a time.
use Rattle.std.proofs.Common.{◌≡◌, ℕ, suc, ◌+◌, ◌-◌, ◌*◌, ◌^◌, ◌<◌, ◌≤◌, List, [], ◌∷◌, ◌++◌, length, take, drop, get_or, refl, sym, ap, ◌∙◌, arith, append_assoc, length-append}
use Rattle.std.specs.List.{flat_map}
use Rattle.std.specs.Prelude.{slice_range}
use Rattle.std.proofs.lemmas.Grind.{flat_map-append}
use Rattle.std.proofs.lemmas.List.{append-nil, drop_at, length-take-le, take_at}
use Rattle.std.proofs.lemmas.List.Concat.{flat_map-cons}
use Rattle.std.proofs.Math.Nat.{mod-eq_of_lt}
use Rattle.std.proofs.Math.Seq.{split_at}
use Rattle.object_memory.specs.Cells.{numbers}
use Rattle.object_memory.specs.declared.layout.TheConstants.{CELLS_AT}
use Rattle.object_memory.specs.Memory.{MachineView, InCells, cell_bytes, with_cells}
use Rattle.object_memory.proofs.Lists.{length-overwritten, overwritten_next, written_back}
use Rattle.xp_base.specs.LittleEndian.{low_bytes, number_of}
use Rattle.xp_base.proofs.LittleEndian.{length-low_bytes, number_of-low_bytes}
use Rattle.invoke_by_index.specs.Cells.{cells_at, with_numbers}

-- the bytes of numbers of 8 bytes
abbrev pub words : List ℕ → List ℕ
words values = flat_map (low_bytes 8) values

pub length-words : (values : List ℕ) → length (words values) ≡ 8 * length values
length-words [] = refl
length-words (v ∷ values) =
    omega (arith, ap length (flat_map-cons (low_bytes 8) v values), length-append (low_bytes 8 v) (words values), length-low_bytes 8 v, length-words values)

words-push : (values : List ℕ) (v : ℕ) → words values ++ low_bytes 8 v ≡ words (values ++ v ∷ [])
words-push values v =
    ap (λ l. words values ++ l) (sym (flat_map-cons (low_bytes 8) v [] ∙ append-nil (low_bytes 8 v))) ∙ sym (flat_map-append (low_bytes 8) values (v ∷ []))

-- numbers of 8 bytes, read back from their bytes
numbers-words : (values : List ℕ) → ((k : ℕ) → get_or values k 0 < 2 ^ 64) → numbers (length values) (words values) ≡ values
unfolding numbers
numbers-words [] small = refl
numbers-words (v ∷ values) small =
    let low = low_bytes 8 v in let eight : length low ≡ 8 = length-low_bytes 8 v in
    let here : v < 2 ^ 64 = small 0 in
    let number : number_of low ≡ v = number_of-low_bytes 8 v ∙ mod-eq_of_lt here in
    ap (numbers (suc (length values))) (flat_map-cons (low_bytes 8) v values)
    ∙ (λ i. number_of (take_at low (words values) 8 eight i) ∷ numbers (length values) (drop_at low (words values) 8 eight i))
    ∙ (λ i. number i ∷ numbers-words values (λ k. small (suc k)) i)

module _ (m : MachineView) (base : ℕ) (values : List ℕ) (room : InCells m base (8 * length values)) where
  fits : base - CELLS_AT + length (words values) ≤ length m.cells
  fits = omega (arith, room.0, room.1, length-words values)

  pub length-filled : length (with_numbers m base values).cells ≡ length m.cells
  length-filled = length-overwritten m.cells (base - CELLS_AT) (words values) fits

  -- all numbers
  pub cells-filled : (n : ℕ) → n ≡ length values → ((k : ℕ) → get_or values k 0 < 2 ^ 64) → cells_at (with_numbers m base values) base n ≡ values
  cells-filled n n-is small =
      let at = base - CELLS_AT in
      let end : at + 8 * n ≡ at + length (words values) = omega (arith, n-is, length-words values) in
      (λ i. numbers (n-is i) (slice_range (with_numbers m base values).cells at (end i)))
      ∙ ap (numbers (length values)) (written_back m.cells at (words values) fits)
      ∙ numbers-words values small

  -- one of them
  pub cell-filled : (i : ℕ) → i < length values → get_or values i 0 < 2 ^ 64 → number_of (cell_bytes (with_numbers m base values) (base + 8 * i) 8) ≡ get_or values i 0
  cell-filled i lt small =
      let at = base - CELLS_AT in let v = get_or values i 0 in let low = low_bytes 8 v in
      let front = take i values in let back = drop (suc i) values in
      let rest = drop (at + length (words values)) m.cells in
      let place = base + 8 * i - CELLS_AT in
      let eight : length low ≡ 8 = length-low_bytes 8 v in
      let split : words values ≡ words front ++ (low ++ words back)
      = ap words (split_at values i 0 lt) ∙ flat_map-append (low_bytes 8) front (v ∷ back) ∙ ap (λ l. words front ++ l) (flat_map-cons (low_bytes 8) v back) in
      let whole : (with_numbers m base values).cells ≡ (take at m.cells ++ words front) ++ (low ++ (words back ++ rest))
      = ap (λ l. take at m.cells ++ (l ++ rest)) split
      ∙ ap (λ l. take at m.cells ++ l) (append_assoc (words front) (low ++ words back) rest ∙ ap (λ l. words front ++ l) (append_assoc low (words back) rest))
      ∙ sym (append_assoc (take at m.cells) (words front) (low ++ (words back ++ rest))) in
      let few : i ≤ length values = omega (arith, lt) in
      let before : at ≤ length m.cells = omega (arith, fits) in
      let there : length (take at m.cells ++ words front) ≡ place
      = omega (arith, length-append (take at m.cells) (words front), length-take-le at m.cells before, length-words front, length-take-le i values few, room.0) in
      let count : place + 8 - place ≡ 8 = omega arith in
      (λ j. number_of (take (count j) (drop place (whole j))))
      ∙ ap (λ l. number_of (take 8 l)) (drop_at (take at m.cells ++ words front) (low ++ (words back ++ rest)) place there)
      ∙ ap number_of (take_at low (words back ++ rest) 8 eight)
      ∙ number_of-low_bytes 8 v ∙ mod-eq_of_lt small

-- one number more
pub filled-more : (m : MachineView) (base cell : ℕ) (values : List ℕ) (v : ℕ) → InCells m base (8 * (length values + 1)) → cell ≡ base + 8 * length values
    → with_cells (with_numbers m base values) cell (low_bytes 8 v) ≡ with_numbers m base (values ++ v ∷ [])
filled-more m base cell values v room cell-is =
    let at = base - CELLS_AT in
    let within : at + length (words values) ≤ length m.cells = omega (arith, room.0, room.1, length-words values) in
    let more : at + length (words values) + length (low_bytes 8 v) ≤ length m.cells = omega (arith, room.0, room.1, length-words values, length-low_bytes 8 v) in
    let place : cell - CELLS_AT ≡ at + length (words values) = omega (arith, cell-is, room.0, length-words values) in
    rw place
    (ap (λ (l : List ℕ). record m { cells = l })
    (overwritten_next m.cells at (words values) within (low_bytes 8 v) more ∙ ap (λ l. (with_cells m base l).cells) (words-push values v)))
