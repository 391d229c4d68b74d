-- What a call passes from cells that were filled.
use Rattle.std.proofs.Common.{◌≡◌, ℕ, zero, suc, ◌+◌, ◌*◌, ◌^◌, ◌<◌, Bool, true, List, [], ◌∷◌, length, map, get_or, refl, sym, ap, ◌∙◌, arith}
use Rattle.std.specs.List.{All, range_with_len}
use Rattle.std.proofs.lemmas.List.{get_or-map, length-map}
use Rattle.std.proofs.lemmas.List.Elements.{All-get_or}
use Rattle.std.proofs.lemmas.List.FromFn.{get_or-map-range_with_len, length-map-range_with_len}
use Rattle.call_model.specs.declared.ctypes.CType.{CType}
use Rattle.call_model.specs.declared.ctypes.CType.TheVariants.{I8, Ptr}
use Rattle.call_model.specs.declared.places.Conv.{Conv}
use Rattle.call_model.specs.declared.prototypes.Note.{Note}
use Rattle.call_model.specs.declared.prototypes.Note.TheVariants.{Plain, Count, IidAt, IfaceOf, Argc, Context}
use Rattle.call_model.specs.declared.prototypes.Pass.{Pass}
use Rattle.call_model.specs.declared.prototypes.Pass.TheVariants.{ByValue, ByRef, ByCell}
use Rattle.call_model.specs.declared.prototypes.ProtoArg.{ProtoArg}
use Rattle.call_model.specs.Placement.{type_at}
use Rattle.call_model.specs.Prototype.{passed_type, types_of}
use Rattle.call_model.specs.Values.{canon, canon_all, frame_of}
use Rattle.call_model.proofs.Patterns.{canon-below, canon-canon}
use Rattle.object_memory.specs.Memory.{MachineView, InCells, cell_bytes}
use Rattle.xp_base.specs.LittleEndian.{number_of}
use Rattle.invoke_by_index.specs.declared.args.Arg.{Arg}
use Rattle.invoke_by_index.specs.Arguments.{arg_of, cell_at, cell_by, cells_of, given_count, is_added, parameters, proto_at, value_at, value_by, value_for, values_of}
use Rattle.invoke_by_index.specs.Calls.{passed_value, values_in}
use Rattle.invoke_by_index.specs.Cells.{PassesValues, with_numbers}
use Rattle.invoke_by_index.proofs.CellValues.{length-values_in}
use Rattle.invoke_by_index.proofs.FilledCells.{cell-filled}
use Rattle.invoke_by_index.proofs.Parameters.{IsAddedByValue}
use Rattle.invoke_by_index.proofs.Prototypes.{passed}

-- the number of a cell fits it
cell_by-below : (conv : Conv) (pass : Pass) (t : CType) (x : Arg) (value : ℕ) → cell_by conv pass t x value < 2 ^ 64
cell_by-below conv ByValue t x value = canon-below conv t value
cell_by-below conv ByRef t x value = canon-below conv Ptr value
cell_by-below conv (ByCell inward) t x value = canon-below conv t _

pub cells_of-below : (conv : Conv) (base context : ℕ) (proto : List ProtoArg) (args : List Arg) (i : ℕ) → get_or (cells_of conv base context proto args) i 0 < 2 ^ 64
cells_of-below conv base context proto args i = below (cell_at conv base context proto args) 0 (length proto) i (λ k. cell_by-below conv (proto_at proto k).pass (proto_at proto k).ty (arg_of proto args k) (value_at base context proto args k))
  where
    below : (f : ℕ → ℕ) (a n i : ℕ) → ((k : ℕ) → f k < 2 ^ 64) → get_or (map f (range_with_len a n)) i 0 < 2 ^ 64
    below f a zero i each = omega arith
    below f a (suc n) zero each = each a
    below f a (suc n) (suc i) each = below f (a + 1) n i each

-- the value of an argument that is no added one, and of a cell
cell-value : (note : Note) (given context cell : ℕ) → (is_added note ≡ true → ⊥) → value_for note given context cell ≡ cell
cell-value Plain given context cell own = refl
cell-value (Count size at elem) given context cell own = refl
cell-value (IidAt at) given context cell own = refl
cell-value (IfaceOf number) given context cell own = refl
cell-value Argc given context cell own = absurd (own refl)
cell-value Context given context cell own = absurd (own refl)

not-by-value : (inward : Bool) → ByCell inward ≡ ByValue → ⊥
not-by-value inward e = cc

-- from the cell of an argument the pattern of its value is passed
same-pattern : (conv : Conv) (m : MachineView) (p : ProtoArg) (x : Arg) (cell given context : ℕ) → IsAddedByValue p
    → number_of (cell_bytes m cell 8) ≡ cell_by conv p.pass p.ty x (value_for p.note given context (value_by p.pass cell x))
    → canon conv (passed p) (passed_value m p.pass cell) ≡ canon conv (passed p) (value_for p.note given context (value_by p.pass cell x))
same-pattern conv m p x cell given context = by-pass p.pass
  where
    by-pass : (pass : Pass) → (is_added p.note ≡ true → pass ≡ ByValue)
        → number_of (cell_bytes m cell 8) ≡ cell_by conv pass p.ty x (value_for p.note given context (value_by pass cell x))
        → canon conv (passed_type pass p.ty) (passed_value m pass cell) ≡ canon conv (passed_type pass p.ty) (value_for p.note given context (value_by pass cell x))
    by-pass ByValue added held = ap (canon conv p.ty) held ∙ canon-canon conv p.ty (value_for p.note given context (value_by ByValue cell x))
    by-pass ByRef added held = ap (canon conv Ptr) held ∙ canon-canon conv Ptr (value_for p.note given context (value_by ByRef cell x))
    by-pass (ByCell inward) added held = ap (canon conv Ptr) (sym (cell-value p.note given context cell (λ is. not-by-value inward (added is))))

get_or-values_in : (m : MachineView) (base : ℕ) (proto : List ProtoArg) (i : ℕ) → i < length proto → get_or (values_in m base proto) i 0 ≡ passed_value m (proto_at proto i).pass (base + 8 * i)
get_or-values_in m base [] i lt = absurd (omega (arith, lt))
get_or-values_in m base (a ∷ proto) zero lt = let same : base ≡ base + 8 * 0 = omega arith in ap (passed_value m a.pass) same
get_or-values_in m base (a ∷ proto) (suc i) lt =
    let further : base + 8 + 8 * i ≡ base + 8 * suc i = omega arith in
    get_or-values_in m (base + 8) proto i (omega (arith, lt)) ∙ ap (passed_value m (proto_at proto i).pass) further

-- values that have the same patterns, one by one
same-patterns : (conv : Conv) (types : List CType) (vs ws : List ℕ) → length types ≡ length vs → length types ≡ length ws
    → ((i : ℕ) → i < length types → canon conv (type_at types i) (get_or vs i 0) ≡ canon conv (type_at types i) (get_or ws i 0)) → canon_all conv types vs ≡ canon_all conv types ws
same-patterns conv [] vs ws lv lw each = refl
same-patterns conv (t ∷ types) [] ws lv lw each = absurd (omega (arith, lv))
same-patterns conv (t ∷ types) (v ∷ vs) [] lv lw each = absurd (omega (arith, lw))
same-patterns conv (t ∷ types) (v ∷ vs) (w ∷ ws) lv lw each =
    let first : 0 < length (t ∷ types) = omega arith in
    (λ i. each 0 first i ∷ same-patterns conv types vs ws (omega (arith, lv)) (omega (arith, lw)) (λ k lt. each (suc k) (omega (arith, lt))) i)

module _ (m : MachineView) (base context : ℕ) (proto : List ProtoArg) (args : List Arg) (room : InCells m base (8 * length proto)) (added : All IsAddedByValue proto) where
  pub passes-values : PassesValues (with_numbers m base (cells_of m.conv base context proto args)) base proto (values_of base context proto args)
  passes-values = λ this. ap (λ ps. frame_of m.conv (types_of proto) (canon m.conv Ptr this ∷ ps)) all
    where
      count : length (cells_of m.conv base context proto args) ≡ length proto
      count = length-map-range_with_len (cell_at m.conv base context proto args) 0 (length proto)

      each : (i : ℕ) → i < length proto
          → canon m.conv (passed (proto_at proto i)) (passed_value (with_numbers m base (cells_of m.conv base context proto args)) (proto_at proto i).pass (base + 8 * i))
          ≡ canon m.conv (passed (proto_at proto i)) (value_at base context proto args i)
      each i lt =
          let numbers = cells_of m.conv base context proto args in
          let within : InCells m base (8 * length numbers) = (room.0, omega (arith, room.1, count)) in
          let inside : i < length numbers = omega (arith, lt, count) in
          let held : number_of (cell_bytes (with_numbers m base numbers) (base + 8 * i) 8) ≡ cell_at m.conv base context proto args i
          = cell-filled m base numbers within i inside (cells_of-below m.conv base context proto args i)
          ∙ get_or-map-range_with_len (cell_at m.conv base context proto args) 0 (length proto) i i 0 lt (omega arith) in
          same-pattern m.conv (with_numbers m base numbers) (proto_at proto i) (arg_of proto args i) (base + 8 * i) (given_count (parameters proto) args) context
          (All-get_or IsAddedByValue proto i (proto_at [] 0) lt added) held

      all : canon_all m.conv (map passed proto) (values_in (with_numbers m base (cells_of m.conv base context proto args)) base proto) ≡ canon_all m.conv (map passed proto) (values_of base context proto args)
      all =
          let new = with_numbers m base (cells_of m.conv base context proto args) in
          let types : length (map passed proto) ≡ length proto = length-map proto passed in
          same-patterns m.conv (map passed proto) (values_in new base proto) (values_of base context proto args)
          (types ∙ sym (length-values_in new base proto))
          (types ∙ sym (length-map-range_with_len (value_at base context proto args) 0 (length proto)))
          (λ i lt.
          let inside : i < length proto = omega (arith, lt, types) in
          let type : type_at (map passed proto) i ≡ passed (proto_at proto i) = get_or-map passed proto i (proto_at [] 0) I8 inside in
          (λ j. canon m.conv (type j) (get_or-values_in new base proto i inside j))
          ∙ each i inside
          ∙ (λ j. canon m.conv (sym type j) (sym (get_or-map-range_with_len (value_at base context proto args) 0 (length proto) i i 0 inside (omega arith)) j)))
