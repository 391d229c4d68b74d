-- The argument at a position, and the value there.
use Rattle.std.proofs.Common.{◌≡◌, ℕ, zero, suc, ◌≤◌, Bool, true, false, List, [], ◌∷◌, length, get_or, Option, Some, None, refl, sym, ap, ◌∙◌, arith}
use Rattle.std.specs.Prelude.{is_some, slice_get, slice_index, if◌then◌else◌}
use Rattle.std.specs.Option.{option_map_or}
use Rattle.std.proofs.lemmas.Bool.{false≢true}
use Rattle.std.proofs.lemmas.Option.{get_or_from_slice_get}
use Rattle.call_model.specs.declared.ctypes.CType.TheVariants.{I8}
use Rattle.call_model.specs.declared.prototypes.Note.TheVariants.{Plain}
use Rattle.call_model.specs.declared.prototypes.Pass.TheVariants.{ByValue}
use Rattle.call_model.specs.declared.prototypes.ProtoArg.{ProtoArg}
use Rattle.call_model.specs.Values.{canon}
use Rattle.object_memory.specs.Cells.{cell_numbers}
use Rattle.object_memory.specs.Memory.{MachineView}
use Rattle.invoke_by_index.specs.Arguments.{proto_at}
use Rattle.call_replies.specs.Blocks.{Block}
use Rattle.call_replies.specs.Items.{is_by_cell}
use Rattle.script_meaning.specs.Outs.{pattern_after}
use Rattle.script_outs.specs.Held.{after_on}

-- a position that there is not
none-past : {X : Type 0} → (xs : List X) (k : ℕ) → slice_get xs k ≡ None → length xs ≤ k
none-past [] k e = omega arith
none-past (x ∷ xs) zero e = absurd (false≢true (sym (ap is_some e)))
none-past (x ∷ xs) (suc k) e = omega (arith, none-past xs k e)

default-past : {X : Type 0} → (xs : List X) (k : ℕ) (d : X) → length xs ≤ k → d ≡ get_or xs k d
default-past [] k d past = refl
default-past (x ∷ xs) zero d past = absurd (omega (arith, past))
default-past (x ∷ xs) (suc k) d past = default-past xs k d (omega (arith, past))

passes : Option ProtoArg → Bool
passes found = option_map_or (λ (p : ProtoArg). is_by_cell p.pass) found false

pub no-type : (proto : List ProtoArg) (k : ℕ) → slice_get proto k ≡ None → I8 ≡ (proto_at proto k).ty
no-type proto k none =
    ap (λ (p : ProtoArg). p.ty)
    (default-past proto k (record { pass = ByValue; ty = I8; optional = false; note = Plain }) (none-past proto k none))

pub the-type : (proto : List ProtoArg) (k : ℕ) (arg : ProtoArg) → slice_get proto k ≡ Some arg
    → arg.ty ≡ (proto_at proto k).ty
the-type proto k arg is = ap (λ (p : ProtoArg). p.ty) (sym (get_or_from_slice_get proto k arg _ is))

module _ (m : MachineView) (held : List Block) (proto : List ProtoArg) (values : List ℕ) (k : ℕ) where
  chosen : Bool → ℕ
  chosen b =
      if b then canon m.conv (proto_at proto k).ty (slice_index (cell_numbers m.cells) k)
      else slice_index values k

  pub of-cell : (arg : ProtoArg) → slice_get proto k ≡ Some arg → is_by_cell arg.pass ≡ true
      → canon m.conv arg.ty (slice_index (cell_numbers m.cells) k) ≡ pattern_after m.conv (after_on m held proto values) k
  unfolding passes chosen
  of-cell arg is cell =
      ap (λ t. canon m.conv t (slice_index (cell_numbers m.cells) k)) (the-type proto k arg is)
      ∙ sym (ap chosen (ap passes is ∙ cell))

  pub of-value : (arg : ProtoArg) → slice_get proto k ≡ Some arg → is_by_cell arg.pass ≡ false
      → slice_index values k ≡ pattern_after m.conv (after_on m held proto values) k
  unfolding passes chosen
  of-value arg is other = sym (ap chosen (ap passes is ∙ other))

  pub of-none : slice_get proto k ≡ None → length values ≡ length proto
      → 0 ≡ pattern_after m.conv (after_on m held proto values) k
  unfolding passes chosen
  of-none none same =
      let past : length values ≤ k = omega (arith, same, none-past proto k none) in
      default-past values k 0 past ∙ sym (ap chosen (ap passes none))
