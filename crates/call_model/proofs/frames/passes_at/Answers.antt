use Rattle.std.proofs.Common.{rules, ◌≡◌, length, slice_get, slice_index_or, Some, ℕ, ◌<◌, take, below_more, sym, ◌∙◌, ap, eq-eqb, arith}
use Rattle.std.proofs.lemmas.List.{take_all, take_more}
use Rattle.std.proofs.lemmas.Bool.{eqb-true}
use Rattle.std.proofs.lemmas.Option.{slice_get-get_or}
use Rattle.call_model.specs.Placement.{place_at, stack_len_of}
use Rattle.call_model.specs.declared.ctypes.CType.TheVariants.{I8}
use Rattle.call_model.specs.declared.places.Loc.TheVariants.{Gpr}
use Rattle.call_model.proofs.frames.passes_at.Goals as goal

pub loop-i-preserved : goal.loop-i-preserved
loop-i-preserved g c =
    let lt : c.loop-i.i < length c.args.types.now = omega (arith, c.loop-i-test.true) in
    let is : c.next-at.result ≡ slice_index_or c.args.locations.now c.loop-i.i (Gpr 0) = search rules in (
      rw (take_more c.args.types.now c.loop-i.i I8 lt) (c.next-at.ensures.longer _ c.loop-i.invariant.0),
      below_more _ _ c.loop-i.invariant.1 (sym is ∙ c.next-at.ensures.at _ c.loop-i.invariant.0),
    )

pub returns : goal.returns
returns g c =
    let whole : take c.loop-i.i c.args.types.now ≡ c.args.types.now = take_all c.loop-i.i c.args.types.now c.loop-i-test.false in
    let len : c.stack_len.result ≡ stack_len_of g.C.Convention.CONV c.args.types.now = rw whole at (c.stack_len.ensures _ c.loop-i.invariant.0) in
    let each : (i : ℕ) → i < length c.args.types.now → slice_get c.args.locations.now i ≡ Some (place_at g.C.Convention.CONV c.args.types.now i)
    = λ i lt. slice_get-get_or c.args.locations.now i (Gpr 0) (omega (arith, c.requires.paired)) ∙ ap Some (c.loop-i.invariant.1 i (omega (arith, c.loop-i-test.false))) in
    (λ same. (each, sym (eqb-true _ _ same) ∙ len), λ all. eq-eqb _ _ (len ∙ sym all.1))
