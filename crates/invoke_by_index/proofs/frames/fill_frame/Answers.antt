use Rattle.std.proofs.Common.{◌≡◌, ◌<◌, length, take, ap, ◌∙◌, arith}
use Rattle.std.proofs.lemmas.List.{take_all, take_more}
use Rattle.call_model.specs.declared.ctypes.CType.TheVariants.{I8}
use Rattle.call_model.specs.Placement.{space_of, stack_len_of, type_at}
use Rattle.invoke_by_index.proofs.Filled.{holds-all, holds-next, is-next-place}
use Rattle.invoke_by_index.proofs.frames.fill_frame.Goals as goal

pub put-requires : goal.put-requires
put-requires g c =
    let conv = g.C.Convention.CONV in
    let lt : c.loop-i.i < length c.args.types.now = omega (arith, c.loop-i-test.true) in
    is-next-place conv c.args.types.now c.loop-i.i c.loop-i.frame c.next-at.result c.space_of.result g.met.C.Convention.within lt c.loop-i.invariant.holds.stack_len
    (c.next-at.ensures.at _ c.loop-i.invariant.stands)
    (c.space_of.ensures.space ∙ ap (λ v. space_of v (type_at c.args.types.now c.loop-i.i)) c.CONV-conv.ensures)
    c.space_of.ensures.one_slot

pub loop-i-preserved : goal.loop-i-preserved
loop-i-preserved g c =
    let conv = g.C.Convention.CONV in
    let lt : c.loop-i.i < length c.args.types.now = omega (arith, c.loop-i-test.true) in
    record {
      stands = rw (take_more c.args.types.now c.loop-i.i I8 lt) (c.next-at.ensures.longer _ c.loop-i.invariant.stands);
      holds = holds-next conv c.args.types.now c.args.patterns.now c.loop-i.i (stack_len_of conv c.args.types.now) c.loop-i.frame c.put.new.self c.next-at.result c.space_of.result c.requires.paired lt
          (c.next-at.ensures.at _ c.loop-i.invariant.stands)
          (c.space_of.ensures.space ∙ ap (λ v. space_of v (type_at c.args.types.now c.loop-i.i)) c.CONV-conv.ensures)
          c.loop-i.invariant.holds c.put.ensures;
    }

pub returns : goal.returns
returns g c =
    let types : take c.loop-i.i c.args.types.now ≡ c.args.types.now = take_all c.loop-i.i c.args.types.now c.loop-i-test.false in
    let patterns : take c.loop-i.i c.args.patterns.now ≡ c.args.patterns.now = take_all c.loop-i.i c.args.patterns.now (omega (arith, c.requires.paired, c.loop-i-test.false)) in
    holds-all g.C.Convention.CONV c.args.types.now c.args.patterns.now c.loop-i.frame (rw (types, patterns) at c.loop-i.invariant.holds)
