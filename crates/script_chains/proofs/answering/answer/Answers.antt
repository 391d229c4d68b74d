use Rattle.script_chains.proofs.InParts.{answered-so, can, fails-at-look, fails-at-reply, fails-on-way, first-at, of-err, seen-all}
use Rattle.script_chains.proofs.answering.answer.Goals as goal

pub returns-in_err-last-clause-err : goal.returns-in_err-last-clause-err
returns-in_err-last-clause-err g c = λ state call has.
    let m = c.args.machine.now in
    let first = first-at m c.args.objects.now c.args.rules.now c.args.begun c.args.method.now state call has c.conv.result c.conv.ensures in
    of-err _ _
    (fails-on-way m c.args.objects.now c.args.rules.now c.args.begun c.args.method.now state call has c.conv.result c.conv.ensures _ _
    (c.in_err-last.ensures state.blocks call.object _ first))

pub reply_at-requires : goal.reply_at-requires
reply_at-requires g c =
    let m = c.args.machine.now in
    let state = c.requires.begun.0 in
    let call = c.requires.begun.1.0 in
    let has = c.requires.begun.1.1 in
    let first = first-at m c.args.objects.now c.args.rules.now c.args.begun c.args.method.now state call has c.conv.result c.conv.ensures in
    record {
      at = (
        state.blocks,
        (
          _,
          (
            _,
            can m c.args.objects.now c.args.rules.now c.args.begun c.args.method.now state call has c.conv.result c.conv.ensures
                c.pass_on.new.machine c.in_ok-last.last _ _ _ _ c.new-text.ensures (c.in_ok-last.ensures state.blocks call.object _ first),
          ),
        ),
      );
    }

pub returns-in_err-answered-clause-err : goal.returns-in_err-answered-clause-err
returns-in_err-answered-clause-err g c = λ state call has.
    let m = c.args.machine.now in
    let first = first-at m c.args.objects.now c.args.rules.now c.args.begun c.args.method.now state call has c.conv.result c.conv.ensures in
    of-err _ _
    (fails-at-reply m c.args.objects.now c.args.rules.now c.args.begun c.args.method.now state call has c.conv.result c.conv.ensures
    c.pass_on.new.machine c.in_ok-last.last _ _ _ _ c.new-text.ensures (c.in_ok-last.ensures state.blocks call.object _ first))

pub returns-in_err-look-clause-err : goal.returns-in_err-look-clause-err
returns-in_err-look-clause-err g c = λ state call has.
    let m = c.args.machine.now in
    let first = first-at m c.args.objects.now c.args.rules.now c.args.begun c.args.method.now state call has c.conv.result c.conv.ensures in
    of-err _ _
    (fails-at-look m c.args.objects.now c.args.rules.now c.args.begun c.args.method.now state call has c.conv.result c.conv.ensures
    c.pass_on.new.machine c.in_ok-last.last _ _ _ _ c.new-text.ensures (c.in_ok-last.ensures state.blocks call.object _ first)
    _ c.in_err-look.ensures.err)

pub returns-clause-answered : goal.returns-clause-answered
returns-clause-answered g c = λ state call has.
    let m = c.args.machine.now in
    let first = first-at m c.args.objects.now c.args.rules.now c.args.begun c.args.method.now state call has c.conv.result c.conv.ensures in
    let passed = c.in_ok-last.ensures state.blocks call.object _ first in
    let replies = can m c.args.objects.now c.args.rules.now c.args.begun c.args.method.now state call has c.conv.result c.conv.ensures
    c.pass_on.new.machine c.in_ok-last.last _ _ _ _ c.new-text.ensures passed in
    answered-so m c.args.objects.now c.args.rules.now c.args.begun c.args.method.now state call has c.conv.result c.conv.ensures
    c.pass_on.new.machine c.in_ok-last.last _ _ _ _ c.new-text.ensures passed
    c.reply_at.new.machine c.in_ok-answered.answered (c.in_ok-answered.ensures.replied state.blocks _ _ replies)

pub returns-clause-saw : goal.returns-clause-saw
returns-clause-saw g c = λ state call has.
    let m = c.args.machine.now in
    let first = first-at m c.args.objects.now c.args.rules.now c.args.begun c.args.method.now state call has c.conv.result c.conv.ensures in
    let passed = c.in_ok-last.ensures state.blocks call.object _ first in
    let replies = can m c.args.objects.now c.args.rules.now c.args.begun c.args.method.now state call has c.conv.result c.conv.ensures
    c.pass_on.new.machine c.in_ok-last.last _ _ _ _ c.new-text.ensures passed in
    seen-all m c.args.objects.now c.args.rules.now c.args.begun c.args.method.now state call has c.conv.result c.conv.ensures
    c.pass_on.new.machine c.in_ok-last.last _ _ _ _ c.new-text.ensures passed
    c.reply_at.new.machine c.in_ok-answered.answered (c.in_ok-answered.ensures.replied state.blocks _ _ replies)
    _ c.in_ok-look.ensures.saw
