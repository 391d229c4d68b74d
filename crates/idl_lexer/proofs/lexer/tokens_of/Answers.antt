use Rattle.std.proofs.Common.{◌∙◌, sym, arith}
use Rattle.idl_lexer.proofs.PieceLaws.{piece-shrinks}
use Rattle.idl_lexer.proofs.LexLaws.{read-left, read-stuck, not_empty, token-turn, blank-turn, feeds, piece_text, token_from}
use Rattle.idl_lexer.proofs.lexer.tokens_of.Goals as goal
use Rattle.idl_lexer.proofs.lexer.tokens_of.Goals.{in-Some-kind+in_ok-push, in_default-kind}

pub returns-in_default-clause-refused : goal.returns-in_default-clause-refused
returns-in_default-clause-refused c =
    let some = not_empty c.loop-rest.rest.now c.is_empty.result c.is_empty.ensures c.loop-rest-test.true in
    let r = read-stuck c.args.source.now c.loop-rest.list c.loop-rest.rest.now c.loop-rest.line c.loop-rest.invariant some (sym c.in_default.ensures) in
    rw c.place-start.ensures r

pub place-end-requires-clause-left : goal.place-end-requires-clause-left
place-end-requires-clause-left c =
    let l = piece-shrinks c.loop-rest.rest.now c.in-Some.next.now c.in-Some.kind (sym c.in-Some.ensures) in
    let r = read-left c.args.source.now c.loop-rest.list c.loop-rest.rest.now c.loop-rest.line c.loop-rest.invariant in omega arith

pub slice_bounds-line_feeds-count : goal.slice_bounds-line_feeds-count
slice_bounds-line_feeds-count c =
    let l = piece-shrinks c.loop-rest.rest.now c.in-Some.next.now c.in-Some.kind (sym c.in-Some.ensures) in omega arith

pub loop-rest-smaller : goal.loop-rest-smaller
loop-rest-smaller c = piece-shrinks c.loop-rest.rest.now c.in-Some.next.now c.in-Some.kind (sym c.in-Some.ensures)

pub loop-rest-preserved : goal.loop-rest-preserved
unfolding feeds piece_text token_from
loop-rest-preserved c =
    let list = c.loop-rest.list in
    elim c.match-kind.branch [
      | in-Some-kind+in_ok-push w ↦
          token-turn c.args.source.now list c.loop-rest.rest.now c.loop-rest.line c.in-Some.kind w.in-Some-kind.kind c.in-Some.next.now
          c.place-start.result c.place-end.result c.line_feeds-feeds.result c.match-kind.list
          c.loop-rest.invariant (sym c.in-Some.ensures) w.in-Some-kind.is c.place-start.ensures c.place-end.ensures c.line_feeds-feeds.ensures
          (w.list-is ∙ w.in_ok-push.ensures.ok)
      | in_default-kind w ↦
          blank-turn c.args.source.now list c.loop-rest.rest.now c.loop-rest.line c.in-Some.kind c.in-Some.next.now
          c.line_feeds-feeds.result c.match-kind.list
          c.loop-rest.invariant (sym c.in-Some.ensures) w.in_default-kind.is c.line_feeds-feeds.ensures w.list-is
    ]
