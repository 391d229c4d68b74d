use Rattle.std.proofs.Common.{◌≡◌, ◌∙◌, true, false, sym, subst}
use Rattle.xp_base.specs.Files.{file_in}
use Rattle.include_closure.specs.Closure.{has_room}
use Rattle.include_closure.proofs.FetchLaws.{long-told, short-told}
use Rattle.include_closure.proofs.files.fetch_short.Goals as goal

pub returns-then-has_room-clause-ok : goal.returns-then-has_room-clause-ok
returns-then-has_room-clause-ok g c told t =
    let found = sym c.in-Found.is ∙ c.in_ok-bytes.ensures.content told t in
    let room = subst (λ bytes. has_room c.args.size bytes ≡ true) c.as_slice.ensures (sym c.has_room.ensures ∙ c.if-has_room.true) in
    record { there = short-told (file_in told c.args.name.now) c.args.size c.in-Found.bytes found room; room = room }

pub returns-else-has_room-clause-err : goal.returns-else-has_room-clause-err
returns-else-has_room-clause-err g c told t =
    let found = sym c.in-Found.is ∙ c.in_ok-bytes.ensures.content told t in
    let room = subst (λ bytes. has_room c.args.size bytes ≡ false) c.as_slice.ensures (sym c.has_room.ensures ∙ c.if-has_room.false) in
    long-told (file_in told c.args.name.now) c.args.size c.in-Found.bytes found room
