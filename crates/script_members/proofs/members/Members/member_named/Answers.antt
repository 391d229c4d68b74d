use Rattle.std.proofs.Common.{◌≡◌, ◌∙◌, ap, sym, subst, Some, Ok, Err, true, is_some}
use Rattle.std.specs.Option.{option_copied}
use Rattle.std.specs.Result.{result_copied}
use Rattle.std.specs.Map.{lookup}
use Rattle.script_members.specs.Remembered.{Answers, Remembered, asked_for, is_among, meant}
use Rattle.script_members.proofs.Known.{is-there, known-asked, same_key, true-answer}
use Rattle.script_members.proofs.members.Members.member_named.Goals as goal

pub unwrap-requires : goal.unwrap-requires
unwrap-requires c =
    let asked : is_among (asked_for c.self.inside.known.entries) (meant c.key_of.result) ≡ true =
    (λ j. is_among (c.self.view_is j).members (c.key_of.ensures j)) ∙ c.requires in
    is-there c.get.result (ap is_some c.get.ensures.value ∙ known-asked c.self.inside.known.entries c.key_of.result ∙ asked)

pub returns-in-Ok : goal.returns-in-Ok
returns-in-Ok c =
    let found : lookup (same_key c.key_of.result) c.self.inside.known.entries
    ≡ Some (Ok c.in-Ok.found.now) =
    sym c.get.ensures.value ∙ ap option_copied c.unwrap.ensures
    ∙ ap Some (sym c.as_ref.ensures.value ∙ ap result_copied c.in-Ok.is) in
    let all : Answers c.self.inside.typelib.now (meant c.key_of.result) (Ok c.in-Ok.found.now) =
    true-answer c.self.inside.typelib.now c.self.inside.known.entries c.key_of.result _
    c.self.invariant found in
    let lib : c.self.inside.typelib.now ≡ c.args.self.now.library =
    ap (λ (r : Remembered). r.library) c.self.view_is in
    let is : Answers c.args.self.now.library c.args.member.now (Ok c.in-Ok.found.now) =
    subst (λ l. Answers l c.args.member.now (Ok c.in-Ok.found.now)) lib
    (subst (λ m. Answers c.self.inside.typelib.now m (Ok c.in-Ok.found.now)) c.key_of.ensures all) in
    record { member = is.is; library = is.library; slot = is.slot }

pub returns-in-Err : goal.returns-in-Err
returns-in-Err c =
    let found : lookup (same_key c.key_of.result) c.self.inside.known.entries
    ≡ Some (Err c.in-Err.refusal.now) =
    sym c.get.ensures.value ∙ ap option_copied c.unwrap.ensures
    ∙ ap Some (sym c.as_ref.ensures.value ∙ ap result_copied c.in-Err.is) in
    let all : Answers c.self.inside.typelib.now (meant c.key_of.result) (Err c.in-Err.refusal.now) =
    true-answer c.self.inside.typelib.now c.self.inside.known.entries c.key_of.result _
    c.self.invariant found in
    let is : Answers c.args.self.now.library c.args.member.now (Err c.in-Err.refusal.now) =
    subst (λ l. Answers l c.args.member.now (Err c.in-Err.refusal.now))
    (ap (λ (r : Remembered). r.library) c.self.view_is)
    (subst (λ m. Answers c.self.inside.typelib.now m (Err c.in-Err.refusal.now)) c.key_of.ensures all)
    in
    record { member = is; library = tt; slot = tt }
