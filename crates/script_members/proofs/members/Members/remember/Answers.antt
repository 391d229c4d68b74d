use Rattle.std.proofs.Common.{◌≡◌, ◌∙◌, ap, sym, subst, true, is_some}
use Rattle.script_members.specs.Remembered.{AreTrue, Answers, asked_for, is_among, meant}
use Rattle.script_members.proofs.Known.{asked-insert, copied-there, known-asked, true-insert}
use Rattle.script_members.proofs.members.Members.remember.Goals as goal

pub returns-then-is_some-clause-known : goal.returns-then-is_some-clause-known
returns-then-is_some-clause-known c =
    (λ j. is_among (sym c.self.view_is j).members (sym c.key_of-key.ensures j))
    ∙ sym (known-asked c.self.inside.known.entries c.key_of-key.result)
    ∙ ap is_some (sym c.get.ensures.value) ∙ copied-there c.get.result
    ∙ sym c.is_some.ensures ∙ c.if-is_some.true

pub invariant_of-self-2 : goal.invariant_of-self-2
invariant_of-self-2 c =
    subst (AreTrue c.self.inside.typelib.now) (sym c.in_ok-insert.ensures.entries)
    (true-insert c.self.inside.typelib.now c.self.inside.known.entries c.key_of-key.result
    c.find_member-answer.result c.self.invariant
    (subst (λ m. Answers c.self.inside.typelib.now m c.find_member-answer.result)
    (sym c.key_of-key.ensures) c.find_member-answer.ensures))

pub returns-clause-known : goal.returns-clause-known
returns-clause-known c =
    subst (λ m. is_among (asked_for c.insert.new.self.entries) m ≡ true) c.key_of-key.ensures
    (subst (λ es. is_among (asked_for es) (meant c.key_of-key.result) ≡ true)
    (sym c.in_ok-insert.ensures.entries)
    (asked-insert c.self.inside.known.entries c.key_of-key.result c.find_member-answer.result))
