use Rattle.std.proofs.Common.{ap, length, sym, ◌∙◌}
use Rattle.script_meaning.specs.Enters.{pushed_this}
use Rattle.entered_frames.proofs.Entered.{four-pushed}
use Rattle.entered_frames.proofs.items.pushed_len.Goals as goal

pub returns-in-I386-clause-len : goal.returns-in-I386-clause-len
returns-in-I386-clause-len c = λ this.
    sym (ap (λ conv. length (pushed_this conv this)) c.in-I386.is ∙ four-pushed this)

pub returns-in-Aapcs32-clause-len : goal.returns-in-Aapcs32-clause-len
returns-in-Aapcs32-clause-len c = λ this.
    sym (ap (λ conv. length (pushed_this conv this)) c.in-Aapcs32.is ∙ four-pushed this)
