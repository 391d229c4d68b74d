-- What a call that writes a text says of its sink.
use Rattle.std.specs.Prelude.{ℕ, ◌≡◌, ◌<◌, ◌≤◌, List, Option, Result, Err, OnErr, OnOk}
use Rattle.xp_base.specs.Causes.{Rose}
use Rattle.xp_base.specs.Written.{Gained, GainedPrefix}
use Rattle.xp_base.specs.declared.run_faults.RunFault.{RunFault}
use Rattle.xp_base.specs.declared.run_faults.RunFault.TheVariants.{Sink}

-- The sink, which tells what was written before and after the call and counts its faults, gained
-- the text, or a prefix of it where the answer is an error. The answer is `Sink` where the count
-- rose, and only there.
pub record Writes {T : Type 0}
    (before after : Option (List ℕ)) (faults counted : ℕ) (text : List ℕ)
    (answer : Result T RunFault) : Type 0 where
  pub ok : OnOk answer (Gained before after text)
  pub err : OnErr answer (GainedPrefix before after text)
  pub cause : answer ≡ Err Sink → Rose faults counted
  pub blamed : faults < counted → answer ≡ Err Sink
  pub never_falls : faults ≤ counted
