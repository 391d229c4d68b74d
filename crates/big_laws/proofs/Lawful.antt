-- The texts of `big` are lawful.
use Rattle.std.proofs.Common.{◌≤◌, ℕ}
use Rattle.big_laws.specs.Lawful.{BigIsLawful}
use Rattle.big_laws.proofs.Limits.{accepted}
use Rattle.big_laws.proofs.Meant.{all_lawful, closed}
use Rattle.big_laws.proofs.Scripted.{script_read, script_short}

pub big_lawful : (last : ℕ) → last ≤ 249 → BigIsLawful last
big_lawful last few =
    let read = script_read last few in
    record {
      closed = closed last few;
      lawful = all_lawful last few;
      accepted = accepted last few;
      script = read.0;
      spelled = read.1;
      short = script_short last few;
    }
