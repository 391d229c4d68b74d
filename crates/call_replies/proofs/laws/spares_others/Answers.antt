use Rattle.call_replies.specs.Writes.{after_writes, planned}
use Rattle.call_replies.proofs.Lawful.{keeps-writes, rest-stays}
use Rattle.call_replies.proofs.Spared.{others-stay}
use Rattle.call_replies.proofs.laws.spares_others.Goals as goal

pub returns : goal.returns
returns c = λ m call rule values.
    (λ address misses. others-stay m m.conv call rule values address misses, rest-stays m (after_writes m (planned m.conv call rule values)) (keeps-writes m (planned m.conv call rule values)))
