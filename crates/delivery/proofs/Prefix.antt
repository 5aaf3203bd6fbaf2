-- Demand 3: what is handed out is always a beginning of what was queued. Assumes nothing.
use Rattle.delivery.specs.World.{new}
use Rattle.delivery.specs.Statements.{Prefix}
use Rattle.delivery.proofs.Good.{new-good, run-good}

pub in_order : Prefix
in_order u a evs = (run-good evs (new u) (new-good u a)).prefix
