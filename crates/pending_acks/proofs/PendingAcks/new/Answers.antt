-- `PendingAcks::new` meets its contract. Assumes nothing.
use mathlib.Core.Path.{refl}
use native.Mathlib.Omega.{arith}
use Rattle.pending_acks.specs.Gather.{filled, gatherer, Rising}
use Rattle.pending_acks.proofs.PendingAcks.new.Goals as goal

pub invariant_of-result : goal.invariant_of-result
unfolding filled gatherer Rising
invariant_of-result c = record { few = omega arith; rises = tt; whole = refl }

pub returns : goal.returns
unfolding filled gatherer Rising
returns c = (refl, record { few = omega arith; rises = tt; whole = refl })
