-- `PendingAcks::count` meets its contract. Assumes nothing.
use mathlib.Core.Path.{sym}
use Rattle.pending_acks.proofs.Valid.{count-is}
use Rattle.pending_acks.proofs.PendingAcks.count.Goals as goal

pub returns : goal.returns
returns c = rw (← c.self.view_is) (sym (count-is _ c.self.invariant))
