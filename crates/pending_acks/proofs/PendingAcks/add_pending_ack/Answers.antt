-- `PendingAcks::add_pending_ack` meets its contract: by the spot that was found. Assumes nothing.
use Rattle.pending_acks.proofs.Adding.{add-refused, add_done}
use Rattle.pending_acks.proofs.PendingAcks.add_pending_ack.Goals as goal

pub returns-then-x-ge-LIMIT : goal.returns-then-x-ge-LIMIT
returns-then-x-ge-LIMIT c = add-refused _ (rw c.self.view_is at c.self.invariant) _ c.if-x-ge-LIMIT.true

pub returns : goal.returns
returns c = add_done _ (rw c.self.view_is at c.self.invariant) _ c.if-x-ge-LIMIT.false c.take_up.ensures
