-- `PendingAcks::to_bytes` meets its contract: the ranges are lent to the writer of acknowledgements. Assumes nothing.
use Rattle.pending_acks.proofs.Packets.{packet-wrote}
use Rattle.pending_acks.proofs.PendingAcks.to_bytes.Goals as goal

pub returns : goal.returns
returns c = rw (← c.self.view_is) (packet-wrote _ c.self.invariant _ _ _ c.put_ack.ensures)
