-- `packet_ack::write_lower` meets its contract. Assumes nothing.
use Rattle.packet_ack.proofs.Wrote.{pen-is}
use Rattle.packet_ack.proofs.write_lower.Goals as goal

pub returns : goal.returns
returns c = let w = c.write_range-at.ensures in (pen-is _ _ w.0, w.1)
