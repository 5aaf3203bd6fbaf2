-- `packet::encode` meets its contract: the first records of the table are lent. Assumes nothing.
use Rattle.packet.proofs.Parts.{lent-is}
use Rattle.packet.proofs.encode.Goals as goal

pub returns : goal.returns
returns c = rw (← lent-is c.args.held c.min-n.ensures) c.to_bytes.ensures
