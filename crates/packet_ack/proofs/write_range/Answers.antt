-- `packet_ack::write_range` meets its contract. Assumes nothing.
use native.Mathlib.Omega.{arith}
use Rattle.packet_ack.proofs.Wrote.{range-wrote}
use Rattle.packet_ack.proofs.write_range.Goals as goal

pub returns : goal.returns
returns c = (omega arith, search range-wrote)
