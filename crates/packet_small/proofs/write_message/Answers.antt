-- `packet_small::write_message` meets its contract. Assumes nothing.
use native.Mathlib.Omega.{arith}
use Rattle.packet_small.proofs.Wrote.{message-wrote}
use Rattle.packet_small.proofs.write_message.Goals as goal

pub returns : goal.returns
returns c = (omega arith, search message-wrote)
