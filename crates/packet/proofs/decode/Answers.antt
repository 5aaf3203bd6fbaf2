-- `packet::decode` meets its contract: the first records of the table are lent. Assumes nothing.
use native.Mathlib.Omega.{arith}
use borrow.Author.Rules.{rules}
use lib.ListN.{length}
use mathlib.Core.Path.{◌≡◌}
use Rattle.packet_ack.specs.Ack.{RANGES}
use Rattle.packet.proofs.Parts.{lent-is, read-gives}
use Rattle.packet.proofs.decode.Goals as goal

pub returns : goal.returns
returns c =
    let k : length c.args.ranges ≡ RANGES = search rules in
    read-gives _ _ _ c.args.room _ (lent-is c.args.room c.min-n.ensures) (omega arith) c.from_bytes-answer.ensures
