-- `packet_ack::write_front` meets its contract: its three parts, written one after the other. Assumes nothing.
use native.Mathlib.Omega.{arith}
use Rattle.packet_ack.proofs.Wrote.{front-wrote}
use Rattle.packet_ack.proofs.write_front.Goals as goal

pub returns : goal.returns
returns c =
    let w3 = c.write_varint.ensures in
    let w2 = c.write_range-b.ensures in
    let w1 = c.write_start-a.ensures in
    (omega arith, front-wrote _ _ _ _ _ w3.1 w2.0 w2.1 w1.0 w1.1)
