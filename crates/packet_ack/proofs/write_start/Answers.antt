-- `packet_ack::write_start` meets its contract. Assumes nothing.
use native.Mathlib.Omega.{arith}
use lib.ListN.{length-set}
use Rattle.packet_ack.proofs.Wrote.{start-wrote}
use Rattle.packet_ack.proofs.write_start.Goals as goal

pub write_varint-requires : goal.write_varint-requires
write_varint-requires c = simp length-set (omega arith)

pub shape_of-out : goal.shape_of-out
shape_of-out c = let l = simp length-set at c.write_varint.auto.out in omega arith

pub returns : goal.returns
returns c = (omega arith, search start-wrote)
