-- `packet_slice::write_front` meets its contract. Assumes nothing.
use borrow.Author.Rules.{rules}
use native.Mathlib.Omega.{arith}
use lib.ListN.{length-set}
use Rattle.packet_slice.proofs.Wrote.{wrote-front}
use Rattle.packet_slice.proofs.write_front.Goals as goal

pub write_varint-a-requires : goal.write_varint-a-requires
write_varint-a-requires c = record { v_bound = search rules; v_in_bounds = simp length-set (omega arith) }

pub returns : goal.returns
returns c = (omega arith, search wrote-front)
