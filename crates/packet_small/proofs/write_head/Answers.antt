-- `packet_small::write_head` meets its contract. Assumes nothing.
use lib.ListN.{length-set}
use native.Mathlib.Omega.{arith}
use Rattle.packet_small.proofs.Wrote.{head-wrote}
use borrow.Author.Rules.{rules}
use Rattle.packet_small.proofs.write_head.Goals as goal

pub write_varint-a-requires : goal.write_varint-a-requires
write_varint-a-requires c = record { v_bound = search rules; v_in_bounds = simp length-set (omega arith) }

pub bounds-out-a : goal.bounds-out-a
bounds-out-a c = let l = simp length-set at c.write_varint-a.auto.out in omega arith

pub write_u16-requires : goal.write_u16-requires
write_u16-requires c = let l = simp length-set at c.write_varint-a.auto.out in simp length-set (omega arith)

pub shape_of-out : goal.shape_of-out
shape_of-out c = let l = simp length-set at c.write_varint-a.auto.out in let k = simp length-set at c.write_u16.auto.out in omega arith

pub returns : goal.returns
returns c =
    let v = c.write_varint-a.ensures in
    (omega arith, head-wrote _ _ _ _ _ _ c.write_u16.ensures.1 v.0 v.1 c.type_byte.ensures)
