-- `packet_small::write_id` meets its contract. Assumes nothing.
use native.Mathlib.Omega.{arith}
use mathlib.Core.Path.{refl}
use Rattle.words.specs.Lists.{splice}
use Rattle.packet_small.proofs.write_id.Goals as goal

-- `packet_small::write_id` meets its contract. Assumes nothing.
pub write_varint-requires : goal.write_varint-requires
write_varint-requires c = let r = simp c.if-ids.true at c.requires in record { v_bound = r.id_bound; v_in_bounds = r.id_in_bounds }

pub returns-then-ids : goal.returns-then-ids
returns-then-ids c = simp c.if-ids.true c.write_varint.ensures

pub returns : goal.returns
unfolding splice
returns c = simp c.if-ids.false (omega arith, refl)
