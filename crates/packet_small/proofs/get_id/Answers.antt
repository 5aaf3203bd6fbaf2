-- `packet_small::get_id` meets its contract. Assumes nothing.
use mathlib.Core.Path.{refl}
use Rattle.packet_small.proofs.get_id.Goals as goal

pub returns-then-ids : goal.returns-then-ids
returns-then-ids c = simp c.if-ids.true c.get_varint.ensures

pub returns : goal.returns
returns c = simp c.if-ids.false refl
