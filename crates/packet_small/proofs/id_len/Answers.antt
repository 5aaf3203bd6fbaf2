-- `packet_small::id_len` meets its contract. Assumes nothing.
use Rattle.packet_small.proofs.id_len.Goals as goal

pub returns-then-ids : goal.returns-then-ids
returns-then-ids c = simp c.if-ids.true c.form_len.ensures
