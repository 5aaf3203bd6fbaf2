-- `session_wire::decoded` meets its contract: by what `read` leaves in the lent fronts. Assumes nothing.
use Rattle.session_wire.proofs.Laws.{decodes-fronts}
use Rattle.session_wire.proofs.decoded.Goals as goal

pub returns : goal.returns
returns c = decodes-fronts c.args.e _ _ _ _ _ _ _ _ _ _ c.part-m.ensures.0 c.part-r.ensures.0 c.read-d.ensures c.decoded.ensures
