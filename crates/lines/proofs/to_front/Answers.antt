-- `lines::to_front` meets its contract. Assumes nothing.
use Rattle.lines.proofs.Front.{moved}
use Rattle.lines.proofs.to_front.Goals as goal

pub returns : goal.returns
returns c = moved _ _ _ _ _ _ c.min-end.ensures c.min-start.ensures c.copy_within.ensures.after
