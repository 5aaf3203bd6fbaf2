-- `lines::Lines::refill` meets its contract. Assumes nothing.
use Rattle.lines.proofs.Steps.{refilled}
use Rattle.lines.proofs.Lines.refill.Goals as goal

pub returns : goal.returns
returns c = refilled _ _ _ _ _ c.read_full-got.new.buf _ c.to_front-n.ensures c.read_full-got.ensures.0
