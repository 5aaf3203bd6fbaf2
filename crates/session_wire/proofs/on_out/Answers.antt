-- `session_wire::on_out` meets its contract: by which call it is. Assumes nothing.
use mathlib.Core.Path.{refl}
use Rattle.session_wire.specs.Wire.{gets}
use Rattle.session_wire.proofs.Laws.{puts-front, writes-front}
use Rattle.session_wire.proofs.on_out.Goals as goal

pub returns-then-k-gt10 : goal.returns-then-k-gt10
returns-then-k-gt10 c = gets c.if-k-gt10.true refl c.get.ensures

pub returns-then-k-gt5 : goal.returns-then-k-gt5
returns-then-k-gt5 c = writes-front _ _ _ _ _ _ _ _ _ c.part-n.ensures.0 c.if-k-gt5.true c.if-k-gt10.false c.write.ensures

pub returns : goal.returns
returns c = puts-front _ _ _ _ _ _ _ _ _ c.part-n.ensures.0 c.if-k-gt5.false c.put.ensures
