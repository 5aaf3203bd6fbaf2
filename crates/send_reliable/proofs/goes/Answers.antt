-- `send_reliable::goes` meets its contract. Assumes nothing.
use borrow.Author.Tests.{lt-ltb, le-ltb, lt-leb}
use Rattle.send_reliable.proofs.goes.Goals as goal

pub returns-then-need-left : goal.returns-then-need-left
returns-then-need-left c = rw (le-ltb _ _ c.if-need-left.true) c.is_due.ensures

pub returns-else-need-left : goal.returns-else-need-left
returns-else-need-left c = rw (lt-ltb _ _ c.if-need-left.false) (lt-leb _ _ c.if-need-left.false)
