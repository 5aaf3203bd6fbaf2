-- `Range::is_sayable` meets its contract. Assumes nothing.
use borrow.Author.Tests.{le-ltb, lt-ltb}
use Rattle.packet_ack.proofs.Range.is_sayable.Goals as goal

pub returns-then-self-lt-LIMIT : goal.returns-then-self-lt-LIMIT
returns-then-self-lt-LIMIT c = simp (lt-ltb _ _ c.if-self-lt-LIMIT.true)

pub returns-else-self-lt-LIMIT : goal.returns-else-self-lt-LIMIT
returns-else-self-lt-LIMIT c = simp (le-ltb _ _ c.if-self-lt-LIMIT.false)
