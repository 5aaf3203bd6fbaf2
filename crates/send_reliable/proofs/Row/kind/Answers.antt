-- `Row::kind` meets its contract. Assumes nothing.
use Rattle.send_reliable.proofs.Row.kind.Goals as goal

pub returns-then-self : goal.returns-then-self
returns-then-self c = rw c.if-self.true

pub returns : goal.returns
returns c = rw c.if-self.false
