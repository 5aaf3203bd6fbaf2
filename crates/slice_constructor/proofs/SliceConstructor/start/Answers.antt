-- `SliceConstructor::start` meets its contract. Assumes nothing.
use Rattle.slice_constructor.proofs.SliceConstructor.start.Goals as goal

pub returns-then-fresh : goal.returns-then-fresh
returns-then-fresh c = rw c.if-fresh.true c.empty.ensures
