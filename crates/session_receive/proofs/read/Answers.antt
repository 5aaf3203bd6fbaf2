-- `session_receive::read` meets its contract: the line is taken apart by the list of its receiver. Assumes nothing.
use Rattle.session_receive.proofs.read.Goals as goal

pub returns-then-reliable : goal.returns-then-reliable
returns-then-reliable c = rw c.if-reliable.true c.taken_apart.ensures

pub returns : goal.returns
returns c = rw c.if-reliable.false c.taken_apart-2.ensures
