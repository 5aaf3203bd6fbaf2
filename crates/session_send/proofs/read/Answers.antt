-- `session_send::read` meets its contract: each list is one of the two. Assumes nothing.
use Rattle.session_send.specs.Calls.{calls_of}
use Rattle.session_send.proofs.read.Goals as goal

pub returns-then-reliable : goal.returns-then-reliable
unfolding calls_of
returns-then-reliable c = rw c.if-reliable.true c.taken_apart.ensures

pub returns : goal.returns
unfolding calls_of
returns c = rw c.if-reliable.false c.taken_apart-2.ensures
