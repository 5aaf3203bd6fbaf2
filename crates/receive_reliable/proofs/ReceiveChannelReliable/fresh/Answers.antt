-- `ReceiveChannelReliable::fresh` meets its contract: each answer by the tests that led to it. Assumes nothing.
use Rattle.receive_reliable.specs.Fields.{state_of}
use Rattle.receive_reliable.proofs.Answers.{no-memory-left, no-lane-free, lane-free}
use Rattle.receive_reliable.proofs.ReceiveChannelReliable.fresh.Goals as goal

pub returns-then-self-num_slices : goal.returns-then-self-num_slices
returns-then-self-num_slices c = rw (← c.self.view_is) (no-memory-left (state_of c.self.inside) _ c.if-self-num_slices.true)

pub returns-then-self-free : goal.returns-then-self-free
returns-then-self-free c = rw (← c.self.view_is) (no-lane-free (state_of c.self.inside) _ c.if-self-num_slices.false _ (rw (← c.self.view_is) at c.requires.0) c.if-self-free.true)

pub returns : goal.returns
returns c = rw (← c.self.view_is) (lane-free (state_of c.self.inside) _ c.if-self-num_slices.false _ (rw (← c.self.view_is) at c.requires.0) c.if-self-free.false)
