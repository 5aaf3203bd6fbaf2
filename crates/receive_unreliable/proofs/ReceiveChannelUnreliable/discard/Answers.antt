-- `ReceiveChannelUnreliable::discard` meets its contract: what is taken off is part of the usage. Assumes nothing.
use Rattle.receive_unreliable.specs.Receive.{without_open}
use Rattle.receive_unreliable.proofs.Valid.{lane-used, without-open-valid}
use Rattle.receive_unreliable.proofs.ReceiveChannelUnreliable.discard.Goals as goal

pub overflow_sub-self : goal.overflow_sub-self
overflow_sub-self c = lane-used _ c.self.invariant _ c.requires.0

pub invariant_of-self : goal.invariant_of-self
unfolding without_open
invariant_of-self c = rw c.blank.ensures.0 (without-open-valid _ c.self.invariant _ c.requires.0 (rw (← c.self.view_is) at c.requires.1))

pub returns : goal.returns
unfolding without_open
returns c = rw (c.blank.ensures.0, ← c.self.view_is)
