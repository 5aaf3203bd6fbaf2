-- `ReceiveChannelUnreliable::fresh` meets its contract: each answer by the tests that led to it. Assumes nothing.
use mathlib.Core.Path.{◌≡◌}
use borrow.Author.Tests.{lt-ltb, le-ltb, le-leb, lt-leb}
use Rattle.words.specs.Lists.{lowest_free_of}
use Rattle.receive_unreliable.specs.Receive.{fresh_lane}
use Rattle.receive_unreliable.proofs.ReceiveChannelUnreliable.fresh.Goals as goal
use Rattle.receive_unreliable.proofs.ReceiveChannelUnreliable.fresh.Goals.{After-self}

-- the lowest free lane
here : (c : After-self) → c.args.free ≡ lowest_free_of c.self.inside.lanes c.self.inside.settings.lanes
here c = (rw (← c.self.view_is) at c.requires).0

pub returns-then-self-num_slices : goal.returns-then-self-num_slices
unfolding fresh_lane
returns-then-self-num_slices c = rw (← c.self.view_is, lt-ltb _ _ c.if-self-num_slices.true)

pub returns-then-self-free : goal.returns-then-self-free
unfolding fresh_lane
returns-then-self-free c = rw (← c.self.view_is, le-ltb _ _ c.if-self-num_slices.false, ← here (goal.at.returns-then-self-free c).After-self, le-leb _ _ c.if-self-free.true)

pub returns : goal.returns
unfolding fresh_lane
returns c = rw (← c.self.view_is, le-ltb _ _ c.if-self-num_slices.false, ← here (goal.at.returns c).After-self, lt-leb _ _ c.if-self-free.false)
