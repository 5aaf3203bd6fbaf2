-- `ReceiveChannelUnreliable::locate` meets its contract: by the search. Assumes nothing.
use borrow.Author.Tests.{lt-ltb, le-ltb}
use Rattle.receive_unreliable.specs.Steps.{opened_by}
use Rattle.receive_unreliable.proofs.ReceiveChannelUnreliable.locate.Goals as goal

pub returns-then-lane-ge-LANES : goal.returns-then-lane-ge-LANES
unfolding opened_by
returns-then-lane-ge-LANES c = rw (← c.self.view_is, ← c.find-lane.ensures, le-ltb _ _ c.if-lane-ge-LANES.true)

pub returns : goal.returns
unfolding opened_by
returns c = rw (← c.self.view_is, ← c.find-lane.ensures, lt-ltb _ _ c.if-lane-ge-LANES.false)
