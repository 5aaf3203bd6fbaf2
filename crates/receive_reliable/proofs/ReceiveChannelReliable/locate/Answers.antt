-- `ReceiveChannelReliable::locate` meets its contract: each answer by the tests that led to it. Assumes nothing.
use borrow.Author.Tests.{lt-ltb, le-ltb}
use Rattle.receive_reliable.specs.Steps.{held_by_of}
use Rattle.receive_reliable.proofs.ReceiveChannelReliable.locate.Goals as goal

pub returns-then-cell-lt-SLOTS : goal.returns-then-cell-lt-SLOTS
unfolding held_by_of
returns-then-cell-lt-SLOTS c = rw (← c.self.view_is, ← c.find-cell.ensures, lt-ltb _ _ c.if-cell-lt-SLOTS.true)

pub returns-then-lane-ge-LANES : goal.returns-then-lane-ge-LANES
unfolding held_by_of
returns-then-lane-ge-LANES c = rw (← c.self.view_is, ← c.find-cell.ensures, le-ltb _ _ c.if-cell-lt-SLOTS.false, ← c.find-lane.ensures, le-ltb _ _ c.if-lane-ge-LANES.true)

pub returns-then-self-lane : goal.returns-then-self-lane
unfolding held_by_of
returns-then-self-lane c = rw (← c.self.view_is, ← c.find-cell.ensures, le-ltb _ _ c.if-cell-lt-SLOTS.false, ← c.find-lane.ensures, lt-ltb _ _ c.if-lane-ge-LANES.false, c.if-self-lane.true)

pub returns : goal.returns
unfolding held_by_of
returns c = rw (← c.self.view_is, ← c.find-cell.ensures, le-ltb _ _ c.if-cell-lt-SLOTS.false, ← c.find-lane.ensures, lt-ltb _ _ c.if-lane-ge-LANES.false, c.if-self-lane.false)
