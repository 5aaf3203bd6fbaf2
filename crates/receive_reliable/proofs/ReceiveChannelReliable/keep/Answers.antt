-- `ReceiveChannelReliable::keep` meets its contract: the lane's entries are the definition's. Assumes nothing.
use native.Mathlib.Omega.{arith}
use Prim.Native.Nat.{◌<◌}
use Rattle.words.specs.Sizes.{LANES}
use Rattle.receive_reliable.specs.Receive.{with_lane_of}
use Rattle.receive_reliable.specs.Steps.{Fits}
use Rattle.receive_reliable.specs.Fields.{state_of}
use Rattle.receive_reliable.proofs.Valid.{lane-used, lane-valid}
use Rattle.receive_reliable.proofs.ReceiveChannelReliable.keep.Goals as goal
use Rattle.receive_reliable.proofs.ReceiveChannelReliable.keep.Goals.{After-self}

-- the constructor may go on in the lane
fine : (c : After-self) → (let a = c.args in Fits (state_of c.self.inside) a.l a.id a.constructor)
fine c = rw (← c.self.view_is) at c.requires

low : (c : After-self) → c.args.l < LANES
low c = omega (arith, (fine c).low, c.self.invariant.settings.lanes-most)

pub offset_bounds-self-inside-l : goal.offset_bounds-self-inside-l
offset_bounds-self-inside-l c = let h = low (goal.at.offset_bounds-self-inside-l c).After-self in omega arith

pub overflow_sub-self : goal.overflow_sub-self
overflow_sub-self c = lane-used _ c.self.invariant _ (low (goal.at.overflow_sub-self c).After-self)

pub invariant_of-self : goal.invariant_of-self
unfolding with_lane_of
invariant_of-self c = rw c.keep-kept.ensures (lane-valid _ c.self.invariant _ _ _ (fine (goal.at.invariant_of-self c).After-self))

pub returns : goal.returns
unfolding with_lane_of
returns c = rw (c.keep-kept.ensures, ← c.self.view_is)
