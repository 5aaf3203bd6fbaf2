-- `ReceiveChannelReliable::process_slice` meets its contract: its lane's constructor is given the piece. Assumes nothing.
use Prim.Native.Nat.{◌<◌}
use Rattle.std.proofs.Common.{rules}
use mathlib.Core.Path.{ap, ◌∙◌}
use native.Mathlib.Omega.{arith}
use Rattle.std.specs.Prelude.{Ok}
use Rattle.words.specs.Sizes.{LANES}
use Rattle.words.proofs.Tables.{part-size}
use Rattle.channel.proofs.Good.{lane-end}
use Rattle.receive_reliable.specs.declared.Arrival.{Arrival}
use Rattle.receive_reliable.specs.Fields.{state_of}
use Rattle.receive_reliable.proofs.Gives.{InLane, lane-told, slice-left, lane_inside, lane_low, within, starts, slice-refused, taken-fits, slice_taken}
use Rattle.receive_reliable.proofs.ReceiveChannelReliable.process_slice.Goals as goal
use Rattle.receive_reliable.proofs.ReceiveChannelReliable.process_slice.Goals.{After-lane_for-place}

-- the lane that the piece goes to
in_lane : (c : After-lane_for-place) → (let a = c.args in let p = c.lane_for-place.result in
    InLane (state_of c.self.inside) a.message_id.0 a.num_slices a.slice_index.0 a.payload.now a.small.now a.lanes.now p.lane p.fresh)
in_lane c =
    record {
      valid = c.self.invariant;
      spot =
          lane-told _ _ _ _ _ c.slice_answer-answer.result c.open_lane.ensures c.lane_for-place.ensures (rw (← c.self.view_is) at c.slice_answer-answer.ensures)
          (c.in-Ok-Taken.is ∙ ap (λ (x : Arrival). Ok x) (rw c.in-Ok-Taken.is at c.in-Ok-Taken.field-0-is));
    }

low : (c : After-lane_for-place) → c.lane_for-place.result.lane < LANES
low c = lane_low (in_lane c)

pub offset_bounds-self-inside-l : goal.offset_bounds-self-inside-l
offset_bounds-self-inside-l c = let h = low (goal.at.offset_bounds-self-inside-l c).After-lane_for-place in omega arith

pub bounds-self-inside-l : goal.bounds-self-inside-l
bounds-self-inside-l c = low (goal.at.bounds-self-inside-l c).After-lane_for-place

pub start-constructor-requires : goal.start-constructor-requires
start-constructor-requires c = starts (in_lane (goal.at.start-constructor-requires c).After-lane_for-place)

pub overflow_mul-size : goal.overflow_mul-size
overflow_mul-size c = omega (arith, c.self.invariant.settings.pieces-most)

pub overflow_mul-start : goal.overflow_mul-start
overflow_mul-start c =
    let v = c.self.invariant in
    omega (arith, lane-end _ v.settings _ (lane_inside (in_lane (goal.at.overflow_mul-start c).After-lane_for-place)))

pub overflow_add-end : goal.overflow_add-end
overflow_add-end c =
    let v = c.self.invariant in
    omega (arith, lane-end _ v.settings _ (lane_inside (in_lane (goal.at.overflow_add-end c).After-lane_for-place)))

pub slice_bounds-process_slice-end : goal.slice_bounds-process_slice-end
slice_bounds-process_slice-end c = omega (arith, within (in_lane (goal.at.slice_bounds-process_slice-end c).After-lane_for-place))

pub slice_answer-answer-requires : goal.slice_answer-answer-requires
slice_answer-answer-requires c = (c.locate-held.ensures, rw (← c.self.view_is) c.lowest_free-free.ensures)

pub returns-in-Err : goal.returns-in-Err
returns-in-Err c = rw (← c.self.view_is) (slice-refused (in_lane (goal.at.returns-in-Err c).After-lane_for-place) _ _ c.start-constructor.ensures _ (part-size _ _) _ _ c.process_slice-collected.ensures _ c.in-Err.is)

pub keep-requires : goal.keep-requires
keep-requires c =
    rw (← c.self.view_is)
    (taken-fits (in_lane (goal.at.keep-requires c).After-lane_for-place) _ _ c.start-constructor.ensures _ (part-size _ _) _ _ c.process_slice-collected.ensures c.in_default-answer.not-Err)

pub returns : goal.returns
returns c =
    rw (← c.self.view_is)
    (slice_taken (in_lane (goal.at.returns c).After-lane_for-place) _ _ c.start-constructor.ensures _ (part-size _ _) _ _ c.process_slice-collected.ensures c.in_default-answer.not-Err _ (rw (← c.self.view_is) at c.keep.ensures))

pub returns-in_default : goal.returns-in_default
returns-in_default c = slice-left _ (rw c.self.view_is at c.self.invariant) _ _ _ _ _ _ _ c.slice_answer-answer.result c.slice_answer-answer.ensures (λ x. search rules)

pub listed : goal.listed
listed c = let v = c.self.invariant in omega (arith, low (goal.at.listed c).After-lane_for-place, v.constructors-long)
