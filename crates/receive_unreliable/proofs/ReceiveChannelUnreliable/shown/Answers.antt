-- `ReceiveChannelUnreliable::shown` meets its contract: what is held lies within the tables and its store. Assumes nothing.
use Prim.Native.Nat.{◌<◌}
use mathlib.Core.Path.{◌≡◌, sym, ap, ◌∙◌}
use native.Mathlib.Omega.{arith}
use Rattle.std.specs.Prelude.{Some}
use Rattle.words.specs.Sizes.{SLOTS, LANES}
use Rattle.channel.specs.declared.Store.{Store}
use Rattle.channel.proofs.Good.{lane-end}
use Rattle.receive_unreliable.specs.Receive.{at-cell, at-lane, next_place}
use Rattle.receive_unreliable.specs.Steps.{held_of}
use Rattle.receive_unreliable.specs.Fields.{state_of}
use Rattle.receive_unreliable.proofs.Spots.{Lies, cell_lies, lane_lies}
use Rattle.receive_unreliable.proofs.ReceiveChannelUnreliable.shown.Goals as goal
use Rattle.receive_unreliable.proofs.ReceiveChannelUnreliable.shown.Goals.{In-Lanes, In-Small}

-- where the message is held
in_cell : (c : In-Small) → at-cell c.args.i ≡ next_place (state_of c.self.inside)
in_cell c = ap (λ (x : Store). held_of (Some (x, c.args.i))) (sym c.in-Small.is) ∙ (rw (← c.self.view_is) at c.requires)

in_lane : (c : In-Lanes) → at-lane c.args.i ≡ next_place (state_of c.self.inside)
in_lane c = ap (λ (x : Store). held_of (Some (x, c.args.i))) (sym c.in-Lanes.is) ∙ (rw (← c.self.view_is) at c.requires)

cell-low : (c : In-Small) → c.args.i < SLOTS
unfolding Lies
cell-low c = let v = c.self.invariant in omega (arith, (cell_lies _ v _ (in_cell c)).2, v.settings.slots-most)

lane_in : (c : In-Lanes) → c.args.i < c.self.inside.settings.lanes
unfolding Lies
lane_in c = (lane_lies _ c.self.invariant _ (in_lane c)).2

lane_low : (c : In-Lanes) → c.args.i < LANES
lane_low c = omega (arith, lane_in c, c.self.invariant.settings.lanes-most)

pub overflow_mul-result : goal.overflow_mul-result
overflow_mul-result c = let low = cell-low (goal.at.overflow_mul-result c).In-Small in omega arith

pub offset_bounds-self-inside-i : goal.offset_bounds-self-inside-i
offset_bounds-self-inside-i c = let low = cell-low (goal.at.offset_bounds-self-inside-i c).In-Small in omega arith

pub bounds-self-inside-i : goal.bounds-self-inside-i
bounds-self-inside-i c = cell-low (goal.at.bounds-self-inside-i c).In-Small

pub overflow_mul-result-in-Lanes-2 : goal.overflow_mul-result-in-Lanes-2
overflow_mul-result-in-Lanes-2 c = omega (arith, lane-end _ c.self.invariant.settings _ (lane_in (goal.at.overflow_mul-result-in-Lanes-2 c).In-Lanes))

pub offset_bounds-self-inside-i-in-Lanes : goal.offset_bounds-self-inside-i-in-Lanes
offset_bounds-self-inside-i-in-Lanes c = let low = lane_low (goal.at.offset_bounds-self-inside-i-in-Lanes c).In-Lanes in omega arith

pub bounds-self-inside-i-in-Lanes : goal.bounds-self-inside-i-in-Lanes
bounds-self-inside-i-in-Lanes c = lane_low (goal.at.bounds-self-inside-i-in-Lanes c).In-Lanes
