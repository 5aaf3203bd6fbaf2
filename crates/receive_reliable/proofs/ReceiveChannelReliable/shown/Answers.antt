-- `ReceiveChannelReliable::shown` meets its contract: what is held lies within the tables and its store. Assumes nothing.
use Prim.Native.Nat.{◌<◌}
use mathlib.Core.Path.{◌≡◌, ap, ◌∙◌}
use native.Mathlib.Omega.{arith}
use Rattle.std.specs.Prelude.{Some}
use Rattle.words.specs.Sizes.{SLOTS, LANES}
use Rattle.channel.proofs.Good.{lane-end}
use Rattle.channel.specs.declared.Store.{Store}
use Rattle.channel.specs.declared.Store.TheVariants.{Small, Lanes}
use Rattle.receive_reliable.specs.Steps.{held_in}
use Rattle.receive_reliable.specs.declared.Held.TheVariants.{At}
use Rattle.receive_reliable.specs.Fields.{state_of}
use Rattle.receive_reliable.proofs.Spots.{small-held, lane-held, at-place}
use Rattle.receive_reliable.proofs.ReceiveChannelReliable.shown.Goals as goal
use Rattle.receive_reliable.proofs.ReceiveChannelReliable.shown.Goals.{In-Lanes, In-Small}

-- where the message is held
in_cell : (c : In-Small) → (let s = state_of c.self.inside in held_in s s.oldest_pending_message_id ≡ Some (At Small c.args.i))
in_cell c = at-place _ _ _ (rw (← c.self.view_is) at c.requires) ∙ ap (λ (x : Store). Some (At x c.args.i)) c.in-Small.is

in_lane : (c : In-Lanes) → (let s = state_of c.self.inside in held_in s s.oldest_pending_message_id ≡ Some (At Lanes c.args.i))
in_lane c = at-place _ _ _ (rw (← c.self.view_is) at c.requires) ∙ ap (λ (x : Store). Some (At x c.args.i)) c.in-Lanes.is

cell-low : (c : In-Small) → c.args.i < SLOTS
cell-low c = let v = c.self.invariant in omega (arith, (small-held _ _ v _ (in_cell c)).0, v.settings.slots-most)

lane_low : (c : In-Lanes) → c.args.i < LANES
lane_low c = let v = c.self.invariant in omega (arith, (lane-held _ _ v _ (in_lane c)).0, v.settings.lanes-most)

pub overflow_mul-result : goal.overflow_mul-result
overflow_mul-result c = let low = cell-low (goal.at.overflow_mul-result c).In-Small in omega arith

pub offset_bounds-self-inside-i : goal.offset_bounds-self-inside-i
offset_bounds-self-inside-i c = let low = cell-low (goal.at.offset_bounds-self-inside-i c).In-Small in omega arith

pub bounds-self-inside-i : goal.bounds-self-inside-i
bounds-self-inside-i c = cell-low (goal.at.bounds-self-inside-i c).In-Small

pub overflow_mul-result-in-Lanes-2 : goal.overflow_mul-result-in-Lanes-2
overflow_mul-result-in-Lanes-2 c = let v = c.self.invariant in omega (arith, lane-end _ v.settings _ (lane-held _ _ v _ (in_lane (goal.at.overflow_mul-result-in-Lanes-2 c).In-Lanes)).0)

pub offset_bounds-self-inside-i-in-Lanes : goal.offset_bounds-self-inside-i-in-Lanes
offset_bounds-self-inside-i-in-Lanes c = let low = lane_low (goal.at.offset_bounds-self-inside-i-in-Lanes c).In-Lanes in omega arith

pub bounds-self-inside-i-in-Lanes : goal.bounds-self-inside-i-in-Lanes
bounds-self-inside-i-in-Lanes c = lane_low (goal.at.bounds-self-inside-i-in-Lanes c).In-Lanes
