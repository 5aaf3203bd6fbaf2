-- `SendChannelReliable::select` meets its contract. The loop's invariant: after v visits the code has chosen what the definition reaches.
-- Assumes nothing.
use Prim.Native.Nat.{◌≤◌}
use mathlib.Core.Path.{◌≡◌}
use native.Mathlib.Omega.{arith}
use Rattle.send_reliable.specs.Fields.{state_of}
use Rattle.send_reliable.specs.Sender.{live}
use Rattle.send_reliable.specs.Select.{visits_from}
use Rattle.send_reliable.proofs.Select.{begun}
use Rattle.send_reliable.proofs.Rounds.{from_now, none-chosen, visitable, one-more, all-chosen}
use Rattle.send_reliable.proofs.SendChannelReliable.select.Goals as goal
use Rattle.send_reliable.proofs.SendChannelReliable.select.Goals.{After-self}

-- the fields before the clock moves on, and the visits by them
visits : (c : After-self) → c.args.visits.now ≡ visits_from 0 (live (state_of c.self.inside))
visits c = rw (← c.self.view_is) at c.requires.visits_value

in_time : (c : After-self) → c.self.inside.latest ≤ c.args.current_time
in_time c = rw (← c.self.view_is) at c.requires.latest_le_current_time

pub invariant_of-self : goal.invariant_of-self
invariant_of-self c = begun (state_of c.self.inside) c.args.current_time c.self.invariant (in_time (goal.at.invariant_of-self c).After-self) 0

pub loop-v-init : goal.loop-v-init
loop-v-init c = let a = c.args in none-chosen (from_now (state_of c.self.inside) a.current_time) a.current_time a.allowance a.items.now

pub visit-chosen-requires : goal.visit-chosen-requires
visit-chosen-requires c =
    let a = c.args in
    let l = c.loop-v in
    let w = l.invariant in
    let o = (goal.at.visit-chosen-requires c).After-self in
    record {
      here = (visitable (state_of c.self.inside) c.self.invariant a.current_time a.allowance (in_time o) a.visits.now (visits o) _ l.v l.chosen l.self l.items w c.loop-v-test.true).within;
      in_bounds = omega (arith, w.few, w.long, c.loop-v-test.true, c.requires.in_bounds);
    }

pub loop-v-preserved : goal.loop-v-preserved
loop-v-preserved c =
    let a = c.args in
    let l = c.loop-v in
    let o = (goal.at.loop-v-preserved c).After-self in
    one-more (state_of c.self.inside) c.self.invariant a.current_time a.allowance (in_time o) a.visits.now (visits o) _ l.v l.chosen l.self l.items l.invariant c.loop-v-test.true _ _ _ c.visit-chosen.ensures

pub shape_of-items : goal.shape_of-items
shape_of-items c = c.loop-v.invariant.long

pub returns : goal.returns
returns c =
    let a = c.args in
    let l = c.loop-v in
    let o = (goal.at.returns c).After-self in
    rw (← c.self.view_is)
    (all-chosen (state_of c.self.inside) c.self.invariant a.current_time a.allowance (in_time o) a.visits.now (visits o) _ l.v l.chosen l.self l.items l.invariant c.loop-v-test.false (omega arith) c.requires.in_bounds)
