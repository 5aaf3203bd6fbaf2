-- `SendChannelReliable::write_visits` meets its contract. The loop's invariant: the visits to the first k rows are written. Assumes nothing.
use mathlib.Core.Path.{refl, ◌∙◌}
use native.Mathlib.Omega.{arith}
use lib.ListN.{take}
use Rattle.send_reliable.specs.Fields.{state_of}
use Rattle.send_reliable.specs.Sender.{live}
use Rattle.send_reliable.specs.Select.{visits_from}
use Rattle.send_reliable.proofs.Visits.{visits-count, rows-room, visits-few, visits-all, row-ranged, row_room, row_next}
use Rattle.send_reliable.proofs.SendChannelReliable.write_visits.Goals as goal

pub loop-k-init : goal.loop-k-init
unfolding visits_from
loop-k-init c = (refl, omega arith, refl)

pub offset_bounds-self-inside-k : goal.offset_bounds-self-inside-k
offset_bounds-self-inside-k c = let v = c.self.invariant in omega (arith, rows-room _ v, v.rows_long)

pub bounds-self-inside-k : goal.bounds-self-inside-k
bounds-self-inside-k c = let v = c.self.invariant in omega (arith, rows-room _ v, v.rows_long)

pub write_row-n-requires : goal.write_row-n-requires
write_row-n-requires c =
    let l = c.loop-k in
    let h = c.loop-k-test.true in
    let w = rw (← c.self.view_is) at l.invariant.2 in
    let s = state_of c.self.inside in
    let n = visits-count l.visits l.n (visits_from 0 (take l.k (live s))) w l.invariant.1 in
    let room = row_room s c.self.invariant l.k h in
    record { ranged = row-ranged s c.self.invariant l.k h; row_in_bounds = omega arith }

pub loop-k-preserved : goal.loop-k-preserved
loop-k-preserved c =
    let l = c.loop-k in
    let e = c.write_row-n.ensures in
    let h = c.loop-k-test.true in
    let w = rw (← c.self.view_is) at l.invariant.2 in
    let s = state_of c.self.inside in
    let n = visits-count l.visits l.n (visits_from 0 (take l.k (live s))) w l.invariant.1 in
    let room = row_room s c.self.invariant l.k h in
    (omega arith, omega arith, rw (← c.self.view_is) (row_next s c.self.invariant l.k h l.visits l.n w c.write_row-n.new.visits c.write_row-n.result e.1))

pub returns : goal.returns
returns c =
    let l = c.loop-k in
    let w = rw (← c.self.view_is) at l.invariant.2 in
    let s = state_of c.self.inside in
    let e = w ∙ visits-all s c.self.invariant l.k c.loop-k-test.false in
    let n = visits-count l.visits l.n (visits_from 0 (live s)) e l.invariant.1 in
    (omega (arith, visits-few s c.self.invariant), rw (← c.self.view_is) e)
