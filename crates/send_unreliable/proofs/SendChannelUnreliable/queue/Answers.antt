-- `SendChannelUnreliable::queue` meets its contract: the cell or the lane has room for the message. Assumes nothing.
use mathlib.Core.Path.{◌≡◌, sym, ap, ◌∙◌}
use native.Mathlib.Omega.{arith}
use lib.ListN.{length}
use Rattle.std.proofs.lemmas.Result.{err_from_is_err_and}
use Rattle.std.specs.Prelude.{Ok, Some}
use Rattle.channel.proofs.Good.{lane-end, lane-within}
use Rattle.send_unreliable.specs.Fields.{state_of}
use Rattle.send_unreliable.specs.Sender.{cell, lane, spot_of}
use Rattle.send_unreliable.specs.Steps.{place_of}
use Rattle.send_unreliable.proofs.Spots.{spot-cell, spot-lane}
use Rattle.send_unreliable.proofs.Gives.{PutFor, put-cell, put-lane, queue-dropped, queue-refused}
use Rattle.send_unreliable.proofs.SendChannelUnreliable.queue.Goals as goal
use Rattle.send_unreliable.proofs.SendChannelUnreliable.queue.Goals.{In-Cell, In-Lane, Joined-place, in-Cell, in-Lane}

-- the spot of the message
to_cell : (c : In-Cell) → (let a = c.args in spot_of (state_of c.self.inside) (length a.message.now) (length a.small.now) (length a.lanes.now) ≡ cell)
to_cell c = rw (← c.self.view_is) at (sym c.find_place.ensures ∙ ap place_of (c.in_ok-found.was ∙ ap Ok (c.in-Some.is ∙ ap Some c.in-Cell.is)))

to-lane : (c : In-Lane) → (let a = c.args in spot_of (state_of c.self.inside) (length a.message.now) (length a.small.now) (length a.lanes.now) ≡ lane)
to-lane c = rw (← c.self.view_is) at (sym c.find_place.ensures ∙ ap place_of (c.in_ok-found.was ∙ ap Ok (c.in-Some.is ∙ ap Some c.in-Lane.is)))

pub write_bytes-self-inside-requires : goal.write_bytes-self-inside-requires
write_bytes-self-inside-requires c =
    let p = spot-cell _ _ _ _ (to_cell (goal.at.write_bytes-self-inside-requires c).In-Cell) in
    omega (arith, p.fits.small-room, p.free, p.short)

pub overflow_mul-l : goal.overflow_mul-l
overflow_mul-l c =
    let v = c.self.invariant in
    record { fits = omega (arith, lane-end _ v.settings _ (spot-lane _ _ _ _ (to-lane (goal.at.overflow_mul-l c).In-Lane)).free) }

pub write_bytes-self-inside-requires-in-Lane : goal.write_bytes-self-inside-requires-in-Lane
write_bytes-self-inside-requires-in-Lane c =
    let s = c.self.inside in
    let p = spot-lane _ _ _ _ (to-lane (goal.at.write_bytes-self-inside-requires-in-Lane c).In-Lane) in
    omega (arith, lane-within s.settings s.sliced p.free, p.fits.lanes-room, p.fits.long)

-- where the arms meet: all but the queue is as queueing gives it
put : (c : Joined-place) → (let a = c.args in let m = c.match-place in PutFor (state_of c.self.inside) a.message.now a.small.now a.lanes.now (state_of m.self-inside) m.small m.lanes)
put c =
    let a = c.args in
    let s = state_of c.self.inside in
    let v = c.self.invariant in
    elim c.match-place.branch [
      | in-Cell w ↦
          let h = rw (← c.self.view_is) at (sym c.find_place.ensures ∙ ap place_of (c.in_ok-found.was ∙ ap Ok (c.in-Some.is ∙ ap Some w.in-Cell.is))) in
          rw (w.small-is, w.lanes-is, w.self-inside-is) (put-cell s v a.message.now a.small.now a.lanes.now _ h w.write_bytes-self-inside.ensures.1)
      | in-Lane w ↦
          let h = rw (← c.self.view_is) at (sym c.find_place.ensures ∙ ap place_of (c.in_ok-found.was ∙ ap Ok (c.in-Some.is ∙ ap Some w.in-Lane.is))) in
          rw (w.small-is, w.lanes-is, w.self-inside-is) (put-lane s v a.message.now a.small.now a.lanes.now _ h w.write_bytes-self-inside-in-Lane.ensures.1)
    ]

pub returns-in_err-found : goal.returns-in_err-found
returns-in_err-found c =
    let p = err_from_is_err_and c.from_residual.result c.from_residual.ensures.1 in
    rw (p.1, p.2) (queue-refused _ (rw c.self.view_is at c.self.invariant) _ _ _ _ (sym c.find_place.ensures ∙ ap place_of c.in_err-found.was))

pub returns-in_default : goal.returns-in_default
returns-in_default c = queue-dropped _ (rw c.self.view_is at c.self.invariant) _ _ _ (sym c.find_place.ensures ∙ ap place_of (c.in_ok-found.was ∙ ap Ok c.in_default.is))

pub offset_bounds-self-inside-self-inside : goal.offset_bounds-self-inside-self-inside
offset_bounds-self-inside-self-inside c = omega (arith, (put c).low)

pub bounds-self-inside-self-inside : goal.bounds-self-inside-self-inside
bounds-self-inside-self-inside c = (put (goal.at.bounds-self-inside-self-inside c).Joined-place).low

pub invariant_of-self : goal.invariant_of-self
invariant_of-self c = (put (goal.at.invariant_of-self c).Joined-place).gives.valid

pub returns : goal.returns
returns c = rw (← c.self.view_is) (put (goal.at.returns c).Joined-place).gives
