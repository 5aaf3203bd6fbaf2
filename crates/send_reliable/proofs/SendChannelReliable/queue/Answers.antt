-- `SendChannelReliable::queue` meets its contract: the cell or lane has room for the message. Assumes nothing.
use Prim.Native.Nat.{◌*◌}
use mathlib.Core.Path.{◌≡◌, sym, ap, ◌∙◌}
use native.Mathlib.Omega.{arith}
use lib.ListN.{length}
use Rattle.std.proofs.lemmas.Result.{err_from_is_err_and}
use Rattle.std.specs.Prelude.{Ok}
use Rattle.words.specs.Sizes.{PIECES}
use Rattle.channel.proofs.Good.{lane-within, lane-end}
use Rattle.pack.proofs.Pieces.{pieces-most}
use Rattle.send_reliable.specs.Fields.{state_of}
use Rattle.send_reliable.specs.Queue.{cell, lane, spot_of}
use Rattle.send_reliable.specs.QueueSteps.{place_of}
use Rattle.send_reliable.proofs.Valid.{CellFree, LaneFree}
use Rattle.send_reliable.proofs.Queueing.{spot-cell, spot-lane, queue-left, PutFor, put-cell, put-lane, cleared}
use Rattle.send_reliable.proofs.SendChannelReliable.queue.Goals as goal
use Rattle.send_reliable.proofs.SendChannelReliable.queue.Goals.{In-Cell, In-Lane, Joined-place, in-Cell, in-Lane}

-- the cell or the lane that the message goes to
in_cell : (c : In-Cell) → (let a = c.args in spot_of (state_of c.self.inside) (length a.message.now) (length a.small.now) (length a.lanes.now) ≡ cell c.in-Cell.i)
in_cell c = rw (← c.self.view_is) at (sym c.find_place.ensures ∙ ap place_of (c.in_ok-place.was ∙ ap Ok c.in-Cell.is))

in_lane : (c : In-Lane) → (let a = c.args in spot_of (state_of c.self.inside) (length a.message.now) (length a.small.now) (length a.lanes.now) ≡ lane c.in-Lane.l)
in_lane c = rw (← c.self.view_is) at (sym c.find_place.ensures ∙ ap place_of (c.in_ok-place.was ∙ ap Ok c.in-Lane.is))

free-cell : (c : In-Cell) → CellFree (state_of c.self.inside) (length c.args.message.now) c.in-Cell.i
free-cell c = (spot-cell _ c.self.invariant _ _ _ _ (in_cell c)).0

free-lane : (c : In-Lane) → LaneFree (state_of c.self.inside) (length c.args.message.now) c.in-Lane.l
free-lane c = (spot-lane _ c.self.invariant _ _ _ _ (in_lane c)).0

pub overflow_mul-i : goal.overflow_mul-i
overflow_mul-i c = omega (arith, (free-cell (goal.at.overflow_mul-i c).In-Cell).low, c.self.invariant.settings.slots-most)

pub write_bytes-requires : goal.write_bytes-requires
write_bytes-requires c =
    let p = spot-cell _ c.self.invariant _ _ _ _ (in_cell (goal.at.write_bytes-requires c).In-Cell) in
    omega (arith, p.0.low, p.0.short, p.1)

pub bounds-self-inside-i : goal.bounds-self-inside-i
bounds-self-inside-i c = omega (arith, (free-cell (goal.at.bounds-self-inside-i c).In-Cell).low, c.self.invariant.settings.slots-most)

pub overflow_mul-size : goal.overflow_mul-size
overflow_mul-size c = omega (arith, c.self.invariant.settings.pieces-most)

pub overflow_mul-l : goal.overflow_mul-l
overflow_mul-l c = omega (arith, lane-end _ c.self.invariant.settings _ (free-lane (goal.at.overflow_mul-l c).In-Lane).low)

pub write_bytes-requires-in-Lane : goal.write_bytes-requires-in-Lane
write_bytes-requires-in-Lane c =
    let p = spot-lane _ c.self.invariant _ _ _ _ (in_lane (goal.at.write_bytes-requires-in-Lane c).In-Lane) in
    omega (arith, lane-within c.self.inside.settings _ p.0.low, p.0.limit, p.1)

pub bounds-self-inside-l : goal.bounds-self-inside-l
bounds-self-inside-l c = omega (arith, (free-lane (goal.at.bounds-self-inside-l c).In-Lane).low, c.self.invariant.settings.lanes-most)

pub num_slices-requires : goal.num_slices-requires
num_slices-requires c = omega (arith, (free-lane (goal.at.num_slices-requires c).In-Lane).limit, c.self.invariant.settings.pieces-most)

pub slice_bounds-fill-end : goal.slice_bounds-fill-end
slice_bounds-fill-end c =
    let p = free-lane (goal.at.slice_bounds-fill-end c).In-Lane in
    let m = pieces-most (length c.args.message.now) PIECES (omega (arith, p.limit, c.self.invariant.settings.pieces-most)) in
    omega (arith, p.low, c.self.invariant.settings.lanes-most, c.num_slices.ensures)

pub returns-in_err-place : goal.returns-in_err-place
returns-in_err-place c =
    let p = err_from_is_err_and c.from_residual.result c.from_residual.ensures.1 in
    rw (p.1, p.2) (queue-left _ (rw c.self.view_is at c.self.invariant) _ _ _ _ (sym c.find_place.ensures ∙ ap place_of c.in_err-place.was))

-- where the arms meet: all but the message's row is as queueing gives it
put : (c : Joined-place) → (let a = c.args in let m = c.match-place in PutFor (state_of c.self.inside) a.message.now a.small.now a.lanes.now (state_of m.self-inside) m.kind m.small m.lanes)
put c =
    let a = c.args in
    let s = state_of c.self.inside in
    let v = c.self.invariant in
    elim c.match-place.branch [
      | in-Cell w ↦
          let h = rw (← c.self.view_is) at (sym c.find_place.ensures ∙ ap place_of (c.in_ok-place.was ∙ ap Ok w.in-Cell.is)) in
          rw (w.kind-is, w.small-is, w.lanes-is, w.self-inside-is) (put-cell s v a.message.now a.small.now a.lanes.now _ w.in-Cell.i h w.write_bytes.ensures.1)
      | in-Lane w ↦
          let h = rw (← c.self.view_is) at (sym c.find_place.ensures ∙ ap place_of (c.in_ok-place.was ∙ ap Ok w.in-Lane.is)) in
          let p = (spot-lane s v _ _ _ _ h).0 in
          let m = pieces-most (length a.message.now) PIECES (omega (arith, p.limit, v.settings.pieces-most)) in
          let e = cleared s.pieces w.fill.new.self (w.in-Lane.l * PIECES) w.num_slices.result _ w.blank.result w.blank.ensures w.num_slices.ensures
          (omega (arith, p.low, v.settings.lanes-most, w.num_slices.ensures, v.pieces-long, m)) (w.fill.ensures.after (λ y z. z)) in
          rw (w.kind-is, w.small-is, w.lanes-is, w.self-inside-is) (put-lane s v a.message.now a.small.now a.lanes.now _ w.in-Lane.l h w.write_bytes-in-Lane.ensures.1 _ e)
    ]

pub new-requires : goal.new-requires
new-requires c = (put c).narrow

pub offset_bounds-self-inside-self-inside : goal.offset_bounds-self-inside-self-inside
offset_bounds-self-inside-self-inside c = omega (arith, (put (goal.at.offset_bounds-self-inside-self-inside c).Joined-place).low)

pub bounds-self-inside-self-inside : goal.bounds-self-inside-self-inside
bounds-self-inside-self-inside c = (put (goal.at.bounds-self-inside-self-inside c).Joined-place).low

pub overflow_add-self : goal.overflow_add-self
overflow_add-self c = omega (arith, (put (goal.at.overflow_add-self c).Joined-place).low)

pub invariant_of-self : goal.invariant_of-self
invariant_of-self c = ((put (goal.at.invariant_of-self c).Joined-place).gives _ c.new.ensures).valid

pub returns : goal.returns
returns c = rw (← c.self.view_is) ((put (goal.at.returns c).Joined-place).gives _ c.new.ensures)
