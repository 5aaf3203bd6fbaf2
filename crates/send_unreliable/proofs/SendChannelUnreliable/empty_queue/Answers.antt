-- `SendChannelUnreliable::empty_queue` meets its contract: judged, chosen, judged, sent. Assumes nothing.
use mathlib.Core.Path.{◌≡◌, refl, sym, ◌∙◌}
use mathlib.Core.Bool.{true}
use native.Mathlib.Omega.{arith}
use lib.ListN.{length}
use Rattle.std.proofs.lemmas.List.{length-take, length-take-le}
use Rattle.std.proofs.lemmas.Result.{err_from_is_err_and}
use Rattle.channel.specs.Settings.{stores_hold_of}
use Rattle.send_unreliable.specs.Fields.{state_of}
use Rattle.send_unreliable.specs.Sender.{empty_of}
use Rattle.send_unreliable.proofs.Valid.{empty-valid}
use Rattle.send_unreliable.specs.Round.{Given, lent}
use Rattle.send_unreliable.proofs.Chosen.{room-start, selected, chosen-fits, chosen-items, chosen-go}
use Rattle.send_unreliable.proofs.Gives.{round-store, round-sequence, round-ids, round-refused, round-sent}
use Rattle.send_unreliable.proofs.SendChannelUnreliable.empty_queue.Goals as goal
use Rattle.send_unreliable.proofs.SendChannelUnreliable.empty_queue.Goals.{Else-not-stores_hold, Start}

-- what the round is given
abbrev given : Start → Given
given c = let a = c.args in record { seq = a.sequence.0; allowance = a.allowance; small = a.small.now; lanes = a.lanes.now }

-- the stores are long enough
held : (c : Else-not-stores_hold) → (let a = c.args in stores_hold_of c.self.inside.settings (length a.small.now) (length a.lanes.now) ≡ true)
held c = sym c.stores_hold.ensures ∙ c.if-not-stores_hold.false

pub returns-then-not-stores_hold : goal.returns-then-not-stores_hold
returns-then-not-stores_hold c = rw (← c.self.view_is) (round-store (state_of c.self.inside) c.self.invariant _ _ _ (sym c.stores_hold.ensures ∙ c.if-not-stores_hold.true))

pub returns-then-sequence-ge-LIMIT : goal.returns-then-sequence-ge-LIMIT
returns-then-sequence-ge-LIMIT c = rw (← c.self.view_is) (round-sequence (state_of c.self.inside) c.self.invariant _ _ _ (held (goal.at.returns-then-sequence-ge-LIMIT c).Else-not-stores_hold) c.if-sequence-ge-LIMIT.true)

pub select-chosen-requires : goal.select-chosen-requires
select-chosen-requires c = record { good = c.self.invariant.settings; in_bounds = omega arith; room = room-start _ c.self.invariant _ }

pub returns-then-chosen-gt-LIMIT : goal.returns-then-chosen-gt-LIMIT
returns-then-chosen-gt-LIMIT c = rw (← c.self.view_is) (round-ids (state_of c.self.inside) c.self.invariant _ _ _ (held (goal.at.returns-then-chosen-gt-LIMIT c).Else-not-stores_hold) c.if-sequence-ge-LIMIT.false _ (selected _ c.self.invariant _ _ _ c.select-chosen.ensures) c.if-chosen-gt-LIMIT.true)

pub slice_bounds-items-end : goal.slice_bounds-items-end
slice_bounds-items-end c = omega (arith, chosen-fits _ c.self.invariant _ _ _ c.select-chosen.ensures)

pub slice_bounds-send-end : goal.slice_bounds-send-end
slice_bounds-send-end c = sym (length-take-le _ _ (omega (arith, chosen-fits _ c.self.invariant _ _ _ c.select-chosen.ensures)))

pub send-requires : goal.send-requires
send-requires c =
    let fits = chosen-fits _ c.self.invariant _ _ _ c.select-chosen.ensures in
    record {
      few = omega (arith, fits, length-take c.select-chosen.result.items c.select-chosen.new.items);
      all = chosen-go _ c.self.invariant _ _ _ c.select-chosen.ensures (lent (state_of c.self.inside) (given (goal.at.send-requires c).Start)) (held (goal.at.send-requires c).Else-not-stores_hold) c.if-chosen-gt-LIMIT.false (omega (arith, fits));
      sequence_bound = c.if-sequence-ge-LIMIT.false;
    }

pub returns-in_err-written : goal.returns-in_err-written
returns-in_err-written c =
    let p = err_from_is_err_and c.from_residual.result c.from_residual.ensures.1 in
    let fits = chosen-fits _ c.self.invariant _ _ _ c.select-chosen.ensures in
    rw (← c.self.view_is, p.1, p.2) (rw c.in_err-written.was at (round-refused (state_of c.self.inside) c.self.invariant (given (goal.at.returns-in_err-written c).Start) c.args.out.now c.args.table.now (held (goal.at.returns-in_err-written c).Else-not-stores_hold) c.if-sequence-ge-LIMIT.false
    _ (selected _ c.self.invariant _ _ _ c.select-chosen.ensures) c.if-chosen-gt-LIMIT.false _ (chosen-items _ c.self.invariant _ _ _ c.select-chosen.ensures (omega (arith, fits))) _ _ _ c.send.ensures _ c.in_err-written.was))

pub invariant_of-self : goal.invariant_of-self
unfolding empty_of
invariant_of-self c = empty-valid c.self.inside.channel_id c.self.inside.settings c.select-chosen.result.id c.self.invariant.settings c.if-chosen-gt-LIMIT.false

pub returns : goal.returns
unfolding empty_of
returns c =
    let fits = chosen-fits _ c.self.invariant _ _ _ c.select-chosen.ensures in
    rw (← c.self.view_is) (rw c.in_ok-written.was at (round-sent (state_of c.self.inside) c.self.invariant (given (goal.at.returns c).Start) c.args.out.now c.args.table.now (held (goal.at.returns c).Else-not-stores_hold) c.if-sequence-ge-LIMIT.false
    _ (selected _ c.self.invariant _ _ _ c.select-chosen.ensures) c.if-chosen-gt-LIMIT.false _ (chosen-items _ c.self.invariant _ _ _ c.select-chosen.ensures (omega (arith, fits))) _ _ _ c.send.ensures _ c.in_ok-written.was _ refl))
