-- `ReceiveChannelUnreliable::discard_incomplete_old_slices` meets its contract: the walk from here on gives what the whole walk gives. Assumes nothing.
use Prim.Native.Nat.{ℕ}
use native.Mathlib.Omega.{arith}
use Rattle.words.specs.Sizes.{LANES}
use mathlib.Core.Path.{◌≡◌, refl, sym, ap, ◌∙◌}
use Rattle.receive_unreliable.specs.Receive.{without_open, at_time}
use Rattle.receive_unreliable.specs.Fields.{state_of}
use Rattle.receive_unreliable.proofs.Valid.{time-valid}
use Rattle.receive_unreliable.proofs.Walk.{lowest-here, lowest-open, none-old, some-old, walked_none, walked_more, walked-off, walked_all}
use Rattle.receive_unreliable.proofs.Gives.{discard-refused, discard-done}
use Rattle.receive_unreliable.proofs.ReceiveChannelUnreliable.discard_incomplete_old_slices.Goals as goal

pub returns-then-current_time-self : goal.returns-then-current_time-self
returns-then-current_time-self c = rw (← c.self.view_is) (discard-refused (state_of c.self.inside) c.self.invariant _ c.if-current_time-self.true)

pub invariant_of-self : goal.invariant_of-self
unfolding at_time
invariant_of-self c = time-valid (state_of c.self.inside) c.self.invariant _ c.if-current_time-self.false

pub loop-dropped-init : goal.loop-dropped-init
unfolding at_time
loop-dropped-init c = walked_none _ _ (time-valid (state_of c.self.inside) c.self.invariant _ c.if-current_time-self.false) refl

pub returns-in_default : goal.returns-in_default
unfolding at_time
returns-in_default c =
    let x = walked-off _ _ _ _ c.loop-dropped.invariant (none-old _ _ (sym c.old_lane.ensures ∙ c.in_default.is)) in
    rw (← c.self.view_is) (discard-done (state_of c.self.inside) c.self.invariant _ c.if-current_time-self.false _ _ x.0 x.1)

pub discard-requires : goal.discard-requires
discard-requires c =
    let w = c.loop-dropped.invariant in
    let o = some-old _ _ _ (sym c.old_lane.ensures ∙ c.in-Some.is) in
    let low = lowest-here c.loop-dropped.self _ o.0 in
    (rw o.1 at low, rw o.1 at (lowest-open c.loop-dropped.self w.valid low))

pub loop-dropped-preserved : goal.loop-dropped-preserved
loop-dropped-preserved c =
    let o = some-old _ _ _ (sym c.old_lane.ensures ∙ c.in-Some.is) in
    walked_more _ _ _ _ c.loop-dropped.invariant c.loop-dropped-test.true o.0 _ (c.discard.ensures ∙ ap (without_open c.loop-dropped.self) (sym o.1))

pub returns : goal.returns
unfolding at_time
returns c =
    let w = c.loop-dropped.invariant in
    let all : ◌≡◌ {A = ℕ} LANES c.loop-dropped.dropped = omega (arith, w.few, c.loop-dropped-test.false) in
    let x = walked_all _ _ _ _ w c.loop-dropped-test.false in
    rw (← c.self.view_is) (discard-done (state_of c.self.inside) c.self.invariant _ c.if-current_time-self.false _ _ x.0 (all ∙ x.1))
