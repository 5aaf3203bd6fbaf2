-- `ReceiveChannelUnreliable::next` meets its contract: each answer by its tests. Assumes nothing.
use native.Mathlib.Omega.{arith}
use borrow.Author.Tests.{eq-eqb, ne_eqb, lt-ltb, le-ltb}
use Rattle.receive_unreliable.specs.Receive.{next_place}
use Rattle.receive_unreliable.proofs.Spots.{first-waits}
use Rattle.receive_unreliable.proofs.ReceiveChannelUnreliable.next.Goals as goal

pub returns-then-self-eq0 : goal.returns-then-self-eq0
unfolding next_place
returns-then-self-eq0 c = rw (← c.self.view_is, eq-eqb _ _ c.if-self-eq0.true)

pub overflow_cast-first : goal.overflow_cast-first
overflow_cast-first c = omega (arith, (first-waits _ c.self.invariant c.if-self-eq0.false).1.low)

pub returns-then-first-lt-SLOTS : goal.returns-then-first-lt-SLOTS
unfolding next_place
returns-then-first-lt-SLOTS c = rw (← c.self.view_is, ne_eqb _ _ c.if-self-eq0.false, lt-ltb _ _ c.if-first-lt-SLOTS.true)

pub returns : goal.returns
unfolding next_place
returns c = rw (← c.self.view_is, ne_eqb _ _ c.if-self-eq0.false, le-ltb _ _ c.if-first-lt-SLOTS.false)
