-- `SliceConstructor::judge` meets its contract: each answer by the tests that led to it. Assumes nothing.
use mathlib.Core.Path.{sym, ◌∙◌}
use borrow.Author.Tests.{lt-ltb, le-ltb, le-leb, lt-leb}
use Rattle.slice_constructor.specs.Collect.{collect_refusal}
use Rattle.slice_constructor.proofs.SliceConstructor.judge.Goals as goal

pub returns-then-room-self : goal.returns-then-room-self
unfolding collect_refusal
returns-then-room-self c = rw (← c.self.view_is) (simp (lt-ltb _ _ c.if-room-self.true), c.self.invariant)

pub returns-then-self-i : goal.returns-then-self-i
unfolding collect_refusal
returns-then-self-i c = rw (← c.self.view_is) (simp (le-ltb _ _ c.if-room-self.false, le-leb _ _ c.if-self-i.true), c.self.invariant)

pub returns : goal.returns
unfolding collect_refusal
returns c = rw (← c.self.view_is) (simp (le-ltb _ _ c.if-room-self.false, lt-leb _ _ c.if-self-i.false, sym (rw (← c.self.view_is) at c.is_sized.ensures) ∙ c.if-not-is_sized.false), c.self.invariant)

pub returns-then-not-is_sized : goal.returns-then-not-is_sized
unfolding collect_refusal
returns-then-not-is_sized c = rw (← c.self.view_is) (simp (le-ltb _ _ c.if-room-self.false, lt-leb _ _ c.if-self-i.false, sym (rw (← c.self.view_is) at c.is_sized.ensures) ∙ c.if-not-is_sized.true), c.self.invariant)
