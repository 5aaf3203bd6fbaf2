-- `SliceConstructor::is_sized` meets its contract: by the test for the last piece. Assumes nothing.
use mathlib.Core.Path.{sym}
use native.Mathlib.Omega.{arith}
use borrow.Author.Tests.{eq-eqb, ne_eqb}
use Rattle.slice_constructor.proofs.SliceConstructor.is_sized.Goals as goal

pub overflow_add-i : goal.overflow_add-i
overflow_add-i c = let h = rw (← c.self.view_is) at c.requires in omega (arith, h, c.self.invariant.num-most)

pub returns-then-self-i : goal.returns-then-self-i
returns-then-self-i c = rw (← c.self.view_is) (simp (eq-eqb _ _ (sym c.if-self-i.true)))

pub returns : goal.returns
returns c = rw (← c.self.view_is) (simp (ne_eqb _ _ (λ e. c.if-self-i.false (sym e))))
