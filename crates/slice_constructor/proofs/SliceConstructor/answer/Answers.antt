-- `SliceConstructor::answer` meets its contract: by the test on the two counts. Assumes nothing.
use borrow.Author.Tests.{eq-eqb, ne_eqb}
use Rattle.slice_constructor.specs.Collect.{answer_of}
use Rattle.slice_constructor.proofs.SliceConstructor.answer.Goals as goal

pub returns-then-self : goal.returns-then-self
unfolding answer_of
returns-then-self c = rw (← c.self.view_is) (simp (eq-eqb _ _ c.if-self.true))

pub returns : goal.returns
unfolding answer_of
returns c = rw (← c.self.view_is) (simp (ne_eqb _ _ c.if-self.false))
