-- `Settings::stores_hold` meets its contract: no product wraps, and each answer is by its test. Assumes nothing.
use native.Mathlib.Omega.{arith}
use borrow.Author.Tests.{lt-ltb, le-ltb}
use Rattle.channel.proofs.Good.{lanes-most}
use Rattle.channel.proofs.Settings.stores_hold.Goals as goal

pub returns-then-small-self : goal.returns-then-small-self
returns-then-small-self c = simp (lt-ltb _ _ c.if-small-self.true)

pub overflow_mul-result-2 : goal.overflow_mul-result-2
overflow_mul-result-2 c = omega (arith, lanes-most _ c.requires)

pub returns : goal.returns
returns c = simp (le-ltb _ _ c.if-small-self.false)
