-- `Load::of` meets its contract: each answer by its test. Assumes nothing.
use borrow.Author.Tests.{le-leb, lt-leb}
use Rattle.window.proofs.Load.of.Goals as goal

pub returns-then-n-le-SLICE_SIZE : goal.returns-then-n-le-SLICE_SIZE
returns-then-n-le-SLICE_SIZE c = simp (le-leb _ _ c.if-n-le-SLICE_SIZE.true)

pub returns : goal.returns
returns c = simp (lt-leb _ _ c.if-n-le-SLICE_SIZE.false)
