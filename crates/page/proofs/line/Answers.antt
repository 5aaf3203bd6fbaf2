-- `page::line` meets its contract: what is left, from the index on, gives what the whole gives. Assumes nothing.
use native.Mathlib.Omega.{arith}
use Rattle.page.proofs.Sheets.{line-again, line-end}
use Rattle.page.proofs.line.Goals as goal

pub loop-c-preserved : goal.loop-c-preserved
loop-c-preserved c = (omega (arith, c.letter-t.ensures.2), line-again _ _ _ _ _ c.loop-c-test.true _ _ _ c.letter-t.ensures.0 c.letter-t.ensures.1 c.loop-c.invariant.1)

pub returns : goal.returns
returns c = line-end _ _ _ _ _ _ c.loop-c-test.false c.loop-c.invariant.1
