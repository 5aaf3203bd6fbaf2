-- `range_words::from_words` meets its contract: what is left, from the index on, gives what the whole gives. Assumes nothing.
use native.Mathlib.Omega.{arith}
use Rattle.range_words.proofs.Left.{filled-first, filled-again, filled-all}
use Rattle.range_words.proofs.from_words.Goals as goal

pub loop-i-init : goal.loop-i-init
loop-i-init c = filled-first _

pub loop-i-preserved : goal.loop-i-preserved
loop-i-preserved c = filled-again _ _ _ _ (omega arith) (omega arith) c.loop-i.invariant

pub returns : goal.returns
returns c = filled-all _ _ _ _ (omega arith) c.loop-i.invariant
