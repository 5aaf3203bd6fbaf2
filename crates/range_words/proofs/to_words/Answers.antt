-- `range_words::to_words` meets its contract: what is left, from the index on, gives what the whole gives. Assumes nothing.
use lib.ListN.{length-set}
use native.Mathlib.Omega.{arith}
use Rattle.range_words.proofs.Left.{laid-first, laid-again, laid-all}
use Rattle.range_words.proofs.to_words.Goals as goal

pub loop-i-init : goal.loop-i-init
loop-i-init c = laid-first _ _

pub bounds-words-i-in-loop-i : goal.bounds-words-i-in-loop-i
bounds-words-i-in-loop-i c = simp length-set (omega arith)

pub loop-i-preserved : goal.loop-i-preserved
loop-i-preserved c = laid-again _ _ _ _ _ (omega arith) (omega arith) c.loop-i.invariant

pub returns : goal.returns
returns c = laid-all _ _ _ _ _ (omega arith) (omega arith) c.loop-i.invariant
