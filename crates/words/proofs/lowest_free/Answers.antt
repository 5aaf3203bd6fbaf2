-- `words::lowest_free` meets its contract: whatever was passed is held. Assumes nothing.
use Rattle.std.proofs.Common.{arith, sym, false, not}
use Rattle.words.proofs.Lists.{first_below, none_below}
use Rattle.words.proofs.lowest_free.Goals as goal

pub returns-then-not-held-i : goal.returns-then-not-held-i
returns-then-not-held-i c = let l = c.loop-i in sym (first_below not false _ _ c.requires l.i (omega arith) l.invariant (rw c.if-not-held-i.true))

pub returns : goal.returns
returns c = sym (none_below not false _ _ c.requires (λ k m. c.loop-i.invariant k (omega arith)))
