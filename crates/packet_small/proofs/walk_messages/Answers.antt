-- `packet_small::walk_messages` meets its contract. The loop's invariant: what is left to walk ends as the whole does. Assumes nothing.
use native.Mathlib.Omega.{arith}
use native.Mathlib.Nat.{sub-zero}
use mathlib.Core.Path.{refl}
use Rattle.std.proofs.lemmas.Result.{err_from_is_err_and}
use Rattle.packet_small.proofs.Read.{message-fits, walk-lost, walk_more, walk_none}
use Rattle.packet_small.proofs.walk_messages.Goals as goal

pub loop-init : goal.loop-init
loop-init c = rw sub-zero refl

pub returns-in_err-m : goal.returns-in_err-m
returns-in_err-m c =
    let p = err_from_is_err_and c.from_residual.result c.from_residual.ensures.1 in
    rw (p.1, p.2) (walk-lost _ _ _ _ _ c.loop.invariant c.loop-test.true c.in_err-m.ensures)

pub overflow_add-at : goal.overflow_add-at
overflow_add-at c = message-fits _ _ _ c.in_ok-m.ensures (omega arith)

pub loop-preserved : goal.loop-preserved
loop-preserved c = walk_more _ _ _ _ _ c.loop.invariant c.loop-test.true c.in_ok-m.ensures

pub returns : goal.returns
returns c = walk_none _ _ _ _ _ c.loop.invariant (omega arith)
