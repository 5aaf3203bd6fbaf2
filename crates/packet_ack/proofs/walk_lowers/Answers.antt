-- `packet_ack::walk_lowers` meets its contract. The loop's invariant: what is left to walk ends as the whole does.
-- Assumes nothing.
use Prim.Native.Nat.{◌+◌, ◌-◌}
use native.Mathlib.Nat.{sub-zero}
use native.Mathlib.Omega.{arith}
use Rattle.std.proofs.lemmas.Result.{err_from_is_err_and}
use Rattle.packet_ack.proofs.Read.{walk_none, walk_refused, walk_more}
use Rattle.packet_ack.proofs.walk_lowers.Goals as goal

pub loop-init : goal.loop-init
loop-init c = rw sub-zero

pub returns-in_err-c : goal.returns-in_err-c
returns-in_err-c c =
    let p = err_from_is_err_and c.from_residual.result c.from_residual.ensures.1 in
    rw (p.1, p.2) (walk_refused _ _ _ {k = c.args.n - (c.loop.counter + 1)} (omega arith) c.loop.invariant c.in_err-c.ensures)

pub loop-preserved : goal.loop-preserved
loop-preserved c = walk_more _ _ _ (omega arith) c.loop.invariant c.in_ok-c.ensures

pub returns : goal.returns
returns c = walk_none _ _ _ _ (omega arith) c.loop.invariant
