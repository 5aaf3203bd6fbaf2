-- `packet_small::all_stored` meets its contract. The loop's invariant: what is told of the rest is what is told of the whole. Assumes nothing.
use native.Mathlib.Omega.{arith}
use native.Mathlib.Nat.{sub-zero}
use Prim.Native.Nat.{◌+◌, ◌<◌}
use mathlib.Core.Path.{refl}
use Rattle.packet_small.proofs.Judge.{stored-not, stored-is, all_passed, one-fails, one-passes}
use Rattle.packet_small.proofs.all_stored.Goals as goal
use Rattle.packet_small.proofs.all_stored.Goals.{then-m-e-via-then-m-e, then-m-e-via-else-m-e+then-m-e-2}

pub loop-i-init : goal.loop-i-init
loop-i-init c = rw sub-zero refl

pub returns-then-m-e : goal.returns-then-m-e
returns-then-m-e c =
    let e = c.message_at-e.result in
    let n : c.args.m < e.place + e.len =
    elim c.then-m-e.branch [
      | then-m-e-via-then-m-e w ↦ omega arith
      | then-m-e-via-else-m-e+then-m-e-2 w ↦ omega arith
    ] in
    one-fails _ _ _ _ c.loop-i.invariant c.message_at-e.ensures c.loop-i-test.true (stored-not e.id.0 _ _ _ n)

pub loop-i-preserved : goal.loop-i-preserved
loop-i-preserved c =
    let e = c.message_at-e.result in
    one-passes _ _ _ _ c.loop-i.invariant c.message_at-e.ensures c.loop-i-test.true (stored-is e.id.0 _ _ _ (omega arith))

pub returns : goal.returns
returns c = all_passed _ _ _ _ c.loop-i.invariant (omega arith)
