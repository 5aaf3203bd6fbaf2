-- `packet_small::all_fit` meets its contract. The loop's invariant: the rest fits what is left where the whole fits the room. Assumes nothing.
use native.Mathlib.Omega.{arith}
use native.Mathlib.Nat.{sub-zero}
use Prim.Native.Nat.{◌<◌}
use mathlib.Core.Path.{refl}
use Rattle.packet_small.specs.Steps.{message_len}
use Rattle.packet_small.proofs.Judge.{all_fitted, one-over, one-within}
use Rattle.packet_small.proofs.all_fit.Goals as goal
use Rattle.packet_small.proofs.all_fit.Goals.{then-spare-head-via-then-spare-head, then-spare-head-via-else-spare-head+then-spare-head-2}

pub loop-i-init : goal.loop-i-init
loop-i-init c = rw sub-zero refl

pub returns-then-spare-head : goal.returns-then-spare-head
returns-then-spare-head c =
    let e = c.message_at-e.result in
    let n : c.loop-i.spare < message_len c.args.ids e.id.0 e.len =
    elim c.then-spare-head.branch [
      | then-spare-head-via-then-spare-head w ↦ omega arith
      | then-spare-head-via-else-spare-head+then-spare-head-2 w ↦ omega arith
    ] in
    one-over _ _ _ _ _ c.loop-i.invariant c.message_at-e.ensures c.loop-i-test.true n

pub loop-i-preserved : goal.loop-i-preserved
loop-i-preserved c = one-within _ _ _ _ _ c.loop-i.invariant c.message_at-e.ensures c.loop-i-test.true (omega arith) (omega arith)

pub returns : goal.returns
returns c = all_fitted _ _ _ _ _ c.loop-i.invariant (omega arith)
