-- `packet_small::all_sayable` meets its contract. The loop's invariant: what is told of the rest is what is told of the whole. Assumes nothing.
use native.Mathlib.Omega.{arith}
use native.Mathlib.Nat.{sub-zero}
use mathlib.Core.Path.{refl}
use mathlib.Core.Logic.{⊎_elim}
use Rattle.packet_small.proofs.Judge.{sayable-len, sayable-id, sayable-both, sayable-none, all_passed, one-fails, one-passes}
use Rattle.packet_small.proofs.all_sayable.Goals as goal

pub loop-i-init : goal.loop-i-init
loop-i-init c = rw sub-zero refl

pub returns-then-e-ge-LIMIT : goal.returns-then-e-ge-LIMIT
returns-then-e-ge-LIMIT c =
    let e = c.message_at-e.result in
    one-fails _ _ _ _ c.loop-i.invariant c.message_at-e.ensures c.loop-i-test.true (sayable-id _ _ e.place e.len c.if-ids.true c.if-e-ge-LIMIT.true)

pub returns-then-e-ge-LIMIT-2 : goal.returns-then-e-ge-LIMIT-2
returns-then-e-ge-LIMIT-2 c =
    let e = c.message_at-e.result in
    one-fails _ _ _ _ c.loop-i.invariant c.message_at-e.ensures c.loop-i-test.true (sayable-len _ e.id.0 e.place _ c.if-e-ge-LIMIT-2.true)

pub loop-i-preserved : goal.loop-i-preserved
loop-i-preserved c =
    let e = c.message_at-e.result in
    let l = c.if-e-ge-LIMIT-2.false in
    one-passes _ _ _ _ c.loop-i.invariant c.message_at-e.ensures c.loop-i-test.true
    (⊎_elim (λ h. sayable-both _ _ e.place _ h.0 h.1 l) (λ h. sayable-none _ e.id.0 e.place _ h l) c.else-ids.either)

pub returns : goal.returns
returns c = all_passed _ _ _ _ c.loop-i.invariant (omega arith)
