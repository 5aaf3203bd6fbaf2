-- `PendingAcks::is_named` meets its contract. Assumes nothing.
use Prim.Native.Nat.{◌-◌}
use native.Mathlib.Omega.{arith}
use lib.Seq.{get_or-take}
use Rattle.pending_acks.specs.Fields.{state_of}
use Rattle.pending_acks.specs.Gather.{range}
use Rattle.pending_acks.proofs.Valid.{count-is}
use Rattle.pending_acks.proofs.Asking.{too_large, says_none, says}
use Rattle.pending_acks.proofs.PendingAcks.is_named.Goals as goal

pub returns-then-x-ge-LIMIT : goal.returns-then-x-ge-LIMIT
returns-then-x-ge-LIMIT c = too_large _ _ c.if-x-ge-LIMIT.true

pub returns-then-k-eq0 : goal.returns-then-k-eq0
returns-then-k-eq0 c = rw (← c.self.view_is) (says_none _ c.self.invariant.rises _ _ c.if-x-ge-LIMIT.false c.halved-k.ensures c.if-k-eq0.true)

pub returns : goal.returns
returns c =
    let g = state_of c.self.inside in
    let v = c.self.invariant in
    let p = c.halved-k.ensures in
    let l = p.within in
    let n = count-is g v in
    let e = get_or-take g.count g.ranges (c.halved-k.result - 1) (range 0 0) (omega (arith, c.if-k-eq0.false)) in
    rw (← c.self.view_is, ← e) (says _ v.rises _ _ c.if-x-ge-LIMIT.false p (omega (arith, c.if-k-eq0.false)))
