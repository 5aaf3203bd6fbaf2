-- `PendingAcks::open` meets its contract. Assumes nothing.
use Prim.Native.Nat.{◌+◌}
use native.Mathlib.Omega.{arith}
use Rattle.pending_acks.specs.Fields.{state_of}
use Rattle.pending_acks.specs.Gather.{range, inserted, ranges_of}
use Rattle.pending_acks.specs.Steps.{Opened}
use Rattle.pending_acks.proofs.Valid.{more-valid, table-long, place_opened, opened-is, opened-none, opened-full}
use Rattle.pending_acks.proofs.PendingAcks.open.Goals as goal
use Rattle.pending_acks.proofs.PendingAcks.open.Goals.{After-self}

-- where the sequence goes
opens : (c : After-self) → (let rs = ranges_of (state_of c.self.inside) in Opened rs (inserted c.args.x rs) c.args.k (range c.args.x (c.args.x + 1)))
opens c = rw (← c.self.view_is) at c.requires.1

pub move_up-requires : goal.move_up-requires
move_up-requires c = (place_opened _ c.self.invariant (opens (goal.at.move_up-requires c).After-self), (let n = table-long _ c.self.invariant in omega (arith, n, c.if-count-lt-RANGES.true)))

pub invariant_of-self : goal.invariant_of-self
invariant_of-self c =
    let v = c.self.invariant in
    more-valid _ v _ c.requires.0 (opened-is _ v (opens (goal.at.invariant_of-self c).After-self) c.if-count-lt-RANGES.true _ c.move_up.ensures)

pub invariant_of-self-then-k-gt0 : goal.invariant_of-self-then-k-gt0
invariant_of-self-then-k-gt0 c =
    let v = c.self.invariant in
    more-valid _ v _ c.requires.0 (opened-full _ v (opens (goal.at.invariant_of-self-then-k-gt0 c).After-self) c.if-count-lt-RANGES.false _ c.if-k-gt0.true c.move_down.ensures)

pub invariant_of-self-else-k-gt0 : goal.invariant_of-self-else-k-gt0
invariant_of-self-else-k-gt0 c =
    let v = c.self.invariant in
    more-valid _ v _ c.requires.0 (opened-none _ v (opens (goal.at.invariant_of-self-else-k-gt0 c).After-self) c.if-count-lt-RANGES.false (omega arith))

pub returns-then-count-lt-RANGES : goal.returns-then-count-lt-RANGES
returns-then-count-lt-RANGES c =
    rw (← c.self.view_is) (opened-is _ c.self.invariant (opens (goal.at.returns-then-count-lt-RANGES c).After-self) c.if-count-lt-RANGES.true _ c.move_up.ensures)

pub returns-then-k-gt0 : goal.returns-then-k-gt0
returns-then-k-gt0 c =
    rw (← c.self.view_is) (opened-full _ c.self.invariant (opens (goal.at.returns-then-k-gt0 c).After-self) c.if-count-lt-RANGES.false _ c.if-k-gt0.true c.move_down.ensures)

pub returns-else-k-gt0 : goal.returns-else-k-gt0
returns-else-k-gt0 c =
    rw (← c.self.view_is) (opened-none _ c.self.invariant (opens (goal.at.returns-else-k-gt0 c).After-self) c.if-count-lt-RANGES.false (omega arith))
