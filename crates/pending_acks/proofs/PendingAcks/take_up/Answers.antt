-- `PendingAcks::take_up` meets its contract: by the spot. Assumes nothing.
use Prim.Native.Nat.{◌+◌}
use mathlib.Core.Path.{◌≡◌, sym, subst, ◌∙◌}
use native.Mathlib.Omega.{arith}
use Rattle.packet_ack.specs.declared.Range.{Range}
use Rattle.pending_acks.specs.Fields.{state_of}
use Rattle.pending_acks.specs.Gather.{range, inserted, ranges_of}
use Rattle.pending_acks.specs.Steps.{Swapped, Joined, Opened, SpotFor}
use Rattle.pending_acks.proofs.Valid.{kept-all, more-valid, in_table, one-swapped, few-joined, next-too, same-is}
use Rattle.pending_acks.proofs.PendingAcks.take_up.Goals as goal
use Rattle.pending_acks.proofs.PendingAcks.take_up.Goals.{In-Above, In-Below, In-Joins, In-Named, In-Opens}

-- where the sequence goes
named : (c : In-Named) → (let rs = ranges_of (state_of c.self.inside) in inserted c.args.x rs ≡ rs)
named c = rw (← c.self.view_is) at (subst (SpotFor _ _) c.in-Named.is c.requires.1)

above : (c : In-Above) → (let rs = ranges_of (state_of c.self.inside) in Swapped rs (inserted c.args.x rs) c.in-Above.k (λ (r : Range). range r.start (c.args.x + 1)))
above c = rw (← c.self.view_is) at (subst (SpotFor _ _) c.in-Above.is c.requires.1)

below-it : (c : In-Below) → (let rs = ranges_of (state_of c.self.inside) in Swapped rs (inserted c.args.x rs) c.in-Below.k (λ (r : Range). range c.args.x r.end))
below-it c = rw (← c.self.view_is) at (subst (SpotFor _ _) c.in-Below.is c.requires.1)

joins : (c : In-Joins) → Joined (ranges_of c.args.self.now) (inserted c.args.x (ranges_of c.args.self.now)) c.in-Joins.k
joins c = subst (SpotFor _ _) c.in-Joins.is c.requires.1

opens : (c : In-Opens) → Opened (ranges_of c.args.self.now) (inserted c.args.x (ranges_of c.args.self.now)) c.in-Opens.k (range c.args.x (c.args.x + 1))
opens c = subst (SpotFor _ _) c.in-Opens.is c.requires.1

pub offset_bounds-self-inside-k : goal.offset_bounds-self-inside-k
offset_bounds-self-inside-k c = let low = in_table _ c.self.invariant (above (goal.at.offset_bounds-self-inside-k c).In-Above) in omega arith

pub bounds-self-inside-k : goal.bounds-self-inside-k
bounds-self-inside-k c = in_table _ c.self.invariant (above (goal.at.bounds-self-inside-k c).In-Above)

pub offset_bounds-self-inside-k-in-Below : goal.offset_bounds-self-inside-k-in-Below
offset_bounds-self-inside-k-in-Below c = let low = in_table _ c.self.invariant (below-it (goal.at.offset_bounds-self-inside-k-in-Below c).In-Below) in omega arith

pub bounds-self-inside-k-in-Below : goal.bounds-self-inside-k-in-Below
bounds-self-inside-k-in-Below c = in_table _ c.self.invariant (below-it (goal.at.bounds-self-inside-k-in-Below c).In-Below)

pub invariant_of-self : goal.invariant_of-self
invariant_of-self c =
    let v = c.self.invariant in
    more-valid _ v _ c.requires.0 (one-swapped _ v (λ (r : Range). range r.start (c.args.x + 1)) (above (goal.at.invariant_of-self c).In-Above))

pub invariant_of-self-in-Below : goal.invariant_of-self-in-Below
invariant_of-self-in-Below c =
    let v = c.self.invariant in
    more-valid _ v _ c.requires.0 (one-swapped _ v (λ (r : Range). range c.args.x r.end) (below-it (goal.at.invariant_of-self-in-Below c).In-Below))

pub join-requires : goal.join-requires
join-requires c = next-too _ (rw c.self.view_is at c.self.invariant) (joins (goal.at.join-requires c).In-Joins)

pub open-requires : goal.open-requires
open-requires c = (c.requires.0, opens (goal.at.open-requires c).In-Opens)

pub returns-in-Named : goal.returns-in-Named
returns-in-Named c = rw (← c.self.view_is) (same-is _ c.self.invariant (named (goal.at.returns-in-Named c).In-Named))

pub returns-in-Above : goal.returns-in-Above
returns-in-Above c = rw (← c.self.view_is) (one-swapped _ c.self.invariant (λ (r : Range). range r.start (c.args.x + 1)) (above (goal.at.returns-in-Above c).In-Above))

pub returns-in-Below : goal.returns-in-Below
returns-in-Below c = rw (← c.self.view_is) (one-swapped _ c.self.invariant (λ (r : Range). range c.args.x r.end) (below-it (goal.at.returns-in-Below c).In-Below))

pub returns-in-Joins : goal.returns-in-Joins
returns-in-Joins c =
    let j = joins (goal.at.returns-in-Joins c).In-Joins in
    c.join.ensures _ j ∙ sym (kept-all _ _ (few-joined _ (rw c.self.view_is at c.self.invariant) j))
