-- `PendingAcks::join` meets its contract. Assumes nothing.
use Rattle.pending_acks.specs.Fields.{state_of}
use Rattle.pending_acks.proofs.Valid.{neighbours, joined-valid, joined_is}
use Rattle.pending_acks.proofs.PendingAcks.join.Goals as goal

pub invariant_of-self : goal.invariant_of-self
invariant_of-self c =
    let v = c.self.invariant in
    let j = neighbours (state_of c.self.inside) v (rw (← c.self.view_is) at c.requires) in
    joined-valid _ v j.1 (joined_is _ v j.1 _ c.move_down.ensures)

pub returns : goal.returns
returns c = rw (← c.self.view_is) (λ rs j. joined_is _ c.self.invariant j _ c.move_down.ensures)
