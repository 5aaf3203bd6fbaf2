-- `lowest_id` meets its contract: the lowest so far and the open ids from place i on give what all of them give. Assumes nothing.
use Rattle.receive_unreliable.proofs.Walk.{low_end, low-shut, low-lower, low-higher}
use Rattle.receive_unreliable.proofs.lowest_id.Goals as goal
use Rattle.receive_unreliable.proofs.lowest_id.Goals.{then-opens-i+then-ids-i, else-opens-i, else-opens-i-via-then-opens-i+else-ids-i, else-opens-i-via-else-opens-i}

pub loop-i-preserved : goal.loop-i-preserved
loop-i-preserved c =
    let l = c.loop-i in
    elim c.if-opens-i.branch [
      | then-opens-i+then-ids-i w ↦ rw w.lowest-is (low-lower _ _ _ _ _ l.invariant c.requires c.loop-i-test.true w.if-opens-i.true w.if-ids-i.true)
      | else-opens-i w ↦
          rw w.lowest-is
          (elim w.else-opens-i.branch [
            | else-opens-i-via-then-opens-i+else-ids-i x ↦ low-higher _ _ _ _ _ l.invariant c.requires c.loop-i-test.true x.if-opens-i.true x.if-ids-i.false
            | else-opens-i-via-else-opens-i x ↦ low-shut _ _ _ _ _ l.invariant c.requires c.loop-i-test.true x.if-opens-i.false
          ])
    ]

pub returns : goal.returns
returns c = low_end _ _ _ _ _ c.loop-i.invariant c.loop-i-test.false
