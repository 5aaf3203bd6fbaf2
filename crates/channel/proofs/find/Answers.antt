-- `channel::find` meets its contract. The loop's invariant: what is found from place i on is what is found in the whole.
-- Assumes nothing.
use mathlib.Core.Path.{◌≡◌, ◌∙◌}
use native.Mathlib.Omega.{arith}
use lib.ListN.{length}
use Rattle.channel.proofs.Held.{at-end, at_here, past-free, past-other}
use Rattle.channel.proofs.find.Goals as goal
use Rattle.channel.proofs.find.Goals.{else-held-i-via-then-held-i+else-ids-i, else-held-i-via-else-held-i}

pub returns-then-ids-i : goal.returns-then-ids-i
returns-then-ids-i c = at_here _ _ _ _ c.loop-i.invariant c.requires c.loop-i-test.true c.if-held-i.true c.if-ids-i.true

pub loop-i-preserved : goal.loop-i-preserved
loop-i-preserved c =
    let l = c.loop-i in
    elim c.else-held-i.branch [
      | else-held-i-via-then-held-i+else-ids-i w ↦ past-other _ _ _ _ l.invariant c.requires c.loop-i-test.true w.if-held-i.true w.if-ids-i.false
      | else-held-i-via-else-held-i w ↦ past-free _ _ _ _ l.invariant c.requires c.loop-i-test.true w.if-held-i.false
    ]

pub returns : goal.returns
returns c =
    let i : length c.args.held.now ≡ c.loop-i.i = omega arith in
    i ∙ at-end _ _ _ _ c.loop-i.invariant c.loop-i-test.false
