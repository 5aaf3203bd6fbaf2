-- `pending_acks::find_spot` meets its contract. Assumes nothing.
use mathlib.Core.Path.{sym, ◌∙◌}
use native.Mathlib.Omega.{arith}
use Rattle.pending_acks.proofs.Spots.{Gap, is-in, joins, extends, gap-above, gap-first, lowers, opens}
use Rattle.pending_acks.proofs.find_spot.Goals as goal
use Rattle.pending_acks.proofs.find_spot.Goals.{Joined-k-gt0, then-k-gt0+else-x-end+else-x-end-2, else-k-gt0}

-- the ranges below the sequence are apart from it
gap : (c : Joined-k-gt0) → Gap c.args.ranges.now c.args.x c.find_place-k.result
gap c =
    elim c.if-k-gt0.branch [
      | then-k-gt0+else-x-end+else-x-end-2 w ↦ gap-above _ _ c.requires.0 _ c.find_place-k.ensures w.if-k-gt0.true (omega (arith, w.if-x-end.false, w.if-x-end-2.false))
      | else-k-gt0 w ↦ gap-first _ _ c.requires.0 _ c.find_place-k.ensures (omega arith)
    ]

pub returns-then-x-end : goal.returns-then-x-end
returns-then-x-end c = is-in _ _ c.requires.0 _ c.find_place-k.ensures c.if-k-gt0.true c.if-x-end.true

pub returns-then-touches : goal.returns-then-touches
returns-then-touches c = joins _ _ c.requires.0 _ c.find_place-k.ensures c.if-k-gt0.true c.if-x-end-2.true (sym c.starts_at-touches.ensures ∙ c.if-touches.true)

pub returns-then-x-end-2 : goal.returns-then-x-end-2
returns-then-x-end-2 c = extends _ _ c.requires.0 _ c.find_place-k.ensures c.if-k-gt0.true c.if-x-end-2.true (sym c.starts_at-touches.ensures ∙ c.if-touches.false)

pub returns-then-touches-2 : goal.returns-then-touches-2
returns-then-touches-2 c = lowers _ _ c.requires.0 _ c.find_place-k.ensures (gap (goal.at.returns-then-touches-2 c).Joined-k-gt0) (sym c.starts_at-touches.ensures ∙ c.if-touches-2.true)

pub returns : goal.returns
returns c = opens _ _ c.requires.0 _ c.find_place-k.ensures (gap (goal.at.returns c).Joined-k-gt0) (sym c.starts_at-touches.ensures ∙ c.if-touches-2.false)
