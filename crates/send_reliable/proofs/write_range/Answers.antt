-- `send_reliable::write_range` meets its contract. The loop's invariant: the visits up to the piece are written. Assumes nothing.
use Prim.Native.Nat.{◌-◌, ◌<◌}
use mathlib.Core.Path.{◌≡◌, refl, ap, ◌∙◌}
use mathlib.Core.List.{◌++◌}
use native.Mathlib.Omega.{arith}
use lib.ListN.{length, take, length-set}
use Rattle.send_reliable.specs.Select.{up_from}
use Rattle.send_reliable.proofs.Visits.{range_none, range-turn}
use Rattle.send_reliable.proofs.write_range.Goals as goal

pub loop-piece-init : goal.loop-piece-init
loop-piece-init c = let a = c.args in (omega arith, refl, range_none a.visits.now a.n a.row a.from)

pub loop-piece-preserved : goal.loop-piece-preserved
loop-piece-preserved c =
    let l = c.loop-piece in
    let a = c.args in
    let room : l.m < length l.visits = omega arith in
    (omega arith, simp length-set l.invariant.1, range-turn a.visits.now l.visits a.n l.m a.row a.from l.piece l.auto.piece room l.invariant.2)

pub returns : goal.returns
returns c =
    let l = c.loop-piece in
    let a = c.args in
    let e : l.piece ≡ a.to = omega arith in
    (omega arith, l.invariant.2 ∙ ap (λ i. take a.n a.visits.now ++ up_from a.row a.from (i - a.from)) e)
