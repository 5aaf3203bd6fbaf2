-- `packet_ack::put_ack` meets its contract: the ranges are judged, and written in two parts. Assumes nothing.
use Prim.Native.Nat.{◌-◌}
use mathlib.Core.Path.{◌≡◌, refl, sym, subst, ◌∙◌}
use lib.ListN.{length}
use Rattle.std.proofs.lemmas.Result.{err_from_is_err_and}
use Rattle.packet_ack.specs.Steps.{judged_in, Writable}
use Rattle.packet_ack.proofs.Encode.{bad-table, judged-here}
use Rattle.packet_ack.proofs.put_ack.Goals as goal
use Rattle.packet_ack.proofs.put_ack.Goals.{After-judge_ranges-j}

judged : (c : After-judge_ranges-j) → (let a = c.args in c.judge_ranges-j.result ≡ judged_in a.ranges.now a.packet.count (length a.out.now - a.at))
judged c = judged-here _ _ _ c.if-ranges-count.false c.saturating_sub-room.ensures c.unjudged.ensures c.judge_ranges-j.ensures

pub returns-then-ranges-count : goal.returns-then-ranges-count
returns-then-ranges-count c = (bad-table _ _ _ _ _ c.if-ranges-count.true, refl)

pub put_front-requires : goal.put_front-requires
put_front-requires c = record { table = c.args.ranges.now; holds = refl; judged = judged (goal.at.put_front-requires c).After-judge_ranges-j }

pub returns-in_err-front : goal.returns-in_err-front
returns-in_err-front c =
    let p = err_from_is_err_and c.from_residual.result c.from_residual.ensures.1 in
    let g = c.in_err-front.ensures c.args.ranges.now refl (judged (goal.at.returns-in_err-front c).After-judge_ranges-j) in
    rw (p.1, p.2) (g.answer, g.wrote)

pub write_ranges-requires : goal.write_ranges-requires
write_ranges-requires c =
    let f = c.in_ok-front.front in
    let g = c.in_ok-front.ensures c.args.ranges.now refl (judged (goal.at.write_ranges-requires c).After-judge_ranges-j) in
    subst (Writable c.args.ranges.now f.left f.pen) (sym c.put_front.auto.out) g.writable

pub returns : goal.returns
returns c =
    let g = c.in_ok-front.ensures c.args.ranges.now refl (judged (goal.at.returns c).After-judge_ranges-j) in
    (g.answer, c.write_ranges.ensures ∙ g.wrote)
