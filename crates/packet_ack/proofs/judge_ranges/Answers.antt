-- `packet_ack::judge_ranges` meets its contract. Assumes nothing.
use Rattle.std.proofs.Common.{◌∙◌, arith}
use Rattle.packet_ack.proofs.Turns.{judge_turn, judge_end}
use Rattle.packet_ack.proofs.judge_ranges.Goals as goal

pub loop-i-preserved : goal.loop-i-preserved
loop-i-preserved c = let l = c.loop-i in judge_turn c.args.ranges.now l.i l.j c.loop-i-test.true c.judge_range-j.ensures ∙ l.invariant

pub returns : goal.returns
returns c = let l = c.loop-i in judge_end c.args.ranges.now l.i l.j (omega arith) ∙ l.invariant
