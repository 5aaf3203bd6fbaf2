-- `packet_ack::fill_ranges` meets its contract. Assumes nothing.
use Rattle.std.proofs.Common.{◌∙◌, arith}
use Rattle.packet_ack.proofs.Turns.{fill_turn, fill_end}
use Rattle.packet_ack.proofs.fill_ranges.Goals as goal

pub loop-i-preserved : goal.loop-i-preserved
loop-i-preserved c = let l = c.loop-i in fill_turn l.i c.args.s.now l.c l.ranges c.loop-i-test.true c.lower_spot-c.ensures ∙ l.invariant

pub returns : goal.returns
returns c = let l = c.loop-i in fill_end l.i c.args.s.now l.c l.ranges (omega arith) ∙ l.invariant
