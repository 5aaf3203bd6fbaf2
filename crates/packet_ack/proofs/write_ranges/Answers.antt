-- `packet_ack::write_ranges` meets its contract. Assumes nothing.
use Rattle.std.proofs.Common.{◌∙◌, arith}
use Rattle.packet_ack.proofs.Turns.{asks_less, writable_next, write_turn, write_end}
use Rattle.packet_ack.proofs.write_ranges.Goals as goal

pub write_lower-p-requires : goal.write_lower-p-requires
write_lower-p-requires c = let l = c.loop-i in asks_less c.args.ranges.now l.i l.p _ c.loop-i-test.true l.invariant.writable

pub loop-i-preserved : goal.loop-i-preserved
loop-i-preserved c =
    let l = c.loop-i in
    let w = c.write_lower-p.ensures in
    record {
      writable = writable_next c.args.ranges.now l.i l.p _ c.loop-i-test.true w.0 c.write_lower-p.auto.out l.invariant.writable;
      wrote = write_turn c.args.ranges.now l.i l.p l.out c.loop-i-test.true w.0 w.1 ∙ l.invariant.wrote;
    }

pub returns : goal.returns
returns c = let l = c.loop-i in write_end c.args.ranges.now l.i l.p l.out (omega arith) ∙ l.invariant.wrote
