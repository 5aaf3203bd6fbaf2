-- What is left can be written, and writing it makes what writing all of it makes. Assumes nothing.
use Rattle.std.proofs.Common.{◌≡◌, length}
use Rattle.words.specs.Lists.{splice}
use Rattle.packet_ack.specs.Write.{lowers_bytes}
use Rattle.packet_ack.specs.Steps.{below, Writable}
use Rattle.packet_ack.proofs.write_ranges.Given as goal

abbrev pub invariant-loop-i : goal.invariant-loop-i
invariant-loop-i l =
    record {
      writable : Writable l.ranges l.i l.p (length l.out);
      wrote : splice l.p.at (lowers_bytes l.p.above (below l.ranges l.i)) l.out ≡ splice l.fn.pen.at (lowers_bytes l.fn.pen.above (below l.ranges l.n)) l.fn.out;
    }
