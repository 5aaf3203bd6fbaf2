-- What is left fills the rest of the table as the whole fills all of it. Assumes nothing.
use Rattle.std.proofs.Common.{◌≡◌}
use Rattle.packet_ack.specs.Steps.{filled_from}
use Rattle.packet_ack.proofs.fill_ranges.Given as goal

abbrev pub invariant-loop-i : goal.invariant-loop-i
invariant-loop-i l = filled_from l.i l.s l.c l.ranges ≡ filled_from l.n l.s l.fn.top l.fn.ranges
