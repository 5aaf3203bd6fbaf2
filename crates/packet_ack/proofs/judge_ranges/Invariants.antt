-- The records below `i` are still to be judged: from what is known so far they lead to what all of them lead to. Assumes nothing.
use Rattle.std.proofs.Common.{◌≡◌}
use Rattle.words.specs.Lists.{reached}
use Rattle.packet_ack.specs.Steps.{judged_next, below}
use Rattle.packet_ack.proofs.judge_ranges.Given as goal

abbrev pub invariant-loop-i : goal.invariant-loop-i
invariant-loop-i l = reached judged_next l.j (below l.ranges l.i) ≡ reached judged_next l.fn.from (below l.ranges l.n)
