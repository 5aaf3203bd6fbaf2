-- What is left to walk ends as the whole does. Assumes nothing.
use Prim.Native.Nat.{◌-◌}
use mathlib.Core.Path.{◌≡◌}
use Rattle.packet_ack.specs.Ack.{lowers}
use Rattle.packet_ack.specs.Steps.{ended}
use Rattle.packet_ack.proofs.walk_lowers.Given as goal

abbrev pub invariant-loop : goal.invariant-loop
invariant-loop l = ended (lowers (l.n - l.counter) l.c.range.start l.s l.c.next) ≡ ended (lowers l.n l.fn.top.range.start l.s l.fn.top.next)
