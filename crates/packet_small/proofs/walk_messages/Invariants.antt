-- `packet_small::walk_messages` meets its contract. The loop's invariant: what is left to walk ends as the whole does. Assumes nothing.
use Prim.Native.Nat.{◌-◌}
use mathlib.Core.Path.{◌≡◌}
use Rattle.packet_small.specs.Small.{messages}
use Rattle.packet_small.specs.Steps.{walk_of}
use Rattle.packet_small.proofs.walk_messages.Given as goal

abbrev pub invariant-loop : goal.invariant-loop
invariant-loop l = walk_of (messages l.ids (l.n - l.counter) l.s l.at) ≡ walk_of (messages l.ids l.n l.s l.from)
