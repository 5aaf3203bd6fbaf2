-- `channel::find` meets its contract. The loop's invariant: what is found from place i on is what is found in the whole.
-- Assumes nothing.
use Prim.Native.Nat.{◌+◌}
use mathlib.Core.Path.{◌≡◌}
use lib.ListN.{drop}
use Rattle.channel.specs.Find.{held_at}
use Rattle.channel.proofs.find.Given as goal

abbrev pub invariant-loop-i : goal.invariant-loop-i
invariant-loop-i l = l.i + held_at (drop l.i l.held) (drop l.i l.ids) l.id ≡ held_at l.held l.ids l.id
