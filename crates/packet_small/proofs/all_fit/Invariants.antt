-- `packet_small::all_fit` meets its contract. The loop's invariant: the rest fits what is left where the whole fits the room. Assumes nothing.
use Prim.Native.Nat.{◌-◌}
use mathlib.Core.Path.{◌≡◌}
use lib.Dec.{leb}
use Rattle.words.specs.Lists.{total}
use Rattle.packet_small.specs.Write.{listed}
use Rattle.packet_small.specs.Steps.{size}
use Rattle.packet_small.proofs.all_fit.Given as goal

abbrev pub invariant-loop-i : goal.invariant-loop-i
invariant-loop-i l = leb (total (size l.ids) (listed l.table l.i (l.count - l.i))) l.spare ≡ leb (total (size l.ids) (listed l.table 0 l.count)) l.room
