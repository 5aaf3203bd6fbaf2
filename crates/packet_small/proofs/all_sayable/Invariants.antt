-- `packet_small::all_sayable` meets its contract. The loop's invariant: what is told of the rest is what is told of the whole. Assumes nothing.
use Prim.Native.Nat.{◌-◌}
use mathlib.Core.Path.{◌≡◌}
use Rattle.words.specs.Lists.{all}
use Rattle.packet_small.specs.Write.{listed, sayable}
use Rattle.packet_small.proofs.all_sayable.Given as goal

abbrev pub invariant-loop-i : goal.invariant-loop-i
invariant-loop-i l = all (sayable l.ids) (listed l.table l.i (l.count - l.i)) ≡ all (sayable l.ids) (listed l.table 0 l.count)
