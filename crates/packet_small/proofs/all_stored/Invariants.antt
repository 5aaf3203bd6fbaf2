-- `packet_small::all_stored` meets its contract. The loop's invariant: what is told of the rest is what is told of the whole. Assumes nothing.
use Prim.Native.Nat.{◌-◌}
use mathlib.Core.Path.{◌≡◌}
use Rattle.words.specs.Lists.{all}
use Rattle.packet_small.specs.Write.{listed, stored}
use Rattle.packet_small.proofs.all_stored.Given as goal

abbrev pub invariant-loop-i : goal.invariant-loop-i
invariant-loop-i l = all (stored l.m) (listed l.table l.i (l.count - l.i)) ≡ all (stored l.m) (listed l.table 0 l.count)
