-- `say::run` meets its contract. The loop's invariant: as many as were passed, and as many as go on from here, are as many as the whole has. Assumes nothing.
use Prim.Native.Nat.{◌+◌, ◌-◌}
use mathlib.Core.Path.{◌≡◌}
use lib.ListN.{drop}
use Rattle.say.specs.Spelled.{runs}
use Rattle.say.proofs.run.Given as goal

abbrev pub invariant-loop-i : goal.invariant-loop-i
invariant-loop-i l = runs l.up l.initial.b (drop l.from l.s) ≡ (l.i - l.from) + runs l.up l.b (drop l.i l.s)
