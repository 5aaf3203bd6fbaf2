-- `arguments::find` meets its contract. The loop's invariant: what is found from here is what is found from the start. Assumes nothing.
use Prim.Native.Nat.{◌-◌}
use mathlib.Core.Path.{◌≡◌}
use lib.ListN.{length}
use Rattle.arguments.specs.Arguments.{found_from, found}
use Rattle.arguments.proofs.find.Given as goal

abbrev pub invariant-loop-k : goal.invariant-loop-k
invariant-loop-k l = found_from (length l.calls - l.k) l.calls l.name l.at l.k ≡ found l.calls l.name
