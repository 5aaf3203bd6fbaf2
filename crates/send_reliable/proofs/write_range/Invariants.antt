-- `send_reliable::write_range` meets its contract. The loop's invariant: the visits up to the piece are written. Assumes nothing.
use Prim.Native.Nat.{◌+◌, ◌-◌}
use mathlib.Core.Path.{◌≡◌}
use mathlib.Core.List.{◌++◌}
use lib.ListN.{length, take}
use Rattle.send_reliable.specs.Select.{up_from}
use Rattle.send_reliable.proofs.write_range.Given as goal

abbrev pub invariant-loop-piece : goal.invariant-loop-piece
invariant-loop-piece l = (l.m ≡ l.n + (l.piece - l.from)) × (length l.visits ≡ length l.initial.visits) × (take l.m l.visits ≡ take l.n l.initial.visits ++ up_from l.row l.from (l.piece - l.from))
