-- `SendChannelReliable::write_visits` meets its contract. The loop's invariant: the visits to the first k rows are written. Assumes nothing.
use Prim.Native.Nat.{◌≤◌}
use mathlib.Core.Path.{◌≡◌}
use lib.ListN.{length, take}
use Rattle.send_reliable.specs.Sender.{live}
use Rattle.send_reliable.specs.Select.{visits_from}
use Rattle.send_reliable.proofs.SendChannelReliable.write_visits.Given as goal

abbrev pub invariant-loop-k : goal.invariant-loop-k
invariant-loop-k l = (length l.visits ≡ length l.initial.visits) × (l.n ≤ length l.visits) × (take l.n l.visits ≡ visits_from 0 (take l.k (live l.self)))
