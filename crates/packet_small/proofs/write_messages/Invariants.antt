-- `packet_small::write_messages` meets its contract. The loop's invariant: what is left, written from here, makes the buffer that the whole makes.
-- Assumes nothing.
use Prim.Native.Nat.{◌+◌, ◌-◌}
use mathlib.Core.Path.{◌≡◌}
use mathlib.Core.Bool.{true}
use mathlib.Core.List.{map}
use lib.ListN.{length}
use Rattle.words.specs.Lists.{splice, all, total}
use Rattle.packet_small.specs.Write.{listed, stored, sayable, said_of, messages_bytes}
use Rattle.packet_small.specs.Steps.{size}
use Rattle.packet_small.proofs.write_messages.Given as goal

abbrev pub invariant-loop-i : goal.invariant-loop-i
invariant-loop-i l = (length l.out ≡ length l.initial.out)
    × (all (stored (length l.store)) (listed l.table l.i (l.count - l.i)) ≡ true)
    × (all (sayable l.ids) (listed l.table l.i (l.count - l.i)) ≡ true)
    × (l.at + total (size l.ids) (listed l.table l.i (l.count - l.i)) ≡ l.from + total (size l.ids) (listed l.table 0 l.count))
    × (splice l.at (messages_bytes l.ids (map (said_of l.ids l.store) (listed l.table l.i (l.count - l.i)))) l.out ≡ splice l.from (messages_bytes l.ids (map (said_of l.ids l.store) (listed l.table 0 l.count))) l.initial.out)
