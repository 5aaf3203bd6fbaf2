-- `packet_small::fill_table` meets its contract. The loop's invariant: what is left fills the rest of the table as the whole fills all of it.
-- Assumes nothing.
use Prim.Native.Nat.{◌*◌, ◌-◌}
use mathlib.Core.Path.{◌≡◌}
use lib.ListN.{length}
use Rattle.octets.specs.Reader.{Good}
use Rattle.packet_small.specs.Small.{messages, RECORD}
use Rattle.packet_small.specs.Steps.{filled}
use Rattle.packet_small.proofs.fill_table.Given as goal

abbrev pub invariant-loop-i : goal.invariant-loop-i
invariant-loop-i l = (length l.table ≡ length l.initial.table)
    × Good (messages l.ids (l.n - l.i) l.s l.at)
    × (filled (messages l.ids (l.n - l.i) l.s l.at) (RECORD * l.i) l.table ≡ filled (messages l.ids l.n l.s l.from) 0 l.initial.table)
