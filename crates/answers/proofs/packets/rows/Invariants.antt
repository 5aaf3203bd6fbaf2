-- `answers::packets::rows` meets its contract: what is left, from a place on, gives what the whole gives. Assumes nothing.
use Prim.Native.Nat.{◌-◌}
use mathlib.Core.Path.{◌≡◌}
use lib.ListN.{drop}
use Rattle.page.specs.Page.{sheet}
use Rattle.answers.specs.Packets.{rows_said}
use Rattle.answers.proofs.packets.rows.Given as goal

abbrev pub invariant-loop : goal.invariant-loop
invariant-loop l = rows_said l.s l.width (l.count - l.counter) (drop l.j l.t) (sheet l.page l.a) ≡ rows_said l.s l.width l.count l.t (sheet l.initial.page l.at)
