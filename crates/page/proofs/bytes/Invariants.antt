-- `page::bytes` meets its contract: what is left, from the index on, gives what the whole gives. Assumes nothing.
use Prim.Native.Nat.{◌-◌}
use lib.ListN.{length}
use Rattle.page.specs.Page.{sheet, spelt}
use Rattle.page.proofs.Sheets.{Spells}
use Rattle.page.proofs.bytes.Given as goal

abbrev pub invariant-loop-i : goal.invariant-loop-i
invariant-loop-i l = Spells l.s l.i l.before (sheet l.page l.a) (spelt l.s (sheet l.initial.page l.at))

abbrev pub decreases-loop-i : goal.decreases-loop-i
decreases-loop-i l = length l.s - l.i
