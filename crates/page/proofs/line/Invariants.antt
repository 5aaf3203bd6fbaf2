-- `page::line` meets its contract: what is left, from the index on, gives what the whole gives. Assumes nothing.
use Prim.Native.Nat.{◌≤◌}
use mathlib.Core.Path.{◌≡◌}
use lib.ListN.{drop}
use Rattle.page.specs.Page.{sheet, lined_from}
use Rattle.page.proofs.line.Given as goal

abbrev pub invariant-loop-c : goal.invariant-loop-c
invariant-loop-c l = (l.t.k ≤ l.c-index) × (lined_from (drop l.c-index l.s) l.numbers l.t.k (sheet l.page l.t.at) ≡ lined_from l.s l.numbers 0 (sheet l.initial.page l.at))
