-- `pack::pack` meets its contract. The loop's invariant: the first i items are packed. Assumes nothing.
use mathlib.Core.Path.{◌≡◌}
use lib.ListN.{length}
use Rattle.pack.specs.Steps.{PackedTo}
use Rattle.pack.proofs.pack.Given as goal

abbrev pub invariant-loop-i : goal.invariant-loop-i
invariant-loop-i l = (length l.packs ≡ length l.initial.packs) × PackedTo l.ids l.sequence.0 l.items l.i l.p l.packs
