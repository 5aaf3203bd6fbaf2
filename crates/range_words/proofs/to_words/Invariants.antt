-- `range_words::to_words` meets its contract: what is left, from the index on, gives what the whole gives. Assumes nothing.
use Prim.Native.Nat.{◌/◌}
use mathlib.Core.Path.{◌≡◌}
use lib.ListN.{length}
use Rattle.range_words.specs.Words.{set_down}
use Rattle.range_words.proofs.Left.{laid}
use Rattle.range_words.proofs.to_words.Given as goal

abbrev pub invariant-loop-i : goal.invariant-loop-i
invariant-loop-i l = laid l.t (length l.initial.words / 2) l.i l.words ≡ set_down l.t l.initial.words
