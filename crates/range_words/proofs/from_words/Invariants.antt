-- `range_words::from_words` meets its contract: what is left, from the index on, gives what the whole gives. Assumes nothing.
use mathlib.Core.Path.{◌≡◌}
use Rattle.range_words.specs.Words.{table_of}
use Rattle.range_words.proofs.Left.{filled}
use Rattle.range_words.proofs.from_words.Given as goal

abbrev pub invariant-loop-i : goal.invariant-loop-i
invariant-loop-i l = filled l.words l.i l.t ≡ table_of l.words
