-- Ranges as words: a start and an end for each. Assumes nothing.
use Rattle.std.specs.Prelude.{ℕ, ◌/◌, List, [], ◌∷◌, length, take, replicate}
use Rattle.words.specs.Lists.{splice}
use Rattle.packet_ack.specs.Ack.{RANGES}
use Rattle.packet_ack.specs.declared.Range.{Range}
use Rattle.packet_ack.specs.Steps.{range}

-- the ranges that words name; a last word alone names none
unfoldable pub ranges_in_of : List ℕ → List Range
ranges_in_of [] = []
ranges_in_of (s ∷ []) = []
ranges_in_of (s ∷ e ∷ ws) = range s e ∷ ranges_in_of ws

-- the words of ranges
unfoldable pub words_of : List Range → List ℕ
words_of [] = []
words_of (r ∷ rs) = r.start ∷ r.end ∷ words_of rs

-- a whole table: the ranges that words name, as far as it goes, and empty ones behind them
unfoldable pub table_of : List ℕ → List Range
table_of ws = splice 0 (take RANGES (ranges_in_of ws)) (replicate RANGES (range 0 0))

-- words, once the first ranges of a table stand in them: as many as there is room for
unfoldable pub set_down : List Range → List ℕ → List ℕ
set_down t ws = splice 0 (words_of (take (length ws / 2) t)) ws
