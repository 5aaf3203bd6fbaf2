-- A run of calls: pieces of one message, one after the other. Assumes nothing.
use Rattle.std.specs.Prelude.{ℕ, List, length, eqb}
use Rattle.words.specs.Choice.{pick}
use Rattle.words.specs.Lists.{reached}
use Rattle.slice_constructor.specs.declared.SliceConstructor.{SliceConstructor}
use Rattle.slice_constructor.specs.Collect.{blank_of, collect_refusal, taken, lane_taken}
use Rattle.words.specs.Pieces.{pieces_of, piece_of}

-- the state and the lane that a call with piece i of a message leaves, as `CollectGives` has them
unfoldable pub called : List ℕ → SliceConstructor × List ℕ → ℕ → SliceConstructor × List ℕ
called msg (c, lane) i = (
  pick (eqb (collect_refusal c i (length (piece_of msg i)) (length lane)) 0) (taken c i (length (piece_of msg i))) c,
  pick (eqb (collect_refusal c i (length (piece_of msg i)) (length lane)) 0) (lane_taken c i (piece_of msg i) lane) lane,
)

-- what calls with these indices leave, one after the other
abbrev pub after_all : List ℕ → SliceConstructor × List ℕ → List ℕ → SliceConstructor × List ℕ
after_all msg = reached (called msg)

-- the same from a new reassembly of the message on
abbrev pub arrivals : List ℕ → ℕ → List ℕ → List ℕ → SliceConstructor × List ℕ
arrivals msg id lane = after_all msg (blank_of id (pieces_of (length msg)), lane)
