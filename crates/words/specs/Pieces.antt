-- A message in pieces. Document 01: 1,200 bytes is small; 1,201 is pieces of 1,200 and 1; 2,401 is three pieces. Assumes nothing.
use Rattle.std.specs.Prelude.{ℕ, ◌+◌, ◌-◌, ◌*◌, ◌/◌, List, take, drop, eqb}
use Rattle.words.specs.Sizes.{SLICE_SIZE}
use Rattle.words.specs.Choice.{pick}

-- how many pieces a message of n bytes has
abbrev pub pieces_of : ℕ → ℕ
pieces_of n = (n + (SLICE_SIZE - 1)) / SLICE_SIZE

-- piece i of a message: 1,200 bytes, or what is left
abbrev pub piece_of : List ℕ → ℕ → List ℕ
piece_of msg i = take SLICE_SIZE (drop (i * SLICE_SIZE) msg)

-- the length of piece i of a message of n bytes
abbrev pub piece_len_of : ℕ → ℕ → ℕ
piece_len_of n i = pick (eqb (i + 1) (pieces_of n)) (n - i * SLICE_SIZE) SLICE_SIZE
