-- What a lane holds while the pieces of one message arrive, and when it is whole. Assumes nothing.
use Rattle.std.specs.Prelude.{ℕ, ◌-◌, ◌*◌, ◌≤◌, ◌<◌, ◌≡◌, true, false, List, length, get_or, take, drop}
use Rattle.words.specs.Sizes.{SLICE_SIZE}
use Rattle.words.specs.Pieces.{piece_of}
use Rattle.slice_constructor.specs.declared.SliceConstructor.{SliceConstructor}

-- the lane holds every piece that is here, and the last piece's length is known once it is
pub record Holds (c : SliceConstructor) (msg lane : List ℕ) : Type 0 where
  pub long : c.num_slices * SLICE_SIZE ≤ length lane
  pub pieces : (i : ℕ) → i < c.num_slices → get_or c.received i false ≡ true
      → take (length (piece_of msg i)) (drop (i * SLICE_SIZE) lane) ≡ piece_of msg i
  pub last : get_or c.received (c.num_slices - 1) false ≡ true → c.last_len ≡ length (piece_of msg (c.num_slices - 1))
