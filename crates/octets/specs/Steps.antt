-- What the promises of private functions cite. Assumes nothing.
use Rattle.std.specs.Prelude.{ℕ, ◌+◌, ◌*◌, ◌/◌, ◌%◌, List, ◌++◌, get_or}
use Rattle.octets.specs.Varint.{pair_bytes}

-- a number in four bytes, big-endian
abbrev pub quad_bytes : ℕ → List ℕ
quad_bytes n = pair_bytes (n / 65536) ++ pair_bytes (n % 65536)

-- the number of two bytes at a place, and of four
abbrev pub pair_at : List ℕ → ℕ → ℕ
pair_at s at = get_or s at 0 * 256 + get_or s (at + 1) 0

abbrev pub quad_at : List ℕ → ℕ → ℕ
quad_at s at = pair_at s at * 65536 + pair_at s (at + 2)
