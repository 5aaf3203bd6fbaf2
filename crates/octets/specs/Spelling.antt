-- The forms of RFC 9000, section 16, as a relation: which bytes say a number. Assumes nothing.
use Rattle.std.specs.Prelude.{ℕ, ◌*◌, ◌-◌, ◌^◌, ◌<◌, List, ◌++◌, length}
use Rattle.words.specs.Lists.{All}
use Rattle.octets.specs.Varint.{tagged}

-- a list of bytes
abbrev pub Bytes : List ℕ → Type 0
Bytes s = All (λ b. b < 256) s

-- bs is a form of v: of 2^k bytes, whose two highest bits are k and whose other 8 · 2^k − 2 bits are v
pub data Varint : ℕ → List ℕ → Type 0 where
  form : (k v : ℕ) → k < 4 → v < 2 ^ (8 * 2 ^ k - 2) → Varint v (tagged k (2 ^ k - 1) v)

-- bytes with a form of their length before them
pub data RunSpelt : List ℕ → List ℕ → Type 0 where
  spelt : {bs a : List ℕ} → Varint (length bs) a → RunSpelt bs (a ++ bs)
