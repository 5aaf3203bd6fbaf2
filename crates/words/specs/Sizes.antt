-- Sizes by name, as the code has them. Document 01, "Sizes and settings". Assumes nothing.
use Rattle.std.specs.Prelude.{ℕ, ◌^◌}

-- a piece's length, and the most that a small message has
abbrev pub SLICE_SIZE : ℕ
SLICE_SIZE = 1200

-- slots for small messages: 1 to 64
abbrev pub SLOTS : ℕ
SLOTS = 64

-- lanes for sliced messages: 1 to 4
abbrev pub LANES : ℕ
LANES = 4

-- pieces per message: 1 to 40
abbrev pub PIECES : ℕ
PIECES = 40

-- memory maximum: 0 to 1,000,000
abbrev pub MAX_MEMORY : ℕ
MAX_MEMORY = 1000000

-- num_slices of a packet: 1 to 1,000,000
abbrev pub MAX_NUM_SLICES : ℕ
MAX_NUM_SLICES = 1000000

-- messages of a packet: at most 65,535
abbrev pub MAX_MESSAGES : ℕ
MAX_MESSAGES = 65535

-- ids, sequences and varint values are below 2^62
abbrev pub LIMIT : ℕ
LIMIT = 2 ^ 62
