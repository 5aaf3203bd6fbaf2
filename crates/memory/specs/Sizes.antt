-- How much memory each end of a session has, as the code has it. docs/SCRIPT.md, "Lent memory". Assumes nothing.
use Rattle.std.specs.Prelude.{ℕ, ◌*◌}
use Rattle.words.specs.Sizes as sizes

-- what there is to be lent to a channel end: its two stores, and of a sender `out` and `table`
abbrev pub SMALL : ℕ
SMALL = sizes.SLOTS * sizes.SLICE_SIZE

abbrev pub LANE : ℕ
LANE = sizes.PIECES * sizes.SLICE_SIZE

abbrev pub LANES : ℕ
LANES = sizes.LANES * LANE

abbrev pub OUT : ℕ
OUT = 280000

abbrev pub TABLE : ℕ
TABLE = 512

-- what there is to be lent to the wire: the tables of messages and of ranges, and `out`
abbrev pub MESSAGES : ℕ
MESSAGES = 192

abbrev pub RANGES : ℕ
RANGES = 128

abbrev pub WIRE : ℕ
WIRE = 2048
