-- The largest numbers of a script's arguments, as the code has them. docs/SCRIPT.md, "Bad lines". Assumes nothing.
use Rattle.std.specs.Prelude.{ℕ, ◌-◌, ◌^◌}

-- any number
abbrev pub MAX : ℕ
MAX = 2 ^ 64 - 1

-- a channel, and a two-byte count
abbrev pub CHANNEL : ℕ
CHANNEL = 255

abbrev pub COUNT : ℕ
COUNT = 65535

-- the most further numbers of a call that takes some
abbrev pub MORE : ℕ
MORE = 192
