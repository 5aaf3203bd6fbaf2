-- Packets of acknowledgements, read. Document 01, "Packet layouts":
--   4 Ack  v seq, v last value of the highest range, v its size less one, v ranges remaining; per lower range v gap, v size less one
-- Ranges are half-open, rising, with at least one number missing between two. Gap = start of the range above, minus this
-- range's end, minus 1. Assumes nothing.
use Rattle.std.specs.Prelude.{ℕ, zero, suc, ◌+◌, ◌-◌, List, [], ◌∷◌, reverse, length, leb, Result, Ok, Err}
use Rattle.words.specs.Choice.{pick}
use Rattle.words.specs.Lists.{splice}
use Rattle.words.specs.Refusal.{number_of}
use Rattle.words.specs.declared.Refusal.{Refusal}
use Rattle.octets.specs.Reader.{Res, ok, fault, Reader, ◌>>=◌, ◌>>◌, give, need}
use Rattle.octets.specs.Varint.{var}
use Rattle.packet_ack.specs.declared.Ack as code
-- ---- the layout

-- a range is the code's own record: the numbers from `start` up to, and without, `end`
pub use Rattle.packet_ack.specs.declared.Range.{Range}

-- the range whose last value and whose size less one are these; 5 where it would start below 0
unfoldable pub sized : ℕ → ℕ → Reader Range
sized last size = do
  need (leb size last) 5
  give (record { start = last - size; end = last + 1 })

-- v gap, v size less one, where the range above starts at `above`; the gap is judged (5) before the size is read
unfoldable pub lower : ℕ → Reader Range
unfolding sized
lower above = do
  gap ← var
  need (leb (2 + gap) above) 5
  size ← var
  sized (above - gap - 2) size

-- k of them, the highest first
unfoldable pub lowers : ℕ → ℕ → Reader (List Range)
lowers zero above = give []
lowers (suc k) above = do
  r ← lower above
  rs ← lowers k r.start
  give (r ∷ rs)

pub record Ack : Type 0 where
  pub sequence : ℕ
  pub ranges : List Range

-- what follows the type byte; the highest range is judged (5) after its three numbers
unfoldable pub ack : Reader Ack
unfolding sized
ack = do
  seq ← var
  last ← var
  size ← var
  k ← var
  r ← sized last size
  rs ← lowers k r.start
  give (record { sequence = seq; ranges = reverse (r ∷ rs) })

-- ---- what the reader answers, and what it leaves of a lent table of ranges

-- records of a table that goes by value
abbrev pub RANGES : ℕ
RANGES = 64

-- a good packet with more ranges than a table of n records is refused: 11
unfoldable pub judged : Res Ack → ℕ → Res Ack
judged (ok p next) n = pick (leb (length p.ranges) n) (ok p next) (fault 11)
judged (fault e) n = fault e

-- the table afterwards: only as many records as there are ranges change; a refusal changes none
unfoldable pub tabled : Res Ack → List Range → List Range
tabled (ok p next) t = splice 0 p.ranges t
tabled (fault e) t = t

-- what is told beside the table: the sequence and how many ranges there are
pub record Told : Type 0 where
  pub sequence : ℕ
  pub count : ℕ

abbrev pub told : Res Ack → Res Told
told (ok p next) = ok (record { sequence = p.sequence; count = length p.ranges }) next
told (fault e) = fault e

-- ---- what the code's answer says

abbrev pub read_of : Result (code.Ack × ℕ) Refusal → Res Told
read_of (Ok (p, next)) = ok (record { sequence = p.sequence.0; count = p.count }) next
read_of (Err e) = fault (number_of e)
