-- Packets of acknowledgements, written. Document 01, "Packet layouts" and the order of refusals in encoding. Assumes nothing.
use Rattle.std.specs.Prelude.{ℕ, zero, suc, ◌+◌, ◌-◌, Bool, true, false, not, List, [], ◌∷◌, ◌++◌, reverse, length, get_or, ltb, leb}
use Rattle.words.specs.Sizes.{LIMIT}
use Rattle.words.specs.Choice.{pick, refusal}
use Rattle.words.specs.Lists.{all}
use Rattle.octets.specs.Varint.{var_bytes}
use Rattle.octets.specs.Writer.{Outcome, outcome}
use Rattle.packet_ack.specs.Ack.{Range}

-- ---- bytes

abbrev pub type_byte_of : ℕ
type_byte_of = 4

-- its size less one
abbrev pub size_less_one : Range → ℕ
size_less_one r = r.end - 1 - r.start

-- per lower range v gap, v size less one, the highest first, where the range above starts at `above`
unfoldable pub lowers_bytes : ℕ → List Range → List ℕ
lowers_bytes above [] = []
lowers_bytes above (r ∷ rs) = var_bytes (above - r.end - 1) ++ (var_bytes (size_less_one r) ++ lowers_bytes r.start rs)

-- v last value of the highest range, v its size less one, v ranges remaining, and the lower ranges; of ranges the highest first
unfoldable pub falling_bytes : List Range → List ℕ
falling_bytes [] = []
falling_bytes (r ∷ rs) = var_bytes (r.end - 1) ++ (var_bytes (size_less_one r) ++ (var_bytes (length rs) ++ lowers_bytes r.start rs))

-- type byte, v seq, and the ranges; they rise
unfoldable pub ack_bytes : ℕ → List Range → List ℕ
ack_bytes seq rs = type_byte_of ∷ (var_bytes seq ++ falling_bytes (reverse rs))

-- ---- the ranges of a table

abbrev pub record_at : List Range → ℕ → Range
record_at t i = get_or t i (record { start = 0; end = 0 })

-- k of them, from the i-th on
unfoldable pub listed : List Range → ℕ → ℕ → List Range
listed t i zero = []
listed t i (suc k) = record_at t i ∷ listed t (i + 1) k

-- ---- the refusals, in their order: 10, 13, 5, 1

-- its start is below 2^62, and its end not above it
abbrev pub sayable : Range → Bool
sayable r = pick (ltb r.start LIMIT) (leb r.end LIMIT) false

-- no range is empty or backward, and each starts above the end before it
unfoldable pub rising_after : ℕ → List Range → Bool
rising_after end [] = true
rising_after end (r ∷ rs) = pick (ltb end r.start) (pick (ltb r.start r.end) (rising_after r.end rs) false) false

-- there is a range, and they rise
unfoldable pub rising : List Range → Bool
unfolding rising_after
rising [] = false
rising (r ∷ rs) = pick (ltb r.start r.end) (rising_after r.end rs) false

-- the packet of the first n ranges of the table t, at place `at` of m bytes
unfoldable pub ack_refusal : ℕ → List Range → ℕ → ℕ → ℕ → ℕ
ack_refusal seq t n at m =
    refusal (
    (ltb (length t) n, 10) ∷
    (leb LIMIT seq, 13) ∷
    (not (all sayable (listed t 0 n)), 13) ∷
    (not (rising (listed t 0 n)), 5) ∷
    (ltb m (at + length (ack_bytes seq (listed t 0 n))), 1) ∷ []
    )

unfoldable pub put_ack : ℕ → List Range → ℕ → ℕ → ℕ → Outcome
put_ack seq t n at m = outcome (ack_refusal seq t n at m) (at + length (ack_bytes seq (listed t 0 n)))
