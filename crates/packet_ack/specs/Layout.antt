-- The layout of packets of acknowledgements as a relation: which bytes spell a packet that document 01 allows, with varints in any of their lengths. Assumes nothing.
use Rattle.std.specs.Prelude.{ℕ, ◌+◌, ◌≡◌, List, [], ◌∷◌, ◌++◌, reverse, length}
use Rattle.octets.specs.Spelling.{Varint}
use Rattle.packet_ack.specs.Ack.{Range, Ack}
use Rattle.packet_ack.specs.Write.{type_byte_of}

-- a range by its last value and its size less one
pub data Sized : ℕ → ℕ → Range → Type 0 where
  sized : {last size start : ℕ} → start + size ≡ last → Sized last size (record { start = start; end = last + 1 })

-- per lower range v gap, v size less one; gap = start of the range above, minus this range's end, minus 1
pub data LowersSpelt : ℕ → List Range → List ℕ → Type 0 where
  none_left : {above : ℕ} → LowersSpelt above [] []
  one_more : {above gap last size : ℕ} {r : Range} {rs : List Range} {a b c : List ℕ}
      → r.end + gap + 1 ≡ above → Sized last size r → Varint gap a → Varint size b → LowersSpelt r.start rs c
      → LowersSpelt above (r ∷ rs) (a ++ (b ++ c))

-- type byte, v seq, v last value of the highest range, v its size less one, v ranges remaining, and the lower ranges
pub data AckSpelt : Ack → List ℕ → Type 0 where
  packet : {seq last size : ℕ} {r : Range} {rs : List Range} {a b c d e : List ℕ}
      → Varint seq a → Sized last size r → Varint last b → Varint size c → Varint (length rs) d → LowersSpelt r.start rs e
      → AckSpelt (record { sequence = seq; ranges = reverse (r ∷ rs) }) (type_byte_of ∷ (a ++ (b ++ (c ++ (d ++ e)))))
