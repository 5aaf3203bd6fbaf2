-- The layout of packets of one piece as a relation: which bytes spell a packet that document 01 allows, with varints in any of their lengths. Assumes nothing.
use Rattle.std.specs.Prelude.{ℕ, ◌≤◌, ◌<◌, Bool, true, false, List, ◌∷◌, ◌++◌, length}
use Rattle.words.specs.Sizes.{SLICE_SIZE, MAX_NUM_SLICES}
use Rattle.octets.specs.Spelling.{Varint, RunSpelt}
use Rattle.packet_slice.specs.Write.{SliceSaid, type_byte_of}

-- a payload of n bytes: type 2 takes 1 to 1,200, type 3 any
abbrev pub Payload : Bool → ℕ → Type 0
Payload true n = (1 ≤ n) × (n ≤ SLICE_SIZE)
Payload false n = Unit

-- type byte, v seq, channel byte, v id, v slice index, v num_slices, v length, bytes
pub data SliceSpelt : Bool → SliceSaid → List ℕ → Type 0 where
  packet : {reliable : Bool} {seq channel id index n : ℕ} {bs a b c d e : List ℕ}
      → Varint seq a → channel < 256 → Varint id b → Varint index c → Varint n d → 1 ≤ n → n ≤ MAX_NUM_SLICES → RunSpelt bs e → Payload reliable (length bs)
      → SliceSpelt reliable
      (record { sequence = seq; channel = channel; id = id; index = index; num-slices = n; bytes = bs })
      (type_byte_of reliable ∷ (a ++ (channel ∷ (b ++ (c ++ (d ++ e))))))
