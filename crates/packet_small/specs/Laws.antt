-- What the laws of packets of small messages speak of. Assumes nothing.
use Rattle.std.specs.Prelude.{ℕ, ◌<◌, ◌≡◌, Bool, true, false, List, length}
use Rattle.words.specs.Sizes.{LIMIT}
use Rattle.octets.specs.Reader.{ok, byte}
use Rattle.packet_small.specs.Small.{Small, small}
use Rattle.packet_small.specs.Write.{Said, type_byte_of}
use Rattle.packet_small.specs.Layout.{SmallSaid, small_said}

-- at the front of s the type byte is read, then a packet that says w, and `used` bytes are used
pub record ReadsAs (ids : Bool) (s : List ℕ) (w : SmallSaid) (used : ℕ) : Type 0 where
  pub packet-read : Small
  pub type-is : byte s 0 ≡ ok (type_byte_of ids) 1
  pub rest-is : small ids s 1 ≡ ok packet-read used
  pub says : small_said s packet-read ≡ w

-- varints can say a message's numbers; where its kind has no ids, it has none
abbrev pub Sayable : Bool → Said → Type 0
Sayable true m = (m.id < LIMIT) × (length m.bytes < LIMIT)
Sayable false m = (m.id ≡ 0) × (length m.bytes < LIMIT)
