-- The layouts of the five kinds as one relation: which bytes spell which packet that document 01 allows. Assumes nothing.
use Rattle.std.specs.Prelude.{ℕ, ◌≤◌, ◌<◌, Bool, true, false, List, map, length}
use Rattle.words.specs.Sizes.{MAX_NUM_SLICES}
use Rattle.packet_small.specs.Write as s
use Rattle.packet_small.specs.Write.{said_of}
use Rattle.packet_small.specs.Layout.{SmallSaid, SmallSpelt, small_said}
use Rattle.packet_slice.specs.Write.{SliceSaid, slice_said}
use Rattle.packet_slice.specs.Slice.{slice_of}
use Rattle.packet_slice.specs.Layout.{SliceSpelt, Payload}
use Rattle.packet_ack.specs.Ack as a
use Rattle.packet_ack.specs.declared.Range.{Range}
use Rattle.packet_ack.specs.Write as aw
use Rattle.packet_ack.specs.Layout.{AckSpelt}
use Rattle.packet.specs.declared.Packet as code
use Rattle.packet.specs.declared.Packet.TheVariants as kind
use Rattle.packet.specs.Packet.{Kinds, Packet, small_reliable, small_unreliable, reliable_slice, unreliable_slice, ack}

-- a packet with what its messages and its piece say
abbrev pub Said : Type 0
Said = Kinds SmallSaid SliceSaid a.Ack

-- bs spells it
abbrev pub Spelt : Said → List ℕ → Type 0
Spelt (small_reliable p) bs = SmallSpelt true p bs
Spelt (small_unreliable p) bs = SmallSpelt false p bs
Spelt (reliable_slice p) bs = SliceSpelt true p bs
Spelt (unreliable_slice p) bs = SliceSpelt false p bs
Spelt (ack p) bs = AckSpelt p bs

-- what a packet that was read from s says
abbrev pub said_in : List ℕ → Packet → Said
said_in s (small_reliable p) = small_reliable (small_said s p)
said_in s (small_unreliable p) = small_unreliable (small_said s p)
said_in s (reliable_slice p) = reliable_slice (slice_said s p)
said_in s (unreliable_slice p) = unreliable_slice (slice_said s p)
said_in s (ack p) = ack p

-- ---- what a packet says that is to be written, with its messages and ranges in tables and its payloads in a store

abbrev pub said_by : code.Packet → List ℕ → List Range → List ℕ → Said
said_by (kind.SmallReliable p) ms rs src =
    small_reliable (record { sequence = p.sequence.0; channel = p.channel_id; messages = map (said_of true src) (s.listed ms 0 p.count) })
said_by (kind.SmallUnreliable p) ms rs src =
    small_unreliable (record { sequence = p.sequence.0; channel = p.channel_id; messages = map (said_of false src) (s.listed ms 0 p.count) })
said_by (kind.ReliableSlice p) ms rs src = reliable_slice (slice_said src (slice_of p))
said_by (kind.UnreliableSlice p) ms rs src = unreliable_slice (slice_said src (slice_of p))
said_by (kind.Ack p) ms rs src = ack (record { sequence = p.sequence.0; ranges = aw.listed rs 0 p.count })

-- what document 01 lets the reader take of what the writer may write: of a piece, 1 to 1,000,000 slices, and of type 2 a payload of 1 to 1,200
abbrev pub AllowedSlice : Bool → SliceSaid → Type 0
AllowedSlice reliable p = (1 ≤ p.num-slices) × (p.num-slices ≤ MAX_NUM_SLICES) × Payload reliable (length p.bytes)

abbrev pub Allowed : Said → Type 0
Allowed (small_reliable p) = Unit
Allowed (small_unreliable p) = Unit
Allowed (reliable_slice p) = AllowedSlice true p
Allowed (unreliable_slice p) = AllowedSlice false p
Allowed (ack p) = Unit

-- a channel is a byte
abbrev pub ByteChannel : Said → Type 0
ByteChannel (small_reliable p) = p.channel < 256
ByteChannel (small_unreliable p) = p.channel < 256
ByteChannel (reliable_slice p) = p.channel < 256
ByteChannel (unreliable_slice p) = p.channel < 256
ByteChannel (ack p) = Unit
