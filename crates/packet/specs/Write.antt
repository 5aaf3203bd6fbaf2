-- The five kinds of packets, written to the front of some bytes. Assumes nothing.
use Rattle.std.specs.Prelude.{ℕ, true, false, List}
use Rattle.octets.specs.Writer.{Outcome}
use Rattle.packet_small.specs.Write.{small_of, put_small_of}
use Rattle.packet_slice.specs.Slice.{slice_of}
use Rattle.packet_slice.specs.Write.{slice_bytes, slice_said, put_slice_of}
use Rattle.packet_ack.specs.declared.Range.{Range}
use Rattle.packet_ack.specs.Write.{ack_bytes, listed, put_ack}
use Rattle.packet.specs.declared.Packet.{Packet}
use Rattle.packet.specs.declared.Packet.TheVariants.{SmallReliable, SmallUnreliable, ReliableSlice, UnreliableSlice, Ack}

-- the bytes of a packet whose messages and ranges stand in the tables ms and rs, of the store src
unfoldable pub bytes_of : Packet → List ℕ → List Range → List ℕ → List ℕ
bytes_of (SmallReliable p) ms rs src = small_of true p.sequence.0 p.channel_id ms p.count src
bytes_of (SmallUnreliable p) ms rs src = small_of false p.sequence.0 p.channel_id ms p.count src
bytes_of (ReliableSlice p) ms rs src = slice_bytes true (slice_said src (slice_of p))
bytes_of (UnreliableSlice p) ms rs src = slice_bytes false (slice_said src (slice_of p))
bytes_of (Ack p) ms rs src = ack_bytes p.sequence.0 (listed rs 0 p.count)

-- the answer, with n bytes lent: the length, or the refusal's number
unfoldable pub encoded : Packet → List ℕ → List Range → List ℕ → ℕ → Outcome
encoded (SmallReliable p) ms rs src n = put_small_of true p.sequence.0 p.channel_id ms p.count src 0 n
encoded (SmallUnreliable p) ms rs src n = put_small_of false p.sequence.0 p.channel_id ms p.count src 0 n
encoded (ReliableSlice p) ms rs src n = put_slice_of true (slice_of p) src 0 n
encoded (UnreliableSlice p) ms rs src n = put_slice_of false (slice_of p) src 0 n
encoded (Ack p) ms rs src n = put_ack p.sequence.0 rs p.count 0 n
