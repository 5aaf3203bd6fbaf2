-- The packets that are written and read. Assumes nothing.
use Rattle.std.specs.Prelude.{ℕ, ◌≡◌, List, length, eqb, Result}
use Rattle.words.specs.Choice.{pick}
use Rattle.octets.specs.Reader.{Res, ok, fault}
use Rattle.octets.specs.Writer.{Outcome, done, refused, left}
use Rattle.packet_small.specs.declared.Small.{Small}
use Rattle.packet_slice.specs.declared.Slice.{Slice}
use Rattle.packet_ack.specs.declared.Range.{Range}
use Rattle.packet.specs.declared.Packet.{Packet}
use Rattle.packet.specs.declared.Packet.TheVariants.{SmallReliable, SmallUnreliable, ReliableSlice, UnreliableSlice, Ack}
use Rattle.words.specs.declared.Refusal.{Refusal}
use Rattle.packet.specs.Packet.{Told, decoded_of, DecodeGives}
use Rattle.packet.specs.Write.{encoded, bytes_of}

abbrev pub small_of : ℕ → Small
small_of count = record { sequence = record { 0 = 1000 }; channel_id = 1; count = count }

-- a piece that is the whole store, of n bytes
abbrev pub slice_of : ℕ → Slice
slice_of n =
    record {
      sequence = record { 0 = 1000 };
      channel_id = 1;
      message_id = record { 0 = 300 };
      slice_index = record { 0 = 7 };
      num_slices = 40;
      place = 0;
      len = n;
    }

-- the packet of a kind: with the first messages or ranges of a table, or with a piece of n bytes
abbrev pub sample_of : ℕ → ℕ → ℕ → Packet
sample_of kind count n =
    pick (eqb kind 0) (SmallReliable (small_of count))
    (pick (eqb kind 1) (SmallUnreliable (small_of count))
    (pick (eqb kind 2) (ReliableSlice (slice_of n))
    (pick (eqb kind 3) (UnreliableSlice (slice_of n))
    (Ack (record { sequence = record { 0 = 1000 }; count = count })))))

-- how many bytes were written or read, 0 for a refusal
abbrev pub written_of : Outcome → ℕ
written_of (done n) = n
written_of (refused e) = 0

abbrev pub used_of : Res Told → ℕ
used_of (ok p n) = n
used_of (fault e) = 0

-- a packet is written to the front of some bytes
pub record WriteGives (p : Packet) (ms : List ℕ) (rs : List Range) (src out out' : List ℕ) (r : ℕ) : Type 0 where
  pub answer : r ≡ written_of (encoded p ms rs src (length out))
  pub bytes : out' ≡ left (encoded p ms rs src (length out)) 0 (bytes_of p ms rs src) out

-- a packet is read into the two tables
pub record ReadGives (bs ms : List ℕ) (rs : List Range) (ms' : List ℕ) (rs' : List Range) (r : ℕ) : Type 0 where
  pub decoded : Result (Packet × ℕ) Refusal
  pub gives : DecodeGives bs ms rs ms' rs' decoded
  pub answer : r ≡ used_of (decoded_of decoded)
