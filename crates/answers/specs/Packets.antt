-- Packets in words. docs/SCRIPT.md, "Packets". Assumes nothing.
use Rattle.std.specs.Prelude.{ℕ, zero, suc, ◌+◌, ◌*◌, ◌-◌, ◌/◌, ◌≡◌, List, [], ◌∷◌, length, get_or, take, drop, leb, Result, Ok, Err}
use Rattle.words.specs.Choice.{pick}
use Rattle.script.specs.Ascii.{ascii}
use Rattle.page.specs.Page.{Sheet, said, said_refusal, lined}
use Rattle.octets.specs.Reader.{Res}
use Rattle.packet_small.specs.Small.{RECORD}
use Rattle.packet_small.specs.declared.Small.{Small}
use Rattle.packet_slice.specs.declared.Slice.{Slice}
use Rattle.packet.specs.Packet as p
use Rattle.packet.specs.Packet.{packet, judged, told, leaves, messages_of, ranges_of, decoded_of}
use Rattle.packet.specs.Steps.{lent_of}
use Rattle.packet.specs.declared.Packet.{Packet}
use Rattle.packet.specs.declared.Packet.TheVariants.{SmallReliable, SmallUnreliable, ReliableSlice, UnreliableSlice, Ack}
use Rattle.range_words.specs.Words.{table_of, set_down}
use Rattle.words.specs.declared.Refusal.{Refusal}

-- a packet that was read and how many bytes it has, or the refusal
abbrev pub Decoded : Type 0
Decoded = Result (Packet × ℕ) Refusal

-- ---- a packet in words

-- the name of a kind, and what stands before its messages
abbrev pub small_said : List ℕ → Small → Sheet → Sheet
small_said name s sh = lined (ascii " sequence # channel # messages #") (s.sequence.0 ∷ s.channel_id ∷ s.count ∷ []) (said name sh)

-- the name of a kind, and its piece
abbrev pub slice_said : List ℕ → Slice → Sheet → Sheet
slice_said name s sh =
    lined (ascii " sequence # channel # message # slice # of # at # length #")
    (s.sequence.0 ∷ s.channel_id ∷ s.message_id.0 ∷ s.slice_index.0 ∷ s.num_slices ∷ s.place ∷ s.len ∷ [])
    (said name sh)

-- the same words for each of n entries of a table, with its numbers in them
unfoldable pub rows_said : List ℕ → ℕ → ℕ → List ℕ → Sheet → Sheet
rows_said s width zero t sh = sh
rows_said s width (suc n) t sh = rows_said s width n (drop width t) (lined s t sh)

-- the words of a range in a table
abbrev pub RANGE : ℕ
RANGE = 2

-- one of the five, with its messages and ranges in tables of words; an unreliable message has no id
unfoldable pub packet_said : Packet → List ℕ → List ℕ → Sheet → Sheet
packet_said (SmallReliable s) ms rs sh = rows_said (ascii ", id # at # length #") RECORD s.count ms (small_said (ascii "SmallReliable") s sh)
packet_said (SmallUnreliable s) ms rs sh = rows_said (ascii ", at # length #") RECORD s.count (drop 1 ms) (small_said (ascii "SmallUnreliable") s sh)
packet_said (ReliableSlice s) ms rs sh = slice_said (ascii "ReliableSlice") s sh
packet_said (UnreliableSlice s) ms rs sh = slice_said (ascii "UnreliableSlice") s sh
packet_said (Ack s) ms rs sh = rows_said (ascii ", #..#") RANGE s.count rs (lined (ascii "Ack sequence # ranges #") (s.sequence.0 ∷ s.count ∷ []) sh)

-- the packet, or the refusal
unfoldable pub told_said : Decoded → List ℕ → List ℕ → Sheet → Sheet
told_said (Err e) ms rs sh = said_refusal e sh
told_said (Ok (p, used)) ms rs sh = packet_said p ms rs sh

-- the packet and how many bytes it has, or the refusal
unfoldable pub decoded_said : Decoded → List ℕ → List ℕ → Sheet → Sheet
decoded_said (Err e) ms rs sh = said_refusal e sh
decoded_said (Ok (p, used)) ms rs sh = lined (ascii "; used #") (used ∷ []) (packet_said p ms rs sh)

-- ---- a packet read into tables of words

-- the packet at the front of bs, or the refusal, where tables of m words for messages and n for ranges are lent
abbrev pub packet_in : List ℕ → ℕ → ℕ → Res p.Packet
packet_in bs m n = judged (packet bs 0) m (lent_of (n / RANGE))

-- the answer, and what the tables ms and rs hold afterwards
pub record Reads (bs ms rs ms' rs' : List ℕ) (d : Decoded) : Type 0 where
  pub answer : decoded_of d ≡ told (packet_in bs (length ms) (length rs))
  pub messages : ms' ≡ leaves messages_of (packet_in bs (length ms) (length rs)) ms
  pub ranges : rs' ≡ set_down (leaves ranges_of (packet_in bs (length ms) (length rs)) (table_of rs)) rs

-- ---- parts of a packet

-- len bytes from a place on; none where they are not all there
unfoldable pub bytes_at : List ℕ → ℕ → ℕ → List ℕ
bytes_at s place len = pick (leb (place + len) (length s)) (take len (drop place s)) []

-- the bytes from a place to another; none where they are not there
unfoldable pub bytes_to_of : List ℕ → ℕ → ℕ → List ℕ
bytes_to_of s place end = pick (leb place end) (bytes_at s place (end - place)) []

-- the i-th message, by its place and its length in the table
unfoldable pub message_at_of : List ℕ → List ℕ → ℕ → List ℕ
message_at_of bs ms i = bytes_at bs (get_or ms (RECORD * i + 1) 0) (get_or ms (RECORD * i + 2) 0)

-- its id
unfoldable pub id_at : List ℕ → ℕ → ℕ
id_at ms i = get_or ms (RECORD * i) 0
