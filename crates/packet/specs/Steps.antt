-- What `decode` and `encode` say of a table of ranges by value. Assumes nothing.
use Rattle.std.specs.Prelude.{ℕ, ◌≡◌, List, length, ltb}
use Rattle.words.specs.Choice.{pick}
use Rattle.packet_ack.specs.Ack.{RANGES}
use Rattle.packet_ack.specs.declared.Range.{Range}
use Rattle.packet.specs.declared.DecodedTable.{DecodedTable}
use Rattle.packet.specs.Packet.{packet, judged, told, leaves, messages_of, ranges_of, decoded_of}

-- how many of its records are lent, where n are named
abbrev pub lent_of : ℕ → ℕ
lent_of n = pick (ltb n RANGES) n RANGES

-- the same as `DecodeGives`, where the first n records of the table rs are lent
pub record ReadGives (bs ms : List ℕ) (rs : List Range) (n : ℕ) (ms' : List ℕ) (r : DecodedTable) : Type 0 where
  pub answer : decoded_of r.answer ≡ told (judged (packet bs 0) (length ms) n)
  pub messages : ms' ≡ leaves messages_of (judged (packet bs 0) (length ms) n) ms
  pub ranges : r.ranges ≡ leaves ranges_of (judged (packet bs 0) (length ms) n) rs
