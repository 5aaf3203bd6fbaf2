-- The layout of packets of small messages as a relation: which bytes spell a packet, with varints in any of their lengths. Assumes nothing.
use Rattle.std.specs.Prelude.{ℕ, ◌≤◌, ◌<◌, Bool, true, false, List, [], ◌∷◌, ◌++◌, map, length, take, drop}
use Rattle.words.specs.Sizes.{MAX_MESSAGES}
use Rattle.octets.specs.Varint.{pair_bytes}
use Rattle.octets.specs.Spelling.{Varint, RunSpelt}
use Rattle.packet_small.specs.Small.{Message, Small}
use Rattle.packet_small.specs.Write.{Said, type_byte_of}

-- v id, v length, bytes; or the same without the id
pub data MessageSpelt : Bool → Said → List ℕ → Type 0 where
  with-id : {id : ℕ} {bs a b : List ℕ} → Varint id a → RunSpelt bs b → MessageSpelt true (record { id = id; bytes = bs }) (a ++ b)
  without-id : {bs b : List ℕ} → RunSpelt bs b → MessageSpelt false (record { id = 0; bytes = bs }) b

pub data MessagesSpelt : Bool → List Said → List ℕ → Type 0 where
  none_left : {ids : Bool} → MessagesSpelt ids [] []
  one_more : {ids : Bool} {m : Said} {ms : List Said} {a b : List ℕ} → MessageSpelt ids m a → MessagesSpelt ids ms b → MessagesSpelt ids (m ∷ ms) (a ++ b)

-- a packet with what its messages say
pub record SmallSaid : Type 0 where
  pub sequence : ℕ
  pub channel : ℕ
  pub messages : List Said

-- type byte, v seq, channel byte, two-byte count; per message v id, v length, bytes
pub data SmallSpelt : Bool → SmallSaid → List ℕ → Type 0 where
  packet : {ids : Bool} {seq channel : ℕ} {ms : List Said} {a b : List ℕ}
      → Varint seq a → channel < 256 → length ms ≤ MAX_MESSAGES → MessagesSpelt ids ms b
      → SmallSpelt ids (record { sequence = seq; channel = channel; messages = ms }) (type_byte_of ids ∷ (a ++ (channel ∷ (pair_bytes (length ms) ++ b))))

-- what a packet that was read from s says
abbrev pub content_of : List ℕ → Message → Said
content_of s m = record { id = m.id; bytes = take m.len (drop m.place s) }

abbrev pub small_said : List ℕ → Small → SmallSaid
small_said s p = record { sequence = p.sequence; channel = p.channel; messages = map (content_of s) p.messages }
