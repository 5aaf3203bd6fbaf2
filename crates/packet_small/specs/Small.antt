-- Packets of small messages, read. Document 01, "Packet layouts":
--   0 SmallReliable    v seq, channel byte, two-byte count; per message v id, v length, bytes
--   1 SmallUnreliable  the same without the ids
-- `ids` tells the two apart. Assumes nothing.
use Rattle.std.specs.Prelude.{ℕ, zero, suc, ◌+◌, ◌*◌, Bool, true, false, List, [], ◌∷◌, length, leb, Result, Ok, Err}
use Rattle.words.specs.Choice.{pick}
use Rattle.words.specs.Lists.{splice}
use Rattle.words.specs.Refusal.{number_of}
use Rattle.octets.specs.Reader.{Res, ok, fault, Reader, ◌>>=◌, give, byte, pair}
use Rattle.octets.specs.Varint.{var, run}
use Rattle.words.specs.declared.Refusal.{Refusal}
use Rattle.packet_small.specs.declared.Message as item
use Rattle.packet_small.specs.declared.Small as read

-- ---- the layout

-- a message in the input: its id (0 where its kind has none), where its bytes start, and how many they are
pub record Message : Type 0 where
  pub id : ℕ
  pub place : ℕ
  pub len : ℕ

-- v id, or nothing
abbrev pub id_of : Bool → Reader ℕ
id_of true = var
id_of false = give 0

-- v id, v length, bytes
unfoldable pub message : Bool → Reader Message
message ids = do
  id ← id_of ids
  p ← run
  give (record { id = id; place = p.place; len = p.len })

unfoldable pub messages : Bool → ℕ → Reader (List Message)
messages ids zero = give []
messages ids (suc k) = do
  m ← message ids
  ms ← messages ids k
  give (m ∷ ms)

pub record Small : Type 0 where
  pub sequence : ℕ
  pub channel : ℕ
  pub messages : List Message

-- what follows the type byte
unfoldable pub small : Bool → Reader Small
small ids = do
  seq ← var
  channel ← byte
  k ← pair
  ms ← messages ids k
  give (record { sequence = seq; channel = channel; messages = ms })

-- ---- what the reader answers, and what it leaves of a lent table of messages

-- three words for each message: id, place, length
abbrev pub RECORD : ℕ
RECORD = 3

unfoldable pub words : List Message → List ℕ
words [] = []
words (m ∷ ms) = m.id ∷ m.place ∷ m.len ∷ words ms

-- a good packet with more messages than a table of n words holds is refused: 11
unfoldable pub judged : Res Small → ℕ → Res Small
judged (ok p next) n = pick (leb (RECORD * length p.messages) n) (ok p next) (fault 11)
judged (fault e) n = fault e

-- the table afterwards: only as many records as there are messages change; a refusal changes none
unfoldable pub tabled : Res Small → List ℕ → List ℕ
tabled (ok p next) t = splice 0 (words p.messages) t
tabled (fault e) t = t

-- what is told beside the table: the numbers of the packet and how many messages it has
pub record Told : Type 0 where
  pub sequence : ℕ
  pub channel : ℕ
  pub count : ℕ

abbrev pub told : Res Small → Res Told
told (ok p next) = ok (record { sequence = p.sequence; channel = p.channel; count = length p.messages }) next
told (fault e) = fault e

-- ---- what the code's answers say

abbrev pub item_of : Result item.Message Refusal → Res Message
item_of (Ok m) = ok (record { id = m.id.0; place = m.place; len = m.len }) (m.place + m.len)
item_of (Err e) = fault (number_of e)

abbrev pub read_of : Result (read.Small × ℕ) Refusal → Res Told
read_of (Ok (p, next)) = ok (record { sequence = p.sequence.0; channel = p.channel_id; count = p.count }) next
read_of (Err e) = fault (number_of e)
