-- The steps of packing and of encoding, for the contracts of private functions. Assumes nothing.
use Rattle.std.specs.Prelude.{ℕ, ◌+◌, ◌*◌, ◌≤◌, ◌≡◌, Bool, List, ◌++◌, map, length, take, drop}
use Rattle.words.specs.Sizes.{SLICE_SIZE}
use Rattle.words.specs.Lists.{total, All}
use Rattle.packet_small.specs.Steps.{head_len}
use Rattle.packet_small.specs.Write.{Said, id_said, messages_bytes}
use Rattle.packet_slice.specs.Steps.{slice_len_of}
use Rattle.pack.specs.Pack.{Item, items_in, packed_len, packed, pack}
use Rattle.pack.specs.Encode.{Lent}
use Rattle.pack.specs.declared.Item as code
use Rattle.pack.specs.declared.Lent as lending
use Rattle.pack.specs.declared.Row.{Row}
use Rattle.pack.specs.Rows.{packs_in, smalls, smalls_in, Sound, slice_item, packets_len}
use Rattle.pack.specs.declared.Packing.{Packing}

-- ---- packing

-- the group that is open where item i is met
abbrev pub open_row : Packing → ℕ → Row
open_row p i = record { num = 0; first = p.first; end = i; count = p.small_messages }

abbrev pub piece_row : ℕ → ℕ → Row
piece_row num i = record { num = num; first = i; end = i + 1; count = 1 }

-- nothing packed
abbrev pub opened : Packing
opened = record { packets = 0; bytes = 0; first = 0; small_messages = 0; small_messages_bytes = 0 }

-- the open group put out, and the next opened at item i
abbrev pub closed : ℕ → ℕ → Packing → Packing
closed seq i p =
    record {
      packets = p.packets + 1;
      bytes = p.bytes + (head_len (seq + p.packets) + p.small_messages_bytes);
      first = i;
      small_messages = 0;
      small_messages_bytes = 0;
    }

-- a message of n bytes, the first of the group just opened
abbrev pub begun : ℕ → Packing → Packing
begun n p = record { packets = p.packets; bytes = p.bytes; first = p.first; small_messages = 1; small_messages_bytes = n }

-- a message of n bytes joined to the open group
abbrev pub joined : ℕ → Packing → Packing
joined n p =
    record {
      packets = p.packets;
      bytes = p.bytes;
      first = p.first;
      small_messages = p.small_messages + 1;
      small_messages_bytes = p.small_messages_bytes + n;
    }

-- a piece put out
abbrev pub pieced : ℕ → Item → Packing → Packing
pieced seq i p =
    record {
      packets = p.packets + 1;
      bytes = p.bytes + slice_len_of (slice_item (seq + p.packets) 0 i);
      first = p.first;
      small_messages = p.small_messages;
      small_messages_bytes = p.small_messages_bytes;
    }

-- more than an item adds to the length of a round
abbrev pub MOST : ℕ
MOST = SLICE_SIZE + 64

-- the first i items are packed: the rows name the packets put out so far, and whatever follows, packing goes on with the open group
pub record PackedTo (ids : Bool) (seq : ℕ) (t : List code.Item) (i : ℕ) (p : Packing) (rows : List Row) : Type 0 where
  pub first : p.first ≤ i
  pub packets : p.packets ≤ i
  pub messages : p.small_messages ≡ length (smalls_in t p.first i)
  pub few : p.small_messages ≤ i
  pub sum : p.small_messages_bytes ≡ total (packed_len ids) (smalls_in t p.first i)
  pub bytes : p.bytes ≡ packets_len ids seq (packs_in t rows p.packets)
  pub bounded : p.bytes + p.small_messages_bytes ≤ MOST * i
  pub sound : All (Sound t) (take p.packets rows)
  pub goes_on : (rest : List Item) → packs_in t rows p.packets ++ packed ids p.small_messages_bytes (smalls_in t p.first i) rest ≡ pack ids (items_in t 0 i ++ rest)

-- ---- encoding

abbrev pub lent_of : lending.Lent → Lent
lent_of l = record { ids = l.ids; channel = l.channel_id; small = l.small.now; lanes = l.lanes.now }

abbrev pub said_small : Bool → List ℕ → Item → Said
said_small ids src i = record { id = id_said ids i.id; bytes = take i.len (drop i.place src) }

-- the bytes of some items in a packet of small messages: a piece among them has none there
unfoldable pub items_bytes : Bool → List ℕ → List Item → List ℕ
items_bytes ids src is = messages_bytes ids (map (said_small ids src) (smalls is))
