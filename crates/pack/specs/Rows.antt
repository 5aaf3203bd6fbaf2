-- The table in which a round's packets stand between packing and encoding, how long they are, and what may go. Assumes nothing.
use Rattle.std.specs.Prelude.{ℕ, ◌+◌, ◌*◌, ◌-◌, ◌≤◌, ◌<◌, ◌≡◌, Bool, true, false, List, [], ◌∷◌, map, take, length, ltb, eqb, Result, Ok, Err}
use Rattle.words.specs.Sizes.{LIMIT, SLICE_SIZE, MAX_MESSAGES}
use Rattle.words.specs.Choice.{pick, refusal}
use Rattle.words.specs.Lists.{total, All}
use Rattle.words.specs.Refusal.{number_of}
use Rattle.words.specs.declared.Refusal.{Refusal}
use Rattle.packet_small.specs.Steps.{head_len}
use Rattle.packet_slice.specs.Slice.{Slice}
use Rattle.packet_slice.specs.Steps.{slice_len_of}
use Rattle.pack.specs.Pack.{Item, item_at, items_in, items_of, is_small, Pack, group, single, packed_len, pack}
use Rattle.pack.specs.Encode.{Lent, packets_bytes, end_to_end, ENTRY}
use Rattle.pack.specs.declared.Item as code
use Rattle.pack.specs.declared.Packed.{Packed}
use Rattle.pack.specs.declared.Row.{Row}

-- ---- rows

-- the small messages among some items
unfoldable pub smalls : List Item → List Item
smalls [] = []
smalls (i ∷ is) = pick (is_small i) (i ∷ smalls is) (smalls is)

-- those from item a on, before item e
unfoldable pub smalls_in : List code.Item → ℕ → ℕ → List Item
smalls_in t a e = smalls (items_in t a (e - a))

-- a group of small messages, where `num` is 0: those among the items from `first` to `end`, pieces between them passed over, `count` in
-- all; else the piece at `first`
abbrev pub no_row : Row
no_row = record { num = 0; first = 0; end = 0; count = 0 }

-- the packet that a row names among the items of t
unfoldable pub pack_of : List code.Item → Row → Pack
pack_of t r = pick (eqb r.num 0) (group (smalls_in t r.first r.end)) (single (item_at t r.first))

-- the packets that rows name, and those that the first k name
abbrev pub packs_of : List code.Item → List Row → List Pack
packs_of t p = map (pack_of t) p

abbrev pub packs_in : List code.Item → List Row → ℕ → List Pack
packs_in t p k = packs_of t (take k p)

-- a row stays within the items and counts its messages
pub record Sound (t : List code.Item) (r : Row) : Type 0 where
  pub within : r.end ≤ length t
  pub piece : eqb r.num 0 ≡ false → r.first < r.end
  pub counted : eqb r.num 0 ≡ true → r.count ≡ length (smalls_in t r.first r.end)
  pub few : r.count ≤ MAX_MESSAGES

-- ---- lengths

-- the packet of a piece
abbrev pub slice_item : ℕ → ℕ → Item → Slice
slice_item seq channel i =
    record {
      sequence = seq;
      channel = channel;
      id = i.id;
      index = i.index;
      num-slices = i.num;
      place = i.place;
      len = i.len;
    }

unfoldable pub pack_len : Bool → ℕ → Pack → ℕ
pack_len ids seq (group is) = head_len seq + total (packed_len ids) is
pack_len ids seq (single i) = slice_len_of (slice_item seq 0 i)

-- the packets' lengths added up, the first with sequence seq
unfoldable pub packets_len : Bool → ℕ → List Pack → ℕ
packets_len ids seq [] = 0
packets_len ids seq (p ∷ ps) = pack_len ids seq p + packets_len ids (seq + 1) ps

-- ---- what packing promises: the rows name the packets, and their number and length are told

pub record Packs (ids : Bool) (seq : ℕ) (t : List code.Item) (p : List Row) (r : Packed) : Type 0 where
  pub packs : packs_in t p r.packets ≡ pack ids (items_of t)
  pub packets : r.packets ≡ length (pack ids (items_of t))
  pub bytes : r.bytes ≡ packets_len ids seq (pack ids (items_of t))
  pub sound : All (Sound t) (take r.packets p)
  pub few : r.packets ≤ length t + 1

-- ---- what may go

-- an item whose bytes are a part of a store, short enough, with numbers that varints can say
pub record Sendable (store : List ℕ) (i : Item) : Type 0 where
  pub num : i.num < LIMIT
  pub id : i.id < LIMIT
  pub index : i.index < LIMIT
  pub stored : i.place + i.len ≤ length store
  pub len : i.len ≤ SLICE_SIZE

-- small messages lie in the small store, pieces in the lanes
abbrev pub store_of : Lent → Item → List ℕ
store_of l i = pick (is_small i) l.small l.lanes

abbrev pub Chosen : Lent → Item → Type 0
Chosen l i = Sendable (store_of l i) i

unfoldable pub PackGoes : Lent → Pack → Type 0
PackGoes l (group is) = All (Sendable l.small) is
PackGoes l (single i) = Sendable l.lanes i

-- ---- a round that was judged: its rows, to be written to `out` bytes and `entries` words

pub record Ready (l : Lent) (seq : ℕ) (t : List code.Item) (p : List Row) (out entries : ℕ) : Type 0 where
  pub sound : All (Sound t) p
  pub go : All (PackGoes l) (packs_of t p)
  pub numbers : seq + length p ≤ LIMIT
  pub room : length (end_to_end (packets_bytes l seq (packs_of t p))) ≤ out
  pub table : ENTRY * length p ≤ entries

-- ---- the refusals of a round by what packing tells: `room` bytes and `entries` words are lent

unfoldable pub round_number : ℕ → Packed → ℕ → ℕ → ℕ
round_number seq r room entries =
    refusal (
    (ltb LIMIT (seq + r.packets), 13) ∷
    (ltb room r.bytes, 15) ∷
    (ltb entries (ENTRY * r.packets), 15) ∷ []
    )

abbrev pub verdict_of : Result (Unit {0}) Refusal → ℕ
verdict_of (Ok done) = 0
verdict_of (Err e) = number_of e
