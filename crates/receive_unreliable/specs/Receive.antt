-- The receiving end of an unreliable channel. Document 01, part 5, "Sizes and settings", "Numbers a caller may see", "Unreliable", and
-- "Ordered receiver" for charges, pieces and repeats. Assumes nothing.
use Rattle.std.specs.Prelude.{ℕ, zero, suc, ◌+◌, ◌-◌, ◌*◌, ◌≤◌, ◌<◌, ◌≡◌, Bool, true, false, not, List, [], ◌∷◌, ◌++◌, length, get_or, set, take, drop, replicate, ltb, leb, eqb, Result, Ok, Err, Option, Some, None}
use Rattle.words.specs.Sizes.{SLICE_SIZE, SLOTS, LANES, LIMIT}
use Rattle.words.specs.Choice.{pick, refusal}
use Rattle.words.specs.Lists.{splice, lowest_free_of, holds, total, All, Pairs}
use Rattle.words.specs.Refusal.{number_of}
use Rattle.words.specs.declared.Refusal.{Refusal}
use Rattle.words.specs.declared.After.{After}
use Rattle.channel.specs.Settings.{settings_refusal, setup_number, Good, least_settings, lane_len_of, stores_hold_of}
use Rattle.channel.specs.Find.{held_at}
use Rattle.channel.specs.declared.Settings.{Settings}
use Rattle.channel.specs.declared.Store.{Store}
use Rattle.channel.specs.declared.Store.TheVariants.{Small, Lanes}
use Rattle.slice_constructor.specs.declared.SliceConstructor.{SliceConstructor}
use Rattle.slice_constructor.specs.Collect as c
pub use Rattle.slice_constructor.specs.Collect.{is_whole}
use Rattle.receive_unreliable.specs.declared.ReceiveChannelUnreliable.{ReceiveChannelUnreliable}
use Rattle.receive_unreliable.specs.declared.Arrival.{Arrival}
use Rattle.receive_unreliable.specs.declared.Arrival.TheVariants as arrival
use Rattle.receive_unreliable.specs.declared.Message.{Message}

-- most messages that wait
abbrev pub ROWS : ℕ
ROWS = SLOTS + LANES

-- 3 s, in nanoseconds
abbrev pub DISCARD_AFTER : ℕ
DISCARD_AFTER = 3000000000

-- ---- a new one

unfoldable pub new_of : Settings → ReceiveChannelUnreliable
new_of s =
    record {
      settings = s;
      memory_usage_bytes = 0;
      latest = 0;
      cells = replicate SLOTS false;
      cell_lens = replicate SLOTS 0;
      lanes = replicate LANES false;
      opens = replicate LANES false;
      lane_ids = replicate LANES 0;
      lane_lens = replicate LANES 0;
      last_received = replicate LANES 0;
      constructors = replicate LANES (c.blank_of 0 0);
      count = 0;
      queue = replicate ROWS 0;
    }

-- ---- which sliced messages are open; a whole one takes no more pieces, so it is not among them

-- the lane of an open one, or LANES
abbrev pub lane_of : ReceiveChannelUnreliable → ℕ → ℕ
lane_of s id = held_at s.opens s.lane_ids id

abbrev pub is_open_of : ReceiveChannelUnreliable → ℕ → Bool
is_open_of s id = ltb (lane_of s id) LANES

abbrev pub constructor_at : ReceiveChannelUnreliable → ℕ → SliceConstructor
constructor_at s l = get_or s.constructors l (c.blank_of 0 0)

-- ---- the messages that wait, in order of completion

-- the queue: a cell i waits as i, a lane l as SLOTS + l
abbrev pub waiters : ReceiveChannelUnreliable → List ℕ
waiters s = take s.count s.queue

pub data Place : Type 0 where
  at-cell : ℕ → Place
  at-lane : ℕ → Place
  no_place : Place

abbrev pub place_of : ℕ → Place
place_of w = pick (ltb w SLOTS) (at-cell w) (at-lane (w - SLOTS))

-- the first of the queue
unfoldable pub next_place : ReceiveChannelUnreliable → Place
next_place s = pick (eqb s.count 0) no_place (place_of (get_or s.queue 0 0))

-- ---- answers

-- the paper's number of a refusal; taken and dropped are no refusals
pub data Outcome : Type 0 where
  taken : Outcome
  dropped : Outcome
  refused : ℕ → Outcome

abbrev pub arrival_of : Result Arrival Refusal → Outcome
arrival_of (Ok arrival.Taken) = taken
arrival_of (Ok arrival.Dropped) = dropped
arrival_of (Err e) = refused (number_of e)

-- e, where it is a refusal; else what follows
abbrev pub judged : {A : Type 0} → ℕ → (ℕ → A) → A → A
judged e f a = pick (eqb e 0) a (f e)

-- ---- a small message: 10, 12, Dropped, 11

unfoldable pub message_refusal : ReceiveChannelUnreliable → ℕ → ℕ → ℕ → ℕ
message_refusal s n small lane = refusal ((not (stores_hold_of s.settings small lane), 10) ∷ (ltb SLICE_SIZE n, 12) ∷ [])

-- where a message of n bytes goes: the lowest free cell
pub data MessageSpot : Type 0 where
  cell : ℕ → MessageSpot
  nowhere : Outcome → MessageSpot

unfoldable pub message_spot : ReceiveChannelUnreliable → ℕ → ℕ → ℕ → MessageSpot
message_spot s n small lane =
    judged (message_refusal s n small lane) (λ e. nowhere (refused e))
    (pick (ltb s.settings.max_memory_usage_bytes (s.memory_usage_bytes + n)) (nowhere dropped)
    (pick (leb s.settings.slots (lowest_free_of s.cells s.settings.slots)) (nowhere (refused 11))
    (cell (lowest_free_of s.cells s.settings.slots))))

-- the state with a message of n bytes in cell i, the last of the queue
unfoldable pub with_message_of : ReceiveChannelUnreliable → ℕ → ℕ → ReceiveChannelUnreliable
with_message_of s i n =
    record {
      settings = s.settings;
      memory_usage_bytes = s.memory_usage_bytes + n;
      latest = s.latest;
      cells = set s.cells i true;
      cell_lens = set s.cell_lens i n;
      lanes = s.lanes;
      opens = s.opens;
      lane_ids = s.lane_ids;
      lane_lens = s.lane_lens;
      last_received = s.last_received;
      constructors = s.constructors;
      count = s.count + 1;
      queue = set s.queue s.count i;
    }

abbrev pub message_answer_of : MessageSpot → Outcome
message_answer_of (cell i) = taken
message_answer_of (nowhere o) = o

abbrev pub message_state : ReceiveChannelUnreliable → ℕ → MessageSpot → ReceiveChannelUnreliable
message_state s n (cell i) = with_message_of s i n
message_state s n (nowhere o) = s

-- payloads start at the cell's front; no other byte changes
abbrev pub message_bytes : MessageSpot → List ℕ → List ℕ → List ℕ
message_bytes (cell i) bs small = splice (i * SLICE_SIZE) bs small
message_bytes (nowhere o) bs small = small

-- ---- a piece: 10, 13, 14, 8 for a zero count, 12; for a new id Dropped and 11, for an open one 8 for another count; then 8 for index and size

unfoldable pub entry_refusal : ReceiveChannelUnreliable → ℕ → ℕ → ℕ → ℕ → ℕ → ℕ
entry_refusal s id num t small lane =
    refusal (
    (not (stores_hold_of s.settings small lane), 10) ∷
    (leb LIMIT id, 13) ∷
    (ltb t s.latest, 14) ∷
    (eqb num 0, 8) ∷
    (ltb s.settings.pieces num, 12) ∷ []
    )

-- the lane that takes the piece; whether it is new
pub data SliceSpot : Type 0 where
  opened : ℕ → SliceSpot
  fresh : ℕ → SliceSpot
  nothing : Outcome → SliceSpot

unfoldable pub open_lane : ReceiveChannelUnreliable → ℕ → ℕ → SliceSpot
open_lane s l num = pick (eqb (constructor_at s l).num_slices num) (opened l) (nothing (refused 8))

-- a new lane is charged 1,200 × num_slices
unfoldable pub fresh_lane : ReceiveChannelUnreliable → ℕ → SliceSpot
fresh_lane s num =
    pick (ltb s.settings.max_memory_usage_bytes (s.memory_usage_bytes + SLICE_SIZE * num)) (nothing dropped)
    (pick (leb s.settings.lanes (lowest_free_of s.lanes s.settings.lanes)) (nothing (refused 11))
    (fresh (lowest_free_of s.lanes s.settings.lanes)))

-- the lane for a piece of message id with num pieces, at time t
unfoldable pub lane_spot : ReceiveChannelUnreliable → ℕ → ℕ → ℕ → ℕ → ℕ → SliceSpot
lane_spot s id num t small lane =
    judged (entry_refusal s id num t small lane) (λ e. nothing (refused e))
    (pick (is_open_of s id) (open_lane s (lane_of s id) num) (fresh_lane s num))

-- the refusal of piece i of n bytes, with the lane's own part of the store lent whole
abbrev pub piece_refusal : ReceiveChannelUnreliable → SliceConstructor → ℕ → ℕ → ℕ
piece_refusal s k i n = c.collect_refusal k i n (lane_len_of s.settings)

-- then index and size
abbrev pub settled : ReceiveChannelUnreliable → ℕ → ℕ → ℕ → ℕ → SliceSpot → SliceSpot
settled s id num i n (opened l) = judged (piece_refusal s (constructor_at s l) i n) (λ e. nothing (refused e)) (opened l)
settled s id num i n (fresh l) = judged (piece_refusal s (c.blank_of id num) i n) (λ e. nothing (refused e)) (fresh l)
settled s id num i n (nothing o) = nothing o

-- a piece of n bytes, index i of num, of message id, at time t
unfoldable pub slice_spot : ReceiveChannelUnreliable → ℕ → ℕ → ℕ → ℕ → ℕ → ℕ → ℕ → SliceSpot
slice_spot s id num i n t small lane = settled s id num i n (lane_spot s id num t small lane)

-- the latest accepted time is t
unfoldable pub at_time : ReceiveChannelUnreliable → ℕ → ReceiveChannelUnreliable
at_time s t =
    record {
      settings = s.settings;
      memory_usage_bytes = s.memory_usage_bytes;
      latest = t;
      cells = s.cells;
      cell_lens = s.cell_lens;
      lanes = s.lanes;
      opens = s.opens;
      lane_ids = s.lane_ids;
      lane_lens = s.lane_lens;
      last_received = s.last_received;
      constructors = s.constructors;
      count = s.count;
      queue = s.queue;
    }

-- lane l with the open constructor k, touched at time t: it is charged for its pieces
unfoldable pub with_open : ReceiveChannelUnreliable → ℕ → SliceConstructor → ℕ → ReceiveChannelUnreliable
with_open s l k t =
    record {
      settings = s.settings;
      memory_usage_bytes = s.memory_usage_bytes - get_or s.lane_lens l 0 + SLICE_SIZE * k.num_slices;
      latest = t;
      cells = s.cells;
      cell_lens = s.cell_lens;
      lanes = set s.lanes l true;
      opens = set s.opens l true;
      lane_ids = set s.lane_ids l k.message_id.0;
      lane_lens = set s.lane_lens l (SLICE_SIZE * k.num_slices);
      last_received = set s.last_received l t;
      constructors = set s.constructors l k;
      count = s.count;
      queue = s.queue;
    }

-- lane l whole, at time t: the charge becomes the exact length n, no more pieces are to come, and it is the last of the queue
unfoldable pub with_whole : ReceiveChannelUnreliable → ℕ → ℕ → ℕ → ReceiveChannelUnreliable
with_whole s l n t =
    record {
      settings = s.settings;
      memory_usage_bytes = s.memory_usage_bytes - get_or s.lane_lens l 0 + n;
      latest = t;
      cells = s.cells;
      cell_lens = s.cell_lens;
      lanes = set s.lanes l true;
      opens = set s.opens l false;
      lane_ids = set s.lane_ids l 0;
      lane_lens = set s.lane_lens l n;
      last_received = set s.last_received l 0;
      constructors = set s.constructors l (c.blank_of 0 0);
      count = s.count + 1;
      queue = set s.queue s.count (SLOTS + l);
    }

-- lane l afterwards, with the constructor k; a repeat leaves k as it was, but renews the time
unfoldable pub with_piece : ReceiveChannelUnreliable → ℕ → SliceConstructor → ℕ → ReceiveChannelUnreliable
with_piece s l k t = pick (is_whole k) (with_whole s l (c.whole_len k) t) (with_open s l k t)

abbrev pub slice_answer_of : SliceSpot → Outcome
slice_answer_of (opened l) = taken
slice_answer_of (fresh l) = taken
slice_answer_of (nothing o) = o

abbrev pub slice_state : ReceiveChannelUnreliable → ℕ → ℕ → ℕ → ℕ → ℕ → SliceSpot → ReceiveChannelUnreliable
slice_state s id num i n t (opened l) = with_piece s l (c.taken (constructor_at s l) i n) t
slice_state s id num i n t (fresh l) = with_piece s l (c.taken (c.blank_of id num) i n) t
slice_state s id num i n t (nothing o) = s

-- piece i at i × 1,200 of its lane; a repeat changes no byte, and no other byte changes
abbrev pub slice_bytes : ReceiveChannelUnreliable → ℕ → List ℕ → SliceSpot → List ℕ → List ℕ
slice_bytes s i bs (opened l) lane =
    pick (get_or (constructor_at s l).received i false) lane (splice (l * lane_len_of s.settings + i * SLICE_SIZE) bs lane)
slice_bytes s i bs (fresh l) lane = splice (l * lane_len_of s.settings + i * SLICE_SIZE) bs lane
slice_bytes s i bs (nothing o) lane = lane

-- ---- discarding: 14, then a walk of the open ids upward

-- the lowest of m and the open ids
unfoldable pub lowest_id_of : ℕ → List Bool → List ℕ → ℕ
lowest_id_of m [] ids = m
lowest_id_of m (h ∷ hs) [] = m
lowest_id_of m (h ∷ hs) (i ∷ ids) = lowest_id_of (pick h (pick (ltb i m) i m) m) hs ids

-- the lane of the lowest open id, or LANES
abbrev pub lowest_open : ReceiveChannelUnreliable → ℕ
lowest_open s = lane_of s (lowest_id_of LIMIT s.opens s.lane_ids)

-- untouched for 3 s or more
abbrev pub is_old : ReceiveChannelUnreliable → ℕ → ℕ → Bool
is_old s t l = leb DISCARD_AFTER (t - get_or s.last_received l 0)

-- whether the walk drops the lowest one and goes on: there is one, and it is no younger
abbrev pub goes_on_of : ReceiveChannelUnreliable → ℕ → Bool
goes_on_of s t = pick (ltb (lowest_open s) LANES) (is_old s t (lowest_open s)) false

-- without the open lane l: it is free again
unfoldable pub without_open : ReceiveChannelUnreliable → ℕ → ReceiveChannelUnreliable
without_open s l =
    record {
      settings = s.settings;
      memory_usage_bytes = s.memory_usage_bytes - get_or s.lane_lens l 0;
      latest = s.latest;
      cells = s.cells;
      cell_lens = s.cell_lens;
      lanes = set s.lanes l false;
      opens = set s.opens l false;
      lane_ids = set s.lane_ids l 0;
      lane_lens = set s.lane_lens l 0;
      last_received = set s.last_received l 0;
      constructors = set s.constructors l (c.blank_of 0 0);
      count = s.count;
      queue = s.queue;
    }

-- a walk over at most n open ids at time t, upward: what it leaves, and how many it drops
unfoldable pub walk_state : ℕ → ℕ → ReceiveChannelUnreliable → ReceiveChannelUnreliable
walk_state zero t s = s
walk_state (suc n) t s = pick (goes_on_of s t) (walk_state n t (without_open s (lowest_open s))) s

unfoldable pub walk_count : ℕ → ℕ → ReceiveChannelUnreliable → ℕ
walk_count zero t s = 0
walk_count (suc n) t s = pick (goes_on_of s t) (suc (walk_count n t (without_open s (lowest_open s)))) 0

-- how many were dropped, or the number of the refusal
pub data Discarding : Type 0 where
  gone : ℕ → Discarding
  kept : ℕ → Discarding

abbrev pub discard_of : Result ℕ Refusal → Discarding
discard_of (Ok n) = gone n
discard_of (Err e) = kept (number_of e)

unfoldable pub discard_answer : ReceiveChannelUnreliable → ℕ → Discarding
discard_answer s t = pick (ltb t s.latest) (kept 14) (gone (walk_count LANES t (at_time s t)))

unfoldable pub discard_state : ReceiveChannelUnreliable → ℕ → ReceiveChannelUnreliable
discard_state s t = pick (ltb t s.latest) s (walk_state LANES t (at_time s t))

-- ---- what comes out next

-- the store that holds it, its place there and its length
pub data Waiting : Type 0 where
  message : Store → ℕ → ℕ → Waiting
  none-waiting : Waiting
  refusing : ℕ → Waiting

abbrev pub shown_at : ReceiveChannelUnreliable → Place → Waiting
shown_at s (at-cell i) = message Small (i * SLICE_SIZE) (get_or s.cell_lens i 0)
shown_at s (at-lane l) = message Lanes (l * lane_len_of s.settings) (get_or s.lane_lens l 0)
shown_at s no_place = none-waiting

abbrev pub waiting : ReceiveChannelUnreliable → Waiting
waiting s = shown_at s (next_place s)

abbrev pub look_of : Result (Option Message) Refusal → Waiting
look_of (Ok (Some m)) = message m.store m.place m.len
look_of (Ok None) = none-waiting
look_of (Err e) = refusing (number_of e)

-- a look, with stores of these lengths lent: 10
unfoldable pub look_at : ReceiveChannelUnreliable → ℕ → ℕ → Waiting
look_at s small lane = pick (stores_hold_of s.settings small lane) (waiting s) (refusing 10)

-- the part of whichever store holds it; where there is none, an empty part
abbrev pub part_at : Waiting → List ℕ → List ℕ → List ℕ
part_at (message Small place len) small lane = take len (drop place small)
part_at (message Lanes place len) small lane = take len (drop place lane)
part_at none-waiting small lane = []
part_at (refusing e) small lane = []

-- ---- taking it: its cell or lane is free again, and those after it in the queue move up

unfoldable pub without_cell : ReceiveChannelUnreliable → ℕ → ReceiveChannelUnreliable
without_cell s i =
    record {
      settings = s.settings;
      memory_usage_bytes = s.memory_usage_bytes - get_or s.cell_lens i 0;
      latest = s.latest;
      cells = set s.cells i false;
      cell_lens = set s.cell_lens i 0;
      lanes = s.lanes;
      opens = s.opens;
      lane_ids = s.lane_ids;
      lane_lens = s.lane_lens;
      last_received = s.last_received;
      constructors = s.constructors;
      count = s.count - 1;
      queue = drop 1 s.queue ++ 0 ∷ [];
    }

-- a whole lane's other entries are blank already
unfoldable pub without_lane : ReceiveChannelUnreliable → ℕ → ReceiveChannelUnreliable
without_lane s l =
    record {
      settings = s.settings;
      memory_usage_bytes = s.memory_usage_bytes - get_or s.lane_lens l 0;
      latest = s.latest;
      cells = s.cells;
      cell_lens = s.cell_lens;
      lanes = set s.lanes l false;
      opens = s.opens;
      lane_ids = s.lane_ids;
      lane_lens = set s.lane_lens l 0;
      last_received = s.last_received;
      constructors = s.constructors;
      count = s.count - 1;
      queue = drop 1 s.queue ++ 0 ∷ [];
    }

abbrev pub removed : ReceiveChannelUnreliable → Place → ReceiveChannelUnreliable
removed s (at-cell i) = without_cell s i
removed s (at-lane l) = without_lane s l
removed s no_place = s

abbrev pub after_take : ReceiveChannelUnreliable → ReceiveChannelUnreliable
after_take s = removed s (next_place s)

-- ---- what is always true of a receiver

-- of cell i, whether it is held and how long its message is: a free one is blank, a held one is small
pub record CellGood (s : Settings) (i : ℕ) (here : Bool) (n : ℕ) : Type 0 where
  pub within : here ≡ true → i < s.slots
  pub small : n ≤ SLICE_SIZE
  pub blank : here ≡ false → n ≡ 0

-- of an open lane with this id, charge, time of its last piece and constructor: the constructor is that message's, and has pieces to come
pub record OpenGood (latest id n last : ℕ) (k : SliceConstructor) : Type 0 where
  pub below : id < LIMIT
  pub named : k.message_id.0 ≡ id
  pub some : 1 ≤ k.num_slices
  pub more : k.num_received_slices < k.num_slices
  pub charged : n ≡ SLICE_SIZE * k.num_slices
  pub seen : last ≤ latest

-- of lane l, whether it is held and whether it is open: one that is not open, free or whole, has no piece to come
pub record LaneGood (s : Settings) (latest l : ℕ) (here begun : Bool) (id n last : ℕ) (k : SliceConstructor) : Type 0 where
  pub within : here ≡ true → l < s.lanes
  pub long : n ≤ lane_len_of s
  pub blank : here ≡ false → (begun ≡ false) × (n ≡ 0)
  pub done : begun ≡ false → (id ≡ 0) × (last ≡ 0) × (k ≡ c.blank_of 0 0)
  pub opened : begun ≡ true → OpenGood latest id n last k
  pub constructor : c.Valid k

-- of what waits: it is a cell that is held, or a lane that is held and not open
abbrev pub HeldAt : List Bool → List Bool → List Bool → Place → Type 0
HeldAt cells lanes opens (at-cell i) = get_or cells i false ≡ true
HeldAt cells lanes opens (at-lane l) = (get_or lanes l false ≡ true) × (get_or opens l false ≡ false)
HeldAt cells lanes opens no_place = Unit

pub record Waits (cells lanes opens : List Bool) (w : ℕ) : Type 0 where
  pub low : w < ROWS
  pub here : HeldAt cells lanes opens (place_of w)

abbrev pub Apart : ℕ → ℕ → Type 0
Apart v w = v ≡ w → ⊥

-- the first n of the queue are each held cell and each whole lane once; its other entries are blank
pub record QueueGood (cells lanes opens : List Bool) (n : ℕ) (queue : List ℕ) : Type 0 where
  pub long : length queue ≡ ROWS
  pub each : All (Waits cells lanes opens) (take n queue)
  pub once : Pairs Apart (take n queue)
  pub counted : n + holds opens ≡ holds cells + holds lanes
  pub past : (k : ℕ) → n ≤ k → get_or queue k 0 ≡ 0

pub record Valid (s : ReceiveChannelUnreliable) : Type 0 where
  pub settings : Good s.settings
  pub cells-long : length s.cells ≡ SLOTS
  pub cell-lens-long : length s.cell_lens ≡ SLOTS
  pub lanes-long : length s.lanes ≡ LANES
  pub opens-long : length s.opens ≡ LANES
  pub lane-ids-long : length s.lane_ids ≡ LANES
  pub lane-lens-long : length s.lane_lens ≡ LANES
  pub last-received-long : length s.last_received ≡ LANES
  pub constructors-long : length s.constructors ≡ LANES
  pub cell : (i : ℕ) → i < SLOTS → CellGood s.settings i (get_or s.cells i false) (get_or s.cell_lens i 0)
  pub lane : (l : ℕ) → l < LANES
      → LaneGood s.settings s.latest l (get_or s.lanes l false) (get_or s.opens l false)
      (get_or s.lane_ids l 0) (get_or s.lane_lens l 0) (get_or s.last_received l 0) (constructor_at s l)
  pub queue : QueueGood s.cells s.lanes s.opens s.count s.queue
  -- the lengths of undelivered whole messages, and 1,200 × num_slices for each open lane
  pub usage : s.memory_usage_bytes ≡ total (λ n. n) s.cell_lens + total (λ n. n) s.lane_lens
  pub usage-most : s.memory_usage_bytes ≤ s.settings.max_memory_usage_bytes

-- ---- what each call gives, all of it: an answer, and the receiver

abbrev pub Made : Type 0
Made = After (Result (Unit {0}) Refusal) ReceiveChannelUnreliable

abbrev pub Arrived : Type 0
Arrived = After (Result Arrival Refusal) ReceiveChannelUnreliable

abbrev pub Discarded : Type 0
Discarded = After (Result ℕ Refusal) ReceiveChannelUnreliable

abbrev pub Received : Type 0
Received = After (Option Message) ReceiveChannelUnreliable

pub record MadeGives (s : Settings) (r : Made) : Type 0 where
  pub number : setup_number r.answer ≡ settings_refusal s
  pub state : r.state ≡ new_of (pick (eqb (settings_refusal s) 0) s least_settings)
  pub valid : Valid r.state

pub record MessageGives (s : ReceiveChannelUnreliable) (bs small lane small' : List ℕ) (r : Arrived) : Type 0 where
  pub answer : arrival_of r.answer ≡ message_answer_of (message_spot s (length bs) (length small) (length lane))
  pub state : r.state ≡ message_state s (length bs) (message_spot s (length bs) (length small) (length lane))
  pub bytes : small' ≡ message_bytes (message_spot s (length bs) (length small) (length lane)) bs small
  pub valid : Valid r.state

pub record SliceGives (s : ReceiveChannelUnreliable) (id num i : ℕ) (bs : List ℕ) (t : ℕ) (small lane lane' : List ℕ) (r : Arrived) : Type 0 where
  pub answer : arrival_of r.answer ≡ slice_answer_of (slice_spot s id num i (length bs) t (length small) (length lane))
  pub state : r.state ≡ slice_state s id num i (length bs) t (slice_spot s id num i (length bs) t (length small) (length lane))
  pub bytes : lane' ≡ slice_bytes s i bs (slice_spot s id num i (length bs) t (length small) (length lane)) lane
  pub valid : Valid r.state

pub record DiscardGives (s : ReceiveChannelUnreliable) (t : ℕ) (r : Discarded) : Type 0 where
  pub answer : discard_of r.answer ≡ discard_answer s t
  pub state : r.state ≡ discard_state s t
  pub valid : Valid r.state

pub record TakeGives (s : ReceiveChannelUnreliable) (r : Received) : Type 0 where
  pub answer : look_of (Ok r.answer) ≡ waiting s
  pub state : r.state ≡ after_take s
  pub valid : Valid r.state
