-- The receiving end of a reliable channel, ordered. Document 01, part 4, "Sizes and settings", "Numbers a caller may see" and
-- "Ordered receiver". Assumes nothing.
use Rattle.std.specs.Prelude.{ℕ, ◌+◌, ◌-◌, ◌*◌, ◌≤◌, ◌<◌, ◌≡◌, Bool, true, false, not, List, [], ◌∷◌, length, get_or, set, take, drop, replicate, ltb, leb, eqb, Result, Ok, Err, Option, Some, None}
use Rattle.words.specs.Sizes.{SLICE_SIZE, SLOTS, LANES, LIMIT}
use Rattle.words.specs.Choice.{pick, refusal}
use Rattle.words.specs.Lists.{splice, lowest_free_of, total}
use Rattle.words.specs.Refusal.{number_of}
use Rattle.words.specs.declared.Refusal.{Refusal}
use Rattle.words.specs.declared.After.{After}
use Rattle.channel.specs.Settings.{settings_refusal, setup_number, Good, least_settings, lane_len_of, stores_hold_of}
use Rattle.channel.specs.Find.{held_at}
use Rattle.channel.specs.declared.Settings.{Settings}
use Rattle.channel.specs.declared.Store.{Store}
use Rattle.channel.specs.declared.Store.TheVariants.{Small, Lanes}
use Rattle.slice_constructor.specs.declared.SliceConstructor.{SliceConstructor}
use Rattle.slice_constructor.specs.Collect as c
pub use Rattle.slice_constructor.specs.Collect.{is_whole, lane_charge, kept}
use Rattle.receive_reliable.specs.declared.ReceiveChannelReliable.{ReceiveChannelReliable}
use Rattle.receive_reliable.specs.declared.Arrival.{Arrival}
use Rattle.receive_reliable.specs.declared.Arrival.TheVariants as arrival
use Rattle.receive_reliable.specs.declared.Message.{Message}

-- ---- a new one

unfoldable pub new_of : Settings → ReceiveChannelReliable
new_of s =
    record {
      settings = s;
      oldest_pending_message_id = 0;
      memory_usage_bytes = 0;
      cells = replicate SLOTS false;
      cell_ids = replicate SLOTS 0;
      cell_lens = replicate SLOTS 0;
      lanes = replicate LANES false;
      whole = replicate LANES false;
      lane_ids = replicate LANES 0;
      lane_lens = replicate LANES 0;
      constructors = replicate LANES (c.blank_of 0 0);
    }

-- ---- which messages are here

-- the cell of a small message that is held, or SLOTS
abbrev pub cell_of : ReceiveChannelReliable → ℕ → ℕ
cell_of s id = held_at s.cells s.cell_ids id

-- the lane of a sliced message that is open or whole, or LANES
abbrev pub lane_of : ReceiveChannelReliable → ℕ → ℕ
lane_of s id = held_at s.lanes s.lane_ids id

abbrev pub in_cell_of : ReceiveChannelReliable → ℕ → Bool
in_cell_of s id = ltb (cell_of s id) SLOTS

abbrev pub in_lane_of : ReceiveChannelReliable → ℕ → Bool
in_lane_of s id = ltb (lane_of s id) LANES

-- whole, in a cell or in a lane
abbrev pub is_held : ReceiveChannelReliable → ℕ → Bool
is_held s id = pick (in_cell_of s id) true (pick (in_lane_of s id) (get_or s.whole (lane_of s id) false) false)

-- old or held ids are ignored
unfoldable pub ignores : ReceiveChannelReliable → ℕ → Bool
ignores s id = pick (ltb id s.oldest_pending_message_id) true (is_held s id)

-- ---- answers

-- the paper's number of a refusal; taken and ignored are no refusals
pub data Outcome : Type 0 where
  taken : Outcome
  ignored : Outcome
  refused : ℕ → Outcome

abbrev pub arrival_of : Result Arrival Refusal → Outcome
arrival_of (Ok arrival.Taken) = taken
arrival_of (Ok arrival.Ignored) = ignored
arrival_of (Err e) = refused (number_of e)

-- what every arrival is judged by first, with stores of these lengths lent: 10, 13
unfoldable pub entry_refusal : ReceiveChannelReliable → ℕ → ℕ → ℕ → ℕ
entry_refusal s id small lane = refusal ((not (stores_hold_of s.settings small lane), 10) ∷ (leb LIMIT id, 13) ∷ [])

-- e, where it is a refusal; else ignored or what follows
abbrev pub judged : {A : Type 0} → ℕ → (ℕ → A) → A → A
judged e f a = pick (eqb e 0) a (f e)

-- ---- a small message: 10, 13, ignored, 12, 16, 7, 11

unfoldable pub message_refusal : ReceiveChannelReliable → ℕ → ℕ → ℕ
message_refusal s id n =
    refusal (
    (ltb SLICE_SIZE n, 12) ∷
    (in_lane_of s id, 16) ∷
    (ltb s.settings.max_memory_usage_bytes (s.memory_usage_bytes + n), 7) ∷
    (leb s.settings.slots (lowest_free_of s.cells s.settings.slots), 11) ∷ []
    )

-- where a message of n bytes goes: the lowest free cell
pub data MessageSpot : Type 0 where
  cell : ℕ → MessageSpot
  nowhere : Outcome → MessageSpot

unfoldable pub message_spot : ReceiveChannelReliable → ℕ → ℕ → ℕ → ℕ → MessageSpot
message_spot s id n small lane =
    judged (entry_refusal s id small lane) (λ e. nowhere (refused e))
    (pick (ignores s id) (nowhere ignored)
    (judged (message_refusal s id n) (λ e. nowhere (refused e))
    (cell (lowest_free_of s.cells s.settings.slots))))

-- the state with a message of n bytes in cell i
unfoldable pub with_message_of : ReceiveChannelReliable → ℕ → ℕ → ℕ → ReceiveChannelReliable
with_message_of s i id n =
    record {
      settings = s.settings;
      oldest_pending_message_id = s.oldest_pending_message_id;
      memory_usage_bytes = s.memory_usage_bytes + n;
      cells = set s.cells i true;
      cell_ids = set s.cell_ids i id;
      cell_lens = set s.cell_lens i n;
      lanes = s.lanes;
      whole = s.whole;
      lane_ids = s.lane_ids;
      lane_lens = s.lane_lens;
      constructors = s.constructors;
    }

abbrev pub message_answer_of : MessageSpot → Outcome
message_answer_of (cell i) = taken
message_answer_of (nowhere o) = o

abbrev pub message_state : ReceiveChannelReliable → ℕ → ℕ → MessageSpot → ReceiveChannelReliable
message_state s id n (cell i) = with_message_of s i id n
message_state s id n (nowhere o) = s

-- payloads start at the cell's front; no other byte changes
abbrev pub message_bytes : MessageSpot → List ℕ → List ℕ → List ℕ
message_bytes (cell i) bs small = splice (i * SLICE_SIZE) bs small
message_bytes (nowhere o) bs small = small

-- ---- a piece: 10, 13, ignored, 8 for a zero count, 12; for a new id 7 and 11, for an open one 8 for another count; then 8 for index and size

-- the constructor that takes the piece, and its lane; whether it is new
pub data SliceSpot : Type 0 where
  opened : ℕ → SliceSpot
  fresh : ℕ → SliceSpot
  nothing : Outcome → SliceSpot

unfoldable pub count_refusal : ReceiveChannelReliable → ℕ → ℕ
count_refusal s num = refusal ((eqb num 0, 8) ∷ (ltb s.settings.pieces num, 12) ∷ [])

-- a new lane is charged 1,200 × num_slices
unfoldable pub fresh_refusal : ReceiveChannelReliable → ℕ → ℕ
fresh_refusal s num =
    refusal (
    (ltb s.settings.max_memory_usage_bytes (s.memory_usage_bytes + SLICE_SIZE * num), 7) ∷
    (leb s.settings.lanes (lowest_free_of s.lanes s.settings.lanes), 11) ∷ []
    )

abbrev pub constructor_at : ReceiveChannelReliable → ℕ → SliceConstructor
constructor_at s l = get_or s.constructors l (c.blank_of 0 0)

-- index and size, with the lane's own part of the store lent whole
abbrev pub placed : ReceiveChannelReliable → SliceConstructor → ℕ → ℕ → SliceSpot → SliceSpot
placed s k i n spot = judged (c.collect_refusal k i n (lane_len_of s.settings)) (λ e. nothing (refused e)) spot

unfoldable pub open_spot : ReceiveChannelReliable → ℕ → ℕ → ℕ → ℕ → SliceSpot
open_spot s l num i n =
    pick (eqb (constructor_at s l).num_slices num)
    (placed s (constructor_at s l) i n (opened l))
    (nothing (refused 8))

unfoldable pub fresh_spot : ReceiveChannelReliable → ℕ → ℕ → ℕ → ℕ → SliceSpot
fresh_spot s id num i n =
    judged (fresh_refusal s num) (λ e. nothing (refused e))
    (placed s (c.blank_of id num) i n (fresh (lowest_free_of s.lanes s.settings.lanes)))

-- a piece of n bytes, index i of num, of message id
unfoldable pub slice_spot : ReceiveChannelReliable → ℕ → ℕ → ℕ → ℕ → ℕ → ℕ → SliceSpot
slice_spot s id num i n small lane =
    judged (entry_refusal s id small lane) (λ e. nothing (refused e))
    (pick (ignores s id) (nothing ignored)
    (judged (count_refusal s num) (λ e. nothing (refused e))
    (pick (in_lane_of s id) (open_spot s (lane_of s id) num i n) (fresh_spot s id num i n))))

-- lane l afterwards, with the constructor k: whole and as long as it is, or open and charged; when complete the charge becomes the
-- exact length
unfoldable pub with_lane_of : ReceiveChannelReliable → ℕ → ℕ → SliceConstructor → ReceiveChannelReliable
with_lane_of s l id k =
    record {
      settings = s.settings;
      oldest_pending_message_id = s.oldest_pending_message_id;
      memory_usage_bytes = s.memory_usage_bytes - get_or s.lane_lens l 0 + lane_charge k;
      cells = s.cells;
      cell_ids = s.cell_ids;
      cell_lens = s.cell_lens;
      lanes = set s.lanes l true;
      whole = set s.whole l (is_whole k);
      lane_ids = set s.lane_ids l id;
      lane_lens = set s.lane_lens l (lane_charge k);
      constructors = set s.constructors l (kept k);
    }

abbrev pub slice_answer_of : SliceSpot → Outcome
slice_answer_of (opened l) = taken
slice_answer_of (fresh l) = taken
slice_answer_of (nothing o) = o

abbrev pub slice_state : ReceiveChannelReliable → ℕ → ℕ → ℕ → ℕ → SliceSpot → ReceiveChannelReliable
slice_state s id num i n (opened l) = with_lane_of s l id (c.taken (constructor_at s l) i n)
slice_state s id num i n (fresh l) = with_lane_of s l id (c.taken (c.blank_of id num) i n)
slice_state s id num i n (nothing o) = s

-- piece i at i × 1,200 of its lane; a repeat changes no byte, and no other byte changes
abbrev pub slice_bytes : ReceiveChannelReliable → ℕ → List ℕ → SliceSpot → List ℕ → List ℕ
slice_bytes s i bs (opened l) lane =
    pick (get_or (constructor_at s l).received i false) lane (splice (l * lane_len_of s.settings + i * SLICE_SIZE) bs lane)
slice_bytes s i bs (fresh l) lane = splice (l * lane_len_of s.settings + i * SLICE_SIZE) bs lane
slice_bytes s i bs (nothing o) lane = lane

-- ---- what comes out next

-- the message with the oldest pending id: the store that holds it, its place there and its length
pub data Waiting : Type 0 where
  message : ℕ → Store → ℕ → ℕ → Waiting
  none-waiting : Waiting
  refusing : ℕ → Waiting

unfoldable pub waiting : ReceiveChannelReliable → Waiting
waiting s =
    pick (in_cell_of s s.oldest_pending_message_id)
    (message s.oldest_pending_message_id Small
    (cell_of s s.oldest_pending_message_id * SLICE_SIZE)
    (get_or s.cell_lens (cell_of s s.oldest_pending_message_id) 0))
    (pick (is_held s s.oldest_pending_message_id)
    (message s.oldest_pending_message_id Lanes
    (lane_of s s.oldest_pending_message_id * lane_len_of s.settings)
    (get_or s.lane_lens (lane_of s s.oldest_pending_message_id) 0))
    none-waiting)

abbrev pub look_of : Result (Option Message) Refusal → Waiting
look_of (Ok (Some m)) = message m.id.0 m.store m.place m.len
look_of (Ok None) = none-waiting
look_of (Err e) = refusing (number_of e)

-- a look, with stores of these lengths lent: 10
unfoldable pub look_at : ReceiveChannelReliable → ℕ → ℕ → Waiting
look_at s small lane = pick (stores_hold_of s.settings small lane) (waiting s) (refusing 10)

-- the part of whichever store holds it; where there is none, an empty part
abbrev pub part_at : Waiting → List ℕ → List ℕ → List ℕ
part_at (message id Small place len) small lane = take len (drop place small)
part_at (message id Lanes place len) small lane = take len (drop place lane)
part_at none-waiting small lane = []
part_at (refusing e) small lane = []

-- ---- taking it: its cell or lane is free again

unfoldable pub without_cell : ReceiveChannelReliable → ℕ → ReceiveChannelReliable
without_cell s i =
    record {
      settings = s.settings;
      oldest_pending_message_id = s.oldest_pending_message_id + 1;
      memory_usage_bytes = s.memory_usage_bytes - get_or s.cell_lens i 0;
      cells = set s.cells i false;
      cell_ids = set s.cell_ids i 0;
      cell_lens = set s.cell_lens i 0;
      lanes = s.lanes;
      whole = s.whole;
      lane_ids = s.lane_ids;
      lane_lens = s.lane_lens;
      constructors = s.constructors;
    }

unfoldable pub without_lane : ReceiveChannelReliable → ℕ → ReceiveChannelReliable
without_lane s l =
    record {
      settings = s.settings;
      oldest_pending_message_id = s.oldest_pending_message_id + 1;
      memory_usage_bytes = s.memory_usage_bytes - get_or s.lane_lens l 0;
      cells = s.cells;
      cell_ids = s.cell_ids;
      cell_lens = s.cell_lens;
      lanes = set s.lanes l false;
      whole = set s.whole l false;
      lane_ids = set s.lane_ids l 0;
      lane_lens = set s.lane_lens l 0;
      constructors = s.constructors;
    }

unfoldable pub after_take : ReceiveChannelReliable → ReceiveChannelReliable
after_take s =
    pick (in_cell_of s s.oldest_pending_message_id)
    (without_cell s (cell_of s s.oldest_pending_message_id))
    (pick (is_held s s.oldest_pending_message_id)
    (without_lane s (lane_of s s.oldest_pending_message_id))
    s)

-- ---- what is always true of a receiver

-- of each cell: a free one is blank; a held one has an id that may come and a length that is small
pub record CellGood (s : ReceiveChannelReliable) (i : ℕ) : Type 0 where
  pub within : get_or s.cells i false ≡ true → i < s.settings.slots
  pub id_below : get_or s.cell_ids i 0 < LIMIT
  pub small : get_or s.cell_lens i 0 ≤ SLICE_SIZE
  pub blank : get_or s.cells i false ≡ false → (get_or s.cell_ids i 0 ≡ 0) × (get_or s.cell_lens i 0 ≡ 0)

-- of each lane: a free one is blank, an open one is charged for its pieces, a whole one has no more pieces to come
pub record LaneGood (s : ReceiveChannelReliable) (l : ℕ) : Type 0 where
  pub within : get_or s.lanes l false ≡ true → l < s.settings.lanes
  pub id_below : get_or s.lane_ids l 0 < LIMIT
  pub long : get_or s.lane_lens l 0 ≤ lane_len_of s.settings
  pub blank : get_or s.lanes l false ≡ false
      → (get_or s.whole l false ≡ false) × (get_or s.lane_ids l 0 ≡ 0) × (get_or s.lane_lens l 0 ≡ 0) × (constructor_at s l ≡ c.blank_of 0 0)
  pub done : get_or s.whole l false ≡ true → constructor_at s l ≡ c.blank_of 0 0
  pub opened : get_or s.lanes l false ≡ true → get_or s.whole l false ≡ false
      → ((constructor_at s l).message_id.0 ≡ get_or s.lane_ids l 0)
      × (1 ≤ (constructor_at s l).num_slices)
      × ((constructor_at s l).num_received_slices < (constructor_at s l).num_slices)
      × (get_or s.lane_lens l 0 ≡ SLICE_SIZE * (constructor_at s l).num_slices)
  pub constructor : c.Valid (constructor_at s l)

pub record Valid (s : ReceiveChannelReliable) : Type 0 where
  pub settings : Good s.settings
  pub oldest-most : s.oldest_pending_message_id ≤ LIMIT
  pub cells-long : length s.cells ≡ SLOTS
  pub cell-ids-long : length s.cell_ids ≡ SLOTS
  pub cell-lens-long : length s.cell_lens ≡ SLOTS
  pub lanes-long : length s.lanes ≡ LANES
  pub whole_long : length s.whole ≡ LANES
  pub lane-ids-long : length s.lane_ids ≡ LANES
  pub lane-lens-long : length s.lane_lens ≡ LANES
  pub constructors-long : length s.constructors ≡ LANES
  pub cell : (i : ℕ) → i < SLOTS → CellGood s i
  pub lane : (l : ℕ) → l < LANES → LaneGood s l
  -- the lengths of held small messages and whole sliced ones, and 1,200 × num_slices for each open lane
  pub usage : s.memory_usage_bytes ≡ total (λ n. n) s.cell_lens + total (λ n. n) s.lane_lens
  pub usage-most : s.memory_usage_bytes ≤ s.settings.max_memory_usage_bytes

-- ---- what each call gives, all of it: an answer, and the receiver

abbrev pub Made : Type 0
Made = After (Result (Unit {0}) Refusal) ReceiveChannelReliable

abbrev pub Arrived : Type 0
Arrived = After (Result Arrival Refusal) ReceiveChannelReliable

abbrev pub Received : Type 0
Received = After (Option Message) ReceiveChannelReliable

pub record MadeGives (s : Settings) (r : Made) : Type 0 where
  pub number : setup_number r.answer ≡ settings_refusal s
  pub state : r.state ≡ new_of (pick (eqb (settings_refusal s) 0) s least_settings)
  pub valid : Valid r.state

pub record MessageGives (s : ReceiveChannelReliable) (id : ℕ) (bs small lane small' : List ℕ) (r : Arrived) : Type 0 where
  pub answer : arrival_of r.answer ≡ message_answer_of (message_spot s id (length bs) (length small) (length lane))
  pub state : r.state ≡ message_state s id (length bs) (message_spot s id (length bs) (length small) (length lane))
  pub bytes : small' ≡ message_bytes (message_spot s id (length bs) (length small) (length lane)) bs small
  pub valid : Valid r.state

pub record SliceGives (s : ReceiveChannelReliable) (id num i : ℕ) (bs small lane lane' : List ℕ) (r : Arrived) : Type 0 where
  pub answer : arrival_of r.answer ≡ slice_answer_of (slice_spot s id num i (length bs) (length small) (length lane))
  pub state : r.state ≡ slice_state s id num i (length bs) (slice_spot s id num i (length bs) (length small) (length lane))
  pub bytes : lane' ≡ slice_bytes s i bs (slice_spot s id num i (length bs) (length small) (length lane)) lane
  pub valid : Valid r.state

pub record TakeGives (s : ReceiveChannelReliable) (r : Received) : Type 0 where
  pub answer : look_of (Ok r.answer) ≡ waiting s
  pub state : r.state ≡ after_take s
  pub valid : Valid r.state
