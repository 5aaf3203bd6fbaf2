-- The sending end of an unreliable channel: its state, and queueing. Document 01, part 5: 10, 12, Dropped, 11. Assumes nothing.
use Rattle.std.specs.Prelude.{ℕ, ◌+◌, ◌-◌, ◌*◌, ◌≤◌, ◌≡◌, Bool, not, List, [], ◌∷◌, length, get_or, set, take, replicate, ltb, leb, eqb, Result, Ok, Err}
use Rattle.words.specs.Sizes.{SLICE_SIZE, SLOTS, LANES, LIMIT}
use Rattle.words.specs.Choice.{pick, refusal}
use Rattle.words.specs.Lists.{splice, total, All}
use Rattle.words.specs.Refusal.{number_of}
use Rattle.words.specs.declared.After.{After}
use Rattle.words.specs.declared.Refusal.{Refusal}
use Rattle.channel.specs.Settings.{settings_refusal, setup_number, Good, least_settings, lane_len_of, stores_hold_of}
use Rattle.channel.specs.declared.Settings.{Settings}
use Rattle.send_unreliable.specs.declared.SendChannelUnreliable.{SendChannelUnreliable}
use Rattle.send_unreliable.specs.declared.Queue.{Queue}
use Rattle.send_unreliable.specs.declared.Queue.TheVariants as queue

abbrev pub Made : Type 0
Made = After (Result (Unit {0}) Refusal) SendChannelUnreliable

abbrev pub Queued : Type 0
Queued = After (Result Queue Refusal) SendChannelUnreliable

abbrev pub ROWS : ℕ
ROWS = SLOTS + LANES

-- ---- a new one, which a round leaves too but for the id of its next sliced message

unfoldable pub empty_of : ℕ → Settings → ℕ → SendChannelUnreliable
empty_of channel s id =
    record {
      channel_id = channel;
      settings = s;
      sliced_message_id = id;
      memory_usage_bytes = 0;
      count = 0;
      small = 0;
      sliced = 0;
      lens = replicate ROWS 0;
    }

-- ---- what is always true of it

-- the lengths of the waiting messages, the first queued first
abbrev pub waiting : SendChannelUnreliable → List ℕ
waiting s = take s.count s.lens

abbrev pub is_small : ℕ → Bool
is_small n = leb n SLICE_SIZE

pub record Valid (s : SendChannelUnreliable) : Type 0 where
  pub settings : Good s.settings
  pub id-most : s.sliced_message_id ≤ LIMIT
  pub lens-long : length s.lens ≡ ROWS
  pub blank : (i : ℕ) → s.count ≤ i → get_or s.lens i 0 ≡ 0
  pub small-most : s.small ≤ s.settings.slots
  pub sliced-most : s.sliced ≤ s.settings.lanes
  pub counted : s.count ≡ s.small + s.sliced
  pub small_is : s.small ≡ total (λ n. pick (is_small n) 1 0) (waiting s)
  pub long : All (λ n. n ≤ s.settings.pieces * SLICE_SIZE) (waiting s)
  pub usage : s.memory_usage_bytes ≡ total (λ n. n) (waiting s)
  pub usage-most : s.memory_usage_bytes ≤ s.settings.max_memory_usage_bytes

-- ---- the room that is left; a size too large to add is a no

abbrev pub available : SendChannelUnreliable → ℕ
available s = s.settings.max_memory_usage_bytes - s.memory_usage_bytes

abbrev pub can_send_of : SendChannelUnreliable → ℕ → Bool
can_send_of s n = leb (s.memory_usage_bytes + n) s.settings.max_memory_usage_bytes

pub record MadeGives (channel : ℕ) (s : Settings) (r : Made) : Type 0 where
  pub number : setup_number r.answer ≡ settings_refusal s
  pub state : r.state ≡ pick (eqb (settings_refusal s) 0) (empty_of channel s 0) (empty_of 0 least_settings 0)
  pub valid : Valid r.state

-- ---- queueing

pub data Spot : Type 0 where
  cell : Spot
  lane : Spot
  dropped : Spot
  refused : ℕ → Spot

unfoldable pub entry_refusal : SendChannelUnreliable → ℕ → ℕ → ℕ → ℕ
entry_refusal s n small lanes =
    refusal (
    (not (stores_hold_of s.settings small lanes), 10) ∷
    (ltb (s.settings.pieces * SLICE_SIZE) n, 12) ∷ []
    )

-- a message of n bytes, with stores of these lengths lent; 11 where no cell or lane is free
unfoldable pub spot_of : SendChannelUnreliable → ℕ → ℕ → ℕ → Spot
spot_of s n small lanes =
    pick (eqb (entry_refusal s n small lanes) 0)
    (pick (ltb s.settings.max_memory_usage_bytes (s.memory_usage_bytes + n)) dropped
    (pick (is_small n)
    (pick (ltb s.small s.settings.slots) cell (refused 11))
    (pick (ltb s.sliced s.settings.lanes) lane (refused 11))))
    (refused (entry_refusal s n small lanes))

abbrev pub queued : SendChannelUnreliable → ℕ → ℕ → ℕ → SendChannelUnreliable
queued s n small sliced =
    record {
      channel_id = s.channel_id;
      settings = s.settings;
      sliced_message_id = s.sliced_message_id;
      memory_usage_bytes = s.memory_usage_bytes + n;
      count = s.count + 1;
      small = small;
      sliced = sliced;
      lens = set s.lens s.count n;
    }

abbrev pub state_at : SendChannelUnreliable → ℕ → Spot → SendChannelUnreliable
state_at s n cell = queued s n (s.small + 1) s.sliced
state_at s n lane = queued s n s.small (s.sliced + 1)
state_at s n dropped = s
state_at s n (refused e) = s

pub data Outcome : Type 0 where
  taken : Outcome
  drop : Outcome
  refusing : ℕ → Outcome

abbrev pub queue_of : Result Queue Refusal → Outcome
queue_of (Ok queue.Taken) = taken
queue_of (Ok queue.Dropped) = drop
queue_of (Err e) = refusing (number_of e)

abbrev pub answer_at : Spot → Outcome
answer_at cell = taken
answer_at lane = taken
answer_at dropped = drop
answer_at (refused e) = refusing e

-- the message at the front of its cell, or of its lane; no other byte changes
abbrev pub small_at_of : SendChannelUnreliable → Spot → List ℕ → List ℕ → List ℕ
small_at_of s cell msg store = splice (s.small * SLICE_SIZE) msg store
small_at_of s lane msg store = store
small_at_of s dropped msg store = store
small_at_of s (refused e) msg store = store

abbrev pub lanes_at : SendChannelUnreliable → Spot → List ℕ → List ℕ → List ℕ
lanes_at s cell msg store = store
lanes_at s lane msg store = splice (s.sliced * lane_len_of s.settings) msg store
lanes_at s dropped msg store = store
lanes_at s (refused e) msg store = store

pub record QueueGives (s : SendChannelUnreliable) (msg small lanes small' lanes' : List ℕ) (r : Queued) : Type 0 where
  pub answer : queue_of r.answer ≡ answer_at (spot_of s (length msg) (length small) (length lanes))
  pub state : r.state ≡ state_at s (length msg) (spot_of s (length msg) (length small) (length lanes))
  pub small-store : small' ≡ small_at_of s (spot_of s (length msg) (length small) (length lanes)) msg small
  pub lane-store : lanes' ≡ lanes_at s (spot_of s (length msg) (length small) (length lanes)) msg lanes
  pub valid : Valid r.state
