-- Queueing on a reliable sender. Document 01: 10, 13, 12, 7, 11. Assumes nothing.
use Rattle.std.specs.Prelude.{ℕ, ◌+◌, ◌-◌, ◌*◌, ◌≡◌, Bool, true, not, List, [], ◌∷◌, length, set, replicate, ltb, leb, eqb, Result, Ok, Err}
use Rattle.words.specs.Sizes.{SLICE_SIZE, PIECES, LIMIT}
use Rattle.words.specs.Pieces.{pieces_of}
use Rattle.words.specs.Choice.{pick, refusal}
use Rattle.words.specs.Lists.{splice, lowest_free_of}
use Rattle.words.specs.Refusal.{number_of}
use Rattle.words.specs.declared.After.{After}
use Rattle.words.specs.declared.MessageId.{MessageId}
use Rattle.words.specs.declared.Refusal.{Refusal}
use Rattle.channel.specs.Settings.{stores_hold_of, lane_len_of}
use Rattle.channel.specs.declared.Settings.{Settings}
use Rattle.send_reliable.specs.declared.Kind.{Kind}
use Rattle.send_reliable.specs.declared.Kind.TheVariants.{Small, Sliced}
use Rattle.send_reliable.specs.declared.Piece.{Piece}
use Rattle.send_reliable.specs.declared.SendChannelReliable.{SendChannelReliable}
use Rattle.send_reliable.specs.Sender.{unsent, as_row, no_piece, Valid}

-- by the settings, the next id and the memory used: a message of n bytes, with stores of these lengths lent
abbrev pub queue_number : Settings → ℕ → ℕ → ℕ → ℕ → ℕ → ℕ
queue_number settings next used n small lane =
    refusal (
    (not (stores_hold_of settings small lane), 10) ∷
    (leb LIMIT next, 13) ∷
    (ltb (settings.pieces * SLICE_SIZE) n, 12) ∷
    (ltb settings.max_memory_usage_bytes (used + n), 7) ∷ []
    )

unfoldable pub queue_refusal : SendChannelReliable → ℕ → ℕ → ℕ → ℕ
queue_refusal s n small lane = queue_number s.settings s.next_reliable_message_id s.memory_usage_bytes n small lane

-- the lowest free cell for a small message, the lowest free lane for a sliced one, or the refusal: 11 where none is free
pub data Spot : Type 0 where
  cell : ℕ → Spot
  lane : ℕ → Spot
  refused : ℕ → Spot

-- up to 1,200 bytes a message is small
abbrev pub free_in : Settings → ℕ → ℕ → ℕ → Spot
free_in settings i l n =
    pick (leb n SLICE_SIZE)
    (pick (ltb i settings.slots) (cell i) (refused 11))
    (pick (ltb l settings.lanes) (lane l) (refused 11))

unfoldable pub free_spot : SendChannelReliable → ℕ → Spot
free_spot s n = free_in s.settings (lowest_free_of s.cells s.settings.slots) (lowest_free_of s.lanes s.settings.lanes) n

unfoldable pub spot_of : SendChannelReliable → ℕ → ℕ → ℕ → Spot
spot_of s n small lanes = pick (eqb (queue_refusal s n small lanes) 0) (free_spot s n) (refused (queue_refusal s n small lanes))

-- a message more, in the next row
abbrev pub add_row_of : SendChannelReliable → ℕ → Kind → List Bool → List Bool → List Piece → SendChannelReliable
add_row_of s n kind cells lanes pieces =
    record {
      channel_id = s.channel_id;
      settings = s.settings;
      resend_time = s.resend_time;
      next_reliable_message_id = s.next_reliable_message_id + 1;
      memory_usage_bytes = s.memory_usage_bytes + n;
      latest = s.latest;
      count = s.count + 1;
      rows = set s.rows s.count (as_row (record { 0 = s.next_reliable_message_id }) n kind);
      cells = cells;
      lanes = lanes;
      pieces = pieces;
    }

unfoldable pub add_small : SendChannelReliable → ℕ → ℕ → SendChannelReliable
add_small s i n = add_row_of s n (Small i unsent) (set s.cells i true) s.lanes s.pieces

-- no piece acked, none sent
unfoldable pub add_sliced : SendChannelReliable → ℕ → ℕ → SendChannelReliable
add_sliced s l n = add_row_of s n (Sliced l 0 0) s.cells (set s.lanes l true) (splice (l * PIECES) (replicate (pieces_of n) no_piece) s.pieces)

-- ---- what is left of the maximum, and whether a message of n bytes fits there

abbrev pub available_memory_of : SendChannelReliable → ℕ
available_memory_of s = s.settings.max_memory_usage_bytes - s.memory_usage_bytes

abbrev pub can_send_of : SendChannelReliable → ℕ → Bool
can_send_of s n = leb (s.memory_usage_bytes + n) s.settings.max_memory_usage_bytes

-- ---- what queueing gives

pub data Outcome : Type 0 where
  taken : ℕ → Outcome
  refusing : ℕ → Outcome

abbrev pub queue_of : Result MessageId Refusal → Outcome
queue_of (Ok id) = taken id.0
queue_of (Err e) = refusing (number_of e)

abbrev pub answer_at : SendChannelReliable → Spot → Outcome
answer_at s (cell i) = taken s.next_reliable_message_id
answer_at s (lane l) = taken s.next_reliable_message_id
answer_at s (refused e) = refusing e

abbrev pub state_at : SendChannelReliable → ℕ → Spot → SendChannelReliable
state_at s n (cell i) = add_small s i n
state_at s n (lane l) = add_sliced s l n
state_at s n (refused e) = s

-- the message at the front of its cell, or of its lane; no other byte changes
abbrev pub small_at_of : Spot → List ℕ → List ℕ → List ℕ
small_at_of (cell i) msg store = splice (i * SLICE_SIZE) msg store
small_at_of (lane l) msg store = store
small_at_of (refused e) msg store = store

abbrev pub lanes_at : SendChannelReliable → Spot → List ℕ → List ℕ → List ℕ
lanes_at s (cell i) msg store = store
lanes_at s (lane l) msg store = splice (l * lane_len_of s.settings) msg store
lanes_at s (refused e) msg store = store

abbrev pub Queued : Type 0
Queued = After (Result MessageId Refusal) SendChannelReliable

pub record QueueGives (s : SendChannelReliable) (msg small lanes small' lanes' : List ℕ) (r : Queued) : Type 0 where
  pub answer : queue_of r.answer ≡ answer_at s (spot_of s (length msg) (length small) (length lanes))
  pub state : r.state ≡ state_at s (length msg) (spot_of s (length msg) (length small) (length lanes))
  pub small-store : small' ≡ small_at_of (spot_of s (length msg) (length small) (length lanes)) msg small
  pub lane-store : lanes' ≡ lanes_at s (spot_of s (length msg) (length small) (length lanes)) msg lanes
  pub valid : Valid r.state
