-- What the private functions of queueing and acknowledging give, and what they ask. Assumes nothing.
use Rattle.std.specs.Prelude.{ℕ, ◌+◌, ◌*◌, ◌≤◌, ◌<◌, ◌≡◌, List, length, get_or, ltb, Option, None, Some, Result, Ok, Err}
use Rattle.words.specs.Sizes.{SLICE_SIZE, SLOTS, LANES, PIECES, MAX_MEMORY, LIMIT}
use Rattle.words.specs.Choice.{pick}
use Rattle.words.specs.Lists.{first}
use Rattle.words.specs.Refusal.{number_of}
use Rattle.words.specs.declared.Refusal.{Refusal}
use Rattle.send_reliable.specs.declared.Kind.{Kind}
use Rattle.send_reliable.specs.declared.Kind.TheVariants.{Small, Sliced}
use Rattle.send_reliable.specs.declared.Row.{Row}
use Rattle.send_reliable.specs.declared.SendChannelReliable.{SendChannelReliable}
use Rattle.send_reliable.specs.declared.Place.{Place}
use Rattle.send_reliable.specs.declared.Place.TheVariants as place
use Rattle.send_reliable.specs.Sender.{ROWS, no_row, live}
use Rattle.send_reliable.specs.Queue.{Spot, cell, lane, refused}
use Rattle.send_reliable.specs.Ack as ack

-- ---- queueing

abbrev pub place_of : Result Place Refusal → Spot
place_of (Ok (place.Cell i)) = cell i
place_of (Ok (place.Lane l)) = lane l
place_of (Err e) = refused (number_of e)

-- a message of n bytes and of this kind is small enough for the numbers of a row
abbrev pub Narrow : ℕ → Kind → Type 0
Narrow n (Small i t) = (n ≤ SLICE_SIZE) × (i < SLOTS)
Narrow n (Sliced l a next) = (n ≤ PIECES * SLICE_SIZE) × (l < LANES) × (a ≤ PIECES) × (next ≤ PIECES)

-- a message of n bytes fits in the next row
pub record RowFits (s : SendChannelReliable) (n : ℕ) : Type 0 where
  pub low : s.count < ROWS
  pub ids : s.next_reliable_message_id < LIMIT
  pub memory : s.memory_usage_bytes + n ≤ MAX_MEMORY

-- ---- acknowledging

-- the row of an id among some, and its place, or none
abbrev pub found_in : List Row → ℕ → Option (ℕ × Row)
found_in rows x = pick (ltb (first (ack.has_id x) rows) (length rows)) (Some (first (ack.has_id x) rows, get_or rows (first (ack.has_id x) rows) no_row)) None

-- among the waiting
unfoldable pub found_of : SendChannelReliable → ℕ → Option (ℕ × Row)
found_of s x = found_in (live s) x

-- row k, of a message that waits
pub record RowAt (s : SendChannelReliable) (k : ℕ) (r : Row) : Type 0 where
  pub low : k < s.count
  pub row : get_or s.rows k no_row ≡ r

-- what an ack of an id gives, by what was found: the refusal, unknown, or what the message in its row gives
abbrev pub Waits : SendChannelReliable → ℕ → Result (Option (ℕ × Row)) Refusal → Type 0
Waits s x (Err e) = (f : ℕ → Row → ack.After) → ack.ack_row s x f ≡ ack.after (ack.refused (number_of e)) s
Waits s x (Ok None) = (f : ℕ → Row → ack.After) → ack.ack_row s x f ≡ ack.after ack.unknown s
Waits s x (Ok (Some p)) = RowAt s p.0 p.1 × ((f : ℕ → Row → ack.After) → ack.ack_row s x f ≡ f p.0 p.1)
