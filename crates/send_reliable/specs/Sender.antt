-- The state of the sending end of a reliable channel: a new one, and what is always true of it. Assumes nothing.
use Rattle.std.specs.Prelude.{ℕ, ◌+◌, ◌*◌, ◌≤◌, ◌<◌, ◌≡◌, true, false, List, length, get_or, take, drop, replicate, eqb, Option, None, Some, Result}
use Rattle.words.specs.Sizes.{SLICE_SIZE, SLOTS, LANES, PIECES, LIMIT}
use Rattle.words.specs.Choice.{pick}
use Rattle.words.specs.Pieces.{pieces_of}
use Rattle.words.specs.Lists.{holds, total, All, Pairs}
use Rattle.words.specs.declared.After.{After}
use Rattle.words.specs.declared.MessageId.{MessageId}
use Rattle.words.specs.declared.Refusal.{Refusal}
use Rattle.channel.specs.Settings.{settings_refusal, setup_number, Good, least_settings}
use Rattle.channel.specs.declared.Settings.{Settings}
use Rattle.send_reliable.specs.declared.Kind.{Kind}
use Rattle.send_reliable.specs.declared.Kind.TheVariants.{Small, Sliced}
use Rattle.send_reliable.specs.declared.Row.{Row}
use Rattle.send_reliable.specs.declared.Piece.{Piece}
use Rattle.send_reliable.specs.declared.SendChannelReliable.{SendChannelReliable}

abbrev pub Made : Type 0
Made = After (Result (Unit {0}) Refusal) SendChannelReliable

abbrev pub ROWS : ℕ
ROWS = SLOTS + LANES

-- ---- what a table's plain fields say, and a row by its kind

-- when something was last sent, if ever
abbrev pub Sending : Type 0
Sending = Option ℕ

abbrev pub last_sent_of : Sending → Option ℕ
last_sent_of t = t

abbrev pub unsent : Sending
unsent = None

-- where a waiting message lies
abbrev pub kind_of : Row → Kind
kind_of r = pick r.sliced (Sliced r.place r.acked r.next) (Small r.place r.sending)

-- the row of a message of n bytes; `kind_of` gives its kind back
abbrev pub as_row : MessageId → ℕ → Kind → Row
as_row id n (Small i t) = record { id = id; len = n; sliced = false; place = i; acked = 0; next = 0; sending = t }
as_row id n (Sliced l a next) = record { id = id; len = n; sliced = true; place = l; acked = a; next = next; sending = unsent }

-- ---- a new one

abbrev pub no_row : Row
no_row = as_row (record { 0 = 0 }) 0 (Small 0 unsent)

abbrev pub no_piece : Piece
no_piece = record { acked = false; sending = unsent }

unfoldable pub new_of : ℕ → Settings → ℕ → SendChannelReliable
new_of channel s resend =
    record {
      channel_id = channel;
      settings = s;
      resend_time = resend;
      next_reliable_message_id = 0;
      memory_usage_bytes = 0;
      latest = 0;
      count = 0;
      rows = replicate ROWS no_row;
      cells = replicate SLOTS false;
      lanes = replicate LANES false;
      pieces = replicate (LANES * PIECES) no_piece;
    }

-- ---- what is always true of a sender

-- the waiting messages, ids rising
abbrev pub live : SendChannelReliable → List Row
live s = take s.count s.rows

-- nothing was sent after the latest accepted time
abbrev pub SentBy : ℕ → Option ℕ → Type 0
SentBy latest None = Unit
SentBy latest (Some t) = t ≤ latest

-- the pieces of lane l, of a message of n bytes, which has a acknowledged ones
abbrev pub piece_at : SendChannelReliable → ℕ → ℕ → Piece
piece_at s l i = get_or s.pieces (l * PIECES + i) no_piece

unfoldable pub acked_pieces : SendChannelReliable → ℕ → ℕ → ℕ
acked_pieces s l n = total (λ (p : Piece). pick p.acked 1 0) (take (pieces_of n) (drop (l * PIECES) s.pieces))

-- a waiting message holds its cell or lane, and is as long as its kind may be
abbrev pub PlacedKind : SendChannelReliable → ℕ → Kind → Type 0
PlacedKind s n (Small i t) = (i < s.settings.slots) × (get_or s.cells i false ≡ true) × (n ≤ SLICE_SIZE) × SentBy s.latest (last_sent_of t)
PlacedKind s n (Sliced l a k) =
    (l < s.settings.lanes)
    × (get_or s.lanes l false ≡ true)
    × (SLICE_SIZE < n)
    × (n ≤ s.settings.pieces * SLICE_SIZE)
    × (a ≡ acked_pieces s l n)
    × (a < pieces_of n)
    × (k ≤ pieces_of n)

unfoldable pub Placed : SendChannelReliable → Row → Type 0
Placed s r = (r.id.0 < s.next_reliable_message_id) × PlacedKind s r.len (kind_of r)

abbrev pub Apart : Kind → Kind → Type 0
Apart (Small i t) (Small j u) = i ≡ j → ⊥
Apart (Small i t) (Sliced l a k) = Unit
Apart (Sliced l a k) (Small i t) = Unit
Apart (Sliced l a k) (Sliced m b n) = l ≡ m → ⊥

-- ids rise, and no two share a cell or a lane
unfoldable pub Before : Row → Row → Type 0
Before a b = (a.id.0 < b.id.0) × Apart (kind_of a) (kind_of b)

-- the whole length of every unacknowledged message
abbrev pub usage_of : SendChannelReliable → ℕ
usage_of s = total (λ (r : Row). r.len) (live s)

pub record Valid (s : SendChannelReliable) : Type 0 where
  pub settings : Good s.settings
  pub next-most : s.next_reliable_message_id ≤ LIMIT
  pub rows_long : length s.rows ≡ ROWS
  pub cells-long : length s.cells ≡ SLOTS
  pub lanes-long : length s.lanes ≡ LANES
  pub pieces-long : length s.pieces ≡ LANES * PIECES
  pub counted : s.count ≡ holds s.cells + holds s.lanes
  pub usage : s.memory_usage_bytes ≡ usage_of s
  pub usage-most : s.memory_usage_bytes ≤ s.settings.max_memory_usage_bytes
  pub placed : All (Placed s) (live s)
  pub rising : Pairs Before (live s)
  pub pieces-sent : All (λ (p : Piece). SentBy s.latest (last_sent_of p.sending)) s.pieces

pub record MadeGives (channel : ℕ) (s : Settings) (resend : ℕ) (r : Made) : Type 0 where
  pub number : setup_number r.answer ≡ settings_refusal s
  pub state : r.state ≡ pick (eqb (settings_refusal s) 0) (new_of channel s resend) (new_of 0 least_settings 0)
  pub valid : Valid r.state
