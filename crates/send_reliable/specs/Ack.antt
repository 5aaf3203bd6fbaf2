-- Acknowledgements to a reliable sender. Document 01: 13, unknown id, 16, 17. Assumes nothing.
use Rattle.std.specs.Prelude.{ℕ, suc, ◌+◌, ◌-◌, ◌*◌, ◌≡◌, Bool, true, false, List, get_or, set, drop, ltb, leb, eqb, Result, Ok, Err}
use Rattle.std.proofs.Math.Seq.{paste}
use Rattle.words.specs.Sizes.{PIECES, LIMIT}
use Rattle.words.specs.Pieces.{pieces_of}
use Rattle.words.specs.Choice.{pick}
use Rattle.words.specs.Lists.{first}
use Rattle.words.specs.Refusal.{number_of}
use Rattle.words.specs.declared.After as words
use Rattle.words.specs.declared.Refusal.{Refusal}
use Rattle.send_reliable.specs.declared.Kind.{Kind}
use Rattle.send_reliable.specs.declared.Kind.TheVariants.{Small, Sliced}
use Rattle.send_reliable.specs.declared.Row.{Row}
use Rattle.send_reliable.specs.declared.SendChannelReliable.{SendChannelReliable}
use Rattle.send_reliable.specs.declared.Ack.{Ack}
use Rattle.send_reliable.specs.declared.Ack.TheVariants as ack
use Rattle.send_reliable.specs.Sender.{kind_of, as_row, no_row, live, piece_at, Valid}

-- ---- the row of an id among the waiting, or `count`

abbrev pub has_id : ℕ → Row → Bool
has_id x r = eqb r.id.0 x

abbrev pub row_of : SendChannelReliable → ℕ → ℕ
row_of s x = first (has_id x) (live s)

-- ---- a message is gone: its row closes up, its cell or lane is free again, its length is given back

-- the rows after k, up to n, one place lower, and a blank one after them
abbrev pub closed : List Row → ℕ → ℕ → List Row
closed rows k n = set (paste rows k (drop (suc k) rows) (n - 1 - k)) (n - 1) no_row

abbrev pub without : SendChannelReliable → ℕ → ℕ → List Bool → List Bool → SendChannelReliable
without s k n cells lanes =
    record {
      channel_id = s.channel_id;
      settings = s.settings;
      resend_time = s.resend_time;
      next_reliable_message_id = s.next_reliable_message_id;
      memory_usage_bytes = s.memory_usage_bytes - n;
      latest = s.latest;
      count = s.count - 1;
      rows = closed s.rows k s.count;
      cells = cells;
      lanes = lanes;
      pieces = s.pieces;
    }

-- ---- the answers

pub data Outcome : Type 0 where
  done : Outcome
  unknown : Outcome
  refused : ℕ → Outcome

abbrev pub ack_of : Result Ack Refusal → Outcome
ack_of (Ok ack.Done) = done
ack_of (Ok ack.Unknown) = unknown
ack_of (Err e) = refused (number_of e)

pub record After : Type 0 where
  pub answer : Outcome
  pub state : SendChannelReliable

abbrev pub after : Outcome → SendChannelReliable → After
after o s = record { answer = o; state = s }

-- 13, unknown, then what the message in its row gives
unfoldable pub ack_row : SendChannelReliable → ℕ → (ℕ → Row → After) → After
ack_row s x f =
    pick (leb LIMIT x) (after (refused 13) s)
    (pick (ltb (row_of s x) s.count) (f (row_of s x) (get_or s.rows (row_of s x) no_row)) (after unknown s))

-- ---- a small message: 16 where it is sliced

abbrev pub small_kind : SendChannelReliable → ℕ → Row → Kind → After
small_kind s k r (Small i t) = after done (without s k r.len (set s.cells i false) s.lanes)
small_kind s k r (Sliced l a next) = after (refused 16) s

unfoldable pub ack_small : SendChannelReliable → ℕ → After
ack_small s x = ack_row s x (λ k r. small_kind s k r (kind_of r))

-- ---- a piece: 16 where the message is small, 17 for an index not below its pieces; a piece that was acked already has no effect; the last one
-- takes the message away

abbrev pub marked : SendChannelReliable → ℕ → ℕ → ℕ → ℕ → ℕ → Row → SendChannelReliable
marked s k l a next i r =
    record {
      channel_id = s.channel_id;
      settings = s.settings;
      resend_time = s.resend_time;
      next_reliable_message_id = s.next_reliable_message_id;
      memory_usage_bytes = s.memory_usage_bytes;
      latest = s.latest;
      count = s.count;
      rows = set s.rows k (as_row r.id r.len (Sliced l (a + 1) next));
      cells = s.cells;
      lanes = s.lanes;
      pieces = set s.pieces (l * PIECES + i) (record { acked = true; sending = (piece_at s l i).sending });
    }

unfoldable pub with_ack : SendChannelReliable → ℕ → ℕ → Row → ℕ → ℕ → ℕ → SendChannelReliable
with_ack s k i r l a next =
    pick (piece_at s l i).acked s
    (pick (eqb (a + 1) (pieces_of r.len))
    (without s k r.len s.cells (set s.lanes l false))
    (marked s k l a next i r))

abbrev pub piece_kind_of : SendChannelReliable → ℕ → ℕ → Row → Kind → After
piece_kind_of s k i r (Small j t) = after (refused 16) s
piece_kind_of s k i r (Sliced l a next) = pick (leb (pieces_of r.len) i) (after (refused 17) s) (after done (with_ack s k i r l a next))

unfoldable pub ack_piece : SendChannelReliable → ℕ → ℕ → After
ack_piece s x i = ack_row s x (λ k r. piece_kind_of s k i r (kind_of r))

abbrev pub Acked : Type 0
Acked = words.After (Result Ack Refusal) SendChannelReliable

pub record AckGives (a : After) (r : Acked) : Type 0 where
  pub answer : ack_of r.answer ≡ a.answer
  pub state : r.state ≡ a.state
  pub valid : Valid r.state
