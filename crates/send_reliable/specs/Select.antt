-- What a reliable round chooses. Document 01, "Reliable round". Assumes nothing.
use Rattle.std.specs.Prelude.{ℕ, zero, suc, ◌+◌, ◌-◌, ◌*◌, Bool, true, List, [], ◌∷◌, ◌++◌, get_or, set, ltb, leb, Option, None, Some}
use Rattle.words.specs.Sizes.{SLICE_SIZE, PIECES}
use Rattle.words.specs.Choice.{pick}
use Rattle.words.specs.Pieces.{pieces_of, piece_len_of}
use Rattle.words.specs.Lists.{reached}
use Rattle.channel.specs.Settings.{lane_len_of}
use Rattle.channel.specs.declared.Settings.{Settings}
use Rattle.pack.specs.Pack.{Item}
use Rattle.send_reliable.specs.declared.Kind.{Kind}
use Rattle.send_reliable.specs.declared.Kind.TheVariants.{Small, Sliced}
use Rattle.send_reliable.specs.declared.Row.{Row}
use Rattle.send_reliable.specs.declared.Piece.{Piece}
use Rattle.send_reliable.specs.declared.SendChannelReliable.{SendChannelReliable}
pub use Rattle.send_reliable.specs.declared.Visit.{Visit}
use Rattle.send_reliable.specs.Sender.{Sending, last_sent_of, kind_of, as_row, no_row, no_piece, live}

-- ---- what a round looks at, in its order: ids rise; a sliced message starts at the piece after its last sent one

-- a piece of the message in a row; a small message is one piece
abbrev pub no_visit : Visit
no_visit = record { row = 0; piece = 0 }

-- n pieces of a row, from the i-th on
unfoldable pub up_from : ℕ → ℕ → ℕ → List Visit
up_from k i zero = []
up_from k i (suc n) = record { row = k; piece = i } ∷ up_from k (i + 1) n

-- all n pieces of a row, from the cursor round to it
abbrev pub round_from : ℕ → ℕ → ℕ → List Visit
round_from k next n = up_from k next (n - next) ++ up_from k 0 next

abbrev pub row_visits : ℕ → ℕ → Kind → List Visit
row_visits k n (Small i t) = up_from k 0 1
row_visits k n (Sliced l a next) = round_from k next (pieces_of n)

-- of all rows, the first of them being the k-th
unfoldable pub visits_from : ℕ → List Row → List Visit
visits_from k [] = []
visits_from k (r ∷ rs) = row_visits k r.len (kind_of r) ++ visits_from (k + 1) rs

-- ---- what goes

-- never sent, or the elapsed time is at least the resend time
abbrev pub due : ℕ → ℕ → Option ℕ → Bool
due resend now None = true
due resend now (Some t) = leb resend (now - t)

abbrev pub sent_at : ℕ → Sending
sent_at now = Some now

-- what is left of the allowance, what was chosen so far, and the tables of messages and pieces with their sendings
pub record Chosen : Type 0 where
  pub left : ℕ
  pub items : List Item
  pub rows : List Row
  pub pieces : List Piece

module _ (s : Settings) (resend now : ℕ) where
  -- chosen: the small message in cell i, of row k
  abbrev pub with_small : Chosen → ℕ → Row → ℕ → Chosen
  with_small c k r i =
      record {
        left = c.left - r.len;
        items = c.items ++ (record { num = 0; id = r.id.0; index = 0; place = i * SLICE_SIZE; len = r.len } ∷ []);
        rows = set c.rows k (as_row r.id r.len (Small i (sent_at now)));
        pieces = c.pieces;
      }

  -- it goes if the allowance covers its length and it is due
  abbrev pub visit_small : Chosen → ℕ → Row → ℕ → Sending → Chosen
  visit_small c k r i t = pick (ltb c.left r.len) c (pick (due resend now (last_sent_of t)) (with_small c k r i) c)

  -- chosen: piece i of the message in lane l, of row k, with a acknowledged pieces; it spends its own length
  abbrev pub with_piece : Chosen → ℕ → ℕ → Row → ℕ → ℕ → Piece → Chosen
  with_piece c k i r l a p =
      record {
        left = c.left - piece_len_of r.len i;
        items = c.items
            ++ (record { num = pieces_of r.len; id = r.id.0; index = i; place = l * lane_len_of s + i * SLICE_SIZE; len = piece_len_of r.len i } ∷ []);
        rows = set c.rows k (as_row r.id r.len (Sliced l a (i + 1)));
        pieces = set c.pieces (l * PIECES + i) (record { acked = p.acked; sending = sent_at now });
      }

  -- before each piece the allowance must be at least 1,200; acked and not-due pieces are passed over
  abbrev pub visit_piece : Chosen → ℕ → ℕ → Row → ℕ → ℕ → Piece → Chosen
  visit_piece c k i r l a p =
      pick (ltb c.left SLICE_SIZE) c (pick p.acked c (pick (due resend now (last_sent_of p.sending)) (with_piece c k i r l a p) c))

  abbrev pub visit_kind : Chosen → ℕ → ℕ → Row → Kind → Chosen
  visit_kind c k i r (Small cell t) = visit_small c k r cell t
  visit_kind c k i r (Sliced l a next) = visit_piece c k i r l a (get_or c.pieces (l * PIECES + i) no_piece)

  unfoldable pub visit : Chosen → Visit → Chosen
  visit c v = visit_kind c v.row v.piece (get_or c.rows v.row no_row) (kind_of (get_or c.rows v.row no_row))

-- nothing visited yet
abbrev pub unvisited : SendChannelReliable → ℕ → Chosen
unvisited s allowance = record { left = allowance; items = []; rows = s.rows; pieces = s.pieces }

-- the whole choice of a round at `now` with this allowance
unfoldable pub select : SendChannelReliable → ℕ → ℕ → Chosen
select s now allowance = reached (visit s.settings s.resend_time now) (unvisited s allowance) (visits_from 0 (live s))

-- the state with what was chosen, the latest time being `now`
abbrev pub with_chosen : SendChannelReliable → ℕ → Chosen → SendChannelReliable
with_chosen s now c =
    record {
      channel_id = s.channel_id;
      settings = s.settings;
      resend_time = s.resend_time;
      next_reliable_message_id = s.next_reliable_message_id;
      memory_usage_bytes = s.memory_usage_bytes;
      latest = now;
      count = s.count;
      rows = c.rows;
      cells = s.cells;
      lanes = s.lanes;
      pieces = c.pieces;
    }
