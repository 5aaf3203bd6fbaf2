-- What is always true of a sender is true of a new one, and stays so where a message is added, is gone, or has a piece acknowledged.
-- Assumes nothing.
use Prim.Native.Nat.{ℕ, ◌+◌, ◌-◌, ◌*◌, ◌≤◌, ◌<◌, zero-le}
use mathlib.Core.Path.{◌≡◌, refl, sym, ap, ◌∙◌, subst}
use mathlib.Core.Bool.{Bool, true, false}
use mathlib.Core.List.{List, [], ◌∷◌, ◌++◌}
use native.Mathlib.Numerals.{add-one}
use native.Mathlib.Omega.{arith}
use lib.ListN.{length, get_or, take, drop, set, replicate, length-set, length-drop, length-replicate}
use lib.Seq.{take-suc-set, take-set-lt, get_or-set_same, get_or-set_other, length-take-le, get_or-take, get_or-drop}
use Rattle.words.specs.Sizes.{SLICE_SIZE, SLOTS, LANES, PIECES, LIMIT}
use Rattle.words.specs.Choice.{pick}
use Rattle.words.specs.Pieces.{pieces_of}
use Rattle.words.specs.Lists.{holds, total, splice, without, All, Pairs}
use Rattle.words.proofs.Lists.{holds-le, holds_more, holds-less, total-snoc, total-without, all_map, all_snoc, all-at, all_others, pairs-snoc, pairs-without, held-still}
use Rattle.words.proofs.Splice.{length-splice}
use Rattle.words.proofs.Tables.{clash, total-set, part-here}
use Rattle.words.specs.declared.MessageId.{MessageId}
use Rattle.channel.specs.Settings.{Good}
use Rattle.channel.specs.declared.Settings.{Settings}
use Rattle.send_reliable.specs.declared.Kind.{Kind}
use Rattle.send_reliable.specs.declared.Kind.TheVariants.{Small, Sliced}
use Rattle.send_reliable.specs.declared.Row.{Row}
use Rattle.send_reliable.specs.declared.Piece.{Piece}
use Rattle.send_reliable.specs.declared.SendChannelReliable.{SendChannelReliable}
use Rattle.send_reliable.specs.Sender.{Sending, last_sent_of, kind_of, as_row, ROWS, unsent, no_row, no_piece, new_of, live, SentBy, piece_at, acked_pieces, PlacedKind, Placed, Apart, Before, Valid}
use Rattle.send_reliable.specs.Queue.{add_row_of, add_small, add_sliced}
use Rattle.send_reliable.specs.Ack as ack
use Rattle.send_reliable.specs.QueueSteps.{RowAt}
use Rattle.words.proofs.Entries.{all_set, all-splice, all_replicate, total-replicate, all-anew, pairs-anew, run-apart, part-set, live-closed, length-closed}

-- a message's length, and whether a piece is acknowledged
abbrev len_of : Row → ℕ
len_of r = r.len

abbrev acked_of : Piece → ℕ
acked_of p = pick p.acked 1 0

-- a piece was sent by then, if at all
abbrev pub SentPiece : ℕ → Piece → Type 0
SentPiece latest p = SentBy latest (last_sent_of p.sending)

-- ---- the rows

-- a row tells the id, the length and the kind that it was made of
module _ (id : MessageId) (n : ℕ) where
  pub row-id : (kind : Kind) → (as_row id n kind).id ≡ id
  row-id (Small i t) = refl
  row-id (Sliced l a next) = refl

  pub row_len : (kind : Kind) → (as_row id n kind).len ≡ n
  row_len (Small i t) = refl
  row_len (Sliced l a next) = refl

  pub row-kind : (kind : Kind) → kind_of (as_row id n kind) ≡ kind
  row-kind (Small i t) = refl
  row-kind (Sliced l a next) = refl

module _ (s : SendChannelReliable) (v : Valid s) where
  pub count_most : s.count ≤ ROWS
  count_most = omega (arith, holds-le s.cells, holds-le s.lanes)

  pub rows-room : s.count ≤ length s.rows
  rows-room = omega (arith, count_most, v.rows_long)

  pub live-long : length (live s) ≡ s.count
  live-long = length-take-le s.count s.rows rows-room

-- ---- a new one

pub new-valid : (channel : ℕ) (s : Settings) (resend : ℕ) → Good s → Valid (new_of channel s resend)
unfolding new_of All Pairs total holds
new-valid channel s resend g =
    record {
      settings = g;
      next-most = zero-le;
      rows_long = refl;
      cells-long = refl;
      lanes-long = refl;
      pieces-long = refl;
      counted = refl;
      usage = refl;
      usage-most = zero-le;
      placed = tt;
      rising = tt;
      pieces-sent = all_replicate (SentPiece 0) (LANES * PIECES) no_piece tt;
    }

-- ---- one message more

-- a message of n bytes goes to a free cell, or to a free lane
pub record CellFree (s : SendChannelReliable) (n i : ℕ) : Type 0 where
  pub ids : s.next_reliable_message_id < LIMIT
  pub memory : s.memory_usage_bytes + n ≤ s.settings.max_memory_usage_bytes
  pub short : n ≤ SLICE_SIZE
  pub low : i < s.settings.slots
  pub free : get_or s.cells i false ≡ false

pub record LaneFree (s : SendChannelReliable) (n l : ℕ) : Type 0 where
  pub ids : s.next_reliable_message_id < LIMIT
  pub memory : s.memory_usage_bytes + n ≤ s.settings.max_memory_usage_bytes
  pub long : SLICE_SIZE < n
  pub limit : n ≤ s.settings.pieces * SLICE_SIZE
  pub low : l < s.settings.lanes
  pub free : get_or s.lanes l false ≡ false

-- the rows, with the new one at their end
pub live_more : (s : SendChannelReliable) → Valid s → s.count < ROWS → (n : ℕ) (kind : Kind) (cells lanes : List Bool) (pieces : List Piece)
    → live (add_row_of s n kind cells lanes pieces) ≡ live s ++ (as_row (record { 0 = s.next_reliable_message_id }) n kind ∷ [])
live_more s v h n kind cells lanes pieces = rw add-one (take-suc-set s.rows s.count _ (omega (arith, v.rows_long)))

module _
    (s : SendChannelReliable)
    (v : Valid s)
    (n : ℕ)
    (kind : Kind)
    (cells lanes : List Bool)
    (pieces : List Piece)
    (ids : s.next_reliable_message_id < LIMIT)
    (memory : s.memory_usage_bytes + n ≤ s.settings.max_memory_usage_bytes)
    (cells-long : length cells ≡ SLOTS)
    (lanes-long : length lanes ≡ LANES)
    (pieces-long : length pieces ≡ LANES * PIECES)
    (more : holds cells + holds lanes ≡ holds s.cells + holds s.lanes + 1)
    (sent : All (SentPiece s.latest) pieces)
    (here : PlacedKind (add_row_of s n kind cells lanes pieces) n kind)
    (there : (r : Row) → PlacedKind s r.len (kind_of r) → PlacedKind (add_row_of s n kind cells lanes pieces) r.len (kind_of r) × Apart (kind_of r) kind) where
  add-valid : Valid (add_row_of s n kind cells lanes pieces)
  unfolding Placed Before
  add-valid =
      let t : SendChannelReliable = add_row_of s n kind cells lanes pieces in
      let id : MessageId = record { 0 = s.next_reliable_message_id } in
      let row : Row = as_row id n kind in
      let room : s.count < ROWS = omega (arith, holds-le cells, holds-le lanes, v.counted) in
      let e = live_more s v room n kind cells lanes pieces in
      record {
        settings = v.settings;
        next-most = omega arith;
        rows_long = simp length-set v.rows_long;
        cells-long = cells-long;
        lanes-long = lanes-long;
        pieces-long = pieces-long;
        counted = omega (arith, v.counted);
        usage = ap (λ (u : ℕ). u + n) v.usage ∙ sym (ap (total len_of) e ∙ total-snoc len_of (live s) row ∙ ap (λ (m : ℕ). total len_of (live s) + m) (row_len id n kind));
        usage-most = memory;
        placed =
            subst (All (Placed t)) (sym e)
            (all_snoc (Placed t) (live s) row
            (all_map (Placed s) (Placed t) (λ r p. (omega arith, (there r p.1).0)) (live s) v.placed)
            (rw (row-id id n kind, row_len id n kind, row-kind id n kind) (omega arith, here)));
        rising =
            subst (Pairs Before) (sym e)
            (pairs-snoc Before (live s) row v.rising (all_map (Placed s) (λ r. Before r row) (λ r p. rw (row-id id n kind, row-kind id n kind) (p.0, (there r p.1).1)) (live s) v.placed));
        pieces-sent = sent;
      }

-- a free place is not a held one
differ : (l : List Bool) (i j : ℕ) → get_or l i false ≡ false → get_or l j false ≡ true → j ≡ i → ⊥
differ l i j f h e = clash (cc (ap (λ (k : ℕ). get_or l k false) e))

keep-small : (s : SendChannelReliable) (n i m : ℕ) (kind : Kind) → get_or s.cells i false ≡ false → PlacedKind s m kind
    → PlacedKind (add_small s i n) m kind × Apart kind (Small i unsent)
unfolding add_small acked_pieces
keep-small s n i m (Small j t) free p = ((p.0, held-still s.cells i j p.1, p.2, p.3), differ s.cells i j free p.1)
keep-small s n i m (Sliced l a k) free p = (p, tt)

pub add-small-valid : (s : SendChannelReliable) → Valid s → (n i : ℕ) → CellFree s n i → Valid (add_small s i n)
unfolding add_small
add-small-valid s v n i c =
    let in_cells : i < length s.cells = omega (arith, c.low, v.settings.slots-most, v.cells-long) in
    add-valid s v n (Small i unsent) (set s.cells i true) s.lanes s.pieces c.ids c.memory
    (simp length-set v.cells-long) v.lanes-long v.pieces-long
    (rw (holds_more s.cells i in_cells c.free) (omega arith))
    v.pieces-sent
    (c.low, get_or-set_same s.cells i true false in_cells, c.short, tt)
    (λ r p. keep-small s n i r.len (kind_of r) c.free p)

-- what another lane has acknowledged is as it was
keep-sliced : (s : SendChannelReliable) → Valid s → (n l m : ℕ) → n ≤ PIECES * SLICE_SIZE → (kind : Kind) → get_or s.lanes l false ≡ false → PlacedKind s m kind
    → PlacedKind (add_sliced s l n) m kind × Apart kind (Sliced l 0 0)
unfolding add_sliced acked_pieces
keep-sliced s v n l m most (Small j t) free p = (p, tt)
keep-sliced s v n l m most (Sliced j a k) free p =
    let other = differ s.lanes l j free p.1 in
    let r : List Piece = replicate (pieces_of n) no_piece in
    let e : length r ≡ pieces_of n = length-replicate (pieces_of n) no_piece in
    let w = run-apart PIECES l j (l * PIECES) (pieces_of m) r s.pieces (λ o. other (sym o)) (omega arith) (omega arith) (omega (arith, p.3, v.settings.pieces-most)) in (
      (p.0, held-still s.lanes l j p.1, p.2, p.3, p.4 ∙ sym (ap (total acked_of) w), p.5, p.6),
      other,
    )

none-acked : (s : SendChannelReliable) → Valid s → (n l : ℕ) → l < LANES → n ≤ PIECES * SLICE_SIZE → 0 ≡ acked_pieces (add_sliced s l n) l n
unfolding add_sliced acked_pieces
none-acked s v n l low most =
    let r : List Piece = replicate (pieces_of n) no_piece in
    let e : length r ≡ pieces_of n = length-replicate (pieces_of n) no_piece in
    let h = part-here (l * PIECES) r s.pieces (omega (arith, v.pieces-long)) in
    sym (ap (total acked_of) (rw e at h) ∙ total-replicate acked_of (pieces_of n) no_piece refl)

pub add-sliced-valid : (s : SendChannelReliable) → Valid s → (n l : ℕ) → LaneFree s n l → Valid (add_sliced s l n)
unfolding add_sliced
add-sliced-valid s v n l c =
    let low : l < LANES = omega (arith, c.low, v.settings.lanes-most) in
    let most : n ≤ PIECES * SLICE_SIZE = omega (arith, c.limit, v.settings.pieces-most) in
    let in-lanes : l < length s.lanes = omega (arith, v.lanes-long) in
    let r : List Piece = replicate (pieces_of n) no_piece in
    add-valid s v n (Sliced l 0 0) s.cells (set s.lanes l true) (splice (l * PIECES) r s.pieces) c.ids c.memory
    v.cells-long (simp length-set v.lanes-long)
    (length-splice (l * PIECES) r s.pieces ∙ v.pieces-long)
    (rw (holds_more s.lanes l in-lanes c.free) (omega arith))
    (all-splice (SentPiece s.latest) (l * PIECES) r s.pieces (all_replicate (SentPiece s.latest) (pieces_of n) no_piece tt) v.pieces-sent)
    (c.low, get_or-set_same s.lanes l true false in-lanes, c.long, c.limit, none-acked s v n l low most, omega (arith, c.long), zero-le)
    (λ x p. keep-sliced s v n l x.len most (kind_of x) c.free p)

-- ---- one message fewer

apart-sym : (a b : Kind) → Apart a b → Apart b a
apart-sym (Small i t) (Small j u) h = λ e. h (sym e)
apart-sym (Small i t) (Sliced l a k) h = tt
apart-sym (Sliced l a k) (Small i t) h = tt
apart-sym (Sliced l a k) (Sliced m b n) h = λ e. h (sym e)

placed-short : (s : SendChannelReliable) → Valid s → (n : ℕ) (kind : Kind) → PlacedKind s n kind → n ≤ PIECES * SLICE_SIZE
placed-short s v n (Small i t) p = omega (arith, p.2)
placed-short s v n (Sliced l a k) p = omega (arith, p.3, v.settings.pieces-most)

module _ (s : SendChannelReliable) (v : Valid s) (k : ℕ) (r : Row) (at : RowAt s k r) where
  pub in-live : k < length (live s)
  in-live = rw (live-long s v) at.low

  pub live_at : get_or (live s) k no_row ≡ r
  live_at = get_or-take s.count s.rows k no_row at.low ∙ at.row

  pub row-placed : Placed s r
  row-placed = rw live_at at (all-at (Placed s) (live s) k no_row in-live v.placed)

  len-at : len_of (get_or (live s) k no_row) ≡ r.len
  len-at = ap len_of live_at

  -- its length is part of the usage, and no more than a lane
  pub row-used : r.len ≤ s.memory_usage_bytes
  row-used = omega (arith, total-without len_of (live s) k no_row in-live, len-at, v.usage)

  pub row-short : r.len ≤ PIECES * SLICE_SIZE
  unfolding Placed
  row-short = placed-short s v r.len (kind_of r) row-placed.1

  module _ (cells lanes : List Bool) where
    pub live-fewer : live (ack.without s k r.len cells lanes) ≡ without k (live s)
    live-fewer = live-closed s.rows k s.count no_row at.low (rows-room s v)

    module _
        (cells-long : length cells ≡ SLOTS)
        (lanes-long : length lanes ≡ LANES)
        (fewer : holds cells + holds lanes + 1 ≡ holds s.cells + holds s.lanes)
        (there : (x : Row) → PlacedKind s x.len (kind_of x) → Apart (kind_of x) (kind_of r) → PlacedKind (ack.without s k r.len cells lanes) x.len (kind_of x)) where
      without-valid : Valid (ack.without s k r.len cells lanes)
      unfolding Placed Before
      without-valid =
          let t : SendChannelReliable = ack.without s k r.len cells lanes in
          let sum = total-without len_of (live s) k no_row in-live in
          let u : s.memory_usage_bytes - r.len ≡ total len_of (without k (live s)) = omega (arith, sum, len-at, v.usage) in
          record {
            settings = v.settings;
            next-most = v.next-most;
            rows_long = length-closed s.rows k s.count no_row at.low (rows-room s v) ∙ v.rows_long;
            cells-long = cells-long;
            lanes-long = lanes-long;
            pieces-long = v.pieces-long;
            counted = omega (arith, v.counted);
            usage = u ∙ sym (ap (total len_of) live-fewer);
            usage-most = omega (arith, v.usage-most);
            placed =
                subst (All (Placed t)) (sym live-fewer)
                (all_others Before (Placed s) (Placed t) (live s) k no_row in-live v.rising
                (λ x q w. (q.0, there x q.1 (rw live_at at w.1)))
                (λ x q w. (q.0, there x q.1 (apart-sym (kind_of r) (kind_of x) (rw live_at at w.1))))
                v.placed);
            rising = subst (Pairs Before) (sym live-fewer) (pairs-without Before (live s) k v.rising);
            pieces-sent = v.pieces-sent;
          }

  -- a small message
  module _ (i : ℕ) (u : Sending) (e : kind_of r ≡ Small i u) where
    small-placed : PlacedKind s r.len (Small i u)
    unfolding Placed
    small-placed = rw e at row-placed.1

    pub cell-low : i < SLOTS
    cell-low = omega (arith, small-placed.0, v.settings.slots-most)

    others-small : (m : ℕ) (kind : Kind) → PlacedKind s m kind → Apart kind (Small i u) → PlacedKind (ack.without s k r.len (set s.cells i false) s.lanes) m kind
    unfolding acked_pieces
    others-small m (Small j t) p a = (p.0, get_or-set_other s.cells i j false false a ∙ p.1, p.2, p.3)
    others-small m (Sliced l b q) p a = p

    pub without-small-valid : Valid (ack.without s k r.len (set s.cells i false) s.lanes)
    without-small-valid =
        let h = holds-less s.cells i (omega (arith, cell-low, v.cells-long)) small-placed.1 in
        without-valid (set s.cells i false) s.lanes (simp length-set v.cells-long) v.lanes-long (omega (arith, h))
        (λ x p a. others-small x.len (kind_of x) p (rw e at a))

  -- a sliced message
  module _ (l a next : ℕ) (e : kind_of r ≡ Sliced l a next) where
    pub sliced-placed : PlacedKind s r.len (Sliced l a next)
    unfolding Placed
    sliced-placed = rw e at row-placed.1

    pub lane_low : l < LANES
    lane_low = omega (arith, sliced-placed.0, v.settings.lanes-most)

    pub len-most : r.len ≤ PIECES * SLICE_SIZE
    len-most = omega (arith, sliced-placed.3, v.settings.pieces-most)

    others-sliced : (m : ℕ) (kind : Kind) → PlacedKind s m kind → Apart kind (Sliced l a next) → PlacedKind (ack.without s k r.len s.cells (set s.lanes l false)) m kind
    unfolding acked_pieces
    others-sliced m (Small j t) p o = p
    others-sliced m (Sliced j b q) p o = (p.0, get_or-set_other s.lanes l j false false o ∙ p.1, p.2, p.3, p.4, p.5, p.6)

    pub without-sliced-valid : Valid (ack.without s k r.len s.cells (set s.lanes l false))
    without-sliced-valid =
        let h = holds-less s.lanes l (omega (arith, lane_low, v.lanes-long)) sliced-placed.1 in
        without-valid s.cells (set s.lanes l false) v.cells-long (simp length-set v.lanes-long) (omega (arith, h))
        (λ x p o. others-sliced x.len (kind_of x) p (rw e at o))

    -- ---- a piece acknowledged, and others still to be

    module _ (i : ℕ) (low : i < pieces_of r.len) where
      pub piece-in : l * PIECES + i < length s.pieces
      piece-in = omega (arith, lane_low, len-most, v.pieces-long)

      module _ (new : (piece_at s l i).acked ≡ false) (some : a + 1 ≡ pieces_of r.len → ⊥) where
        after : SendChannelReliable
        after = ack.marked s k l a next i r

        row : Row
        row = as_row r.id r.len (Sliced l (a + 1) next)

        piece : Piece
        piece = record { acked = true; sending = (piece_at s l i).sending }

        one_more : a + 1 ≡ acked_pieces after l r.len
        unfolding acked_pieces after piece
        one_more =
            let m : ℕ = pieces_of r.len in
            let part : List Piece = take m (drop (l * PIECES) s.pieces) in
            let long : length part ≡ m = length-take-le m (drop (l * PIECES) s.pieces) (simp length-drop (omega (arith, lane_low, len-most, v.pieces-long))) in
            let was : get_or part i no_piece ≡ piece_at s l i = get_or-take m (drop (l * PIECES) s.pieces) i no_piece low ∙ get_or-drop (l * PIECES) s.pieces i no_piece in
            let zero : acked_of (get_or part i no_piece) ≡ 0 = ap acked_of was ∙ rw new in
            let sum = total-set acked_of part i piece no_piece (omega arith) in
            let so : a ≡ total acked_of part = sliced-placed.4 in
            let now : total acked_of (set part i piece) ≡ a + 1 = omega arith in
            sym (ap (total acked_of) (part-set (l * PIECES) m i piece s.pieces low) ∙ now)

        others-marked : (m : ℕ) (kind : Kind) → PlacedKind s m kind → Apart kind (Sliced l a next) → PlacedKind after m kind
        unfolding acked_pieces after piece splice
        others-marked m (Small j t) p o = p
        others-marked m (Sliced j b q) p o =
            let w = run-apart PIECES l j (l * PIECES + i) (pieces_of m) (piece ∷ []) s.pieces (λ h. o (sym h)) (omega arith) (omega (arith, len-most)) (omega (arith, p.3, v.settings.pieces-most)) in
            (p.0, p.1, p.2, p.3, p.4 ∙ sym (ap (total acked_of) w), p.5, p.6)

        live-marked : live after ≡ set (live s) k row
        unfolding after row
        live-marked = take-set-lt s.count s.rows k row at.low

        still-apart : (kind : Kind) → Apart kind (Sliced l a next) → Apart kind (Sliced l (a + 1) next)
        still-apart (Small j t) o = tt
        still-apart (Sliced j b q) o = o

        apart-at : (x : Row) → Apart (kind_of x) (kind_of (get_or (live s) k no_row)) → Apart (kind_of x) (Sliced l a next)
        apart-at x h = rw (live_at, e) at h

        pub marked-valid : Valid (ack.marked s k l a next i r)
        unfolding Placed Before after row piece
        marked-valid =
            let sum = total-set len_of (live s) k row no_row in-live in
            let p = sliced-placed in
            record {
              settings = v.settings;
              next-most = v.next-most;
              rows_long = simp length-set v.rows_long;
              cells-long = v.cells-long;
              lanes-long = v.lanes-long;
              pieces-long = simp length-set v.pieces-long;
              counted = v.counted;
              usage = v.usage ∙ sym (ap (total len_of) live-marked ∙ omega (arith, sum, len-at));
              usage-most = v.usage-most;
              placed =
                  subst (All (Placed after)) (sym live-marked)
                  (all-anew Before (Placed s) (Placed after) (live s) k no_row row in-live v.rising
                  (λ x q w. (q.0, others-marked x.len (kind_of x) q.1 (apart-at x w.1)))
                  (λ x q w. (q.0, others-marked x.len (kind_of x) q.1 (apart-at x (apart-sym (kind_of (get_or (live s) k no_row)) (kind_of x) w.1))))
                  (row-placed.0, (p.0, p.1, p.2, p.3, one_more, omega (arith, p.5, some), p.6))
                  v.placed);
              rising =
                  subst (Pairs Before) (sym live-marked)
                  (pairs-anew Before (live s) k no_row row in-live
                  (λ x w. (rw live_at at w.0, still-apart (kind_of x) (apart-at x w.1)))
                  (λ x w. (rw live_at at w.0, apart-sym (kind_of x) (Sliced l (a + 1) next) (still-apart (kind_of x) (apart-at x (apart-sym (kind_of (get_or (live s) k no_row)) (kind_of x) w.1)))))
                  v.rising);
              pieces-sent =
                  all_set (SentPiece s.latest) s.pieces (l * PIECES + i) piece v.pieces-sent
                  (all-at (SentPiece s.latest) s.pieces (l * PIECES + i) no_piece piece-in v.pieces-sent);
            }
