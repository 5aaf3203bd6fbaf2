-- What a round chooses: the cases of a visit, and what every visit keeps. Assumes nothing.
use Prim.Native.Nat.{ℕ, ◌+◌, ◌*◌, ◌≤◌, ◌<◌}
use mathlib.Core.Path.{◌≡◌, refl, sym, ap, ◌∙◌}
use mathlib.Core.Bool.{Bool, true, false}
use mathlib.Core.List.{List, []}
use native.Mathlib.Omega.{arith}
use borrow.Author.Tests.{ltb-false, ne_eqb}
use lib.Dec.{ltb}
use lib.ListN.{length, get_or, set, take, length-set}
use lib.Seq.{get_or-take, take-set-lt}
use Rattle.words.specs.Sizes.{SLICE_SIZE, LANES, PIECES}
use Rattle.words.specs.Choice.{pick}
use Rattle.words.specs.Pieces.{pieces_of, piece_len_of}
use Rattle.words.specs.Lists.{All, reached}
use Rattle.words.proofs.Lists.{all_map, all_snoc, all-at, all_take}
use Rattle.words.proofs.Tables.{pick-cases, by-test, clash}
use Rattle.channel.specs.Settings.{small_len_of, lane_len_of, lanes_len_of}
use Rattle.channel.specs.declared.Settings.{Settings}
use Rattle.channel.proofs.Good.{lane-within}
use Rattle.pack.specs.Encode.{Lent}
use Rattle.pack.specs.Rows as rows
use Rattle.pack.proofs.Pieces.{pieces-most, pieces-two, piece-most, piece-within}
use Rattle.std.specs.Prelude.{Option, None, Some}
use Rattle.send_reliable.specs.declared.Kind.{Kind}
use Rattle.send_reliable.specs.declared.Kind.TheVariants.{Small, Sliced}
use Rattle.send_reliable.specs.declared.Row.{Row}
use Rattle.send_reliable.specs.declared.Piece.{Piece}
use Rattle.send_reliable.specs.declared.SendChannelReliable.{SendChannelReliable}
use Rattle.send_reliable.specs.Sender.{Sending, last_sent_of, kind_of, as_row, no_row, no_piece, live, SentBy, acked_pieces, PlacedKind, Placed, Apart, Before, Valid}
use Rattle.send_reliable.specs.Select.{Visit, visits_from, due, sent_at, Chosen, with_small, with_piece, visit_kind, visit, unvisited, select, with_chosen}
use Rattle.send_reliable.specs.RoundSteps.{goes, size_row, Within}
use Rattle.words.proofs.Entries.{all_set, pairs-anew}
use Rattle.send_reliable.proofs.Valid.{row-id, row_len, row-kind}
use Rattle.send_reliable.proofs.RoundLists.{reached-keeps, same_set, total-part}
use Rattle.send_reliable.proofs.Visits.{length-live, visits-within}

-- ---- the cases of a visit

-- tests one after the other are one test
both : {A : Type 0} (a b : Bool) (x y : A) → pick a y (pick b x y) ≡ pick (pick a false b) x y
both true b x y = refl
both false b x y = refl

three : {A : Type 0} (a b d : Bool) (x y : A) → pick a y (pick b y (pick d x y)) ≡ pick (pick b false (pick a false d)) x y
three true true d x y = refl
three true false d x y = refl
three false true d x y = refl
three false false d x y = refl

-- the piece that a visit is to
abbrev pub piece_of : Chosen → ℕ → ℕ → Piece
piece_of c l i = get_or c.pieces (l * PIECES + i) no_piece

module _ (st : Settings) (resend now : ℕ) (c : Chosen) (v : Visit) where
  abbrev row : Row
  row = get_or c.rows v.row no_row

  pub visit-small : (i : ℕ) (t : Sending) → kind_of row ≡ Small i t
      → visit st resend now c v ≡ pick (goes resend now c.left row.len (last_sent_of t)) (with_small st resend now c v.row row i) c
  unfolding visit
  visit-small i t e =
      ap (visit_kind st resend now c v.row v.piece row) e
      ∙ both (ltb c.left row.len) (due resend now (last_sent_of t)) (with_small st resend now c v.row row i) c

  pub visit-piece : (l a next : ℕ) → kind_of row ≡ Sliced l a next
      → visit st resend now c v
      ≡ pick (pick (piece_of c l v.piece).acked false (goes resend now c.left SLICE_SIZE (last_sent_of (piece_of c l v.piece).sending)))
      (with_piece st resend now c v.row v.piece row l a (piece_of c l v.piece)) c
  unfolding visit
  visit-piece l a next e =
      ap (visit_kind st resend now c v.row v.piece row) e
      ∙ three (ltb c.left SLICE_SIZE) (piece_of c l v.piece).acked (due resend now (last_sent_of (piece_of c l v.piece).sending))
      (with_piece st resend now c v.row v.piece row l a (piece_of c l v.piece)) c

-- what goes is covered by what is left
pub enough : (resend now left need : ℕ) (t : Option ℕ) → goes resend now left need t ≡ true → need ≤ left
enough resend now left need t = by-test (ltb left need) (λ e g. clash (let z = rw e at g in cc)) (λ e g. ltb-false left need e)

unacked : (b g : Bool) → pick b false g ≡ true → g ≡ true
unacked true g e = clash (cc)
unacked false g e = e

-- a visit changes nothing, or a small message goes, or a piece
module _ (st : Settings) (resend now : ℕ) (P : Chosen → Type 0) (c : Chosen) (v : Visit) (stays : P c) where
  pub by-visit : ((i : ℕ) (t : Sending) → kind_of (row st resend now c v) ≡ Small i t → (row st resend now c v).len ≤ c.left → P (with_small st resend now c v.row (row st resend now c v) i))
      → ((l a next : ℕ) → kind_of (row st resend now c v) ≡ Sliced l a next → SLICE_SIZE ≤ c.left → P (with_piece st resend now c v.row v.piece (row st resend now c v) l a (piece_of c l v.piece)))
      → P (visit st resend now c v)
  by-visit small piece = by_kind (kind_of (row st resend now c v)) refl where
    by_kind : (kind : Kind) → kind_of (row st resend now c v) ≡ kind → P (visit st resend now c v)
    by_kind (Small i t) e =
        rw (visit-small st resend now c v i t e)
        (pick-cases P (goes resend now c.left (row st resend now c v).len (last_sent_of t)) (λ g. small i t e (enough resend now c.left (row st resend now c v).len (last_sent_of t) g)) (λ g. stays))
    by_kind (Sliced l a next) e =
        rw (visit-piece st resend now c v l a next e)
        (pick-cases P (pick (piece_of c l v.piece).acked false (goes resend now c.left SLICE_SIZE (last_sent_of (piece_of c l v.piece).sending)))
        (λ g. piece l a next e (enough resend now c.left SLICE_SIZE (last_sent_of (piece_of c l v.piece).sending) (unacked (piece_of c l v.piece).acked (goes resend now c.left SLICE_SIZE (last_sent_of (piece_of c l v.piece).sending)) g)))
        (λ g. stays))

-- ---- a sender stays valid

module _ (s : SendChannelReliable) (now : ℕ) where
  later : (t : Option ℕ) → s.latest ≤ now → SentBy s.latest t → SentBy now t
  later None h p = tt
  later (Some t) h p = omega arith

  later-kind : (a n : ℕ) (kind : Kind) → s.latest ≤ now → PlacedKind s n kind → PlacedKind (with_chosen s now (unvisited s a)) n kind
  unfolding acked_pieces
  later-kind a n (Small i t) h p = (p.0, p.1, p.2, later (last_sent_of t) h p.3)
  later-kind a n (Sliced l b k) h p = p

  -- before the first visit, the clock moved on
  pub begun : Valid s → s.latest ≤ now → (a : ℕ) → Valid (with_chosen s now (unvisited s a))
  unfolding Placed
  begun v h a =
      record {
        settings = v.settings;
        next-most = v.next-most;
        rows_long = v.rows_long;
        cells-long = v.cells-long;
        lanes-long = v.lanes-long;
        pieces-long = v.pieces-long;
        counted = v.counted;
        usage = v.usage;
        usage-most = v.usage-most;
        placed = all_map (Placed s) (Placed (with_chosen s now (unvisited s a))) (λ r p. (p.0, later-kind a r.len (kind_of r) h p.1)) (live s) v.placed;
        rising = v.rising;
        pieces-sent = all_map (λ (p : Piece). SentBy s.latest (last_sent_of p.sending)) (λ p. SentBy now (last_sent_of p.sending)) (λ p. later (last_sent_of p.sending) h) s.pieces v.pieces-sent;
      }

  -- other sendings, the same acknowledgements
  same_kind : (c d : Chosen) → ((l n : ℕ) → acked_pieces (with_chosen s now d) l n ≡ acked_pieces (with_chosen s now c) l n)
      → (n : ℕ) (kind : Kind) → PlacedKind (with_chosen s now c) n kind → PlacedKind (with_chosen s now d) n kind
  same_kind c d e n (Small i t) p = p
  same_kind c d e n (Sliced l a k) p = (p.0, p.1, p.2, p.3, p.4 ∙ sym (e l n), p.5, p.6)

  -- row k has another sending or cursor, and perhaps a piece another sending
  module _ (c : Chosen) (v : Valid (with_chosen s now c)) (k : ℕ) (h : k < s.count) (kind : Kind) (ps : List Piece) where
    abbrev old : Row
    old = get_or c.rows k no_row

    abbrev again : Row
    again = as_row old.id old.len kind

    abbrev after : Chosen
    after = record { left = c.left; items = c.items; rows = set c.rows k again; pieces = ps }

    in-front : k < length (take s.count c.rows)
    in-front = omega (arith, length-live (with_chosen s now c) v)

    old-front : get_or (take s.count c.rows) k no_row ≡ old
    old-front = get_or-take s.count c.rows k no_row h

    pub old-placed : Placed (with_chosen s now c) old
    old-placed = rw old-front at (all-at (Placed (with_chosen s now c)) (take s.count c.rows) k no_row in-front v.placed)

    put_front : take s.count (set c.rows k again) ≡ set (take s.count c.rows) k again
    put_front = take-set-lt s.count c.rows k again h

    kept : length ps ≡ length c.pieces → ((l n : ℕ) → acked_pieces (with_chosen s now after) l n ≡ acked_pieces (with_chosen s now c) l n)
        → All (λ (p : Piece). SentBy now (last_sent_of p.sending)) ps → PlacedKind (with_chosen s now after) old.len kind
        → ((o : Kind) → Apart o (kind_of old) → Apart o kind) → ((o : Kind) → Apart (kind_of old) o → Apart kind o) → Valid (with_chosen s now after)
    unfolding Placed Before
    kept long same sent here left-of right_of =
        record {
          settings = v.settings;
          next-most = v.next-most;
          rows_long = length-set c.rows k again ∙ v.rows_long;
          cells-long = v.cells-long;
          lanes-long = v.lanes-long;
          pieces-long = long ∙ v.pieces-long;
          counted = v.counted;
          usage = v.usage ∙ sym (total-part (λ r. r.len) c.rows 0 s.count k again no_row (row_len old.id old.len kind));
          usage-most = v.usage-most;
          placed =
              rw put_front
              (all_set (Placed (with_chosen s now after)) (take s.count c.rows) k again
              (all_map (Placed (with_chosen s now c)) (Placed (with_chosen s now after)) (λ r p. (p.0, same_kind c after same r.len (kind_of r) p.1)) (take s.count c.rows) v.placed)
              (rw (row-id old.id old.len kind, row_len old.id old.len kind, row-kind old.id old.len kind) (old-placed.0, here)));
          rising =
              rw put_front
              (pairs-anew Before (take s.count c.rows) k no_row again in-front
              (λ z b. let p = rw old-front at b in rw (row-id old.id old.len kind, row-kind old.id old.len kind) (p.0, left-of (kind_of z) p.1))
              (λ z b. let p = rw old-front at b in rw (row-id old.id old.len kind, row-kind old.id old.len kind) (p.0, right_of (kind_of z) p.1)) v.rising);
          pieces-sent = sent;
        }

-- another sending or cursor is as far apart
small-left : (i : ℕ) (t u : Sending) (o : Kind) → Apart o (Small i t) → Apart o (Small i u)
small-left i t u (Small j w) p = p
small-left i t u (Sliced l a k) p = p

small-right : (i : ℕ) (t u : Sending) (o : Kind) → Apart (Small i t) o → Apart (Small i u) o
small-right i t u (Small j w) p = p
small-right i t u (Sliced l a k) p = p

sliced-left : (l a k m : ℕ) (o : Kind) → Apart o (Sliced l a k) → Apart o (Sliced l a m)
sliced-left l a k m (Small j w) p = p
sliced-left l a k m (Sliced n b q) p = p

sliced-right : (l a k m : ℕ) (o : Kind) → Apart (Sliced l a k) o → Apart (Sliced l a m) o
sliced-right l a k m (Small j w) p = p
sliced-right l a k m (Sliced n b q) p = p

-- ---- what every visit keeps

-- the state is valid, and each row has as many pieces as it had
pub record Kept (s : SendChannelReliable) (now : ℕ) (c : Chosen) : Type 0 where
  pub valid : Valid (with_chosen s now c)
  pub sizes : (k : ℕ) → size_row (get_or c.rows k no_row) ≡ size_row (get_or s.rows k no_row)

-- what is known of a small message and of a piece that a visit is to
pub record SmallHere (s : SendChannelReliable) (now : ℕ) (r : Row) (i : ℕ) (t : Sending) : Type 0 where
  pub known : r.id.0 < s.next_reliable_message_id
  pub low : i < s.settings.slots
  pub held : get_or s.cells i false ≡ true
  pub short : r.len ≤ SLICE_SIZE
  pub sent : SentBy now (last_sent_of t)

pub record PieceHere (s : SendChannelReliable) (now : ℕ) (c : Chosen) (r : Row) (l a i : ℕ) : Type 0 where
  pub known : r.id.0 < s.next_reliable_message_id
  pub low : l < s.settings.lanes
  pub held : get_or s.lanes l false ≡ true
  pub long : SLICE_SIZE < r.len
  pub fits : r.len ≤ lane_len_of s.settings
  pub acked : a ≡ acked_pieces (with_chosen s now c) l r.len
  pub fewer : a < pieces_of r.len
  pub piece : i < pieces_of r.len
  pub most : pieces_of r.len ≤ PIECES
  pub entry : l * PIECES + i < LANES * PIECES
  pub sent : SentBy now (last_sent_of (piece_of c l i).sending)

module _ (s : SendChannelReliable) (now : ℕ) (c : Chosen) (w : Kept s now c) (x : Visit) (q : Within s.count (λ k. size_row (get_or s.rows k no_row)) x) where
  abbrev here : Row
  here = get_or c.rows x.row no_row

  placed-here : Placed (with_chosen s now c) here
  placed-here = old-placed s now c w.valid x.row q.0 (Small 0 (sent_at now)) []

  pub small-here : (i : ℕ) (t : Sending) → kind_of here ≡ Small i t → SmallHere s now here i t
  unfolding Placed
  small-here i t e =
      let p = rw e at placed-here.1 in
      record { known = placed-here.0; low = p.0; held = p.1; short = p.2; sent = p.3 }

  pub piece-here : (l a next : ℕ) → kind_of here ≡ Sliced l a next → PieceHere s now c here l a x.piece
  unfolding Placed
  piece-here l a next e =
      let p = rw e at placed-here.1 in
      let v = w.valid in
      let z : x.piece < size_row here = omega (arith, q.1, w.sizes x.row) in
      let i : x.piece < pieces_of here.len = rw e at z in
      let m : pieces_of here.len ≤ PIECES = pieces-most here.len PIECES (let g = v.settings.pieces-most in omega arith) in
      let j : l * PIECES + x.piece < LANES * PIECES = (let g = v.settings.lanes-most in omega arith) in
      record {
        known = placed-here.0;
        low = p.0;
        held = p.1;
        long = p.2;
        fits = p.3;
        acked = p.4;
        fewer = p.5;
        piece = i;
        most = m;
        entry = j;
        sent = all-at (λ (p : Piece). SentBy now (last_sent_of p.sending)) c.pieces (l * PIECES + x.piece) no_piece (omega (arith, v.pieces-long)) v.pieces-sent;
      }

  small-kept : (i : ℕ) (t : Sending) → kind_of here ≡ Small i t → Kept s now (with_small s.settings s.resend_time now c x.row here i)
  unfolding acked_pieces
  small-kept i t e =
      let g = small-here i t e in
      record {
        valid =
            kept s now c w.valid x.row q.0 (Small i (sent_at now)) c.pieces refl (λ l n. refl) w.valid.pieces-sent
            (g.low, g.held, g.short, omega arith)
            (λ o p. small-left i t (sent_at now) o (rw e at p)) (λ o p. small-right i t (sent_at now) o (rw e at p));
        sizes = λ k. same_set size_row c.rows x.row (as_row here.id here.len (Small i (sent_at now))) no_row (rw e) k ∙ w.sizes k;
      }

  piece-kept : (l a next : ℕ) → kind_of here ≡ Sliced l a next → Kept s now (with_piece s.settings s.resend_time now c x.row x.piece here l a (piece_of c l x.piece))
  unfolding acked_pieces
  piece-kept l a next e =
      let g = piece-here l a next e in
      let j = l * PIECES + x.piece in
      let y : Piece = record { acked = (piece_of c l x.piece).acked; sending = sent_at now } in
      let same : (m n : ℕ) → acked_pieces (with_chosen s now (with_piece s.settings s.resend_time now c x.row x.piece here l a (piece_of c l x.piece))) m n ≡ acked_pieces (with_chosen s now c) m n =
      λ m n. total-part (λ (p : Piece). pick p.acked 1 0) c.pieces (m * PIECES) (pieces_of n) j y no_piece refl in
      record {
        valid =
            kept s now c w.valid x.row q.0 (Sliced l a (x.piece + 1)) (set c.pieces j y) (length-set c.pieces j y) same
            (all_set (λ (p : Piece). SentBy now (last_sent_of p.sending)) c.pieces j y w.valid.pieces-sent (omega arith))
            (g.low, g.held, g.long, g.fits, g.acked ∙ sym (same l here.len), g.fewer, omega (arith, g.piece))
            (λ o p. sliced-left l a next (x.piece + 1) o (rw e at p)) (λ o p. sliced-right l a next (x.piece + 1) o (rw e at p));
        sizes = λ k. same_set size_row c.rows x.row (as_row here.id here.len (Sliced l a (x.piece + 1))) no_row (rw e) k ∙ w.sizes k;
      }

  pub visit-keeps : Kept s now (visit s.settings s.resend_time now c x)
  visit-keeps = by-visit s.settings s.resend_time now (Kept s now) c x w (λ i t e l. small-kept i t e) (λ l a next e m. piece-kept l a next e)

-- ---- what a round reaches after some visits, and what is known of it

-- after v visits
abbrev pub up_to : SendChannelReliable → ℕ → ℕ → ℕ → Chosen
up_to s now a v = reached (visit s.settings s.resend_time now) (unvisited s a) (take v (visits_from 0 (live s)))

module _ (s : SendChannelReliable) (v : Valid s) (now : ℕ) (h : s.latest ≤ now) (a : ℕ) where
  begun_kept : Kept s now (unvisited s a)
  begun_kept = record { valid = begun s now v h a; sizes = λ k. refl }

  walk-keeps : (vs : List Visit) → All (Within s.count (λ k. size_row (get_or s.rows k no_row))) vs → Kept s now (reached (visit s.settings s.resend_time now) (unvisited s a) vs)
  walk-keeps vs q =
      reached-keeps (visit s.settings s.resend_time now) (Kept s now) (Within s.count (λ k. size_row (get_or s.rows k no_row)))
      (λ c x q w. visit-keeps s now c w x q) (unvisited s a) vs q begun_kept

  pub up_to-kept : (n : ℕ) → Kept s now (up_to s now a n)
  up_to-kept n = walk-keeps (take n (visits_from 0 (live s))) (all_take (Within s.count (λ k. size_row (get_or s.rows k no_row))) n (visits_from 0 (live s)) (visits-within s v))

  -- the state after a round is valid
  pub select-valid : Valid (with_chosen s now (select s now a))
  unfolding select
  select-valid = (walk-keeps (visits_from 0 (live s)) (visits-within s v)).valid

  -- ---- what was chosen may go

  module _ (small lanes : List ℕ) (room : (small_len_of s.settings ≤ length small) × (lanes_len_of s.settings ≤ length lanes)) where
    abbrev stores : Lent
    stores = record { ids = true; channel = s.channel_id; small = small; lanes = lanes }

    module _ (c : Chosen) (w : Kept s now c) (x : Visit) (q : Within s.count (λ k. size_row (get_or s.rows k no_row)) x) where
      small-goes : (i : ℕ) (t : Sending) → kind_of (here s now c w x q) ≡ Small i t
          → rows.Chosen stores (record { num = 0; id = (here s now c w x q).id.0; index = 0; place = i * SLICE_SIZE; len = (here s now c w x q).len })
      small-goes i t e =
          let g = small-here s now c w x q i t e in
          let m = v.next-most in
          record { num = omega arith; id = omega arith; index = omega arith; stored = omega arith; len = g.short }

      piece-goes : (l b next : ℕ) → kind_of (here s now c w x q) ≡ Sliced l b next
          → rows.Chosen stores (record {
            num = pieces_of (here s now c w x q).len;
            id = (here s now c w x q).id.0;
            index = x.piece;
            place = l * lane_len_of s.settings + x.piece * SLICE_SIZE;
            len = piece_len_of (here s now c w x q).len x.piece;
          })
      piece-goes l b next e =
          let g = piece-here s now c w x q l b next e in
          let n = (here s now c w x q).len in
          let m = v.next-most in
          let two = pieces-two n g.long in
          let lane = lane-within s.settings l g.low in
          let within = piece-within n x.piece g.piece in
          rw (ne_eqb (pieces_of n) 0 (λ z. omega arith))
          (record { num = omega arith; id = omega arith; index = omega arith; stored = omega arith; len = piece-most n x.piece g.piece })

      goes_on : All (rows.Chosen stores) c.items → All (rows.Chosen stores) (visit s.settings s.resend_time now c x).items
      goes_on a =
          by-visit s.settings s.resend_time now (λ d. All (rows.Chosen stores) d.items) c x a
          (λ i t e l. all_snoc (rows.Chosen stores) c.items _ a (small-goes i t e))
          (λ l b next e m. all_snoc (rows.Chosen stores) c.items _ a (piece-goes l b next e))

    -- every item that a round chose may go
    pub select-goes : All (rows.Chosen stores) (select s now a).items
    unfolding select All
    select-goes =
        (reached-keeps (visit s.settings s.resend_time now) (λ c. Kept s now c × All (rows.Chosen stores) c.items) (Within s.count (λ k. size_row (get_or s.rows k no_row)))
        (λ c x q w. (visit-keeps s now c w.0 x q, goes_on c w.0 x q w.1)) (unvisited s a) (visits_from 0 (live s)) (visits-within s v) (begun_kept, tt)).1
