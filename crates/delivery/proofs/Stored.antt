-- What the sender's stores hold: of each waiting message the bytes that were queued under its id, in its cell or lane. Q is the list of all that
-- was queued. Assumes nothing.
use Prim.Native.Nat.{ℕ, ◌+◌, ◌*◌, ◌≤◌, ◌<◌}
use mathlib.Core.Path.{◌≡◌, refl, sym, ap, ◌∙◌, subst}
use mathlib.Core.Bool.{Bool, false}
use mathlib.Core.List.{List, [], ◌∷◌, ◌++◌}
use mathlib.Core.Option.{Option, none, some}
use native.Mathlib.Omega.{arith}
use lib.Dec.{ltb}
use lib.ListN.{length, get_or, take, drop, length-append, length-take}
use lib.Seq.{take-set-lt, get_or-take}
use borrow.Author.Tests.{ltb-true, ltb-false}
use Rattle.words.specs.Sizes.{SLICE_SIZE, LIMIT}
use Rattle.words.specs.Lists.{splice, All}
use Rattle.words.specs.declared.MessageId.{MessageId}
use Rattle.words.proofs.Lists.{all_both, all_snoc, all-at, all_without}
use Rattle.words.proofs.Entries.{all_set, live-closed}
use Rattle.words.proofs.Tables.{by-test, part-before, part-after, part-here}
use Rattle.channel.specs.Settings.{lane_len_of, small_len_of, lanes_len_of}
use Rattle.channel.specs.declared.Settings.{Settings}
use Rattle.channel.proofs.Good.{lane-within}
use Rattle.send_reliable.specs.declared.Kind.{Kind}
use Rattle.send_reliable.specs.declared.Kind.TheVariants.{Small, Sliced}
use Rattle.send_reliable.specs.declared.Row.{Row}
use Rattle.send_reliable.specs.declared.SendChannelReliable.{SendChannelReliable}
use Rattle.send_reliable.specs.Sender.{kind_of, as_row, new_of, no_row, live, PlacedKind, Placed, Valid}
use Rattle.send_reliable.specs.Queue.{Spot, spot_of, add_small, add_sliced, state_at, small_at_of, lanes_at}
use Rattle.send_reliable.specs.Ack.{row_of, without, marked}
use Rattle.send_reliable.specs.Select.{visits_from, Chosen, select}
use Rattle.send_reliable.specs.Round.{Given, chosen, state_after}
use Rattle.send_reliable.proofs.Valid.{rows-room, live-long, CellFree, LaneFree}
use Rattle.delivery.specs.World.{Bytes, Part, whole, piece, queued_at, ack_of}
use Rattle.delivery.proofs.Lists.{at_more, at_last, all-index, never, places-apart, front-snoc}
use Rattle.delivery.proofs.Walk.{Told, told, bare_kind, bare, Kept, kept-visits}
use Rattle.delivery.proofs.Receiver.{Queued}
use Rattle.delivery.proofs.Sender.{cell-more, lane-more}
use Rattle.delivery.proofs.Cases.{spot-cases, found, small_cases, piece-cases}

-- ---- where a waiting message lies

abbrev pub place_of : Settings → Kind → ℕ
place_of st (Small i t) = i * SLICE_SIZE
place_of st (Sliced l a next) = l * lane_len_of st

abbrev pub store_of : Kind → Bytes → Bytes → Bytes
store_of (Small i t) small lanes = small
store_of (Sliced l a next) small lanes = lanes

abbrev pub KindFits : Settings → ℕ → Kind → Type 0
KindFits st n (Small i t) = (i < st.slots) × (n ≤ SLICE_SIZE)
KindFits st n (Sliced l a next) = (l < st.lanes) × (SLICE_SIZE < n) × (n ≤ lane_len_of st)

pub record ToldHas (q : List Bytes) (st : Settings) (small lanes : Bytes) (r : Told) : Type 0 where
  pub msg : Bytes
  pub queued : Queued q r.id.0 msg
  pub len_is : r.len ≡ length msg
  pub bytes : take r.len (drop (place_of st r.kind) (store_of r.kind small lanes)) ≡ msg
  pub fits : KindFits st r.len r.kind
  pub below : r.id.0 < LIMIT

abbrev pub RowHas : List Bytes → Settings → Bytes → Bytes → Row → Type 0
RowHas q st small lanes r = ToldHas q st small lanes (told r)

pub record SenderHas (q : List Bytes) (s : SendChannelReliable) (small lanes : Bytes) : Type 0 where
  pub channel : s.channel_id < 256
  pub next : s.next_reliable_message_id ≡ length q
  pub rows : All (RowHas q s.settings small lanes) (live s)

-- ---- sendings do not matter

module _ (q : List Bytes) (st : Settings) (small lanes : Bytes) where
  abbrev Has : Told → Type 0
  Has = ToldHas q st small lanes

  to-bare : (id : MessageId) (n : ℕ) (kd : Kind) → Has (record { id = id; len = n; kind = kd }) → Has (record { id = id; len = n; kind = bare_kind kd })
  to-bare id n (Small i t) h = record { msg = h.msg; queued = h.queued; len_is = h.len_is; bytes = h.bytes; fits = h.fits; below = h.below }
  to-bare id n (Sliced l a next) h = record { msg = h.msg; queued = h.queued; len_is = h.len_is; bytes = h.bytes; fits = h.fits; below = h.below }

  from-bare : (id : MessageId) (n : ℕ) (kd : Kind) → Has (record { id = id; len = n; kind = bare_kind kd }) → Has (record { id = id; len = n; kind = kd })
  from-bare id n (Small i t) h = record { msg = h.msg; queued = h.queued; len_is = h.len_is; bytes = h.bytes; fits = h.fits; below = h.below }
  from-bare id n (Sliced l a next) h = record { msg = h.msg; queued = h.queued; len_is = h.len_is; bytes = h.bytes; fits = h.fits; below = h.below }

  pub has-like : (r r' : Row) → bare r ≡ bare r' → Has (told r) → Has (told r')
  has-like r r' e h = from-bare r'.id r'.len (kind_of r') (subst Has e (to-bare r.id r.len (kind_of r) h))

pub has_new : (channel : ℕ) (st : Settings) (resend : ℕ) (small lanes : Bytes) → channel < 256 → SenderHas [] (new_of channel st resend) small lanes
unfolding new_of All
has_new channel st resend small lanes c = record { channel = c; next = refl; rows = tt }

module _ (q : List Bytes) (s : SendChannelReliable) (small lanes : Bytes) (v : Valid s) (h : SenderHas q s small lanes) where
  -- ---- queueing

  module _ (msg : Bytes) where
    abbrev q' : List Bytes
    q' = q ++ (msg ∷ [])

    next_more : s.next_reliable_message_id + 1 ≡ length q'
    next_more = simp length-append (omega (arith, h.next))

    -- the new message
    here-queued : Queued q' s.next_reliable_message_id msg
    here-queued = at_last q msg s.next_reliable_message_id h.next

    -- in a cell
    module _ (i : ℕ) (c : CellFree s (length msg) i) (room : small_len_of s.settings ≤ length small) where
      abbrev small' : Bytes
      small' = splice (i * SLICE_SIZE) msg small

      cell-kind : (id : MessageId) (n : ℕ) (kd : Kind) → PlacedKind s n kd → ToldHas q s.settings small lanes (record { id = id; len = n; kind = kd })
          → ToldHas q' s.settings small' lanes (record { id = id; len = n; kind = kd })
      cell-kind id n (Sliced l a next) p x = record { msg = x.msg; queued = at_more q (msg ∷ []) _ x.queued; len_is = x.len_is; bytes = x.bytes; fits = x.fits; below = x.below }
      cell-kind id n (Small j t) p x =
          let ne : j ≡ i → ⊥ = λ e. never _ p.1 (ap (λ (k : ℕ). get_or s.cells k false) e ∙ c.free) in
          record {
            msg = x.msg;
            queued = at_more q (msg ∷ []) _ x.queued;
            len_is = x.len_is;
            bytes =
                by-test (ltb j i)
                (λ b. part-before (j * SLICE_SIZE) n (i * SLICE_SIZE) msg small (omega (arith, ltb-true j i b, p.2)))
                (λ b. part-after (j * SLICE_SIZE) n (i * SLICE_SIZE) msg small (omega (arith, ltb-false j i b, ne)))
                ∙ x.bytes;
            fits = x.fits;
            below = x.below;
          }

      cell-has : SenderHas q' (add_small s i (length msg)) small' lanes
      unfolding add_small Placed
      cell-has =
          let fits : i * SLICE_SIZE + length msg ≤ length small = omega (arith, c.low, room) in
          record {
            channel = h.channel;
            next = next_more;
            rows =
                rw (front-snoc s.count s.rows _ (cell-more s v i c.low c.free))
                (all_snoc _ (live s) _ (all_both (Placed s) _ _ (λ x p r. cell-kind x.id x.len (kind_of x) p.1 r) (live s) v.placed h.rows)
                (record { msg = msg; queued = here-queued; len_is = refl; bytes = part-here (i * SLICE_SIZE) msg small fits; fits = (c.low, c.short); below = c.ids }));
          }

    -- in a lane
    module _ (l : ℕ) (c : LaneFree s (length msg) l) (room : lanes_len_of s.settings ≤ length lanes) where
      abbrev lanes' : Bytes
      lanes' = splice (l * lane_len_of s.settings) msg lanes

      lane-kind : (id : MessageId) (n : ℕ) (kd : Kind) → PlacedKind s n kd → ToldHas q s.settings small lanes (record { id = id; len = n; kind = kd })
          → ToldHas q' s.settings small lanes' (record { id = id; len = n; kind = kd })
      lane-kind id n (Small j t) p x = record { msg = x.msg; queued = at_more q (msg ∷ []) _ x.queued; len_is = x.len_is; bytes = x.bytes; fits = x.fits; below = x.below }
      lane-kind id n (Sliced m a next) p x =
          let ne : m ≡ l → ⊥ = λ e. never _ p.1 (ap (λ (k : ℕ). get_or s.lanes k false) e ∙ c.free) in
          record {
            msg = x.msg;
            queued = at_more q (msg ∷ []) _ x.queued;
            len_is = x.len_is;
            bytes =
                by-test (ltb m l)
                (λ b. let z = places-apart (lane_len_of s.settings) m l (ltb-true m l b) in part-before (m * lane_len_of s.settings) n (l * lane_len_of s.settings) msg lanes (omega (arith, p.3)))
                (λ b. let g = ltb-false m l b in let z = places-apart (lane_len_of s.settings) l m (omega arith) in part-after (m * lane_len_of s.settings) n (l * lane_len_of s.settings) msg lanes (omega (arith, c.limit)))
                ∙ x.bytes;
            fits = x.fits;
            below = x.below;
          }

      lane_has : SenderHas q' (add_sliced s l (length msg)) small lanes'
      unfolding add_sliced Placed
      lane_has =
          let z = lane-within s.settings l c.low in
          let fits : l * lane_len_of s.settings + length msg ≤ length lanes = omega (arith, room, c.limit) in
          record {
            channel = h.channel;
            next = next_more;
            rows =
                rw (front-snoc s.count s.rows _ (lane-more s v l c.low c.free))
                (all_snoc _ (live s) _ (all_both (Placed s) _ _ (λ x p r. lane-kind x.id x.len (kind_of x) p.1 r) (live s) v.placed h.rows)
                (record { msg = msg; queued = here-queued; len_is = refl; bytes = part-here (l * lane_len_of s.settings) msg lanes fits; fits = (c.low, c.long, c.limit); below = c.ids }));
          }

    abbrev After-queue : Spot → Type 0
    After-queue x = SenderHas (queued_at x msg q) (state_at s (length msg) x) (small_at_of x msg small) (lanes_at s x msg lanes)

    pub queue-has : After-queue (spot_of s (length msg) (length small) (length lanes))
    queue-has = spot-cases s v (length msg) (length small) (length lanes) After-queue cell-has lane_has (λ _. h)

  -- ---- an ack

  abbrev After-ack : SendChannelReliable → Type 0
  After-ack s' = SenderHas q s' small lanes

  without-has : (k n : ℕ) (cs ls : List Bool) → k < s.count → After-ack (without s k n cs ls)
  without-has k n cs ls low =
      record { channel = h.channel; next = h.next; rows = rw (live-closed s.rows k s.count no_row low (rows-room s v)) (all_without _ (live s) k h.rows) }

  marked-has : (k l a next i : ℕ) (r : Row) → k < s.count → get_or s.rows k no_row ≡ r → kind_of r ≡ Sliced l a next → After-ack (marked s k l a next i r)
  marked-has k l a next i r low e f =
      let n = live-long s v in
      let x : RowHas q s.settings small lanes r
      = subst (RowHas q s.settings small lanes) (get_or-take s.count s.rows k no_row low ∙ e) (all-at _ (live s) k no_row (omega arith) h.rows) in
      record {
        channel = h.channel;
        next = h.next;
        rows = rw (take-set-lt s.count s.rows k (as_row r.id r.len (Sliced l (a + 1) next)) low)
            (all_set _ (live s) k _ h.rows (again r.id r.len (kind_of r) f x));
      }
    where
      again : (id : MessageId) (n : ℕ) (kd : Kind) → kd ≡ Sliced l a next → ToldHas q s.settings small lanes (record { id = id; len = n; kind = kd })
          → ToldHas q s.settings small lanes (record { id = id; len = n; kind = Sliced l (a + 1) next })
      again id n kd e y =
          let z = subst (λ (x : Kind). ToldHas q s.settings small lanes (record { id = id; len = n; kind = x })) e y in
          record { msg = z.msg; queued = z.queued; len_is = z.len_is; bytes = z.bytes; fits = z.fits; below = z.below }

  pub ack-has : (p : Option Part) → After-ack (ack_of p s)
  ack-has none = h
  ack-has (some (whole x)) = small_cases s x After-ack h (λ i t low e. without-has (row_of s x) _ _ _ low)
  ack-has (some (piece x i)) =
      piece-cases s x After-ack h i (λ l a next c _. without-has (row_of s x) _ _ _ c.low) (λ l a next c _. marked-has (row_of s x) l a next i (found s x) c.low refl c.kind)

  -- ---- a round

  module _ (g : Given) where
    abbrev before : Chosen
    before = record { left = g.allowance; items = []; rows = s.rows; pieces = s.pieces }

    pub chosen-kept : Kept before (chosen s g)
    unfolding select
    chosen-kept = kept-visits s.settings s.resend_time g.now (visits_from 0 (live s)) before

    -- a row of the table that waits
    pub row_has : (k : ℕ) → k < s.count → RowHas q s.settings small lanes (get_or s.rows k no_row)
    row_has k low =
        let n = live-long s v in
        subst (RowHas q s.settings small lanes) (get_or-take s.count s.rows k no_row low) (all-at _ (live s) k no_row (omega arith) h.rows)

    pub round-has : SenderHas q (state_after s g) small lanes
    unfolding state_after
    round-has =
        record {
          channel = h.channel;
          next = h.next;
          rows =
              all-index _ (take s.count (chosen s g).rows) no_row
              (λ k low.
              let n : k < s.count = let z = length-take s.count (chosen s g).rows in omega arith in
              rw (get_or-take s.count (chosen s g).rows k no_row n)
              (has-like q s.settings small lanes (get_or s.rows k no_row) (get_or (chosen s g).rows k no_row) (sym (chosen-kept.rows k)) (row_has k n)));
        }
