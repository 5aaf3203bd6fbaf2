-- Each change of a receiver keeps it valid. Assumes nothing.
use Prim.Native.Nat.{ℕ, ◌+◌, ◌-◌, ◌*◌, ◌≤◌, ◌<◌, zero-le}
use mathlib.Core.Path.{◌≡◌, refl, sym, ◌∙◌}
use mathlib.Core.Bool.{Bool, true, false}
use mathlib.Core.List.{List, [], ◌∷◌, ◌++◌}
use native.Mathlib.Omega.{arith}
use lib.ListN.{get_or, set, drop, length-set, get_or-replicate}
use lib.Seq.{get_or-set_same, get_or-set_other}
use Rattle.words.specs.Sizes.{SLICE_SIZE, SLOTS, LANES}
use Rattle.words.specs.Lists.{total, holds, All, Pairs}
use Rattle.words.proofs.Tables.{clash, by-test, by_place, blanks, pick-cases, total-set, at-most-total}
use Rattle.channel.specs.Settings.{Good, lane_len_of}
use Rattle.channel.specs.declared.Settings.{Settings}
use Rattle.slice_constructor.specs.declared.SliceConstructor.{SliceConstructor}
use Rattle.slice_constructor.specs.Collect as c
use Rattle.slice_constructor.proofs.Valid as cv
use Rattle.receive_unreliable.specs.Receive.{ROWS, new_of, with_message_of, is_whole, with_open, with_whole, with_piece, without_open, at_time, without_cell, without_lane, CellGood, LaneGood, QueueGood, Valid}
use Rattle.receive_unreliable.specs.Steps.{Fits}
use Rattle.receive_unreliable.specs.declared.ReceiveChannelUnreliable.{ReceiveChannelUnreliable}
use Rattle.slice_constructor.proofs.Part.{whole-most, still_open}
use Rattle.receive_unreliable.proofs.Queue.{queue-most, cell_room, cell-joins, cell-leaves, lane_room, lane-stays, lane-joins, lane-leaves}

-- true is not false
never : {P : Type 0} (b : Bool) → b ≡ true → b ≡ false → P
never b e f = clash (cc)

-- ---- rows

-- a free cell, and a free lane
free-cell : (s : Settings) (i : ℕ) → CellGood s i false 0
free-cell s i = record { within = λ e. never false e refl; small = zero-le; blank = λ _. refl }

blank-valid : c.Valid (c.blank_of 0 0)
blank-valid = cv.blank-valid 0 0 (omega arith) zero-le

free-lane : (s : Settings) (latest l : ℕ) → LaneGood s latest l false false 0 0 0 (c.blank_of 0 0)
free-lane s latest l =
    record {
      within = λ e. never false e refl;
      long = zero-le;
      blank = λ _. (refl, refl);
      done = λ _. (refl, refl, refl);
      opened = λ e. never false e refl;
      constructor = blank-valid;
    }

-- a lane that is whole
whole-lane : (s : Settings) (latest l n : ℕ) → l < s.lanes → n ≤ lane_len_of s → LaneGood s latest l true false 0 n 0 (c.blank_of 0 0)
whole-lane s latest l n low most =
    record {
      within = λ _. low;
      long = most;
      blank = λ e. never true refl e;
      done = λ _. (refl, refl, refl);
      opened = λ e. never false e refl;
      constructor = blank-valid;
    }

-- a lane stays good as time goes on
lane-later : (s : Settings) (latest t l : ℕ) (here begun : Bool) (id n last : ℕ) (k : SliceConstructor) → latest ≤ t
    → LaneGood s latest l here begun id n last k → LaneGood s t l here begun id n last k
lane-later s latest t l here begun id n last k le g =
    record {
      within = g.within;
      long = g.long;
      blank = g.blank;
      done = g.done;
      opened = λ e.
          let o = g.opened e in
          record { below = o.below; named = o.named; some = o.some; more = o.more; charged = o.charged; seen = omega (arith, o.seen) };
      constructor = g.constructor;
    }

-- ---- a new one

pub new-valid : (s : Settings) → Good s → Valid (new_of s)
unfolding new_of total holds All Pairs
new-valid s g =
    record {
      settings = g;
      cells-long = refl;
      cell-lens-long = refl;
      lanes-long = refl;
      opens-long = refl;
      lane-ids-long = refl;
      lane-lens-long = refl;
      last-received-long = refl;
      constructors-long = refl;
      cell = λ i h. rw (get_or-replicate SLOTS i false false h, get_or-replicate {A = ℕ} SLOTS i 0 0 h) (free-cell s i);
      lane = λ l h.
          rw (get_or-replicate LANES l false false h, get_or-replicate {A = ℕ} LANES l 0 0 h, get_or-replicate LANES l (c.blank_of 0 0) (c.blank_of 0 0) h) (free-lane s 0 l);
      queue = record { long = refl; each = tt; once = tt; counted = refl; past = λ k h. blanks {A = ℕ} 0 ROWS k };
      usage = refl;
      usage-most = zero-le;
    }

-- what is so where a message of n bytes goes to cell i
pub record CellSpot (s : ReceiveChannelUnreliable) (n i : ℕ) : Type 0 where
  pub low : i < s.settings.slots
  pub free : get_or s.cells i false ≡ false
  pub short : n ≤ SLICE_SIZE
  pub memory : s.memory_usage_bytes + n ≤ s.settings.max_memory_usage_bytes

module _ (s : ReceiveChannelUnreliable) (v : Valid s) where
  -- what a cell holds, and what a lane is charged, is part of the usage
  pub cell-used : (i : ℕ) → i < SLOTS → get_or s.cell_lens i 0 ≤ s.memory_usage_bytes
  cell-used i low = omega (arith, v.usage, at-most-total (λ m. m) s.cell_lens i 0 (omega (arith, v.cell-lens-long)))

  pub count_most : s.count ≤ ROWS
  count_most = omega (arith, v.queue.long, queue-most s.cells s.lanes s.opens s.count s.queue v.queue v.cells-long v.lanes-long v.opens-long)

  pub lane-used : (l : ℕ) → l < LANES → get_or s.lane_lens l 0 ≤ s.memory_usage_bytes
  lane-used l low = omega (arith, v.usage, at-most-total (λ m. m) s.lane_lens l 0 (omega (arith, v.lane-lens-long)))

  -- ---- a cell anew

  -- there is a row of the queue for it
  pub cell_row : (n i : ℕ) → CellSpot s n i → s.count < ROWS
  cell_row n i p =
      cell_room s.cells s.lanes s.opens s.count s.queue v.queue v.cells-long v.lanes-long v.opens-long i (omega (arith, p.low, v.settings.slots-most)) p.free

  -- s with cell i anew: the usage, the row, and the queue
  abbrev cell_anew : ℕ → ℕ → Bool → ℕ → ℕ → List ℕ → ReceiveChannelUnreliable
  cell_anew i used here n count queue =
      record {
        settings = s.settings;
        memory_usage_bytes = used;
        latest = s.latest;
        cells = set s.cells i here;
        cell_lens = set s.cell_lens i n;
        lanes = s.lanes;
        opens = s.opens;
        lane_ids = s.lane_ids;
        lane_lens = s.lane_lens;
        last_received = s.last_received;
        constructors = s.constructors;
        count = count;
        queue = queue;
      }

  cell-anew-valid : (i used : ℕ) (here : Bool) (n count : ℕ) (queue : List ℕ) → i < SLOTS
      → used ≡ s.memory_usage_bytes - get_or s.cell_lens i 0 + n → used ≤ s.settings.max_memory_usage_bytes
      → CellGood s.settings i here n → QueueGood (set s.cells i here) s.lanes s.opens count queue
      → Valid (cell_anew i used here n count queue)
  cell-anew-valid i used here n count queue low charged room g q =
      let sum = total-set (λ m. m) s.cell_lens i n 0 (omega (arith, v.cell-lens-long)) in
      record {
        settings = v.settings;
        cells-long = simp length-set v.cells-long;
        cell-lens-long = simp length-set v.cell-lens-long;
        lanes-long = v.lanes-long;
        opens-long = v.opens-long;
        lane-ids-long = v.lane-ids-long;
        lane-lens-long = v.lane-lens-long;
        last-received-long = v.last-received-long;
        constructors-long = v.constructors-long;
        cell = λ j h.
            by_place i j
            (λ e. rw (e, get_or-set_same s.cells i here false (omega (arith, v.cells-long)), get_or-set_same s.cell_lens i n 0 (omega (arith, v.cell-lens-long))) g)
            (λ o. rw (get_or-set_other s.cells i j here false o, get_or-set_other s.cell_lens i j n 0 o) (v.cell j h));
        lane = v.lane;
        queue = q;
        usage = omega (arith, v.usage, sum, cell-used i low);
        usage-most = room;
      }

  pub message-valid : (n i : ℕ) → CellSpot s n i → Valid (with_message_of s i n)
  unfolding with_message_of
  message-valid n i p =
      let low : i < SLOTS = omega (arith, p.low, v.settings.slots-most) in
      cell-anew-valid i _ true n (s.count + 1) (set s.queue s.count i) low (omega (arith, (v.cell i low).blank p.free)) p.memory
      record { within = λ _. p.low; small = p.short; blank = λ e. never true refl e }
      (cell-joins s.cells s.lanes s.opens s.count s.queue v.queue v.cells-long v.lanes-long v.opens-long i low p.free)

  -- a take of the first, which is in cell i
  pub without-cell-valid : (i : ℕ) → i < SLOTS → 0 < s.count → get_or s.queue 0 0 ≡ i → get_or s.cells i false ≡ true → Valid (without_cell s i)
  unfolding without_cell
  without-cell-valid i low some first held =
      cell-anew-valid i _ false 0 (s.count - 1) (drop 1 s.queue ++ 0 ∷ []) low (omega arith) (omega (arith, v.usage-most)) (free-cell s.settings i)
      (cell-leaves s.cells s.lanes s.opens s.count s.queue v.queue v.cells-long v.lanes-long v.opens-long i low some first held)

  -- ---- a lane anew

  module _ (l : ℕ) (low : l < LANES) where
    -- s with lane l anew, at time t: the usage, the row, and the queue
    abbrev lane_anew : ℕ → ℕ → Bool → Bool → ℕ → ℕ → ℕ → SliceConstructor → ℕ → List ℕ → ReceiveChannelUnreliable
    lane_anew used t here begun id n last k count queue =
        record {
          settings = s.settings;
          memory_usage_bytes = used;
          latest = t;
          cells = s.cells;
          cell_lens = s.cell_lens;
          lanes = set s.lanes l here;
          opens = set s.opens l begun;
          lane_ids = set s.lane_ids l id;
          lane_lens = set s.lane_lens l n;
          last_received = set s.last_received l last;
          constructors = set s.constructors l k;
          count = count;
          queue = queue;
        }

    lane-anew-valid : (used t : ℕ) (here begun : Bool) (id n last : ℕ) (k : SliceConstructor) (count : ℕ) (queue : List ℕ)
        → used ≡ s.memory_usage_bytes - get_or s.lane_lens l 0 + n → used ≤ s.settings.max_memory_usage_bytes → s.latest ≤ t
        → LaneGood s.settings t l here begun id n last k
        → QueueGood s.cells (set s.lanes l here) (set s.opens l begun) count queue
        → Valid (lane_anew used t here begun id n last k count queue)
    lane-anew-valid used t here begun id n last k count queue charged room later g q =
        let sum = total-set (λ m. m) s.lane_lens l n 0 (omega (arith, v.lane-lens-long)) in
        record {
          settings = v.settings;
          cells-long = v.cells-long;
          cell-lens-long = v.cell-lens-long;
          lanes-long = simp length-set v.lanes-long;
          opens-long = simp length-set v.opens-long;
          lane-ids-long = simp length-set v.lane-ids-long;
          lane-lens-long = simp length-set v.lane-lens-long;
          last-received-long = simp length-set v.last-received-long;
          constructors-long = simp length-set v.constructors-long;
          cell = v.cell;
          lane = λ m h.
              by_place l m
              (λ e.
              rw (
                e,
                get_or-set_same s.lanes l here false (omega (arith, v.lanes-long)),
                get_or-set_same s.opens l begun false (omega (arith, v.opens-long)),
                get_or-set_same s.lane_ids l id 0 (omega (arith, v.lane-ids-long)),
                get_or-set_same s.lane_lens l n 0 (omega (arith, v.lane-lens-long)),
                get_or-set_same s.last_received l last 0 (omega (arith, v.last-received-long)),
                get_or-set_same s.constructors l k (c.blank_of 0 0) (omega (arith, v.constructors-long)),
              )
              g)
              (λ o.
              rw (
                get_or-set_other s.lanes l m here false o,
                get_or-set_other s.opens l m begun false o,
                get_or-set_other s.lane_ids l m id 0 o,
                get_or-set_other s.lane_lens l m n 0 o,
                get_or-set_other s.last_received l m last 0 o,
                get_or-set_other s.constructors l m k (c.blank_of 0 0) o,
              )
              (lane-later s.settings s.latest t m _ _ _ _ _ _ later (v.lane m h)));
          queue = q;
          usage = omega (arith, v.usage, sum, lane-used l low);
          usage-most = room;
        }

    -- a take of the first, which is whole in lane l
    pub without-lane-valid : 0 < s.count → get_or s.queue 0 0 ≡ SLOTS + l → get_or s.lanes l false ≡ true → get_or s.opens l false ≡ false → Valid (without_lane s l)
    unfolding without_lane
    without-lane-valid some first held shut =
        let sum = total-set (λ m. m) s.lane_lens l 0 0 (omega (arith, v.lane-lens-long)) in
        let blank = (v.lane l low).done shut in
        record {
          settings = v.settings;
          cells-long = v.cells-long;
          cell-lens-long = v.cell-lens-long;
          lanes-long = simp length-set v.lanes-long;
          opens-long = v.opens-long;
          lane-ids-long = v.lane-ids-long;
          lane-lens-long = simp length-set v.lane-lens-long;
          last-received-long = v.last-received-long;
          constructors-long = v.constructors-long;
          cell = v.cell;
          lane = λ m h.
              by_place l m
              (λ e.
              rw (
                e,
                get_or-set_same s.lanes l false false (omega (arith, v.lanes-long)),
                get_or-set_same s.lane_lens l 0 0 (omega (arith, v.lane-lens-long)),
                shut,
                blank.0,
                blank.1,
                blank.2,
              )
              (free-lane s.settings s.latest l))
              (λ o. rw (get_or-set_other s.lanes l m false false o, get_or-set_other s.lane_lens l m 0 0 o) (v.lane m h));
          queue = lane-leaves s.cells s.lanes s.opens s.count s.queue v.queue v.cells-long v.lanes-long v.opens-long l low some first held;
          usage = omega (arith, v.usage, sum);
          usage-most = omega (arith, v.usage-most);
        }

    -- an open lane is held
    pub open-held : get_or s.opens l false ≡ true → get_or s.lanes l false ≡ true
    open-held begun = by-test (get_or s.lanes l false) (λ e. e) (λ e. never _ begun ((v.lane l low).blank e).0)

    -- ---- a lane that is not whole, so that it does not wait

    module _ (not-whole : get_or s.lanes l false ≡ get_or s.opens l false) where
      -- there is a row of the queue for it
      pub row-free : s.count < ROWS
      row-free = lane_room s.cells s.lanes s.opens s.count s.queue v.queue v.cells-long v.lanes-long v.opens-long l low not-whole

      stays : (b : Bool) → QueueGood s.cells (set s.lanes l b) (set s.opens l b) s.count s.queue
      stays = lane-stays s.cells s.lanes s.opens s.count s.queue v.queue v.cells-long v.lanes-long v.opens-long l low not-whole

    -- a discarding
    pub without-open-valid : get_or s.opens l false ≡ true → Valid (without_open s l)
    unfolding without_open
    without-open-valid begun =
        lane-anew-valid _ s.latest false false 0 0 0 (c.blank_of 0 0) s.count s.queue (omega arith) (omega (arith, v.usage-most)) (omega arith) (free-lane s.settings s.latest l)
        (stays (open-held begun ∙ sym begun) false)

-- ---- the latest time alone

pub time-valid : (s : ReceiveChannelUnreliable) → Valid s → (t : ℕ) → s.latest ≤ t → Valid (at_time s t)
unfolding at_time
time-valid s v t later =
    record {
      settings = v.settings;
      cells-long = v.cells-long;
      cell-lens-long = v.cell-lens-long;
      lanes-long = v.lanes-long;
      opens-long = v.opens-long;
      lane-ids-long = v.lane-ids-long;
      lane-lens-long = v.lane-lens-long;
      last-received-long = v.last-received-long;
      constructors-long = v.constructors-long;
      cell = v.cell;
      lane = λ l h. lane-later s.settings s.latest t l _ _ _ _ _ _ later (v.lane l h);
      queue = v.queue;
      usage = v.usage;
      usage-most = v.usage-most;
    }

-- ---- a piece more

module _ (s : ReceiveChannelUnreliable) (v : Valid s) (l : ℕ) (k : SliceConstructor) (t : ℕ) (f : Fits s l k t) where
  pub lane_low : l < LANES
  lane_low = omega (arith, f.low, v.settings.lanes-most)

  pub open-valid : is_whole k ≡ false → Valid (with_open s l k t)
  unfolding with_open
  open-valid e =
      lane-anew-valid s v l lane_low _ t true true k.message_id.0 (SLICE_SIZE * k.num_slices) t k s.count s.queue refl f.room f.later
      record {
        within = λ _. f.low;
        long = omega (arith, f.most);
        blank = λ h. never true refl h;
        done = λ h. never true refl h;
        opened = λ _. record { below = f.valid.id_below; named = refl; some = f.some; more = still_open k f.valid e; charged = refl; seen = omega arith };
        constructor = f.valid;
      }
      (stays s v l lane_low f.not-whole true)

  pub whole-valid : Valid (with_whole s l (c.whole_len k) t)
  unfolding with_whole
  whole-valid =
      let n : ℕ = c.whole_len k in
      let most = whole-most k f.valid f.some in
      lane-anew-valid s v l lane_low _ t true false 0 n 0 (c.blank_of 0 0) (s.count + 1) (set s.queue s.count (SLOTS + l)) refl (omega (arith, f.room)) f.later
      (whole-lane s.settings t l n f.low (omega (arith, f.most)))
      (lane-joins s.cells s.lanes s.opens s.count s.queue v.queue v.cells-long v.lanes-long v.opens-long l lane_low f.not-whole)

  pub piece-valid : Valid (with_piece s l k t)
  unfolding with_piece
  piece-valid = pick-cases Valid (is_whole k) (λ _. whole-valid) open-valid
