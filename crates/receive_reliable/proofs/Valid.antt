-- Each change of a receiver keeps it valid. Assumes nothing.
use Prim.Native.Nat.{ℕ, ◌+◌, ◌≤◌, ◌<◌, zero-le}
use mathlib.Core.Path.{◌≡◌, refl, sym, ◌∙◌}
use mathlib.Core.Bool.{Bool, true, false}
use native.Mathlib.Omega.{arith}
use lib.ListN.{get_or, length-set, get_or-replicate}
use lib.Seq.{get_or-set_same, get_or-set_other}
use Rattle.words.specs.Sizes.{SLICE_SIZE, SLOTS, LANES, LIMIT}
use Rattle.words.specs.Lists.{total}
use Rattle.channel.specs.Settings.{Good}
use Rattle.channel.specs.declared.Settings.{Settings}
use Rattle.slice_constructor.specs.declared.SliceConstructor.{SliceConstructor}
use Rattle.slice_constructor.specs.Collect as c
use Rattle.slice_constructor.proofs.Valid as cv
use Rattle.slice_constructor.proofs.Part.{still_open}
pub use Rattle.slice_constructor.proofs.Part.{charge-most}
use Rattle.receive_reliable.specs.Receive.{new_of, constructor_at, is_whole, lane_charge, kept, with_message_of, with_lane_of, without_cell, without_lane, CellGood, LaneGood, Valid}
use Rattle.receive_reliable.specs.Steps.{Fits}
use Rattle.receive_reliable.specs.declared.ReceiveChannelReliable.{ReceiveChannelReliable}
use Rattle.words.proofs.Tables.{pick-cases, clash, by_place, total-set, at-most-total}

-- true is not false
never : {P : Type 0} (b : Bool) → b ≡ true → b ≡ false → P
never b e f = clash (cc)

-- ---- entries that stay as they were

module _ (s t : ReceiveChannelReliable) (es : t.settings ≡ s.settings) where
  cell_same : (i : ℕ) → get_or t.cells i false ≡ get_or s.cells i false → get_or t.cell_ids i 0 ≡ get_or s.cell_ids i 0
      → get_or t.cell_lens i 0 ≡ get_or s.cell_lens i 0 → CellGood s i → CellGood t i
  cell_same i eh ei en g =
      record {
        within = λ h. rw es (g.within (sym eh ∙ h));
        id_below = rw ei g.id_below;
        small = rw en g.small;
        blank = λ h. (ei ∙ (g.blank (sym eh ∙ h)).0, en ∙ (g.blank (sym eh ∙ h)).1);
      }

  lane-same : (l : ℕ) → get_or t.lanes l false ≡ get_or s.lanes l false → get_or t.whole l false ≡ get_or s.whole l false
      → get_or t.lane_ids l 0 ≡ get_or s.lane_ids l 0 → get_or t.lane_lens l 0 ≡ get_or s.lane_lens l 0
      → constructor_at t l ≡ constructor_at s l → LaneGood s l → LaneGood t l
  lane-same l eh ew ei en ek g =
      record {
        within = λ h. rw es (g.within (sym eh ∙ h));
        id_below = rw ei g.id_below;
        long = rw (en, es) g.long;
        blank = λ h. let b = g.blank (sym eh ∙ h) in (ew ∙ b.0, ei ∙ b.1, en ∙ b.2, ek ∙ b.3);
        done = λ w. ek ∙ g.done (sym ew ∙ w);
        opened = λ h w. rw (ek, ei, en) (g.opened (sym eh ∙ h) (sym ew ∙ w));
        constructor = rw ek g.constructor;
      }

-- ---- a new one

pub new-valid : (s : Settings) → Good s → Valid (new_of s)
unfolding new_of total
new-valid s g =
    record {
      settings = g;
      oldest-most = zero-le;
      cells-long = refl;
      cell-ids-long = refl;
      cell-lens-long = refl;
      lanes-long = refl;
      whole_long = refl;
      lane-ids-long = refl;
      lane-lens-long = refl;
      constructors-long = refl;
      cell = λ i h.
          record {
            within = λ e. never _ e (get_or-replicate SLOTS i false false h);
            id_below = rw (get_or-replicate {A = ℕ} SLOTS i 0 0 h) (omega arith);
            small = rw (get_or-replicate {A = ℕ} SLOTS i 0 0 h) zero-le;
            blank = λ _. (get_or-replicate {A = ℕ} SLOTS i 0 0 h, get_or-replicate {A = ℕ} SLOTS i 0 0 h);
          };
      lane = λ l h.
          let free = get_or-replicate LANES l false false h in
          let zeros = get_or-replicate {A = ℕ} LANES l 0 0 h in
          let none = get_or-replicate LANES l (c.blank_of 0 0) (c.blank_of 0 0) h in
          record {
            within = λ e. never _ e free;
            id_below = rw zeros (omega arith);
            long = rw zeros zero-le;
            blank = λ _. (free, zeros, zeros, none);
            done = λ _. none;
            opened = λ e. never _ e free;
            constructor = rw none (cv.blank-valid 0 0 (omega arith) zero-le);
          };
      usage = refl;
      usage-most = zero-le;
    }

-- ---- a small message more, and one fewer

-- what is so where a message of n bytes goes to cell i
pub record CellSpot (s : ReceiveChannelReliable) (id n i : ℕ) : Type 0 where
  pub low : i < s.settings.slots
  pub free : get_or s.cells i false ≡ false
  pub below : id < LIMIT
  pub short : n ≤ SLICE_SIZE
  pub memory : s.memory_usage_bytes + n ≤ s.settings.max_memory_usage_bytes

module _ (s : ReceiveChannelReliable) (v : Valid s) where
  -- what a cell holds is part of the usage
  pub cell-used : (i : ℕ) → i < SLOTS → get_or s.cell_lens i 0 ≤ s.memory_usage_bytes
  cell-used i low = omega (arith, v.usage, at-most-total (λ m. m) s.cell_lens i 0 (omega (arith, v.cell-lens-long)))

  pub message-valid : (id n i : ℕ) → CellSpot s id n i → Valid (with_message_of s i id n)
  unfolding with_message_of
  message-valid id n i p =
      let low : i < SLOTS = omega (arith, p.low, v.settings.slots-most) in
      let sum = total-set (λ m. m) s.cell_lens i n 0 (omega (arith, v.cell-lens-long)) in
      record {
        settings = v.settings;
        oldest-most = v.oldest-most;
        cells-long = simp length-set v.cells-long;
        cell-ids-long = simp length-set v.cell-ids-long;
        cell-lens-long = simp length-set v.cell-lens-long;
        lanes-long = v.lanes-long;
        whole_long = v.whole_long;
        lane-ids-long = v.lane-ids-long;
        lane-lens-long = v.lane-lens-long;
        constructors-long = v.constructors-long;
        cell = λ j h.
            by_place i j
            (λ e.
            let eh = get_or-set_same s.cells i true false (omega (arith, v.cells-long)) in
            rw e
            record {
              within = λ _. p.low;
              id_below = rw (get_or-set_same s.cell_ids i id 0 (omega (arith, v.cell-ids-long))) p.below;
              small = rw (get_or-set_same s.cell_lens i n 0 (omega (arith, v.cell-lens-long))) p.short;
              blank = λ f. never _ eh f;
            })
            (λ o. cell_same s _ refl j (get_or-set_other s.cells i j true false o) (get_or-set_other s.cell_ids i j id 0 o) (get_or-set_other s.cell_lens i j n 0 o) (v.cell j h));
        lane = λ l h. lane-same s _ refl l refl refl refl refl refl (v.lane l h);
        usage = omega (arith, v.usage, sum, ((v.cell i low).blank p.free).1);
        usage-most = p.memory;
      }

  pub without-cell-valid : (i : ℕ) → i < SLOTS → s.oldest_pending_message_id < LIMIT → Valid (without_cell s i)
  unfolding without_cell
  without-cell-valid i low old =
      let sum = total-set (λ m. m) s.cell_lens i 0 0 (omega (arith, v.cell-lens-long)) in
      record {
        settings = v.settings;
        oldest-most = omega arith;
        cells-long = simp length-set v.cells-long;
        cell-ids-long = simp length-set v.cell-ids-long;
        cell-lens-long = simp length-set v.cell-lens-long;
        lanes-long = v.lanes-long;
        whole_long = v.whole_long;
        lane-ids-long = v.lane-ids-long;
        lane-lens-long = v.lane-lens-long;
        constructors-long = v.constructors-long;
        cell = λ j h.
            by_place i j
            (λ e.
            let eh = get_or-set_same s.cells i false false (omega (arith, v.cells-long)) in
            let ei = get_or-set_same s.cell_ids i 0 0 (omega (arith, v.cell-ids-long)) in
            let en = get_or-set_same s.cell_lens i 0 0 (omega (arith, v.cell-lens-long)) in
            rw e record { within = λ f. never _ f eh; id_below = rw ei (omega arith); small = rw en zero-le; blank = λ _. (ei, en) })
            (λ o. cell_same s _ refl j (get_or-set_other s.cells i j false false o) (get_or-set_other s.cell_ids i j 0 0 o) (get_or-set_other s.cell_lens i j 0 0 o) (v.cell j h));
        lane = λ l h. lane-same s _ refl l refl refl refl refl refl (v.lane l h);
        usage = omega (arith, v.usage, sum);
        usage-most = omega (arith, v.usage-most);
      }

-- ---- a lane with a piece more, and one fewer

module _ (s : ReceiveChannelReliable) (v : Valid s) (l : ℕ) where
  -- what a lane is charged is part of the usage
  pub lane-used : l < LANES → get_or s.lane_lens l 0 ≤ s.memory_usage_bytes
  lane-used low = omega (arith, v.usage, at-most-total (λ m. m) s.lane_lens l 0 (omega (arith, v.lane-lens-long)))

  pub lane-valid : (id : ℕ) (k : SliceConstructor) → Fits s l id k → Valid (with_lane_of s l id k)
  unfolding with_lane_of
  lane-valid id k f =
      let low : l < LANES = omega (arith, f.low, v.settings.lanes-most) in
      let most = charge-most k f.valid f.one in
      let sum = total-set (λ m. m) s.lane_lens l (lane_charge k) 0 (omega (arith, v.lane-lens-long)) in
      record {
        settings = v.settings;
        oldest-most = v.oldest-most;
        cells-long = v.cells-long;
        cell-ids-long = v.cell-ids-long;
        cell-lens-long = v.cell-lens-long;
        lanes-long = simp length-set v.lanes-long;
        whole_long = simp length-set v.whole_long;
        lane-ids-long = simp length-set v.lane-ids-long;
        lane-lens-long = simp length-set v.lane-lens-long;
        constructors-long = simp length-set v.constructors-long;
        cell = λ i h. cell_same s _ refl i refl refl refl (v.cell i h);
        lane = λ m h.
            by_place l m
            (λ e.
            let eh = get_or-set_same s.lanes l true false (omega (arith, v.lanes-long)) in
            let ew = get_or-set_same s.whole l (is_whole k) false (omega (arith, v.whole_long)) in
            let ei = get_or-set_same s.lane_ids l id 0 (omega (arith, v.lane-ids-long)) in
            let en = get_or-set_same s.lane_lens l (lane_charge k) 0 (omega (arith, v.lane-lens-long)) in
            let ek = get_or-set_same s.constructors l (kept k) (c.blank_of 0 0) (omega (arith, v.constructors-long)) in
            rw e
            record {
              within = λ _. f.low;
              id_below = rw ei f.below;
              long = rw en (omega (arith, f.most));
              blank = λ n. never _ eh n;
              done = λ w. ek ∙ rw (sym ew ∙ w);
              opened = λ _ w.
                  let u = sym ew ∙ w in
                  rw (ek, ei, en, u) (f.named, f.one, still_open k f.valid u, refl);
              constructor = rw ek (pick-cases c.Valid (is_whole k) (λ _. cv.blank-valid 0 0 (omega arith) zero-le) (λ _. f.valid));
            })
            (λ o.
            lane-same s _ refl m (get_or-set_other s.lanes l m true false o) (get_or-set_other s.whole l m (is_whole k) false o) (get_or-set_other s.lane_ids l m id 0 o)
            (get_or-set_other s.lane_lens l m (lane_charge k) 0 o) (get_or-set_other s.constructors l m (kept k) (c.blank_of 0 0) o) (v.lane m h));
        usage = omega (arith, v.usage, sum, lane-used low);
        usage-most = omega (arith, f.room);
      }

  pub without-lane-valid : l < LANES → get_or s.whole l false ≡ true → s.oldest_pending_message_id < LIMIT → Valid (without_lane s l)
  unfolding without_lane
  without-lane-valid low whole old =
      let sum = total-set (λ m. m) s.lane_lens l 0 0 (omega (arith, v.lane-lens-long)) in
      record {
        settings = v.settings;
        oldest-most = omega arith;
        cells-long = v.cells-long;
        cell-ids-long = v.cell-ids-long;
        cell-lens-long = v.cell-lens-long;
        lanes-long = simp length-set v.lanes-long;
        whole_long = simp length-set v.whole_long;
        lane-ids-long = simp length-set v.lane-ids-long;
        lane-lens-long = simp length-set v.lane-lens-long;
        constructors-long = v.constructors-long;
        cell = λ i h. cell_same s _ refl i refl refl refl (v.cell i h);
        lane = λ m h.
            by_place l m
            (λ e.
            let eh = get_or-set_same s.lanes l false false (omega (arith, v.lanes-long)) in
            let ew = get_or-set_same s.whole l false false (omega (arith, v.whole_long)) in
            let ei = get_or-set_same s.lane_ids l 0 0 (omega (arith, v.lane-ids-long)) in
            let en = get_or-set_same s.lane_lens l 0 0 (omega (arith, v.lane-lens-long)) in
            let ek = (v.lane l low).done whole in
            rw e
            record {
              within = λ f. never _ f eh;
              id_below = rw ei (omega arith);
              long = rw en zero-le;
              blank = λ _. (ew, ei, en, ek);
              done = λ _. ek;
              opened = λ f. never _ f eh;
              constructor = (v.lane l low).constructor;
            })
            (λ o.
            lane-same s _ refl m (get_or-set_other s.lanes l m false false o) (get_or-set_other s.whole l m false false o) (get_or-set_other s.lane_ids l m 0 0 o)
            (get_or-set_other s.lane_lens l m 0 0 o) refl (v.lane m h));
        usage = omega (arith, v.usage, sum);
        usage-most = omega (arith, v.usage-most);
      }
