-- The queue: what waits in it, where one joins it, where the first is taken off, and where a lane changes that does not wait. Assumes nothing.
use Prim.Native.Nat.{ℕ, suc, ◌+◌, ◌-◌, ◌≤◌, ◌<◌}
use mathlib.Core.Path.{◌≡◌, sym, ap, ◌∙◌}
use mathlib.Core.Bool.{Bool, true, false}
use mathlib.Core.List.{List, [], ◌∷◌, ◌++◌}
use native.Mathlib.Omega.{arith}
use borrow.Author.Tests.{ltb-true, ltb-false, lt-ltb, le-ltb}
use lib.Dec.{ltb}
use lib.ListN.{length, get_or, set, take, drop, length-set}
use lib.Seq.{get_or-set_same, get_or-set_other, get_or-take, length-take-le}
use Rattle.words.specs.Sizes.{SLOTS, LANES}
use Rattle.words.specs.Lists.{holds, without}
use Rattle.words.proofs.Lists.{holds-le, all_map, all_snoc, all_others, pairs-snoc, pairs-without, held-still}
use Rattle.words.proofs.Tables.{by-test, clash}
use Rattle.receive_unreliable.specs.Receive.{ROWS, place_of, at-cell, at-lane, Waits, Apart, QueueGood}
use Rattle.receive_unreliable.proofs.Lists.{bit, holds-set, front-joined, moved_up, front-moved, length_moved}

-- ---- one that waits

pub place-cell : (w : ℕ) → w < SLOTS → place_of w ≡ at-cell w
place-cell w h = rw (lt-ltb w SLOTS h)

pub place-lane : (l : ℕ) → place_of (SLOTS + l) ≡ at-lane l
place-lane l = let e : SLOTS + l - SLOTS ≡ l = omega arith in rw (le-ltb (SLOTS + l) SLOTS (omega arith), e)

module _ (cells lanes opens : List Bool) where
  -- it is a cell that is held, or a lane that is whole
  pub by_kind : {P : Type 0} (w : ℕ) → Waits cells lanes opens w → (w < SLOTS → get_or cells w false ≡ true → P)
      → ((l : ℕ) → w ≡ SLOTS + l → l < LANES → get_or lanes l false ≡ true → get_or opens l false ≡ false → P) → P
  by_kind w p f g =
      by-test (ltb w SLOTS)
      (λ t. f (ltb-true w SLOTS t) (rw t at p.here))
      (λ t.
      let le = ltb-false w SLOTS t in
      let h : (get_or lanes (w - SLOTS) false ≡ true) × (get_or opens (w - SLOTS) false ≡ false) = rw t at p.here in
      g (w - SLOTS) (omega arith) (omega (arith, p.low)) h.0 h.1)

  pub waits-cell : (i : ℕ) → i < SLOTS → get_or cells i false ≡ true → Waits cells lanes opens i
  waits-cell i h e = record { low = omega arith; here = rw (place-cell i h) e }

  pub waits-lane : (l : ℕ) → l < LANES → get_or lanes l false ≡ true → get_or opens l false ≡ false → Waits cells lanes opens (SLOTS + l)
  waits-lane l h e f = record { low = omega arith; here = rw (place-lane l) (e, f) }

-- ---- the changes

module _ (cells lanes opens : List Bool) (n : ℕ) (q : List ℕ) (g : QueueGood cells lanes opens n q)
    (cells-long : length cells ≡ SLOTS) (lanes-long : length lanes ≡ LANES) (opens-long : length opens ≡ LANES) where
  -- as many wait as the table has rows, at most
  pub queue-most : n ≤ length q
  queue-most = omega (arith, g.long, g.counted, holds-le cells, holds-le lanes)

  -- one more, w, joins the end
  module _ (cells' lanes' opens' : List Bool) (w : ℕ) (room : n < ROWS)
      (still : (v : ℕ) → Waits cells lanes opens v → Waits cells' lanes' opens' v × Apart v w)
      (new : Waits cells' lanes' opens' w) (more : n + 1 + holds opens' ≡ holds cells' + holds lanes') where
    joins : QueueGood cells' lanes' opens' (n + 1) (set q n w)
    joins =
        let front = front-joined q n w (omega (arith, g.long)) in
        record {
          long = simp length-set g.long;
          each = rw front (all_snoc (Waits cells' lanes' opens') (take n q) w (all_map (Waits cells lanes opens) (Waits cells' lanes' opens') (λ v p. (still v p).0) (take n q) g.each) new);
          once = rw front (pairs-snoc Apart (take n q) w g.once (all_map (Waits cells lanes opens) (λ v. Apart v w) (λ v p. (still v p).1) (take n q) g.each));
          counted = more;
          past = λ k h. get_or-set_other q n k w 0 (λ e. omega arith) ∙ g.past k (omega arith);
        }

  -- the first one is taken off
  module _ (cells' lanes' opens' : List Bool) (some : 0 < n)
      (others : (v : ℕ) → Waits cells lanes opens v → Apart v (get_or q 0 0) → Waits cells' lanes' opens' v)
      (fewer : n - 1 + holds opens' ≡ holds cells' + holds lanes') where
    leaves : QueueGood cells' lanes' opens' (n - 1) (drop 1 q ++ 0 ∷ [])
    unfolding without
    leaves =
        let most = queue-most in
        let front = front-moved 0 q n some most in
        let first : get_or (take n q) 0 0 ≡ get_or q 0 0 = get_or-take n q 0 0 some in
        let in-front : 0 < length (take n q) = rw (length-take-le n q most) some in
        record {
          long = length_moved 0 q (omega arith) ∙ g.long;
          each =
              rw front
              (all_others Apart (Waits cells lanes opens) (Waits cells' lanes' opens') (take n q) 0 0 in-front g.once
              (λ v p r. others v p (rw first at r)) (λ v p r. others v p (λ e. (rw first at r) (sym e))) g.each);
          once = rw front (pairs-without Apart (take n q) 0 g.once);
          counted = fewer;
          past = λ k h. moved_up 0 q k ∙ g.past (suc k) (omega arith);
        }

  -- ---- a cell

  module _ (i : ℕ) (low : i < SLOTS) where
    module _ (free : get_or cells i false ≡ false) where
      more-cells : holds (set cells i true) + 0 ≡ holds cells + 1
      more-cells = rw free at (holds-set cells i true (omega arith))

      pub cell_room : n < ROWS
      cell_room = omega (arith, g.counted, more-cells, holds-le (set cells i true), length-set cells i true, holds-le lanes)

      pub cell-joins : QueueGood (set cells i true) lanes opens (n + 1) (set q n i)
      cell-joins =
          joins (set cells i true) lanes opens i cell_room
          (λ v p.
          by_kind cells lanes opens v p
          (λ h e. (waits-cell (set cells i true) lanes opens v h (held-still cells i v e), λ s. clash (cc (ap (λ (j : ℕ). get_or cells j false) s))))
          (λ l s h e f. (rw s (waits-lane (set cells i true) lanes opens l h e f), λ d. omega arith)))
          (waits-cell (set cells i true) lanes opens i low (get_or-set_same cells i true false (omega arith)))
          (omega (arith, g.counted, more-cells))

    pub cell-leaves : 0 < n → get_or q 0 0 ≡ i → get_or cells i false ≡ true → QueueGood (set cells i false) lanes opens (n - 1) (drop 1 q ++ 0 ∷ [])
    cell-leaves some first held =
        let less : holds (set cells i false) + 1 ≡ holds cells + 0 = rw held at (holds-set cells i false (omega arith)) in
        leaves (set cells i false) lanes opens some
        (λ v p other.
        by_kind cells lanes opens v p
        (λ h e. waits-cell (set cells i false) lanes opens v h (get_or-set_other cells i v false false (λ s. other (s ∙ sym first)) ∙ e))
        (λ l s h e f. rw s (waits-lane (set cells i false) lanes opens l h e f)))
        (omega (arith, g.counted, less))

  -- ---- a lane

  module _ (l : ℕ) (low : l < LANES) where
    -- one that is not whole, so that it does not wait
    module _ (not-whole : get_or lanes l false ≡ get_or opens l false) where
      -- the others wait on
      others-wait : (a b : Bool) (v : ℕ) → Waits cells lanes opens v → Waits cells (set lanes l a) (set opens l b) v × Apart v (SLOTS + l)
      others-wait a b v p =
          by_kind cells lanes opens v p
          (λ h e. (waits-cell cells (set lanes l a) (set opens l b) v h e, λ s. omega arith))
          (λ m s h e f.
          let other : m ≡ l → ⊥ = λ d. clash (cc (ap (λ (j : ℕ). get_or lanes j false) d, ap (λ (j : ℕ). get_or opens j false) d)) in (
            rw s (waits-lane cells (set lanes l a) (set opens l b) m h (get_or-set_other lanes l m a false other ∙ e) (get_or-set_other opens l m b false other ∙ f)),
            λ d. other (omega arith),
          ))

      -- held and not open count one more in the queue
      count_lane : (a b : Bool) → n + holds (set opens l b) + bit a ≡ holds cells + holds (set lanes l a) + bit b
      count_lane a b =
          let same : bit (get_or lanes l false) ≡ bit (get_or opens l false) = ap bit not-whole in
          omega (arith, g.counted, holds-set lanes l a (omega arith), holds-set opens l b (omega arith))

      pub lane_room : n < ROWS
      lane_room =
          omega (arith, count_lane true false, holds-le cells, holds-le (set lanes l true), length-set lanes l true)

      -- it is open again, or free
      pub lane-stays : (b : Bool) → QueueGood cells (set lanes l b) (set opens l b) n q
      lane-stays b =
          record {
            long = g.long;
            each = all_map (Waits cells lanes opens) (Waits cells (set lanes l b) (set opens l b)) (λ v p. (others-wait b b v p).0) (take n q) g.each;
            once = g.once;
            counted = omega (arith, count_lane b b);
            past = g.past;
          }

      -- it is whole
      pub lane-joins : QueueGood cells (set lanes l true) (set opens l false) (n + 1) (set q n (SLOTS + l))
      lane-joins =
          joins cells (set lanes l true) (set opens l false) (SLOTS + l) lane_room (others-wait true false)
          (waits-lane cells (set lanes l true) (set opens l false) l low (get_or-set_same lanes l true false (omega arith)) (get_or-set_same opens l false false (omega arith)))
          (omega (arith, count_lane true false))

    pub lane-leaves : 0 < n → get_or q 0 0 ≡ SLOTS + l → get_or lanes l false ≡ true → QueueGood cells (set lanes l false) opens (n - 1) (drop 1 q ++ 0 ∷ [])
    lane-leaves some first held =
        let less : holds (set lanes l false) + 1 ≡ holds lanes + 0 = rw held at (holds-set lanes l false (omega arith)) in
        leaves cells (set lanes l false) opens some
        (λ v p other.
        by_kind cells lanes opens v p
        (λ h e. waits-cell cells (set lanes l false) opens v h e)
        (λ m s h e f.
        rw s (waits-lane cells (set lanes l false) opens m h (get_or-set_other lanes l m false false (λ d. other (s ∙ ap (λ (j : ℕ). SLOTS + j) d ∙ sym first)) ∙ e) f)))
        (omega (arith, g.counted, less))
