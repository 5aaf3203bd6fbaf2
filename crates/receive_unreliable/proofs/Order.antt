-- Messages come out in order of completion, byte for byte: one that is taken, or whole, joins the end; a take hands out the first; nothing
-- else changes them. Assumes nothing.
use Prim.Native.Nat.{ℕ, zero, suc, ◌+◌, ◌-◌, ◌*◌, ◌≤◌, ◌<◌}
use mathlib.Core.Path.{◌≡◌, refl, sym, ap, ◌∙◌}
use mathlib.Core.Bool.{false}
use mathlib.Core.List.{List, [], ◌∷◌, ◌++◌, map, map-append}
use native.Mathlib.Omega.{arith}
use native.Mathlib.Nat.{mul-le-mul_right, suc-mul}
use borrow.Author.Tests.{ltb-true, ltb-false}
use lib.Dec.{ltb}
use lib.ListN.{length, get_or, set, take, drop}
use lib.Seq.{get_or-set_same, get_or-set_other, drop-cons, get_or-take, length-take-le}
use Rattle.words.specs.Sizes.{SLICE_SIZE, SLOTS, LANES}
use Rattle.words.specs.Lists.{splice, without}
use Rattle.words.proofs.Lists.{all_map, all_others}
use Rattle.words.proofs.Tables.{by-test, clash, pick-cases, part-before, part-after, part-here}
use Rattle.channel.specs.Settings.{small_len_of, lane_len_of}
use Rattle.slice_constructor.specs.declared.SliceConstructor.{SliceConstructor}
use Rattle.slice_constructor.specs.Collect as c
use Rattle.receive_unreliable.specs.Receive.{waiters, Place, place_of, at-cell, at-lane, shown_at, part_at, with_message_of, with_open, with_whole, is_whole, with_piece, lowest_open, goes_on_of, without_open, walk_state, at_time, without_cell, without_lane, Waits, Apart, Valid}
use Rattle.receive_unreliable.specs.Steps.{Fits}
use Rattle.receive_unreliable.specs.Views.{bytes_of, messages, after_piece_of}
use Rattle.receive_unreliable.specs.declared.ReceiveChannelUnreliable.{ReceiveChannelUnreliable}
use Rattle.receive_unreliable.proofs.Lists.{map_same, front-joined, front-moved}
use Rattle.receive_unreliable.proofs.Queue.{place-cell, place-lane, by_kind, queue-most}
use Rattle.receive_unreliable.proofs.Valid.{CellSpot, cell_row, row-free, lane_low, open-held, without-open-valid}
use Rattle.receive_unreliable.proofs.Walk.{lowest-here, lowest-open}

-- ---- bytes that stay

-- a part in one cell or lane, each m long, is not touched by a splice in another
pub elsewhere : (m w n i at : ℕ) (bs s : List ℕ) → n ≤ m → i * m ≤ at → at + length bs ≤ i * m + m → (w ≡ i → ⊥)
    → take n (drop (w * m) (splice at bs s)) ≡ take n (drop (w * m) s)
elsewhere m w n i at bs s h low high other =
    by-test (ltb w i)
    (λ t.
    let before : w * m + m ≤ i * m = rw suc-mul at (mul-le-mul_right m (ltb-true w i t)) in
    part-before (w * m) n at bs s (omega arith))
    (λ t.
    let le = ltb-false w i t in
    let after : i * m + m ≤ w * m = rw suc-mul at (mul-le-mul_right {m = suc i} {n = w} m (omega (arith, other))) in
    part-after (w * m) n at bs s (omega arith))

module _ (s : ReceiveChannelUnreliable) (v : Valid s) where
  -- what each that waits has, all have
  kept-all : (f g : ℕ → List ℕ) → ((w : ℕ) → Waits s.cells s.lanes s.opens w → f w ≡ g w) → map f (waiters s) ≡ map g (waiters s)
  kept-all f g e = map_same f g (waiters s) (all_map (Waits s.cells s.lanes s.opens) (λ w. f w ≡ g w) e (waiters s) v.queue.each)

  -- ---- a small message

  module _ (i : ℕ) (bs small lane : List ℕ) (room : small_len_of s.settings ≤ length small) (p : CellSpot s (length bs) i) where
    cell-kept : (w : ℕ) → Waits s.cells s.lanes s.opens w
        → bytes_of (with_message_of s i (length bs)) (splice (i * SLICE_SIZE) bs small) lane w ≡ bytes_of s small lane w
    unfolding with_message_of
    cell-kept w q =
        by_kind s.cells s.lanes s.opens w q
        (λ h e.
        let other : w ≡ i → ⊥ = λ d. clash (cc (ap (λ (j : ℕ). get_or s.cells j false) d, p.free)) in
        rw (place-cell w h, get_or-set_other s.cell_lens i w (length bs) 0 other)
        (elsewhere SLICE_SIZE w (get_or s.cell_lens w 0) i (i * SLICE_SIZE) bs small (v.cell w h).small (omega arith) (omega (arith, p.short)) other))
        (λ l d h e f. rw (d, place-lane l))

    pub message-last : messages (with_message_of s i (length bs)) (splice (i * SLICE_SIZE) bs small) lane ≡ messages s small lane ++ bs ∷ []
    unfolding messages with_message_of
    message-last =
        let low : i < SLOTS = omega (arith, p.low, v.settings.slots-most) in
        let small' : List ℕ = splice (i * SLICE_SIZE) bs small in
        let here : bytes_of (with_message_of s i (length bs)) small' lane i ≡ bs =
        rw (place-cell i low, get_or-set_same s.cell_lens i (length bs) 0 (omega (arith, v.cell-lens-long))) (part-here (i * SLICE_SIZE) bs small (omega (arith, p.low, p.short))) in
        ap (map (bytes_of (with_message_of s i (length bs)) small' lane)) (front-joined s.queue s.count i (omega (arith, v.queue.long, cell_row s v (length bs) i p)))
        ∙ map-append (bytes_of (with_message_of s i (length bs)) small' lane) (waiters s) (i ∷ [])
        ∙ rw (kept-all (bytes_of (with_message_of s i (length bs)) small' lane) (bytes_of s small lane) cell-kept, here)

  -- ---- a lane that does not wait

  module _ (l : ℕ) (low : l < LANES) (not-whole : get_or s.lanes l false ≡ get_or s.opens l false) (small lane lane' : List ℕ)
      (same : (m n : ℕ) → (m ≡ l → ⊥) → n ≤ lane_len_of s.settings → take n (drop (m * lane_len_of s.settings) lane') ≡ take n (drop (m * lane_len_of s.settings) lane)) where
    -- the others are as they were, whatever becomes of it
    lane-kept : (u : ReceiveChannelUnreliable) (n : ℕ) → u.settings ≡ s.settings → u.cell_lens ≡ s.cell_lens → u.lane_lens ≡ set s.lane_lens l n
        → (w : ℕ) → Waits s.cells s.lanes s.opens w → bytes_of u small lane' w ≡ bytes_of s small lane w
    lane-kept u n es ec el w q =
        by_kind s.cells s.lanes s.opens w q
        (λ h e. rw (place-cell w h, ec))
        (λ m d h e f.
        let other : m ≡ l → ⊥ = λ x. clash (cc (ap (λ (j : ℕ). get_or s.lanes j false) x, ap (λ (j : ℕ). get_or s.opens j false) x, not-whole)) in
        rw (d, place-lane m, es, el, get_or-set_other s.lane_lens l m n 0 other) (same m (get_or s.lane_lens m 0) other (v.lane m h).long))

    pub open-same : (k : SliceConstructor) (t : ℕ) → messages (with_open s l k t) small lane' ≡ messages s small lane
    unfolding messages with_open
    open-same k t = kept-all (bytes_of (with_open s l k t) small lane') (bytes_of s small lane) (lane-kept (with_open s l k t) (SLICE_SIZE * k.num_slices) refl refl refl)

    pub drop-same : messages (without_open s l) small lane' ≡ messages s small lane
    unfolding messages without_open
    drop-same = kept-all (bytes_of (without_open s l) small lane') (bytes_of s small lane) (lane-kept (without_open s l) 0 refl refl refl)

    -- one that is whole then joins the end
    pub whole-last : (n t : ℕ) → messages (with_whole s l n t) small lane' ≡ messages s small lane ++ take n (drop (l * lane_len_of s.settings) lane') ∷ []
    unfolding messages with_whole
    whole-last n t =
        let f : ℕ → List ℕ = bytes_of (with_whole s l n t) small lane' in
        let here : f (SLOTS + l) ≡ take n (drop (l * lane_len_of s.settings) lane') =
        rw (place-lane l, get_or-set_same s.lane_lens l n 0 (omega (arith, v.lane-lens-long))) in
        ap (map f) (front-joined s.queue s.count (SLOTS + l) (omega (arith, v.queue.long, row-free s v l low not-whole)))
        ∙ map-append f (waiters s) ((SLOTS + l) ∷ [])
        ∙ rw (kept-all f (bytes_of s small lane) (lane-kept (with_whole s l n t) n refl refl refl), here)

  -- ---- the first is taken off

  module _ (small lane : List ℕ) (some : 0 < s.count) (u : ReceiveChannelUnreliable) (ec : u.count ≡ s.count - 1) (eq : u.queue ≡ drop 1 s.queue ++ 0 ∷ [])
      (others : (w : ℕ) → Waits s.cells s.lanes s.opens w → Apart w (get_or s.queue 0 0) → bytes_of u small lane w ≡ bytes_of s small lane w) where
    first_out : messages s small lane ≡ bytes_of s small lane (get_or s.queue 0 0) ∷ messages u small lane
    unfolding messages without
    first_out =
        let most = queue-most s.cells s.lanes s.opens s.count s.queue v.queue v.cells-long v.lanes-long v.opens-long in
        let in-front : 0 < length (waiters s) = rw (length-take-le s.count s.queue most) some in
        let first : get_or (waiters s) 0 0 ≡ get_or s.queue 0 0 = get_or-take s.count s.queue 0 0 some in
        let rest : waiters u ≡ drop 1 (waiters s) = rw (ec, eq) (front-moved 0 s.queue s.count some most) in
        let kept : map (bytes_of u small lane) (drop 1 (waiters s)) ≡ map (bytes_of s small lane) (drop 1 (waiters s)) =
        map_same (bytes_of u small lane) (bytes_of s small lane) (drop 1 (waiters s))
        (all_others Apart (Waits s.cells s.lanes s.opens) (λ w. bytes_of u small lane w ≡ bytes_of s small lane w) (waiters s) 0 0 in-front v.queue.once
        (λ w p r. others w p (rw first at r)) (λ w p r. others w p (λ e. (rw first at r) (sym e))) v.queue.each) in
        ap (map (bytes_of s small lane)) (drop-cons (waiters s) 0 0 in-front)
        ∙ ap (λ (w : ℕ). bytes_of s small lane w ∷ map (bytes_of s small lane) (drop 1 (waiters s))) first
        ∙ ap (λ (l : List (List ℕ)). bytes_of s small lane (get_or s.queue 0 0) ∷ l) (sym (rw rest kept))

  pub cell-first : (small lane : List ℕ) (i : ℕ) → 0 < s.count → get_or s.queue 0 0 ≡ i → i < SLOTS
      → messages s small lane ≡ part_at (shown_at s (at-cell i)) small lane ∷ messages (without_cell s i) small lane
  unfolding without_cell
  cell-first small lane i some first low =
      first_out small lane some (without_cell s i) refl refl
      (λ w q other.
      by_kind s.cells s.lanes s.opens w q
      (λ h e. rw (place-cell w h, get_or-set_other s.cell_lens i w 0 0 (λ d. other (d ∙ sym first))))
      (λ l d h e f. rw (d, place-lane l)))
      ∙ ap (λ (p : Place). part_at (shown_at s p) small lane ∷ messages (without_cell s i) small lane) (ap place_of first ∙ place-cell i low)

  pub lane_first : (small lane : List ℕ) (l : ℕ) → 0 < s.count → get_or s.queue 0 0 ≡ SLOTS + l
      → messages s small lane ≡ part_at (shown_at s (at-lane l)) small lane ∷ messages (without_lane s l) small lane
  unfolding without_lane
  lane_first small lane l some first =
      first_out small lane some (without_lane s l) refl refl
      (λ w q other.
      by_kind s.cells s.lanes s.opens w q
      (λ h e. rw (place-cell w h))
      (λ m d h e f. rw (d, place-lane m, get_or-set_other s.lane_lens l m 0 0 (λ x. other (d ∙ ap (λ (j : ℕ). SLOTS + j) x ∙ sym first)))))
      ∙ ap (λ (p : Place). part_at (shown_at s p) small lane ∷ messages (without_lane s l) small lane) (ap place_of first ∙ place-lane l)

-- ---- a piece: what the stores of other lanes hold stays

module _ (s : ReceiveChannelUnreliable) (v : Valid s) (l : ℕ) (k : SliceConstructor) (t : ℕ) (f : Fits s l k t) (small lane lane' : List ℕ)
    (same : (m n : ℕ) → (m ≡ l → ⊥) → n ≤ lane_len_of s.settings → take n (drop (m * lane_len_of s.settings) lane') ≡ take n (drop (m * lane_len_of s.settings) lane)) where
  pub piece-order : messages (with_piece s l k t) small lane' ≡ after_piece_of s l k small lane lane'
  unfolding with_piece
  piece-order =
      let low = lane_low s v l k t f in
      by-test (is_whole k)
      (λ e. rw e (whole-last s v l low f.not-whole small lane lane' same (c.whole_len k) t))
      (λ e. rw e (open-same s v l low f.not-whole small lane lane' same k t))

-- ---- a walk

pub walk-order : (n t : ℕ) (s : ReceiveChannelUnreliable) → Valid s → (small lane : List ℕ) → messages (walk_state n t s) small lane ≡ messages s small lane
unfolding walk_state
walk-order zero t s v small lane = refl
walk-order (suc n) t s v small lane =
    pick-cases (λ u. messages u small lane ≡ messages s small lane) (goes_on_of s t)
    (λ on.
    let low = lowest-here s t on in
    let begun = lowest-open s v low in
    let l : ℕ = lowest_open s in
    walk-order n t (without_open s l) (without-open-valid s v l low begun) small lane
    ∙ drop-same s v l low (open-held s v l low begun ∙ sym begun) small lane lane (λ m j o h. refl))
    (λ _. refl)

pub time-order : (s : ReceiveChannelUnreliable) → Valid s → (t : ℕ) (small lane : List ℕ) → messages (at_time s t) small lane ≡ messages s small lane
unfolding messages at_time
time-order s v t small lane =
    kept-all s v (bytes_of (at_time s t) small lane) (bytes_of s small lane) (λ w q.
    by_kind s.cells s.lanes s.opens w q (λ h e. rw (place-cell w h)) (λ l d h e f. rw (d, place-lane l)))
