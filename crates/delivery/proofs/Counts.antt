-- How much the receiver holds: no more than the messages that it began with, of which each began once. So nothing is refused where all that was
-- queued has room. Assumes nothing.
use Prim.Native.Nat.{ℕ, ◌*◌, ◌≤◌, ◌<◌}
use mathlib.Core.Path.{◌≡◌, refl, sym, ap, ◌∙◌, subst}
use mathlib.Core.Bool.{Bool, true, false}
use mathlib.Core.List.{List, [], ◌∷◌, ◌++◌}
use mathlib.Core.Logic.{inl, inr}
use native.Mathlib.Omega.{arith}
use lib.ListN.{length, get_or, get_elem?, length-append, get_or-append}
use borrow.Author.Tests.{ltb-true, le-leb, lt-leb}
use Rattle.words.specs.Sizes.{SLICE_SIZE, SLOTS, LANES}
use Rattle.words.specs.Choice.{pick}
use Rattle.words.specs.Pieces.{pieces_of}
use Rattle.words.specs.Lists.{holds, total, All, Pairs}
use Rattle.words.proofs.Lists.{all_map, holds_more}
use Rattle.words.proofs.Tables.{by-test}
use Rattle.channel.proofs.Held.{Here}
use Rattle.slice_constructor.specs.Collect as c
use Rattle.slice_constructor.proofs.Valid as cv
use Rattle.receive_reliable.specs.Receive.{cell_of, lane_of, in_cell_of, in_lane_of, is_held, ignores, constructor_at, MessageSpot, message_state, with_message_of, SliceSpot, slice_state, with_lane_of, without_cell, without_lane, after_take, Valid}
use Rattle.receive_reliable.specs.declared.ReceiveChannelReliable.{ReceiveChannelReliable}
use Rattle.receive_reliable.proofs.Valid.{charge-most, lane-used}
use Rattle.receive_reliable.proofs.Spots.{lane_here, spot-cell, open-fits, fresh-fits}
use Rattle.receive_reliable.proofs.Gives.{fits-taken}
use Rattle.delivery.specs.World.{Bytes, Part, whole, piece, Handed, message, slice, Receiving, receives}
use Rattle.delivery.specs.Statements.{is_small}
use Rattle.delivery.proofs.Lists.{same_some, at_low, at-get_or, never}
use Rattle.delivery.proofs.Receiver.{Queued, PieceOf, Sound, Has}
use Rattle.delivery.proofs.Spots as spots
use Rattle.delivery.proofs.Spots.{message-kept, slice-placed}
use Rattle.delivery.proofs.Taken.{HeldId, ArrivedAt, id_of, take_on, message-onward, slice-onward, message-now, now-on-lane, goes-fresh, no_cell, not-held, fresh-free, open-part}
use Rattle.delivery.proofs.Sums.{Differ, holds-set-false, holds-set-held}

-- what a message takes, and of which kind it is
abbrev pub charge_of : Bytes → ℕ
charge_of m = pick (is_small m) (length m) (SLICE_SIZE * pieces_of (length m))

abbrev pub small_of : Bytes → ℕ
small_of m = pick (is_small m) 1 0

abbrev pub sliced_of : Bytes → ℕ
sliced_of m = pick (is_small m) 0 1

-- a piece of message id arrived
abbrev pub Started : ReceiveChannelReliable → ℕ → Type 0
Started s id = (p : Part) × (id_of p ≡ id) × ArrivedAt s p

pub record Counts (q : List Bytes) (s : ReceiveChannelReliable) : Type 0 where
  pub ids : List ℕ
  pub apart : Pairs Differ ids
  pub low : All (λ id. id < length q) ids
  pub started : All (Started s) ids
  pub memory : s.memory_usage_bytes ≤ total (λ id. charge_of (get_or q id [])) ids
  pub cells : holds s.cells ≤ total (λ id. small_of (get_or q id [])) ids
  pub lanes : holds s.lanes ≤ total (λ id. sliced_of (get_or q id [])) ids

-- more is queued
total-more : (f : Bytes → ℕ) (q more : List Bytes) (ids : List ℕ) → All (λ id. id < length q) ids → total (λ id. f (get_or (q ++ more) id [])) ids ≡ total (λ id. f (get_or q id [])) ids
unfolding total All
total-more f q more [] a = refl
total-more f q more (id ∷ ids) a = rw (get_or-append q more [] id a.0, total-more f q more ids a.1)

pub counts-more : (q more : List Bytes) (s : ReceiveChannelReliable) → Counts q s → Counts (q ++ more) s
counts-more q more s h =
    record {
      ids = h.ids;
      apart = h.apart;
      low = all_map _ _ (λ id l. let z = length-append q more in omega arith) h.ids h.low;
      started = h.started;
      memory = rw (total-more charge_of q more h.ids h.low) h.memory;
      cells = rw (total-more small_of q more h.ids h.low) h.cells;
      lanes = rw (total-more sliced_of q more h.ids h.low) h.lanes;
    }

pub small_is : (m : Bytes) → length m ≤ SLICE_SIZE → is_small m ≡ true
small_is m h = le-leb _ _ h

pub sliced-is : (m : Bytes) → SLICE_SIZE < length m → is_small m ≡ false
sliced-is m h = lt-leb _ _ h

module _ (q : List Bytes) (e : Receiving) (has : Has q e.state e.small e.lanes) (h : Counts q e.state) where
  abbrev s : ReceiveChannelReliable
  s = e.state

  -- a small message has no lane
  pub no-lane : (id : ℕ) (bs : Bytes) → Queued q id bs → length bs ≤ SLICE_SIZE → in_lane_of s id ≡ false
  no-lane id bs queued short =
      by-test (in_lane_of s id)
      (λ t.
      let found = lane_here s id has.valid t in
      let x = has.lane (lane_of s id) (ltb-true (lane_of s id) LANES t) found.held in
      let same : x.msg ≡ bs = same_some (get_elem? q id) (ap (get_elem? q) (sym found.named) ∙ x.queued) queued in
      absurd (omega (arith, ap length same, x.long)))
      (λ t. t)

  -- an id that is neither old, nor held, nor open did not begin
  pub new-id : (id : ℕ) → ignores s id ≡ false → in_lane_of s id ≡ false → All (Differ id) h.ids
  new-id id ni nl = all_map _ (Differ id) (λ x st q. at st.0 (st.1 ∙ sym q) st.2) h.ids h.started
    where
      at : (p : Part) → id_of p ≡ id → ArrivedAt s p → ⊥
      at (whole x) z k = not-held s id ni (subst (HeldId s) z k)
      at (piece x j) z (inl k) = not-held s id ni (subst (HeldId s) z k)
      at (piece x j) z (inr k) = never _ (subst (λ (m : ℕ). in_lane_of s m ≡ true) z k.0) nl

  -- ---- one more

  message-counts : (id : ℕ) (bs : Bytes) → Queued q id bs → length bs ≤ SLICE_SIZE → {x : MessageSpot}
      → spots.Kept s id (length bs) (length e.small) (length e.lanes) x → Counts q (message_state s id (length bs) x)
  unfolding with_message_of total All Pairs
  message-counts id bs queued short (spots.in_cell i ni z) =
      let v = has.valid in
      let p = (spot-cell s v id (length bs) (length e.small) (length e.lanes) i z).1 in
      let low : i < SLOTS = omega (arith, p.low, v.settings.slots-most) in
      let k = spots.in_cell i ni z in
      let d : get_or q id [] ≡ bs = at-get_or q id [] queued in
      let t = small_is bs short in
      let c₁ : charge_of (get_or q id []) ≡ length bs = rw (d, t) in
      let c₂ : small_of (get_or q id []) ≡ 1 = rw (d, t) in
      let m = holds_more s.cells i (omega (arith, v.cells-long)) p.free in
      record {
        ids = id ∷ h.ids;
        apart = (new-id id ni (no-lane id bs queued short), h.apart);
        low = (at_low q id queued, h.low);
        started = (
          (whole id, refl, inr (message-now s v i id (length bs) low p.free (no_cell s id ni))),
          all_map _ _ (λ x st. (st.0, st.1, message-onward e v id bs k st.0 st.2)) h.ids h.started,
        );
        memory = omega (arith, h.memory, c₁);
        cells = omega (arith, h.cells, c₂, m);
        lanes = omega (arith, h.lanes);
      }
  message-counts id bs queued short (spots.Kept.held-already z) = h
  message-counts id bs queued short (spots.Kept.turned-away n) = h

  slice-counts : (id num i : ℕ) (bs : Bytes) → PieceOf q id num i bs → {x : SliceSpot}
      → spots.Placed s id num i (length bs) (length e.small) (length e.lanes) x → Counts q (slice_state s id num i (length bs) x)
  unfolding with_lane_of total All Pairs c.blank_of
  slice-counts id num i bs sound (spots.in-open l el ni il en ls ok) =
      let v = has.valid in
      let k = spots.in-open l el ni il en ls ok in
      let f = (open-fits s v id num (length e.small) (length e.lanes) l ls).1 in
      let low : l < LANES = omega (arith, f.low, v.settings.lanes-most) in
      let there : Here s.lanes s.lane_ids id l = subst (Here s.lanes s.lane_ids id) (sym el) (lane_here s id v il) in
      let w : get_or s.whole l false ≡ false = ap (λ (m : ℕ). get_or s.whole m false) el ∙ open-part s id ni il in
      let g = fits-taken s l id (constructor_at s l) f i (length bs) ok in
      let most = charge-most (c.taken (constructor_at s l) i (length bs)) g.valid g.one in
      let n = cv.taken-num (constructor_at s l) i (length bs) in
      let len = ((v.lane l low).opened there.held w).3 in
      let used = lane-used s v l low in
      let m = holds-set-held s.lanes l there.held in
      record {
        ids = h.ids;
        apart = h.apart;
        low = h.low;
        started = all_map _ _ (λ x st. (st.0, st.1, slice-onward e v id num i bs k st.0 st.2)) h.ids h.started;
        memory = omega (arith, h.memory);
        cells = h.cells;
        lanes = omega (arith, h.lanes);
      }
  slice-counts id num i bs sound (spots.in-fresh l el ni il ls ok) =
      let v = has.valid in
      let k = spots.in-fresh l el ni il ls ok in
      let f = (fresh-fits s v id num (length e.small) (length e.lanes) l ls).1 in
      let low : l < LANES = omega (arith, f.low, v.settings.lanes-most) in
      let free = fresh-free s v l el f.low in
      let g = fits-taken s l id (c.blank_of id num) f i (length bs) ok in
      let most = charge-most (c.taken (c.blank_of id num) i (length bs)) g.valid g.one in
      let n = cv.taken-num (c.blank_of id num) i (length bs) in
      let len = ((v.lane l low).blank free).2 in
      let m = holds_more s.lanes l (omega (arith, v.lanes-long)) free in
      let d : get_or q id [] ≡ sound.msg = at-get_or q id [] sound.queued in
      let t = sliced-is sound.msg sound.long in
      let c₁ : charge_of (get_or q id []) ≡ SLICE_SIZE * pieces_of (length sound.msg) = rw (d, t) in
      let c₂ : sliced_of (get_or q id []) ≡ 1 = rw (d, t) in
      record {
        ids = id ∷ h.ids;
        apart = (new-id id ni il, h.apart);
        low = (at_low q id sound.queued, h.low);
        started = (
          (piece id i, refl, now-on-lane e v id i l (length bs) _ (c.blank_of id num) (goes-fresh e v id num l el il ls) ok),
          all_map _ _ (λ x st. (st.0, st.1, slice-onward e v id num i bs k st.0 st.2)) h.ids h.started,
        );
        memory = omega (arith, h.memory, c₁, sound.num-is);
        cells = omega (arith, h.cells);
        lanes = omega (arith, h.lanes, c₂, m);
      }
  slice-counts id num i bs sound (spots.Placed.held-already z) = h
  slice-counts id num i bs sound (spots.Placed.turned-away n) = h

  pub receives-counts : (x : Handed) → Sound q x → Counts q (receives e x).state
  unfolding receives
  receives-counts (message id bs) sound = message-counts id bs sound.0 sound.1 (message-kept s id (length bs) (length e.small) (length e.lanes))
  receives-counts (slice id num i bs) sound = slice-counts id num i bs sound (slice-placed s id num i (length bs) (length e.small) (length e.lanes))

-- ---- a take

taken-less : (s : ReceiveChannelReliable)
    → ((after_take s).memory_usage_bytes ≤ s.memory_usage_bytes) × (holds (after_take s).cells ≤ holds s.cells) × (holds (after_take s).lanes ≤ holds s.lanes)
unfolding after_take without_cell without_lane
taken-less s = at (in_cell_of s s.oldest_pending_message_id) (is_held s s.oldest_pending_message_id)
  where
    at : (a b : Bool) → let t = pick a (without_cell s (cell_of s s.oldest_pending_message_id)) (pick b (without_lane s (lane_of s s.oldest_pending_message_id)) s) in
        (t.memory_usage_bytes ≤ s.memory_usage_bytes) × (holds t.cells ≤ holds s.cells) × (holds t.lanes ≤ holds s.lanes)
    at true b = (omega arith, holds-set-false s.cells (cell_of s s.oldest_pending_message_id), omega arith)
    at false true = (omega arith, omega arith, holds-set-false s.lanes (lane_of s s.oldest_pending_message_id))
    at false false = (omega arith, omega arith, omega arith)

pub take-counts : (q : List Bytes) (s : ReceiveChannelReliable) → Valid s → Counts q s → Counts q (after_take s)
take-counts q s v h =
    record {
      ids = h.ids;
      apart = h.apart;
      low = h.low;
      started = all_map _ _ (λ x st. (st.0, st.1, take_on s v st.0 st.2)) h.ids h.started;
      memory = let z = (taken-less s).0 in omega (arith, h.memory);
      cells = let z = (taken-less s).1 in omega (arith, h.cells);
      lanes = let z = (taken-less s).2 in omega (arith, h.lanes);
    }
