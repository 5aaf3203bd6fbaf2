-- What the place of a message, of a piece and of the next one out say of the state. Assumes nothing.
use Rattle.std.specs.Prelude.{Option, Some, None}
use Prim.Native.Nat.{ℕ, ◌+◌, ◌*◌, ◌≤◌, ◌<◌}
use mathlib.Core.Path.{◌≡◌, refl, sym, ap, ◌∙◌, subst}
use mathlib.Core.Bool.{Bool, true, false, not}
use mathlib.Core.List.{[], ◌∷◌}
use native.Mathlib.Omega.{arith}
use borrow.Author.Tests.{ltb-true, ltb-false, leb-false, eqb-true, eqb-false, not-true, not-false, eq-eqb, ne_eqb}
use lib.Dec.{ltb, leb, eqb}
use lib.ListN.{length, get_or}
use lib.Seq.{get_or-take, length-take-le}
use Rattle.words.specs.Sizes.{SLICE_SIZE, SLOTS, LANES, LIMIT}
use Rattle.words.specs.Choice.{pick}
use Rattle.words.specs.Lists.{All, lowest_free_of}
use Rattle.words.proofs.Lists.{hit-below, none-refused, all-at}
use Rattle.words.proofs.Tables.{pick-cases, by-test, clash}
use Rattle.channel.specs.Settings.{small_len_of, lanes_len_of, stores_hold_of}
use Rattle.channel.proofs.Good.{lane-within, stores-room}
use Rattle.channel.proofs.Held.{Here, found}
use Rattle.slice_constructor.specs.Collect as c
use Rattle.slice_constructor.proofs.Valid as cv
use Rattle.receive_unreliable.specs.Receive.{lane_of, is_open_of, constructor_at, waiters, Place, at-cell, at-lane, no_place, place_of, next_place, refused, message_refusal, MessageSpot, cell, nowhere, message_spot, entry_refusal, SliceSpot, opened, fresh, nothing, open_lane, fresh_lane, lane_spot, Waiting, message, none-waiting, refusing, shown_at, look_at, Waits, Valid}
use Rattle.receive_unreliable.specs.Steps.{opened_by, opened_in, Fits}
use Rattle.receive_unreliable.specs.declared.ReceiveChannelUnreliable.{ReceiveChannelUnreliable}
use Rattle.channel.specs.declared.Store.TheVariants.{Small, Lanes}
use Rattle.channel.specs.declared.Opened.{Opened}
use Rattle.receive_unreliable.proofs.Queue.{place-cell, place-lane, by_kind, queue-most}
use Rattle.receive_unreliable.proofs.Valid.{CellSpot, lane-used, open-held}

-- ---- the next one out

-- the first of the queue is a held cell or a whole lane, of those that the settings ask for
unfoldable pub Lies : ReceiveChannelUnreliable → Place → Type 0
Lies s (at-cell i) = (0 < s.count) × (get_or s.queue 0 0 ≡ i) × (i < s.settings.slots) × (get_or s.cells i false ≡ true)
Lies s (at-lane l) = (0 < s.count) × (get_or s.queue 0 0 ≡ SLOTS + l) × (l < s.settings.lanes) × (get_or s.lanes l false ≡ true) × (get_or s.opens l false ≡ false)
Lies s no_place = s.count ≡ 0

-- it is one that waits
pub first-waits : (s : ReceiveChannelUnreliable) → Valid s → (s.count ≡ 0 → ⊥) → (0 < s.count) × Waits s.cells s.lanes s.opens (get_or s.queue 0 0)
first-waits s v none =
    let some : 0 < s.count = omega (arith, none) in
    let most = queue-most s.cells s.lanes s.opens s.count s.queue v.queue v.cells-long v.lanes-long v.opens-long in
    let in-front : 0 < length (waiters s) = rw (length-take-le s.count s.queue most) some in
    (some, rw (get_or-take s.count s.queue 0 0 some) at (all-at (Waits s.cells s.lanes s.opens) (waiters s) 0 0 in-front v.queue.each))

pub lies : (s : ReceiveChannelUnreliable) → Valid s → Lies s (next_place s)
unfolding next_place Lies
lies s v =
    let first : ℕ = get_or s.queue 0 0 in
    pick-cases (Lies s) (eqb s.count 0)
    (λ e. eqb-true s.count 0 e)
    (λ e.
    let w = first-waits s v (eqb-false s.count 0 e) in
    let some : 0 < s.count = w.0 in
    by_kind s.cells s.lanes s.opens first w.1
    (λ low held. subst (Lies s) (sym (place-cell first low)) (some, refl, (v.cell first low).within held, held))
    (λ l d low held shut. subst (Lies s) (sym (ap place_of d ∙ place-lane l)) (some, d, (v.lane l low).within held, held, shut)))

module _ (s : ReceiveChannelUnreliable) (v : Valid s) where
  pub cell_lies : (i : ℕ) → at-cell i ≡ next_place s → Lies s (at-cell i)
  cell_lies i e = subst (Lies s) (sym e) (lies s v)

  pub lane_lies : (l : ℕ) → at-lane l ≡ next_place s → Lies s (at-lane l)
  lane_lies l e = subst (Lies s) (sym e) (lies s v)

-- ---- what a look shows lies within its store

unfoldable pub Within : ℕ → ℕ → Waiting → Type 0
Within small lane (message Small place len) = place + len ≤ small
Within small lane (message Lanes place len) = place + len ≤ lane
Within small lane none-waiting = Unit
Within small lane (refusing e) = Unit

module _ (s : ReceiveChannelUnreliable) (v : Valid s) (small lane : ℕ) where
  shown-within : small_len_of s.settings ≤ small → lanes_len_of s.settings ≤ lane → (p : Place) → Lies s p → Within small lane (shown_at s p)
  unfolding Lies Within
  shown-within a b (at-cell i) h =
      let low : i < s.settings.slots = h.2 in
      omega (arith, (v.cell i (omega (arith, v.settings.slots-most))).small)
  shown-within a b (at-lane l) h =
      let low : l < s.settings.lanes = h.2 in
      omega (arith, (v.lane l (omega (arith, v.settings.lanes-most))).long, lane-within s.settings l low)
  shown-within a b no_place h = tt

  pub look-within : Within small lane (look_at s small lane)
  unfolding look_at Within
  look-within =
      pick-cases (Within small lane) (stores_hold_of s.settings small lane)
      (λ e. let r = stores-room s.settings small lane e in shown-within r.0 r.1 (next_place s) (lies s v))
      (λ _. tt)

-- ---- a small message

unfoldable pub MessageSays : ReceiveChannelUnreliable → ℕ → ℕ → MessageSpot → Type 0
MessageSays s n small (cell i) = (small_len_of s.settings ≤ small) × CellSpot s n i
MessageSays s n small (nowhere o) = Unit

-- where it goes to a cell, that is free, and the message fits
pub message-says : (s : ReceiveChannelUnreliable) → Valid s → (n small lane : ℕ) → MessageSays s n small (message_spot s n small lane)
unfolding MessageSays message_spot message_refusal All
message-says s v n small lane =
    let l : ℕ = lowest_free_of s.cells s.settings.slots in
    pick-cases (MessageSays s n small) (eqb (message_refusal s n small lane) 0)
    (λ good.
    let a = none-refused ((not (stores_hold_of s.settings small lane), 10) ∷ (ltb SLICE_SIZE n, 12) ∷ []) refl (eqb-true _ _ good) in
    let stores = stores-room s.settings small lane (not-false _ a.0) in
    pick-cases (MessageSays s n small) (ltb s.settings.max_memory_usage_bytes (s.memory_usage_bytes + n))
    (λ _. tt)
    (λ memory.
    pick-cases (MessageSays s n small) (leb s.settings.slots l)
    (λ _. tt)
    (λ room.
    let low : l < s.settings.slots = leb-false _ _ room in
    let hit : not (get_or s.cells l false) ≡ true = hit-below not false s.cells s.settings.slots (omega (arith, v.settings.slots-most, v.cells-long)) low in
    (stores.0, record { low = low; free = not-true _ hit; short = ltb-false _ _ a.1.0; memory = ltb-false _ _ memory }))))
    (λ _. tt)

pub spot-cell : (s : ReceiveChannelUnreliable) → Valid s → (n small lane i : ℕ) → message_spot s n small lane ≡ cell i → (small_len_of s.settings ≤ small) × CellSpot s n i
unfolding MessageSays
spot-cell s v n small lane i e = subst (MessageSays s n small) e (message-says s v n small lane)

-- ---- a piece

-- what is so where it is not refused outright
pub record Entered (s : ReceiveChannelUnreliable) (id num t lane : ℕ) : Type 0 where
  pub lane_room : lanes_len_of s.settings ≤ lane
  pub below : id < LIMIT
  pub later : s.latest ≤ t
  pub some : 1 ≤ num
  pub most : num ≤ s.settings.pieces

entered : (s : ReceiveChannelUnreliable) (id num t small lane : ℕ) → entry_refusal s id num t small lane ≡ 0 → Entered s id num t lane
unfolding entry_refusal All
entered s id num t small lane e =
    let a =
    none-refused (
    (not (stores_hold_of s.settings small lane), 10) ∷
    (leb LIMIT id, 13) ∷
    (ltb t s.latest, 14) ∷
    (eqb num 0, 8) ∷
    (ltb s.settings.pieces num, 12) ∷ []
    )
    refl e in
    let other : num ≡ 0 → ⊥ = eqb-false _ _ a.1.1.1.0 in
    record {
      lane_room = (stores-room s.settings small lane (not-false _ a.0)).1;
      below = leb-false _ _ a.1.0;
      later = ltb-false _ _ a.1.1.0;
      some = omega (arith, other);
      most = ltb-false _ _ a.1.1.1.1.0;
    }

-- the lane of an open id
pub lane_here : (s : ReceiveChannelUnreliable) → Valid s → (id : ℕ) → lane_of s id < LANES → Here s.opens s.lane_ids id (lane_of s id)
lane_here s v id low = found s.opens s.lane_ids id (v.opens-long ∙ sym v.lane-ids-long) (omega (arith, v.opens-long))

at_open : (b : Bool) (m n l x : ℕ) → pick {A = Option Opened} b (Some (record { lane = m; charge = n })) None ≡ Some (record { lane = l; charge = x }) → (b ≡ true) × (m ≡ l) × (n ≡ x)
at_open true m n l x e =
    let o : ◌≡◌ {A = Opened} (record { lane = m; charge = n }) (record { lane = l; charge = x }) = cc in
    (refl, ap (λ (p : Opened). p.lane) o, ap (λ (p : Opened). p.charge) o)
at_open false m n l x e = clash (cc)

at_none : (b : Bool) (m n : ℕ) → pick {A = Option Opened} b (Some (record { lane = m; charge = n })) None ≡ None → b ≡ false
at_none true m n e = clash (cc)
at_none false m n e = refl

module _ (s : ReceiveChannelUnreliable) (id : ℕ) where
  pub in-open : (l n : ℕ) → opened_in s id ≡ Some (record { lane = l; charge = n }) → (is_open_of s id ≡ true) × (lane_of s id < LANES) × (lane_of s id ≡ l) × (get_or s.lane_lens (lane_of s id) 0 ≡ n)
  unfolding opened_by
  in-open l n e = let t = at_open (is_open_of s id) (lane_of s id) (get_or s.lane_lens (lane_of s id) 0) l n e in (t.0, ltb-true _ _ t.0, t.1, t.2)

  pub in-none : opened_in s id ≡ None → is_open_of s id ≡ false
  unfolding opened_by
  in-none e = at_none (is_open_of s id) (lane_of s id) (get_or s.lane_lens (lane_of s id) 0) e

-- its charge tells its pieces
pub open-count : (s : ReceiveChannelUnreliable) → Valid s → (id num : ℕ) → lane_of s id < LANES
    → pick (eqb (get_or s.lane_lens (lane_of s id) 0) (SLICE_SIZE * num)) (opened (lane_of s id)) (nothing (refused 8)) ≡ open_lane s (lane_of s id) num
unfolding open_lane
open-count s v id num low =
    let l : ℕ = lane_of s id in
    let charged : get_or s.lane_lens l 0 ≡ SLICE_SIZE * (constructor_at s l).num_slices = ((v.lane l low).opened (lane_here s v id low).held).charged in
    by-test (eqb (constructor_at s l).num_slices num)
    (λ e. rw (e, eq-eqb _ _ (charged ∙ ap (λ (n : ℕ). SLICE_SIZE * n) (eqb-true _ _ e))))
    (λ e. let other : (constructor_at s l).num_slices ≡ num → ⊥ = eqb-false _ _ e in rw (e, ne_eqb (get_or s.lane_lens l 0) (SLICE_SIZE * num) (λ h. other (omega arith))))

unfoldable pub LaneSays : ReceiveChannelUnreliable → ℕ → ℕ → ℕ → ℕ → SliceSpot → Type 0
LaneSays s id num t lane (opened l) = Entered s id num t lane × Fits s l (constructor_at s l) t
LaneSays s id num t lane (fresh l) = Entered s id num t lane × Fits s l (c.blank_of id num) t
LaneSays s id num t lane (nothing o) = Unit

module _ (s : ReceiveChannelUnreliable) (v : Valid s) (id num t small lane : ℕ) where
  module _ (d : Entered s id num t lane) where
    open-says : is_open_of s id ≡ true → LaneSays s id num t lane (open_lane s (lane_of s id) num)
    unfolding LaneSays open_lane
    open-says e =
        let l : ℕ = lane_of s id in
        let low : l < LANES = ltb-true l LANES e in
        let here = lane_here s v id low in
        let g = v.lane l low in
        let o = g.opened here.held in
        let held = open-held s v l low here.held in
        pick-cases (LaneSays s id num t lane) (eqb (constructor_at s l).num_slices num)
        (λ h.
        let same : (constructor_at s l).num_slices ≡ num = eqb-true _ _ h in (
          d,
          record {
            low = g.within held;
            later = d.later;
            valid = g.constructor;
            some = o.some;
            most = omega (arith, d.most);
            room = omega (arith, lane-used s v l low, o.charged, v.usage-most);
            not-whole = held ∙ sym here.held;
          },
        ))
        (λ _. tt)

    fresh-says : LaneSays s id num t lane (fresh_lane s num)
    unfolding LaneSays fresh_lane c.blank_of
    fresh-says =
        let l : ℕ = lowest_free_of s.lanes s.settings.lanes in
        pick-cases (LaneSays s id num t lane) (ltb s.settings.max_memory_usage_bytes (s.memory_usage_bytes + SLICE_SIZE * num))
        (λ _. tt)
        (λ memory.
        pick-cases (LaneSays s id num t lane) (leb s.settings.lanes l)
        (λ _. tt)
        (λ room.
        let low : l < s.settings.lanes = leb-false _ _ room in
        let hit : not (get_or s.lanes l false) ≡ true = hit-below not false s.lanes s.settings.lanes (omega (arith, v.settings.lanes-most, v.lanes-long)) low in
        let blank = (v.lane l (omega (arith, v.settings.lanes-most))).blank (not-true _ hit) in
        let fits : s.memory_usage_bytes + SLICE_SIZE * num ≤ s.settings.max_memory_usage_bytes = ltb-false _ _ memory in (
          d,
          record {
            low = low;
            later = d.later;
            valid = cv.blank-valid id num d.below (omega (arith, d.most, v.settings.pieces-most));
            some = d.some;
            most = d.most;
            room = omega (arith, blank.1);
            not-whole = not-true _ hit ∙ sym blank.0;
          },
        )))

  lane-says : LaneSays s id num t lane (lane_spot s id num t small lane)
  unfolding LaneSays lane_spot
  lane-says =
      pick-cases (LaneSays s id num t lane) (eqb (entry_refusal s id num t small lane) 0)
      (λ e.
      let d = entered s id num t small lane (eqb-true _ _ e) in
      pick-cases (LaneSays s id num t lane) (is_open_of s id) (open-says d) (λ _. fresh-says d))
      (λ _. tt)

  -- a lane that is open already, or a free one, takes the constructor
  pub open-fits : (l : ℕ) → lane_spot s id num t small lane ≡ opened l → Entered s id num t lane × Fits s l (constructor_at s l) t
  unfolding LaneSays
  open-fits l e = subst (LaneSays s id num t lane) e lane-says

  pub fresh-fits : (l : ℕ) → lane_spot s id num t small lane ≡ fresh l → Entered s id num t lane × Fits s l (c.blank_of id num) t
  unfolding LaneSays
  fresh-fits l e = subst (LaneSays s id num t lane) e lane-says
