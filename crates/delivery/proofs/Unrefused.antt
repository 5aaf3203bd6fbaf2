-- A message or a piece of what was queued is not refused by a receiver that has room for all that was queued. Assumes nothing.
use Prim.Native.Nat.{ℕ, ◌+◌, ◌*◌, ◌≤◌, ◌<◌}
use mathlib.Core.Path.{◌≡◌, refl, sym, ap, ◌∙◌, subst}
use mathlib.Core.Bool.{true, false}
use mathlib.Core.List.{List, [], ◌∷◌}
use native.Mathlib.Omega.{arith}
use lib.ListN.{length, get_or, get_elem?}
use borrow.Author.Tests.{ltb-true, lt-leb, le-ltb, eq-eqb, ne_eqb}
use Rattle.words.specs.Sizes.{SLICE_SIZE, LANES, LIMIT}
use Rattle.words.specs.Pieces.{pieces_of}
use Rattle.words.specs.Lists.{lowest_free_of, total, reached, All, Pairs}
use Rattle.words.proofs.Splice.{length-splice}
use Rattle.words.proofs.Tables.{by-test, pick-cases}
use Rattle.channel.specs.Settings.{lane_len_of, stores_hold_of}
use Rattle.channel.specs.declared.Settings.{Settings}
use Rattle.slice_constructor.specs.declared.SliceConstructor.{SliceConstructor}
use Rattle.slice_constructor.specs.Collect as c
use Rattle.slice_constructor.proofs.Order.{never-refused}
use Rattle.receive_reliable.specs.Receive.{lane_of, in_lane_of, ignores, constructor_at, entry_refusal, message_refusal, MessageSpot, cell, nowhere, message_spot, message_state, message_bytes, message_answer_of, with_message_of, count_refusal, fresh_refusal, SliceSpot, opened, fresh, nothing, open_spot, fresh_spot, slice_spot, slice_state, slice_bytes, slice_answer_of, with_lane_of}
use Rattle.receive_reliable.specs.declared.ReceiveChannelReliable.{ReceiveChannelReliable}
use Rattle.receive_reliable.proofs.Spots.{lane_here}
use Rattle.delivery.specs.World.{Bytes, Handed, message, slice, Receiving, receives, refused_now}
use Rattle.delivery.proofs.Lists.{same_some, at_low, at-get_or}
use Rattle.delivery.proofs.Receiver.{Queued, PieceOf, Sound, Has, receives-has}
use Rattle.delivery.proofs.Taken.{open-part}
use Rattle.delivery.proofs.Sums.{Differ, distinct-total, one_free}
use Rattle.delivery.proofs.Counts.{charge_of, small_of, sliced_of, small_is, sliced-is, Counts, no-lane, new-id, receives-counts}

-- room for all that was queued
pub record Roomy (q : List Bytes) (st : Settings) (small lanes : ℕ) : Type 0 where
  pub memory : total charge_of q ≤ st.max_memory_usage_bytes
  pub few-small : total small_of q ≤ st.slots
  pub few-sliced : total sliced_of q ≤ st.lanes
  pub stores : stores_hold_of st small lanes ≡ true
  pub numbers : length q ≤ LIMIT
  pub short : (id : ℕ) (msg : Bytes) → Queued q id msg → length msg ≤ lane_len_of st

module _ (q : List Bytes) (e : Receiving) (has : Has q e.state e.small e.lanes) (h : Counts q e.state)
    (roomy : Roomy q e.state.settings (length e.small) (length e.lanes)) where
  abbrev s : ReceiveChannelReliable
  s = e.state

  entered : (id : ℕ) (msg : Bytes) → Queued q id msg → entry_refusal s id (length e.small) (length e.lanes) ≡ 0
  unfolding entry_refusal
  entered id msg queued = let l = at_low q id queued in rw (roomy.stores, lt-leb LIMIT id (omega (arith, roomy.numbers)))

  -- one that is new, beside those that began
  module _ (id : ℕ) (msg : Bytes) (queued : Queued q id msg) (ni : ignores s id ≡ false) (nl : in_lane_of s id ≡ false) where
    apart : Pairs Differ (id ∷ h.ids)
    unfolding Pairs
    apart = (new-id q e has h id ni nl, h.apart)

    all-low : All (λ x. x < length q) (id ∷ h.ids)
    unfolding All
    all-low = (at_low q id queued, h.low)

    with-new : (f : Bytes → ℕ) → f msg + total (λ x. f (get_or q x [])) h.ids ≤ total f q
    unfolding total
    with-new f = let r = distinct-total f q [] (id ∷ h.ids) apart all-low in let d = ap f (at-get_or q id [] queued) in omega arith

  -- ---- a small message

  module _ (id : ℕ) (bs : Bytes) (queued : Queued q id bs) (small : length bs ≤ SLICE_SIZE) where
    message-fits : ignores s id ≡ false → message_refusal s id (length bs) ≡ 0
    unfolding message_refusal
    message-fits ni =
        let nl = no-lane q e has h id bs queued small in
        let t = small_is bs small in
        let c₁ : charge_of bs ≡ length bs = rw t in
        let c₂ : small_of bs ≡ 1 = rw t in
        let m = with-new id bs queued ni nl charge_of in
        let n = with-new id bs queued ni nl small_of in
        let mem : s.memory_usage_bytes + length bs ≤ s.settings.max_memory_usage_bytes = omega (arith, h.memory, roomy.memory) in
        let free = one_free s.cells s.settings.slots (omega (arith, has.valid.settings.slots-most, has.valid.cells-long)) (omega (arith, h.cells, roomy.few-small)) in
        rw (
          le-ltb SLICE_SIZE (length bs) small,
          nl,
          le-ltb s.settings.max_memory_usage_bytes (s.memory_usage_bytes + length bs) mem,
          lt-leb s.settings.slots (lowest_free_of s.cells s.settings.slots) free,
        )

    message-unrefused : (es : List ℕ) → refused_now (message_answer_of (message_spot s id (length bs) (length e.small) (length e.lanes))) es ≡ es
    unfolding message_spot
    message-unrefused es =
        by-test (ignores s id)
        (λ t. rw (entered id bs queued, t))
        (λ t. rw (entered id bs queued, t, message-fits t))

  -- ---- a piece

  module _ (id num i : ℕ) (bs : Bytes) (sound : PieceOf q id num i bs) where
    few : num ≤ s.settings.pieces
    few = let z = roomy.short id sound.msg sound.queued in omega (arith, sound.num-is)

    count_fits : count_refusal s num ≡ 0
    unfolding count_refusal
    count_fits = let z : num ≡ 0 → ⊥ = λ x. omega (arith, sound.low) in rw (ne_eqb num 0 z, le-ltb s.settings.pieces num few)

    piece-fits : (k : SliceConstructor) → k.num_slices ≡ num → c.collect_refusal k i (length bs) (lane_len_of s.settings) ≡ 0
    piece-fits k n =
        subst (λ (b : Bytes). c.collect_refusal k i (length b) (lane_len_of s.settings) ≡ 0) (sym sound.bytes)
        (never-refused k sound.msg i (lane_len_of s.settings) (n ∙ sound.num-is) (omega (arith, few)) (omega (arith, sound.low)))

    open-num : ignores s id ≡ false → in_lane_of s id ≡ true → (constructor_at s (lane_of s id)).num_slices ≡ num
    open-num ni il =
        let found = lane_here s id has.valid il in
        let x = has.lane (lane_of s id) (ltb-true (lane_of s id) LANES il) found.held in
        let same : x.msg ≡ sound.msg = same_some (get_elem? q id) (ap (get_elem? q) (sym found.named) ∙ x.queued) sound.queued in
        (x.part (open-part s id ni il)).0 ∙ ap (λ (m : Bytes). pieces_of (length m)) same ∙ sym sound.num-is

    fresh-fits : ignores s id ≡ false → in_lane_of s id ≡ false → fresh_refusal s num ≡ 0
    unfolding fresh_refusal
    fresh-fits ni nl =
        let t = sliced-is sound.msg sound.long in
        let c₁ : charge_of sound.msg ≡ SLICE_SIZE * pieces_of (length sound.msg) = rw t in
        let c₂ : sliced_of sound.msg ≡ 1 = rw t in
        let m = with-new id sound.msg sound.queued ni nl charge_of in
        let n = with-new id sound.msg sound.queued ni nl sliced_of in
        let mem : s.memory_usage_bytes + SLICE_SIZE * num ≤ s.settings.max_memory_usage_bytes = omega (arith, h.memory, roomy.memory, sound.num-is) in
        let free = one_free s.lanes s.settings.lanes (omega (arith, has.valid.settings.lanes-most, has.valid.lanes-long)) (omega (arith, h.lanes, roomy.few-sliced)) in
        rw (le-ltb s.settings.max_memory_usage_bytes (s.memory_usage_bytes + SLICE_SIZE * num) mem, lt-leb s.settings.lanes (lowest_free_of s.lanes s.settings.lanes) free)

    blank-num : (c.blank_of id num).num_slices ≡ num
    unfolding c.blank_of
    blank-num = refl

    slice-unrefused : (es : List ℕ) → refused_now (slice_answer_of (slice_spot s id num i (length bs) (length e.small) (length e.lanes))) es ≡ es
    unfolding slice_spot open_spot fresh_spot
    slice-unrefused es =
        by-test (ignores s id)
        (λ t. rw (entered id sound.msg sound.queued, t))
        (λ t. by-test (in_lane_of s id)
        (λ il. rw (entered id sound.msg sound.queued, t, count_fits, il, eq-eqb _ _ (open-num t il), piece-fits (constructor_at s (lane_of s id)) (open-num t il)))
        (λ nl. rw (entered id sound.msg sound.queued, t, count_fits, nl, fresh-fits t nl, piece-fits (c.blank_of id num) blank-num)))

  pub receives-unrefused : (x : Handed) → Sound q x → (receives e x).refused ≡ e.refused
  unfolding receives
  receives-unrefused (message id bs) sound = message-unrefused id bs sound.0 sound.1 e.refused
  receives-unrefused (slice id num i bs) sound = slice-unrefused id num i bs sound e.refused

-- ---- the settings and the stores' sizes stay

message-const : (s : ReceiveChannelReliable) (id : ℕ) (bs small : Bytes) (x : MessageSpot) → ((message_state s id (length bs) x).settings ≡ s.settings) × (length (message_bytes x bs small) ≡ length small)
unfolding with_message_of
message-const s id bs small (cell i) = (refl, length-splice (i * SLICE_SIZE) bs small)
message-const s id bs small (nowhere o) = (refl, refl)

slice-const : (s : ReceiveChannelReliable) (id num i : ℕ) (bs lanes : Bytes) (x : SliceSpot) → ((slice_state s id num i (length bs) x).settings ≡ s.settings) × (length (slice_bytes s i bs x lanes) ≡ length lanes)
unfolding with_lane_of
slice-const s id num i bs lanes (opened l) =
    (refl, pick-cases (λ (y : Bytes). length y ≡ length lanes) (get_or (constructor_at s l).received i false) (λ _. refl) (λ _. length-splice (l * lane_len_of s.settings + i * SLICE_SIZE) bs lanes))
slice-const s id num i bs lanes (fresh l) = (refl, length-splice (l * lane_len_of s.settings + i * SLICE_SIZE) bs lanes)
slice-const s id num i bs lanes (nothing o) = (refl, refl)

pub record SameSize (e t : Receiving) : Type 0 where
  pub settings : t.state.settings ≡ e.state.settings
  pub small : length t.small ≡ length e.small
  pub lanes : length t.lanes ≡ length e.lanes

receives-const : (e : Receiving) (x : Handed) → SameSize e (receives e x)
unfolding receives
receives-const e (message id bs) =
    let c = message-const e.state id bs e.small (message_spot e.state id (length bs) (length e.small) (length e.lanes)) in
    record { settings = c.0; small = c.1; lanes = refl }
receives-const e (slice id num i bs) =
    let c = slice-const e.state id num i bs e.lanes (slice_spot e.state id num i (length bs) (length e.small) (length e.lanes)) in
    record { settings = c.0; small = refl; lanes = c.1 }

roomy-on : (q : List Bytes) (e t : Receiving) → SameSize e t → Roomy q e.state.settings (length e.small) (length e.lanes) → Roomy q t.state.settings (length t.small) (length t.lanes)
roomy-on q e t c h = rw (c.settings, c.small, c.lanes) h

-- ---- all that a packet hands over

pub all-counts : (q : List Bytes) (xs : List Handed) (e : Receiving) → All (Sound q) xs → Has q e.state e.small e.lanes → Counts q e.state → Counts q (reached receives e xs).state
unfolding reached All
all-counts q [] e a has h = h
all-counts q (x ∷ xs) e a has h = all-counts q xs (receives e x) a.1 (receives-has q e x a.0 has) (receives-counts q e has h x a.0)

pub all-const : (xs : List Handed) (e : Receiving) → SameSize e (reached receives e xs)
unfolding reached
all-const [] e = record { settings = refl; small = refl; lanes = refl }
all-const (x ∷ xs) e =
    let a = receives-const e x in
    let b = all-const xs (receives e x) in
    record { settings = b.settings ∙ a.settings; small = b.small ∙ a.small; lanes = b.lanes ∙ a.lanes }

pub all-unrefused : (q : List Bytes) (xs : List Handed) (e : Receiving) → All (Sound q) xs → Has q e.state e.small e.lanes → Counts q e.state
    → Roomy q e.state.settings (length e.small) (length e.lanes) → (reached receives e xs).refused ≡ e.refused
unfolding reached All
all-unrefused q [] e a has h roomy = refl
all-unrefused q (x ∷ xs) e a has h roomy =
    all-unrefused q xs (receives e x) a.1 (receives-has q e x a.0 has) (receives-counts q e has h x a.0) (roomy-on q e (receives e x) (receives-const e x) roomy)
    ∙ receives-unrefused q e has h roomy x a.0
