-- What follows from the promises: what the usage is, that a look and a take agree, that messages come out in order of completion, what a
-- discarding leaves, that a refusal changes nothing and a repeat only its id's time, and that each call has one outcome only. Assumes nothing.
use Rattle.words.specs.declared.Refusal.{Refusal}
use Rattle.std.specs.Prelude.{Result, Ok, Err, Option, Some, None}
use Prim.Native.Nat.{ℕ, ◌+◌, ◌-◌, ◌*◌, ◌≤◌, ◌<◌}
use mathlib.Core.Path.{◌≡◌, refl, sym, ap, ◌∙◌}
use mathlib.Core.Bool.{true, false}
use mathlib.Core.List.{List, [], ◌∷◌, map}
use native.Mathlib.Omega.{arith}
use borrow.Author.Tests.{ltb-true, ltb-false, lt-leb, le-ltb, ne_eqb, eq-eqb, eqb-true}
use lib.Dec.{ltb, eqb}
use lib.ListN.{length, get_or, take, drop}
use lib.Seq.{set-get_or}
use Rattle.words.specs.Sizes.{SLICE_SIZE, SLOTS, LANES, PIECES, MAX_MEMORY, LIMIT}
use Rattle.words.specs.Choice.{pick}
use Rattle.words.specs.Lists.{splice, first, sum_below}
use Rattle.words.proofs.Unique.{told-apart, refusal_of, refusal-undone}
use Rattle.words.proofs.Tables.{by-test, clash, pick-cases, total-below}
use Rattle.channel.specs.Settings.{lane_len_of, stores_hold_of}
use Rattle.channel.specs.Find.{held_at}
use Rattle.channel.specs.declared.Settings.{Settings}
use Rattle.channel.proofs.Unique.{one-setup}
use Rattle.channel.proofs.Held.{Here}
use Rattle.slice_constructor.specs.declared.SliceConstructor.{SliceConstructor}
use Rattle.slice_constructor.specs.Collect as c
use Rattle.slice_constructor.proofs.Valid as cv
use Rattle.slice_constructor.proofs.Part.{repeat-good, repeat-bad, repeat-same}
use Rattle.receive_unreliable.specs.Receive.{DISCARD_AFTER, new_of, lane_of, constructor_at, Place, at-cell, at-lane, no_place, next_place, Outcome, taken, dropped, refused, arrival_of, MessageSpot, cell, nowhere, message_spot, message_answer_of, message_state, message_bytes, SliceSpot, opened, fresh, nothing, lane_spot, piece_refusal, settled, open_lane, fresh_lane, entry_refusal, slice_spot, with_open, with_piece, slice_answer_of, slice_state, slice_bytes, lowest_id_of, goes_on_of, without_open, walk_count, at_time, Discarding, gone, kept, discard_of, discard_answer, discard_state, Waiting, message, none-waiting, refusing, shown_at, look_of, look_at, part_at, removed, Made, MadeGives, Arrived, MessageGives, SliceGives, Discarded, DiscardGives, Received, TakeGives, Valid}
use Rattle.receive_unreliable.specs.Repeats.{Repeats, renewed}
use Rattle.receive_unreliable.specs.Views.{cell_use, lane_use, messages, after_message_of, after_slice}
use Rattle.receive_unreliable.specs.declared.ReceiveChannelUnreliable.{ReceiveChannelUnreliable}
use Rattle.receive_unreliable.specs.declared.Arrival.{Arrival}
use Rattle.receive_unreliable.specs.declared.Arrival.TheVariants as arrival
use Rattle.receive_unreliable.specs.declared.Message.{Message}
use Rattle.receive_unreliable.proofs.Spots.{Lies, lies, lane_here, spot-cell, open-fits, fresh-fits}
use Rattle.receive_unreliable.proofs.Gives.{fits-taken}
use Rattle.receive_unreliable.proofs.Valid.{lane-used, open-held, time-valid}
use Rattle.receive_unreliable.proofs.Walk.{time-walk-ends}
use Rattle.receive_unreliable.proofs.Order.{elsewhere, message-last, piece-order, walk-order, time-order, cell-first, lane_first}

-- ---- the usage

module _ (s : ReceiveChannelUnreliable) (v : Valid s) where
  cell-use : (i : ℕ) → i < SLOTS → get_or s.cell_lens i 0 ≡ cell_use s i
  cell-use i h = by-test (get_or s.cells i false) (λ e. rw e) (λ e. rw e ((v.cell i h).blank e))

  lane-use : (l : ℕ) → l < LANES → get_or s.lane_lens l 0 ≡ lane_use s l
  lane-use l h =
      by-test (get_or s.lanes l false)
      (λ e. by-test (get_or s.opens l false) (λ b. rw (e, b) ((v.lane l h).opened b).charged) (λ b. rw (e, b)))
      (λ e. rw e ((v.lane l h).blank e).1)

  -- the usage is the lengths of the whole messages held, and 1,200 × num_slices for each open lane
  pub usage-is : s.memory_usage_bytes ≡ sum_below SLOTS (cell_use s) + sum_below LANES (lane_use s)
  usage-is =
      v.usage
      ∙ rw (total-below s.cell_lens SLOTS (cell_use s) v.cell-lens-long cell-use, total-below s.lane_lens LANES (lane_use s) v.lane-lens-long lane-use)

  -- and never passes the maximum
  pub usage-within : s.memory_usage_bytes ≤ s.settings.max_memory_usage_bytes
  usage-within = v.usage-most

-- ---- one outcome only

abbrev arrival_from : Outcome → Result Arrival Refusal
arrival_from taken = (Ok arrival.Taken)
arrival_from dropped = (Ok arrival.Dropped)
arrival_from (refused n) = Err (refusal_of n)

arrival-undone : (a : Result Arrival Refusal) → arrival_from (arrival_of a) ≡ a
arrival-undone (Ok arrival.Taken) = refl
arrival-undone (Ok arrival.Dropped) = refl
arrival-undone (Err e) = ap Err (refusal-undone e)

same-arrival : (a b : Result Arrival Refusal) → arrival_of a ≡ arrival_of b → a ≡ b
same-arrival = told-apart arrival_of arrival_from arrival-undone

abbrev discard_from : Discarding → Result ℕ Refusal
discard_from (gone n) = Ok n
discard_from (kept n) = Err (refusal_of n)

discard-undone : (a : Result ℕ Refusal) → discard_from (discard_of a) ≡ a
discard-undone (Ok n) = refl
discard-undone (Err e) = ap Err (refusal-undone e)

abbrev look_from : Waiting → Result (Option Message) Refusal
look_from (message store place len) = Ok (Some (record { store = store; place = place; len = len }))
look_from none-waiting = (Ok None)
look_from (refusing n) = Err (refusal_of n)

look-undone : (a : Result (Option Message) Refusal) → look_from (look_of a) ≡ a
look-undone (Ok (Some m)) = refl
look-undone (Ok None) = refl
look-undone (Err e) = ap Err (refusal-undone e)

same-look : (a b : Result (Option Message) Refusal) → look_of a ≡ look_of b → a ≡ b
same-look = told-apart look_of look_from look-undone

pub one-made : (s : Settings) (r q : Made) → MadeGives s r → MadeGives s q → r ≡ q
one-made s r q x y =
    let a : r.answer ≡ q.answer = one-setup r.answer q.answer (x.number ∙ sym y.number) in
    let t : r.state ≡ q.state = x.state ∙ sym y.state in
    ap (λ (b : Result (Unit {0}) Refusal). record { answer = b; state = r.state }) a ∙ ap (λ (u : ReceiveChannelUnreliable). record { answer = q.answer; state = u }) t

one-arrived : (r q : Arrived) → arrival_of r.answer ≡ arrival_of q.answer → r.state ≡ q.state → r ≡ q
one-arrived r q e t =
    ap (λ (b : Result Arrival Refusal). record { answer = b; state = r.state }) (same-arrival r.answer q.answer e)
    ∙ ap (λ (u : ReceiveChannelUnreliable). record { answer = q.answer; state = u }) t

pub one-message : (s : ReceiveChannelUnreliable) (bs small lane small₁ small₂ : List ℕ) (r q : Arrived)
    → MessageGives s bs small lane small₁ r → MessageGives s bs small lane small₂ q → (r ≡ q) × (small₁ ≡ small₂)
one-message s bs small lane small₁ small₂ r q x y =
    (one-arrived r q (x.answer ∙ sym y.answer) (x.state ∙ sym y.state), x.bytes ∙ sym y.bytes)

pub one-slice : (s : ReceiveChannelUnreliable) (id num i : ℕ) (bs : List ℕ) (t : ℕ) (small lane lane₁ lane₂ : List ℕ) (r q : Arrived)
    → SliceGives s id num i bs t small lane lane₁ r → SliceGives s id num i bs t small lane lane₂ q → (r ≡ q) × (lane₁ ≡ lane₂)
one-slice s id num i bs t small lane lane₁ lane₂ r q x y =
    (one-arrived r q (x.answer ∙ sym y.answer) (x.state ∙ sym y.state), x.bytes ∙ sym y.bytes)

pub one-discard : (s : ReceiveChannelUnreliable) (t : ℕ) (r q : Discarded) → DiscardGives s t r → DiscardGives s t q → r ≡ q
one-discard s t r q x y =
    ap (λ (b : Result ℕ Refusal). record { answer = b; state = r.state }) (told-apart discard_of discard_from discard-undone r.answer q.answer (x.answer ∙ sym y.answer))
    ∙ ap (λ (u : ReceiveChannelUnreliable). record { answer = q.answer; state = u }) (x.state ∙ sym y.state)

pub one-look : (s : ReceiveChannelUnreliable) (small lane : ℕ) (a b : Result (Option Message) Refusal) → look_of a ≡ look_at s small lane → look_of b ≡ look_at s small lane → a ≡ b
one-look s small lane a b x y = same-look a b (x ∙ sym y)

pub one-part : (s : ReceiveChannelUnreliable) (small lane a b : List ℕ)
    → a ≡ part_at (look_at s (length small) (length lane)) small lane → b ≡ part_at (look_at s (length small) (length lane)) small lane → a ≡ b
one-part s small lane a b x y = x ∙ sym y

pub one-usage : (s : ReceiveChannelUnreliable) (a b : ℕ) → a ≡ s.memory_usage_bytes → b ≡ s.memory_usage_bytes → a ≡ b
one-usage s a b x y = x ∙ sym y

pub one-take : (s : ReceiveChannelUnreliable) (r q : Received) → TakeGives s r → TakeGives s q → r ≡ q
one-take s r q x y =
    let a : ◌≡◌ {A = Result (Option Message) Refusal} (Ok r.answer) (Ok q.answer) = same-look (Ok r.answer) (Ok q.answer) (x.answer ∙ sym y.answer) in
    let same : r.answer ≡ q.answer = cc in
    ap (λ (b : Option Message). record { answer = b; state = r.state }) same
    ∙ ap (λ (u : ReceiveChannelUnreliable). record { answer = q.answer; state = u }) (x.state ∙ sym y.state)

-- ---- a refusal, Dropped and Nothing change nothing, the latest accepted time included

module _ (s : ReceiveChannelUnreliable) where
  message-kept : (spot : MessageSpot) (bs small : List ℕ) → (message_answer_of spot ≡ taken → ⊥)
      → (message_state s (length bs) spot ≡ s) × (message_bytes spot bs small ≡ small)
  message-kept (cell i) bs small n = absurd (n refl)
  message-kept (nowhere o) bs small n = (refl, refl)

  pub message-not-taken : (bs small lane small' : List ℕ) (r : Arrived) → MessageGives s bs small lane small' r
      → (arrival_of r.answer ≡ taken → ⊥) → (r.state ≡ s) × (small' ≡ small)
  message-not-taken bs small lane small' r g n =
      let k = message-kept (message_spot s (length bs) (length small) (length lane)) bs small (λ e. n (g.answer ∙ e)) in
      (g.state ∙ k.0, g.bytes ∙ k.1)

  slice_kept : (spot : SliceSpot) (id num i : ℕ) (bs : List ℕ) (t : ℕ) (lane : List ℕ) → (slice_answer_of spot ≡ taken → ⊥)
      → (slice_state s id num i (length bs) t spot ≡ s) × (slice_bytes s i bs spot lane ≡ lane)
  slice_kept (opened l) id num i bs t lane n = absurd (n refl)
  slice_kept (fresh l) id num i bs t lane n = absurd (n refl)
  slice_kept (nothing o) id num i bs t lane n = (refl, refl)

  pub slice-not-taken : (id num i : ℕ) (bs : List ℕ) (t : ℕ) (small lane lane' : List ℕ) (r : Arrived) → SliceGives s id num i bs t small lane lane' r
      → (arrival_of r.answer ≡ taken → ⊥) → (r.state ≡ s) × (lane' ≡ lane)
  slice-not-taken id num i bs t small lane lane' r g n =
      let k = slice_kept (slice_spot s id num i (length bs) t (length small) (length lane)) id num i bs t lane (λ e. n (g.answer ∙ e)) in
      (g.state ∙ k.0, g.bytes ∙ k.1)

  pub discard-not-done : (t e : ℕ) (r : Discarded) → DiscardGives s t r → discard_of r.answer ≡ kept e → r.state ≡ s
  unfolding discard_answer discard_state
  discard-not-done t e r g h =
      rw g.state
      (pick-cases (λ u. u ≡ s) (ltb t s.latest)
      (λ _. refl)
      (λ y. let k : discard_of r.answer ≡ gone (walk_count LANES t (at_time s t)) = rw y at g.answer in clash (cc)))

  nothing-removed : (p : Place) → shown_at s p ≡ none-waiting → removed s p ≡ s
  nothing-removed (at-cell i) e = clash (cc)
  nothing-removed (at-lane l) e = clash (cc)
  nothing-removed no_place e = refl

  pub nothing-taken : (r : Received) → TakeGives s r → look_of (Ok r.answer) ≡ none-waiting → r.state ≡ s
  nothing-taken r g e = g.state ∙ nothing-removed (next_place s) (sym g.answer ∙ e)

  -- ---- with stores that hold, a look gives what a take hands out, and `message` is that part

  pub look-is-take : (small lane : List ℕ) (a : Result (Option Message) Refusal) (part : List ℕ) (r : Received) → stores_hold_of s.settings (length small) (length lane) ≡ true
      → look_of a ≡ look_at s (length small) (length lane) → part ≡ part_at (look_at s (length small) (length lane)) small lane → TakeGives s r
      → (a ≡ Ok r.answer) × (part ≡ part_at (look_of (Ok r.answer)) small lane)
  unfolding look_at
  look-is-take small lane a part r h ea ep g =
      let e : look_at s (length small) (length lane) ≡ look_of (Ok r.answer) = rw h (sym g.answer) in
      (same-look a (Ok r.answer) (ea ∙ e), ep ∙ ap (λ (w : Waiting). part_at w small lane) e)

-- ---- messages come out in order of completion

module _ (s : ReceiveChannelUnreliable) (v : Valid s) where
  -- a small message that is taken joins the end of those that wait, byte for byte
  pub message-in-order : (bs small lane small' : List ℕ) (r : Arrived) → MessageGives s bs small lane small' r
      → messages r.state small' lane ≡ after_message_of s bs small lane (message_spot s (length bs) (length small) (length lane))
  message-in-order bs small lane small' r g =
      rw (g.state, g.bytes) (at-spot (message_spot s (length bs) (length small) (length lane)) refl) where
        at-spot : (spot : MessageSpot) → message_spot s (length bs) (length small) (length lane) ≡ spot
            → messages (message_state s (length bs) spot) (message_bytes spot bs small) lane ≡ after_message_of s bs small lane spot
        at-spot (cell i) e = let p = spot-cell s v (length bs) (length small) (length lane) i e in message-last s v i bs small lane p.0 p.1
        at-spot (nowhere o) e = refl

  -- what a take hands out is the first of them, and the others stay as they are
  first-removed : (small lane : List ℕ) (p : Place) → Lies s p → (shown_at s p ≡ none-waiting → ⊥)
      → messages s small lane ≡ part_at (shown_at s p) small lane ∷ messages (removed s p) small lane
  unfolding Lies
  first-removed small lane (at-cell i) h n = cell-first s v small lane i h.0 h.1 (omega (arith, h.2, v.settings.slots-most))
  first-removed small lane (at-lane l) h n = lane_first s v small lane l h.0 h.1
  first-removed small lane no_place h n = absurd (n refl)

  pub take-in-order : (small lane : List ℕ) (r : Received) → TakeGives s r → (look_of (Ok r.answer) ≡ none-waiting → ⊥)
      → messages s small lane ≡ part_at (look_of (Ok r.answer)) small lane ∷ messages r.state small lane
  take-in-order small lane r g n = rw (g.state, g.answer) (first-removed small lane (next_place s) (lies s v) (λ e. n (g.answer ∙ e)))

  -- where a take hands out nothing, none wait
  none-wait : (small lane : List ℕ) (p : Place) → Lies s p → shown_at s p ≡ none-waiting → messages s small lane ≡ []
  unfolding Lies messages
  none-wait small lane (at-cell i) h e = clash (cc)
  none-wait small lane (at-lane l) h e = clash (cc)
  none-wait small lane no_place h e = rw h

  pub nothing-waits : (small lane : List ℕ) (r : Received) → TakeGives s r → look_of (Ok r.answer) ≡ none-waiting → messages s small lane ≡ []
  nothing-waits small lane r g e = none-wait small lane (next_place s) (lies s v) (sym g.answer ∙ e)

  -- a discarding leaves them as they are
  pub discard-in-order : (t : ℕ) (small lane : List ℕ) (r : Discarded) → DiscardGives s t r → messages r.state small lane ≡ messages s small lane
  unfolding discard_state
  discard-in-order t small lane r g =
      rw g.state
      (pick-cases (λ u. messages u small lane ≡ messages s small lane) (ltb t s.latest)
      (λ _. refl)
      (λ e. walk-order LANES t (at_time s t) (time-valid s v t (ltb-false _ _ e)) small lane ∙ time-order s v t small lane))

-- a sliced message joins the end of them with the piece that makes it whole; other pieces leave them as they are
module _ (s : ReceiveChannelUnreliable) (v : Valid s) (id num i : ℕ) (bs : List ℕ) (t : ℕ) (small lane : List ℕ) where
  -- a good piece for lane l changes no byte of another lane
  other-lanes : (l : ℕ) (k : SliceConstructor) → eqb (piece_refusal s k i (length bs)) 0 ≡ true → (m n : ℕ) → (m ≡ l → ⊥) → n ≤ lane_len_of s.settings
      → take n (drop (m * lane_len_of s.settings) (splice (l * lane_len_of s.settings + i * SLICE_SIZE) bs lane)) ≡ take n (drop (m * lane_len_of s.settings) lane)
  other-lanes l k y m n other h =
      let fits = cv.piece-room k i (length bs) (lane_len_of s.settings) (cv.good k i (length bs) (lane_len_of s.settings) (eqb-true _ _ y)) in
      elsewhere (lane_len_of s.settings) m n l (l * lane_len_of s.settings + i * SLICE_SIZE) bs lane h (omega arith) (omega arith) other

  at-lane-spot : (spot : SliceSpot) → lane_spot s id num t (length small) (length lane) ≡ spot
      → messages (slice_state s id num i (length bs) t (settled s id num i (length bs) spot)) small (slice_bytes s i bs (settled s id num i (length bs) spot) lane)
      ≡ after_slice s id num i (length bs) small lane (slice_bytes s i bs (settled s id num i (length bs) spot) lane) (settled s id num i (length bs) spot)
  at-lane-spot (opened l) e =
      let k : SliceConstructor = constructor_at s l in
      by-test (eqb (piece_refusal s k i (length bs)) 0)
      (λ y.
      let f = fits-taken s l k t (open-fits s v id num t (length small) (length lane) l e).1 i (length bs) y in
      rw y
      (piece-order s v l (c.taken k i (length bs)) t f small lane
      (pick (get_or k.received i false) lane (splice (l * lane_len_of s.settings + i * SLICE_SIZE) bs lane))
      (λ m n other h.
      pick-cases (λ x. take n (drop (m * lane_len_of s.settings) x) ≡ take n (drop (m * lane_len_of s.settings) lane)) (get_or k.received i false)
      (λ _. refl)
      (λ _. other-lanes l k y m n other h))))
      (λ y. rw y)
  at-lane-spot (fresh l) e =
      by-test (eqb (piece_refusal s (c.blank_of id num) i (length bs)) 0)
      (λ y.
      let f = fits-taken s l (c.blank_of id num) t (fresh-fits s v id num t (length small) (length lane) l e).1 i (length bs) y in
      rw y
      (piece-order s v l (c.taken (c.blank_of id num) i (length bs)) t f small lane (splice (l * lane_len_of s.settings + i * SLICE_SIZE) bs lane) (other-lanes l (c.blank_of id num) y)))
      (λ y. rw y)
  at-lane-spot (nothing o) e = refl

  pub slice-in-order : (lane' : List ℕ) (r : Arrived) → SliceGives s id num i bs t small lane lane' r
      → messages r.state small lane' ≡ after_slice s id num i (length bs) small lane lane' (slice_spot s id num i (length bs) t (length small) (length lane))
  unfolding slice_spot
  slice-in-order lane' r g = rw (g.state, g.bytes) (at-lane-spot (lane_spot s id num t (length small) (length lane)) refl)

-- ---- discarding

-- a new receiver with the most of all settings
abbrev made : ReceiveChannelUnreliable
made = new_of (record { slots = SLOTS; lanes = LANES; pieces = PIECES; max_memory_usage_bytes = MAX_MEMORY })

-- after a call with piece 0 of 2 of a message, at a time
abbrev got : ReceiveChannelUnreliable → ℕ → ℕ → ReceiveChannelUnreliable
got s id t = slice_state s id 2 0 SLICE_SIZE t (slice_spot s id 2 0 SLICE_SIZE t (SLOTS * SLICE_SIZE) (LANES * (PIECES * SLICE_SIZE)))

-- dropped at 3 s, and not one nanosecond earlier; a repeat renews the time; an older one stays where a lower id is younger; two go at
-- once where both are old; a time below the latest one is refused
pub at-three-seconds :
    (let one = got made 7 5 in
    let again = got one 7 6 in
    let young = got one 3 6 in
    let old = got one 3 5 in
    map (λ (p : ReceiveChannelUnreliable × ℕ). discard_answer p.0 p.1) (
    (one, 5 + DISCARD_AFTER) ∷
    (one, 4 + DISCARD_AFTER) ∷
    (again, 5 + DISCARD_AFTER) ∷
    (again, 6 + DISCARD_AFTER) ∷
    (young, 5 + DISCARD_AFTER) ∷
    (young, 6 + DISCARD_AFTER) ∷
    (old, 5 + DISCARD_AFTER) ∷
    (one, 4) ∷ []
    )
    ≡ gone 1 ∷ gone 0 ∷ gone 0 ∷ gone 1 ∷ gone 0 ∷ gone 2 ∷ gone 2 ∷ kept 14 ∷ [])
unfolding discard_answer walk_count at_time without_open with_open with_piece slice_spot lane_spot open_lane fresh_lane entry_refusal new_of lowest_id_of held_at first c.blank_of c.collect_refusal c.taken
at-three-seconds = refl

-- an accepted one ends at a younger one, or where none is open
pub discard-ends : (s : ReceiveChannelUnreliable) → Valid s → (t n : ℕ) (r : Discarded) → DiscardGives s t r → discard_of r.answer ≡ gone n → goes_on_of r.state t ≡ false
unfolding discard_answer discard_state
discard-ends s v t n r g h =
    rw g.state
    (pick-cases (λ u. goes_on_of u t ≡ false) (ltb t s.latest)
    (λ e. let k : discard_of r.answer ≡ kept 14 = rw e at g.answer in clash (cc))
    (λ e. time-walk-ends s v t (ltb-false _ _ e)))

-- ---- "A repeat is checked for size, then accepted without effect, but an unreliable one renews its id's time": no byte changes, whatever
-- bytes it has, and of the state that time and the latest accepted one alone

module _ (s : ReceiveChannelUnreliable) (v : Valid s) (id num i : ℕ) (bs : List ℕ) (t : ℕ) (small lane lane' : List ℕ) (r : Arrived)
    (g : SliceGives s id num i bs t small lane lane' r) (stores : stores_hold_of s.settings (length small) (length lane) ≡ true) (later : s.latest ≤ t)
    (p : Repeats s id num i) where
  low : lane_of s id < LANES
  low = ltb-true (lane_of s id) LANES p.lane

  here : Here s.opens s.lane_ids id (lane_of s id)
  here = lane_here s v id low

  room : (constructor_at s (lane_of s id)).num_slices * SLICE_SIZE ≤ lane_len_of s.settings
  room = let f = v.lane (lane_of s id) low in omega (arith, (f.opened here.held).charged, f.long)

  spot : lane_spot s id num t (length small) (length lane) ≡ opened (lane_of s id)
  unfolding lane_spot entry_refusal open_lane
  spot =
      let o = (v.lane (lane_of s id) low).opened here.held in
      let below : id < LIMIT = rw here.named at o.below in
      let some : num ≡ 0 → ⊥ = λ z. absurd (omega (arith, o.some, p.count)) in
      let most : num ≤ s.settings.pieces = omega (arith, room, p.count) in
      rw (stores, lt-leb _ _ below, le-ltb _ _ later, ne_eqb _ _ some, le-ltb _ _ most, p.lane, eq-eqb _ _ p.count)

  time-alone : with_piece s (lane_of s id) (constructor_at s (lane_of s id)) t ≡ renewed s (lane_of s id) t
  unfolding with_piece with_open renewed
  time-alone =
      let l : ℕ = lane_of s id in
      let o = (v.lane l low).opened here.held in
      let still : c.is_whole (constructor_at s l) ≡ false = ne_eqb (constructor_at s l).num_received_slices (constructor_at s l).num_slices (λ e. absurd (omega (arith, o.more))) in
      let usage : s.memory_usage_bytes - get_or s.lane_lens l 0 + SLICE_SIZE * (constructor_at s l).num_slices ≡ s.memory_usage_bytes = omega (arith, o.charged, lane-used s v l low) in
      rw (
        still,
        usage,
        rw (open-held s v l low here.held) at (set-get_or s.lanes l false),
        rw here.held at (set-get_or s.opens l false),
        rw (← o.named) at (set-get_or s.lane_ids l 0),
        rw o.charged at (set-get_or s.lane_lens l 0),
        set-get_or s.constructors l (c.blank_of 0 0),
      )

  -- of the right size
  pub repeat-accepted : c.sized (constructor_at s (lane_of s id)) i (length bs) ≡ true → (r.answer ≡ (Ok arrival.Taken)) × (r.state ≡ renewed s (lane_of s id) t) × (lane' ≡ lane)
  unfolding slice_spot
  repeat-accepted size =
      let l : ℕ = lane_of s id in
      let f = (v.lane l low).constructor in
      let e : slice_spot s id num i (length bs) t (length small) (length lane) ≡ opened l =
      ap (settled s id num i (length bs)) spot ∙ rw (repeat-good (constructor_at s l) f i (length bs) (lane_len_of s.settings) room p.here size) in
      let unmoved : c.taken (constructor_at s l) i (length bs) ≡ constructor_at s l = repeat-same (constructor_at s l) f i (length bs) (lane_len_of s.settings) room p.here in (
        same-arrival r.answer (Ok arrival.Taken) (g.answer ∙ ap slice_answer_of e),
        rw e at g.state ∙ ap (λ (k : SliceConstructor). with_piece s l k t) unmoved ∙ time-alone,
        rw (e, p.here) at g.bytes,
      )

  -- one of a wrong size renews no time
  pub repeat-refused : c.sized (constructor_at s (lane_of s id)) i (length bs) ≡ false → (arrival_of r.answer ≡ refused 8) × (r.state ≡ s) × (lane' ≡ lane)
  unfolding slice_spot
  repeat-refused size =
      let l : ℕ = lane_of s id in
      let f = (v.lane l low).constructor in
      let e : slice_spot s id num i (length bs) t (length small) (length lane) ≡ nothing (refused 8) =
      ap (settled s id num i (length bs)) spot ∙ rw (repeat-bad (constructor_at s l) f i (length bs) (lane_len_of s.settings) room p.here size) in
      (g.answer ∙ ap slice_answer_of e, rw e at g.state, rw e at g.bytes)
