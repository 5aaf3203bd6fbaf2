-- What follows from the promises: what the usage is, that a look and a take agree, that a refusal and a repeat change nothing, and that
-- each call has one outcome only. Assumes nothing.
use Rattle.words.specs.declared.Refusal.{Refusal}
use Rattle.std.specs.Prelude.{Result, Ok, Err, Option, Some, None}
use Prim.Native.Nat.{ℕ, ◌+◌, ◌-◌, ◌*◌, ◌≤◌, ◌<◌}
use mathlib.Core.Path.{◌≡◌, refl, sym, ap, ◌∙◌}
use mathlib.Core.Bool.{Bool, true, false}
use mathlib.Core.List.{List}
use native.Mathlib.Omega.{arith}
use borrow.Author.Tests.{ltb-true, lt-leb, le-ltb, ne_eqb, eq-eqb}
use lib.ListN.{length, get_or}
use lib.Seq.{set-get_or}
use Rattle.words.specs.Sizes.{SLICE_SIZE, SLOTS, LANES, LIMIT}
use Rattle.words.specs.Choice.{pick}
use Rattle.words.specs.Lists.{sum_below}
use Rattle.words.proofs.Unique.{told-apart, refusal_of, refusal-undone}
use Rattle.channel.specs.Settings.{lane_len_of, stores_hold_of}
use Rattle.channel.specs.declared.Settings.{Settings}
use Rattle.channel.proofs.Unique.{one-setup}
use Rattle.channel.proofs.Held.{Here}
use Rattle.slice_constructor.specs.Collect as c
use Rattle.slice_constructor.proofs.Part.{repeat-good, repeat-bad, repeat-same}
use Rattle.words.proofs.Tables.{by-test, clash, total-below}
use Rattle.receive_reliable.specs.Receive.{lane_of, in_cell_of, is_held, ignores, Outcome, taken, ignored, refused, arrival_of, MessageSpot, cell, nowhere, message_spot, message_answer_of, message_state, message_bytes, SliceSpot, opened, fresh, nothing, entry_refusal, count_refusal, constructor_at, placed, open_spot, slice_spot, with_lane_of, slice_answer_of, slice_state, slice_bytes, Waiting, message, none-waiting, refusing, waiting, look_of, look_at, part_at, after_take, Made, MadeGives, Arrived, MessageGives, SliceGives, Received, TakeGives, Valid}
use Rattle.receive_reliable.specs.Repeats.{Repeats}
use Rattle.receive_reliable.specs.Usage.{cell_use, lane_use}
use Rattle.receive_reliable.specs.declared.ReceiveChannelReliable.{ReceiveChannelReliable}
use Rattle.receive_reliable.specs.declared.Arrival.{Arrival}
use Rattle.receive_reliable.specs.declared.Arrival.TheVariants as arrival
use Rattle.channel.specs.declared.Store.{Store}
use Rattle.receive_reliable.specs.declared.Message.{Message}
use Rattle.receive_reliable.proofs.Spots.{lane_here, not-whole}
use Rattle.receive_reliable.proofs.Valid.{lane-used}

-- ---- the usage

module _ (s : ReceiveChannelReliable) (v : Valid s) where
  cell-use : (i : ℕ) → i < SLOTS → get_or s.cell_lens i 0 ≡ cell_use s i
  cell-use i h = by-test (get_or s.cells i false) (λ e. rw e) (λ e. rw e ((v.cell i h).blank e).1)

  lane-use : (l : ℕ) → l < LANES → get_or s.lane_lens l 0 ≡ lane_use s l
  lane-use l h =
      by-test (get_or s.lanes l false)
      (λ e. by-test (get_or s.whole l false) (λ w. rw (e, w)) (λ w. rw (e, w) ((v.lane l h).opened e w).3))
      (λ e. rw e ((v.lane l h).blank e).2)

  -- the usage is the lengths of the whole messages held, and 1,200 × num_slices for each open lane
  pub usage-is : s.memory_usage_bytes ≡ sum_below SLOTS (cell_use s) + sum_below LANES (lane_use s)
  usage-is =
      v.usage
      ∙ rw (total-below s.cell_lens SLOTS (cell_use s) v.cell-lens-long cell-use, total-below s.lane_lens LANES (lane_use s) v.lane-lens-long lane-use)

  -- and never passes the maximum
  pub usage-within : s.memory_usage_bytes ≤ s.settings.max_memory_usage_bytes
  usage-within = v.usage-most

-- ---- one outcome only

abbrev arrival_from : Outcome → Result Arrival Refusal
arrival_from taken = (Ok arrival.Taken)
arrival_from ignored = (Ok arrival.Ignored)
arrival_from (refused n) = Err (refusal_of n)

arrival-undone : (a : Result Arrival Refusal) → arrival_from (arrival_of a) ≡ a
arrival-undone (Ok arrival.Taken) = refl
arrival-undone (Ok arrival.Ignored) = refl
arrival-undone (Err e) = ap Err (refusal-undone e)

same-arrival : (a b : Result Arrival Refusal) → arrival_of a ≡ arrival_of b → a ≡ b
same-arrival = told-apart arrival_of arrival_from arrival-undone

abbrev look_from : Waiting → Result (Option Message) Refusal
look_from (message id store place len) = Ok (Some (record { id = record { 0 = id }; store = store; place = place; len = len }))
look_from none-waiting = (Ok None)
look_from (refusing n) = Err (refusal_of n)

look-undone : (a : Result (Option Message) Refusal) → look_from (look_of a) ≡ a
look-undone (Ok (Some m)) = refl
look-undone (Ok None) = refl
look-undone (Err e) = ap Err (refusal-undone e)

same-look : (a b : Result (Option Message) Refusal) → look_of a ≡ look_of b → a ≡ b
same-look = told-apart look_of look_from look-undone

pub one-made : (s : Settings) (r q : Made) → MadeGives s r → MadeGives s q → r ≡ q
one-made s r q x y =
    let a : r.answer ≡ q.answer = one-setup r.answer q.answer (x.number ∙ sym y.number) in
    let t : r.state ≡ q.state = x.state ∙ sym y.state in
    ap (λ (b : Result (Unit {0}) Refusal). record { answer = b; state = r.state }) a ∙ ap (λ (u : ReceiveChannelReliable). record { answer = q.answer; state = u }) t

one-arrived : (r q : Arrived) → arrival_of r.answer ≡ arrival_of q.answer → r.state ≡ q.state → r ≡ q
one-arrived r q e t =
    ap (λ (b : Result Arrival Refusal). record { answer = b; state = r.state }) (same-arrival r.answer q.answer e)
    ∙ ap (λ (u : ReceiveChannelReliable). record { answer = q.answer; state = u }) t

pub one-message : (s : ReceiveChannelReliable) (id : ℕ) (bs small lane small₁ small₂ : List ℕ) (r q : Arrived)
    → MessageGives s id bs small lane small₁ r → MessageGives s id bs small lane small₂ q → (r ≡ q) × (small₁ ≡ small₂)
one-message s id bs small lane small₁ small₂ r q x y =
    (one-arrived r q (x.answer ∙ sym y.answer) (x.state ∙ sym y.state), x.bytes ∙ sym y.bytes)

pub one-slice : (s : ReceiveChannelReliable) (id num i : ℕ) (bs small lane lane₁ lane₂ : List ℕ) (r q : Arrived)
    → SliceGives s id num i bs small lane lane₁ r → SliceGives s id num i bs small lane lane₂ q → (r ≡ q) × (lane₁ ≡ lane₂)
one-slice s id num i bs small lane lane₁ lane₂ r q x y =
    (one-arrived r q (x.answer ∙ sym y.answer) (x.state ∙ sym y.state), x.bytes ∙ sym y.bytes)

pub one-look : (s : ReceiveChannelReliable) (small lane : ℕ) (a b : Result (Option Message) Refusal) → look_of a ≡ look_at s small lane → look_of b ≡ look_at s small lane → a ≡ b
one-look s small lane a b x y = same-look a b (x ∙ sym y)

pub one-take : (s : ReceiveChannelReliable) (r q : Received) → TakeGives s r → TakeGives s q → r ≡ q
one-take s r q x y =
    let a : ◌≡◌ {A = Result (Option Message) Refusal} (Ok r.answer) (Ok q.answer) = same-look (Ok r.answer) (Ok q.answer) (x.answer ∙ sym y.answer) in
    let same : r.answer ≡ q.answer = cc in
    ap (λ (b : Option Message). record { answer = b; state = r.state }) same
    ∙ ap (λ (u : ReceiveChannelReliable). record { answer = q.answer; state = u }) (x.state ∙ sym y.state)

-- ---- a look and a take

module _ (s : ReceiveChannelReliable) where
  -- with stores that hold, a look gives what a take hands out, and `message` is that part
  pub look-is-take : (small lane : List ℕ) (a : Result (Option Message) Refusal) (part : List ℕ) (r : Received) → stores_hold_of s.settings (length small) (length lane) ≡ true
      → look_of a ≡ look_at s (length small) (length lane) → part ≡ part_at (look_at s (length small) (length lane)) small lane → TakeGives s r
      → (a ≡ Ok r.answer) × (part ≡ part_at (look_of (Ok r.answer)) small lane)
  unfolding look_at
  look-is-take small lane a part r h ea ep g =
      let e : look_at s (length small) (length lane) ≡ look_of (Ok r.answer) = rw h (sym g.answer) in
      (same-look a (Ok r.answer) (ea ∙ e), ep ∙ ap (λ (w : Waiting). part_at w small lane) e)

  waiting-tests : (a h : Bool) (id p m q n : ℕ) (x y : Store) (t u : ReceiveChannelReliable)
      → pick a (message id x p m) (pick h (message id y q n) none-waiting) ≡ none-waiting → pick a t (pick h u s) ≡ s
  waiting-tests true h id p m q n x y t u e = clash (cc)
  waiting-tests false true id p m q n x y t u e = clash (cc)
  waiting-tests false false id p m q n x y t u e = refl

  -- a take with nothing waiting changes no state
  pub nothing-taken : (r : Received) → TakeGives s r → look_of (Ok r.answer) ≡ none-waiting → r.state ≡ s
  unfolding waiting after_take
  nothing-taken r g e =
      g.state
      ∙ waiting-tests (in_cell_of s s.oldest_pending_message_id) (is_held s s.oldest_pending_message_id) _ _ _ _ _ _ _ _ _ (sym g.answer ∙ e)

  -- ---- a message or a piece that is not taken changes no state and no byte

  message-kept : (spot : MessageSpot) (id : ℕ) (bs small : List ℕ) → (message_answer_of spot ≡ taken → ⊥)
      → (message_state s id (length bs) spot ≡ s) × (message_bytes spot bs small ≡ small)
  message-kept (cell i) id bs small n = absurd (n refl)
  message-kept (nowhere o) id bs small n = (refl, refl)

  pub message-not-taken : (id : ℕ) (bs small lane small' : List ℕ) (r : Arrived) → MessageGives s id bs small lane small' r
      → (arrival_of r.answer ≡ taken → ⊥) → (r.state ≡ s) × (small' ≡ small)
  message-not-taken id bs small lane small' r g n =
      let k = message-kept (message_spot s id (length bs) (length small) (length lane)) id bs small (λ e. n (g.answer ∙ e)) in
      (g.state ∙ k.0, g.bytes ∙ k.1)

  slice_kept : (spot : SliceSpot) (id num i : ℕ) (bs lane : List ℕ) → (slice_answer_of spot ≡ taken → ⊥)
      → (slice_state s id num i (length bs) spot ≡ s) × (slice_bytes s i bs spot lane ≡ lane)
  slice_kept (opened l) id num i bs lane n = absurd (n refl)
  slice_kept (fresh l) id num i bs lane n = absurd (n refl)
  slice_kept (nothing o) id num i bs lane n = (refl, refl)

  pub slice-not-taken : (id num i : ℕ) (bs small lane lane' : List ℕ) (r : Arrived) → SliceGives s id num i bs small lane lane' r
      → (arrival_of r.answer ≡ taken → ⊥) → (r.state ≡ s) × (lane' ≡ lane)
  slice-not-taken id num i bs small lane lane' r g n =
      let k = slice_kept (slice_spot s id num i (length bs) (length small) (length lane)) id num i bs lane (λ e. n (g.answer ∙ e)) in
      (g.state ∙ k.0, g.bytes ∙ k.1)

-- ---- "A repeat is checked for size, then accepted without effect": no part of the state and no byte changes, whatever bytes it has

module _ (s : ReceiveChannelReliable) (v : Valid s) (id num i : ℕ) (bs small lane lane' : List ℕ) (r : Arrived) (g : SliceGives s id num i bs small lane lane' r)
    (stores : stores_hold_of s.settings (length small) (length lane) ≡ true) where
  -- of a message that is whole or was taken, whatever size it has
  pub repeat-ignored : id < LIMIT → ignores s id ≡ true → (r.answer ≡ (Ok arrival.Ignored)) × (r.state ≡ s) × (lane' ≡ lane)
  unfolding slice_spot entry_refusal
  repeat-ignored below old =
      let e : slice_spot s id num i (length bs) (length small) (length lane) ≡ nothing ignored = rw (stores, lt-leb _ _ below, old) in
      (same-arrival r.answer (Ok arrival.Ignored) (g.answer ∙ ap slice_answer_of e), rw e at g.state, rw e at g.bytes)

  -- of a message that is open
  module _ (p : Repeats s id num i) where
    low : lane_of s id < LANES
    low = ltb-true (lane_of s id) LANES p.lane

    here : Here s.lanes s.lane_ids id (lane_of s id)
    here = lane_here s id v p.lane

    whole : get_or s.whole (lane_of s id) false ≡ false
    whole = not-whole s id v p.lane p.awaited

    room : (constructor_at s (lane_of s id)).num_slices * SLICE_SIZE ≤ lane_len_of s.settings
    room = let f = v.lane (lane_of s id) low in omega (arith, (f.opened here.held whole).3, f.long)

    spot : slice_spot s id num i (length bs) (length small) (length lane) ≡ placed s (constructor_at s (lane_of s id)) i (length bs) (opened (lane_of s id))
    unfolding slice_spot entry_refusal count_refusal open_spot
    spot =
        let f = v.lane (lane_of s id) low in
        let below : id < LIMIT = rw here.named at f.id_below in
        let some : num ≡ 0 → ⊥ = λ z. absurd (omega (arith, (f.opened here.held whole).1, p.count)) in
        let most : num ≤ s.settings.pieces = omega (arith, room, p.count) in
        rw (stores, lt-leb _ _ below, p.awaited, ne_eqb _ _ some, le-ltb _ _ most, p.lane, eq-eqb _ _ p.count)

    same-lane : with_lane_of s (lane_of s id) id (constructor_at s (lane_of s id)) ≡ s
    unfolding with_lane_of
    same-lane =
        let l : ℕ = lane_of s id in
        let o = (v.lane l low).opened here.held whole in
        let still : c.is_whole (constructor_at s l) ≡ false = ne_eqb (constructor_at s l).num_received_slices (constructor_at s l).num_slices (λ e. absurd (omega (arith, o.2))) in
        let usage : s.memory_usage_bytes - get_or s.lane_lens l 0 + SLICE_SIZE * (constructor_at s l).num_slices ≡ s.memory_usage_bytes = omega (arith, o.3, lane-used s v l low) in
        rw (
          still,
          usage,
          rw here.held at (set-get_or s.lanes l false),
          rw whole at (set-get_or s.whole l false),
          rw here.named at (set-get_or s.lane_ids l 0),
          rw o.3 at (set-get_or s.lane_lens l 0),
          set-get_or s.constructors l (c.blank_of 0 0),
        )

    -- of the right size
    pub repeat-accepted : c.sized (constructor_at s (lane_of s id)) i (length bs) ≡ true → (r.answer ≡ (Ok arrival.Taken)) × (r.state ≡ s) × (lane' ≡ lane)
    repeat-accepted size =
        let l : ℕ = lane_of s id in
        let f = (v.lane l low).constructor in
        let e : slice_spot s id num i (length bs) (length small) (length lane) ≡ opened l = spot ∙ rw (repeat-good (constructor_at s l) f i (length bs) (lane_len_of s.settings) room p.here size) in
        let unmoved : c.taken (constructor_at s l) i (length bs) ≡ constructor_at s l = repeat-same (constructor_at s l) f i (length bs) (lane_len_of s.settings) room p.here in (
          same-arrival r.answer (Ok arrival.Taken) (g.answer ∙ ap slice_answer_of e),
          rw e at g.state ∙ ap (with_lane_of s l id) unmoved ∙ same-lane,
          rw (e, p.here) at g.bytes,
        )

    -- of a wrong one
    pub repeat-refused : c.sized (constructor_at s (lane_of s id)) i (length bs) ≡ false → (arrival_of r.answer ≡ refused 8) × (r.state ≡ s) × (lane' ≡ lane)
    repeat-refused size =
        let l : ℕ = lane_of s id in
        let f = (v.lane l low).constructor in
        let e : slice_spot s id num i (length bs) (length small) (length lane) ≡ nothing (refused 8) = spot ∙ rw (repeat-bad (constructor_at s l) f i (length bs) (lane_len_of s.settings) room p.here size) in
        (g.answer ∙ ap slice_answer_of e, rw e at g.state, rw e at g.bytes)
