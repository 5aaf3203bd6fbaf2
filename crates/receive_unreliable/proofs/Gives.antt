-- What the public functions give, from where a message, a piece, a walk or a look leads. Assumes nothing.
use Rattle.std.specs.Prelude.{Result, Ok, Err, Option, Some, None}
use Prim.Native.Nat.{ℕ, ◌+◌, ◌*◌, ◌≤◌, ◌<◌}
use mathlib.Core.Path.{◌≡◌, refl, sym, ap, ◌∙◌}
use mathlib.Core.Bool.{Bool, true, false}
use mathlib.Core.List.{List, [], ◌++◌}
use native.Mathlib.Omega.{arith}
use borrow.Author.Tests.{eqb-true, lt-ltb, le-ltb}
use lib.Dec.{eqb}
use lib.ListN.{length, get_or, take, drop}
use Rattle.words.specs.Sizes.{SLICE_SIZE, LANES, PIECES, LIMIT}
use Rattle.words.specs.Choice.{pick}
use Rattle.words.specs.Lists.{splice}
use Rattle.words.specs.Refusal.{number_of}
use Rattle.words.specs.declared.Refusal.{Refusal}
use Rattle.words.specs.declared.Refusal.TheVariants.{ClockBack}
use Rattle.words.proofs.Tables.{clash, get_d_any, none-held}
use Rattle.channel.specs.Settings.{SettledGives, lane_len_of, stores_hold_of}
use Rattle.channel.specs.declared.Settings.{Settings}
use Rattle.channel.specs.declared.Settled.{Settled}
use Rattle.channel.proofs.Good.{lane-within}
use Rattle.slice_constructor.specs.declared.SliceConstructor.{SliceConstructor}
use Rattle.slice_constructor.specs.Collect as c
use Rattle.slice_constructor.proofs.Valid as cv
use Rattle.slice_constructor.proofs.Part.{piece-refused, piece-good, taken-now, store-back}
use Rattle.receive_unreliable.specs.Receive.{new_of, MadeGives, constructor_at, Place, at-cell, at-lane, no_place, next_place, Outcome, refused, arrival_of, MessageSpot, cell, nowhere, message_spot, with_message_of, MessageGives, SliceSpot, opened, fresh, nothing, lane_spot, piece_refusal, slice_spot, judged, with_piece, SliceGives, walk_state, walk_count, at_time, discard_answer, discard_state, DiscardGives, Waiting, message, none-waiting, refusing, shown_at, look_of, look_at, part_at, without_cell, without_lane, TakeGives, Valid}
use Rattle.receive_unreliable.specs.Steps.{held_of, told, message_to, slice_place_of, lane_for_of, slice_to, Fits}
use Rattle.receive_unreliable.specs.declared.ReceiveChannelUnreliable.{ReceiveChannelUnreliable}
use Rattle.receive_unreliable.specs.declared.Arrival.{Arrival}
use Rattle.receive_unreliable.specs.declared.Arrival.TheVariants as arrival
use Rattle.channel.specs.Place.{place_for}
use Rattle.channel.specs.declared.Opened.{Opened}
use Rattle.channel.specs.declared.SlicePlace.{SlicePlace}
use Rattle.channel.specs.declared.Store.{Store}
use Rattle.channel.specs.declared.Store.TheVariants.{Small, Lanes}
use Rattle.receive_unreliable.specs.declared.Message.{Message}
use Rattle.receive_unreliable.proofs.Valid.{cell-used, lane-used, new-valid, message-valid, without-cell-valid, without-lane-valid, time-valid, piece-valid}
use Rattle.receive_unreliable.proofs.Spots.{Lies, cell_lies, lane_lies, spot-cell, Entered, open-fits, fresh-fits}
use Rattle.receive_unreliable.proofs.Walk.{walk-valid}

-- ---- a new receiver

pub made : (s : Settings) (d : Settled) (t : ReceiveChannelUnreliable) → SettledGives s d → t ≡ new_of d.settings → MadeGives s (record { answer = d.answer; state = t })
made s d t g et = record { number = g.number; state = et ∙ ap new_of g.settings; valid = rw et (new-valid d.settings g.good) }

-- ---- what a place says

not_taken : {A : Type 0} (f : Outcome → A) (x : A) (a : Result Arrival Refusal) → (a ≡ (Ok arrival.Taken) → ⊥) → told f x (arrival_of a) ≡ f (arrival_of a)
not_taken f x (Ok arrival.Taken) k = absurd (k refl)
not_taken f x (Ok arrival.Dropped) k = refl
not_taken f x (Err e) k = refl

pub cell-told : (i : ℕ) (a : Result Arrival Refusal) (spot : MessageSpot) → message_to i a ≡ spot → a ≡ (Ok arrival.Taken) → spot ≡ cell i
cell-told i a spot e h = sym e ∙ ap (message_to i) h

-- the lane for a piece, by where its message is open
place-lane : (o : Option Opened) (i : ℕ) → slice_place_of (place_for o i) ≡ lane_for_of o i
place-lane (Some o) i = refl
place-lane None i = refl

pub lane-told : (o : Option Opened) (i : ℕ) (p : SlicePlace) (spot : SliceSpot) (a : Result Arrival Refusal)
    → p ≡ place_for o i → slice_to (lane_for_of o i) a ≡ spot → a ≡ Ok arrival.Taken → spot ≡ slice_place_of p
lane-told o i p spot a ep e t = sym e ∙ ap (slice_to (lane_for_of o i)) t ∙ sym (place-lane o i) ∙ sym (ap slice_place_of ep)

-- ---- a small message

module _ (s : ReceiveChannelUnreliable) (v : Valid s) (bs small lane : List ℕ) where
  pub message-left : (i : ℕ) (a : Result Arrival Refusal) → message_to i a ≡ message_spot s (length bs) (length small) (length lane)
      → (a ≡ (Ok arrival.Taken) → ⊥) → MessageGives s bs small lane small (record { answer = a; state = s })
  message-left i a e k =
      let n = sym e ∙ not_taken nowhere (cell i) a k in
      record { answer = rw n; state = rw n; bytes = rw n; valid = v }

  pub message-taken : (i : ℕ) (small' : List ℕ) (t : ReceiveChannelUnreliable) → message_spot s (length bs) (length small) (length lane) ≡ cell i
      → small' ≡ splice (i * SLICE_SIZE) bs small → t ≡ with_message_of s i (length bs)
      → MessageGives s bs small lane small' (record { answer = (Ok arrival.Taken); state = t })
  message-taken i small' t e eb et =
      record {
        answer = rw e;
        state = rw e et;
        bytes = rw e eb;
        valid = rw et (message-valid s v (length bs) i (spot-cell s v (length bs) (length small) (length lane) i e).1);
      }

-- ---- a piece in its lane

-- a good piece leaves the constructor fitting
pub fits-taken : (s : ReceiveChannelUnreliable) (l : ℕ) (k : SliceConstructor) (t : ℕ) → Fits s l k t → (i n : ℕ) → eqb (piece_refusal s k i n) 0 ≡ true → Fits s l (c.taken k i n) t
fits-taken s l k t f i n e =
    record {
      low = f.low;
      later = f.later;
      valid = cv.taken-valid k f.valid i n (lane_len_of s.settings) (cv.good k i n (lane_len_of s.settings) (eqb-true _ _ e));
      some = rw (cv.taken-num k i n) f.some;
      most = rw (cv.taken-num k i n) f.most;
      room = rw (cv.taken-num k i n) f.room;
      not-whole = f.not-whole;
    }

module _ (s : ReceiveChannelUnreliable) (v : Valid s) (id num i : ℕ) (bs : List ℕ) (t : ℕ) (small lane : List ℕ) where
  pub slice-left : (x : SliceSpot) (a : Result Arrival Refusal) → slice_to x a ≡ lane_spot s id num t (length small) (length lane)
      → (a ≡ (Ok arrival.Taken) → ⊥) → SliceGives s id num i bs t small lane lane (record { answer = a; state = s })
  unfolding slice_spot
  slice-left x a h k =
      let e = sym h ∙ not_taken nothing x a k in
      record { answer = rw e; state = rw e; bytes = rw e; valid = v }

  -- lane l, which is fresh or not, and the constructor that the piece goes to
  lane-fits : (l : ℕ) (b : Bool) → lane_spot s id num t (length small) (length lane) ≡ pick b (fresh l) (opened l)
      → Entered s id num t (length lane) × Fits s l (c.start_of (constructor_at s l) b id num) t
  lane-fits l true h = fresh-fits s v id num t (length small) (length lane) l h
  lane-fits l false h = open-fits s v id num t (length small) (length lane) l h

  lane-spot : (l : ℕ) (b : Bool) → lane_spot s id num t (length small) (length lane) ≡ pick b (fresh l) (opened l)
      → slice_spot s id num i (length bs) t (length small) (length lane)
      ≡ judged (piece_refusal s (c.start_of (constructor_at s l) b id num) i (length bs)) (λ e. nothing (refused e)) (pick b (fresh l) (opened l))
  unfolding slice_spot
  lane-spot l true h = rw h
  lane-spot l false h = rw h

  -- a good piece in it
  good-in-lane : (l : ℕ) (b : Bool) (k : SliceConstructor) → k ≡ c.start_of (constructor_at s l) b id num
      → slice_spot s id num i (length bs) t (length small) (length lane) ≡ pick b (fresh l) (opened l) → (u : ReceiveChannelUnreliable) → Valid u
      → u ≡ with_piece s l (c.taken k i (length bs)) t → (lane' : List ℕ)
      → lane' ≡ pick (get_or k.received i false) lane (splice (l * lane_len_of s.settings + i * SLICE_SIZE) bs lane)
      → SliceGives s id num i bs t small lane lane' (record { answer = (Ok arrival.Taken); state = u })
  unfolding c.blank_of
  good-in-lane l true k ek e u w eu lane' eb = record { answer = rw e; state = rw e (rw ek at eu); bytes = rw e (rw (ek, none-held PIECES i) at eb); valid = w }
  good-in-lane l false k ek e u w eu lane' eb = record { answer = rw e; state = rw e (rw ek at eu); bytes = rw e (rw ek at eb); valid = w }

-- the piece goes to lane l, which is fresh or not
pub record InLane (s : ReceiveChannelUnreliable) (id num i : ℕ) (bs : List ℕ) (t : ℕ) (small lane : List ℕ) (l : ℕ) (b : Bool) : Type 0 where
  pub valid : Valid s
  pub spot : lane_spot s id num t (length small) (length lane) ≡ pick b (fresh l) (opened l)

module _ {s : ReceiveChannelUnreliable} {id num i : ℕ} {bs : List ℕ} {t : ℕ} {small lane : List ℕ} {l : ℕ} {b : Bool} (x : InLane s id num i bs t small lane l b) where
  fits : Entered s id num t (length lane) × Fits s l (c.start_of (constructor_at s l) b id num) t
  fits = lane-fits s x.valid id num i bs t small lane l b x.spot

  pub lane_inside : l < s.settings.lanes
  lane_inside = fits.1.low

  pub lane_low : l < LANES
  lane_low = omega (arith, lane_inside, x.valid.settings.lanes-most)

  -- the lane's part of the store
  pub within : l * lane_len_of s.settings + lane_len_of s.settings ≤ length lane
  within = omega (arith, lane-within s.settings l lane_inside, fits.0.lane_room)

  -- a constructor of its own may be made
  pub starts : (id < LIMIT) × (num ≤ PIECES)
  starts = let e = fits.0 in (e.below, omega (arith, e.most, x.valid.settings.pieces-most))

  -- the constructor that the code has, from what is stored there
  module _ (d k : SliceConstructor) (ek : k ≡ c.start_of (get_or s.constructors l d) b id num) where
    started : k ≡ c.start_of (constructor_at s l) b id num
    started =
        ek ∙ ap (λ (y : SliceConstructor). c.start_of y b id num) (get_d_any s.constructors l d (c.blank_of 0 0) (let low = lane_low in omega (arith, x.valid.constructors-long)))

    start_fits : Fits s l k t
    start_fits = rw started fits.1

    -- m bytes are lent, and come back
    module _ (m : ℕ) (em : m ≡ lane_len_of s.settings) (part : List ℕ) (r : c.Collected)
        (g : c.CollectGives k i bs (take m (drop (l * lane_len_of s.settings) lane)) part r) where
      abbrev back : List ℕ
      back = take (l * lane_len_of s.settings) lane ++ (part ++ drop m (drop (l * lane_len_of s.settings) lane))

      room : l * lane_len_of s.settings + m ≤ length lane
      room = rw em within

      told-so : c.collect_refusal k i (length bs) m ≡ piece_refusal s k i (length bs)
      told-so = ap (c.collect_refusal k i (length bs)) em

      stored : back ≡ pick (eqb (piece_refusal s k i (length bs)) 0) (pick (get_or k.received i false) lane (splice (l * lane_len_of s.settings + i * SLICE_SIZE) bs lane)) lane
      stored = rw told-so at (store-back k i bs lane (l * lane_len_of s.settings) m room part r g)

      pub slice-refused : (e : Refusal) → r.answer ≡ Err e → SliceGives s id num i bs t small lane back (record { answer = Err e; state = s })
      slice-refused e he =
          let w = rw told-so at (piece-refused k i bs lane (l * lane_len_of s.settings) m room part r g e he) in
          let spot : slice_spot s id num i (length bs) t (length small) (length lane) ≡ nothing (refused (number_of e)) =
          lane-spot s x.valid id num i bs t small lane l b x.spot ∙ rw (← started, w.0, w.1) in
          record { answer = rw spot; state = rw spot; bytes = rw spot (rw w.0 at stored); valid = x.valid }

      module _ (w : (e : Refusal) → r.answer ≡ Err e → ⊥) where
        fine : eqb (piece_refusal s k i (length bs)) 0 ≡ true
        fine = rw told-so at (piece-good k i bs lane (l * lane_len_of s.settings) m room part r g w)

        now-taken : r.state ≡ c.taken k i (length bs)
        now-taken = taken-now k i bs lane (l * lane_len_of s.settings) m room part r g (rw told-so fine)

        pub taken-fits : Fits s l r.state t
        taken-fits = rw now-taken (fits-taken s l k t start_fits i (length bs) fine)

        pub slice_taken : (u : ReceiveChannelUnreliable) → u ≡ with_piece s l r.state t → SliceGives s id num i bs t small lane back (record { answer = (Ok arrival.Taken); state = u })
        slice_taken u eu =
            let spot : slice_spot s id num i (length bs) t (length small) (length lane) ≡ pick b (fresh l) (opened l) =
            lane-spot s x.valid id num i bs t small lane l b x.spot ∙ rw (← started, fine) in
            good-in-lane s x.valid id num i bs t small lane l b k started spot u (rw eu (piece-valid s x.valid l r.state t taken-fits))
            (eu ∙ ap (λ (y : SliceConstructor). with_piece s l y t) now-taken) back (rw fine at stored)

-- ---- a discarding

module _ (s : ReceiveChannelUnreliable) (v : Valid s) (t : ℕ) where
  pub discard-refused : t < s.latest → DiscardGives s t (record { answer = Err ClockBack; state = s })
  unfolding discard_answer discard_state
  discard-refused h = record { answer = rw (lt-ltb _ _ h); state = rw (lt-ltb _ _ h); valid = v }

  pub discard-done : s.latest ≤ t → (u : ReceiveChannelUnreliable) (n : ℕ) → u ≡ walk_state LANES t (at_time s t) → n ≡ walk_count LANES t (at_time s t)
      → DiscardGives s t (record { answer = Ok n; state = u })
  unfolding discard_answer discard_state
  discard-done h u n eu en =
      record {
        answer = rw (le-ltb _ _ h, en);
        state = rw (le-ltb _ _ h) eu;
        valid = rw eu (walk-valid LANES t (at_time s t) (time-valid s v t h));
      }

-- ---- a look and a take

-- how long the message is that is shown of a place
abbrev len_at : ReceiveChannelUnreliable → Place → ℕ
len_at s (at-cell i) = get_or s.cell_lens i 0
len_at s (at-lane l) = get_or s.lane_lens l 0
len_at s no_place = 0

len_in : Waiting → ℕ
len_in (message store place len) = len
len_in none-waiting = 0
len_in (refusing e) = 0

pub shown-len : (s : ReceiveChannelUnreliable) (m : Message) (p : Place) → look_of (Ok (Some m)) ≡ shown_at s p → m.len ≡ len_at s p
unfolding len_in
shown-len s m (at-cell i) e = ap len_in e
shown-len s m (at-lane l) e = ap len_in e
shown-len s m no_place e = clash (cc)

-- it is no more than the usage
pub shown-used : (s : ReceiveChannelUnreliable) → Valid s → (m : Message) (x : Store) (i : ℕ) → held_of (Some (x, i)) ≡ next_place s
    → look_of (Ok (Some m)) ≡ shown_at s (held_of (Some (x, i))) → m.len ≤ s.memory_usage_bytes
unfolding Lies
shown-used s v m Small i e h = rw (shown-len s m (at-cell i) h) (cell-used s v i (omega (arith, (cell_lies s v i e).2, v.settings.slots-most)))
shown-used s v m Lanes l e h = rw (shown-len s m (at-lane l) h) (lane-used s v l (omega (arith, (lane_lies s v l e).2, v.settings.lanes-most)))

module _ (s : ReceiveChannelUnreliable) where
  pub look-refused : (small lane : ℕ) → stores_hold_of s.settings small lane ≡ false → refusing 10 ≡ look_at s small lane
  unfolding look_at
  look-refused small lane h = rw h

  pub look-shows : (small lane : ℕ) → stores_hold_of s.settings small lane ≡ true → (p : Place) → p ≡ next_place s → shown_at s p ≡ look_at s small lane
  unfolding look_at
  look-shows small lane h p e = rw h (ap (shown_at s) e)

  -- where something is held something waits
  pub some-waits : Valid s → (x : Store) (i : ℕ) → held_of (Some (x, i)) ≡ next_place s → 0 < s.count
  unfolding Lies
  some-waits v Small i e = (cell_lies s v i e).0
  some-waits v Lanes l e = (lane_lies s v l e).0

  pub took-nothing : Valid s → no_place ≡ next_place s → TakeGives s (record { answer = None; state = s })
  took-nothing v e = record { answer = rw (← e); state = rw (← e); valid = v }

  module _ (v : Valid s) (m : Message) (t : ReceiveChannelUnreliable) where
    pub took-small : (i : ℕ) → at-cell i ≡ next_place s → look_of (Ok (Some m)) ≡ shown_at s (at-cell i) → t ≡ without_cell s i → TakeGives s (record { answer = Some m; state = t })
    unfolding Lies
    took-small i e ea et =
        let h = cell_lies s v i e in
        record {
          answer = rw (← e) ea;
          state = rw (← e) et;
          valid = rw et (without-cell-valid s v i (omega (arith, h.2, v.settings.slots-most)) h.0 h.1 h.3);
        }

    pub took-lanes : (l : ℕ) → at-lane l ≡ next_place s → look_of (Ok (Some m)) ≡ shown_at s (at-lane l) → t ≡ without_lane s l → TakeGives s (record { answer = Some m; state = t })
    unfolding Lies
    took-lanes l e ea et =
        let h = lane_lies s v l e in
        record {
          answer = rw (← e) ea;
          state = rw (← e) et;
          valid = rw et (without-lane-valid s v l (omega (arith, h.2, v.settings.lanes-most)) h.0 h.1 h.3 h.4);
        }

-- ---- the part that a look shows

module _ (w : Waiting) (small lane : List ℕ) where
  pub no_part : (a : Result (Option Message) Refusal) → look_of a ≡ w → ((m : Message) → a ≡ Ok (Some m) → ⊥) → [] ≡ part_at w small lane
  no_part a e k = empty a k ∙ ap (λ (x : Waiting). part_at x small lane) e where
    empty : (a : Result (Option Message) Refusal) → ((m : Message) → a ≡ Ok (Some m) → ⊥) → [] ≡ part_at (look_of a) small lane
    empty (Ok (Some m)) k = absurd (k m refl)
    empty (Ok None) k = refl
    empty (Err e) k = refl
