-- What the public functions give, from where a message, a piece or a look leads. Assumes nothing.
use Rattle.std.specs.Prelude.{Result, Ok, Err, Option, Some, None}
use Prim.Native.Nat.{ℕ, ◌+◌, ◌*◌, ◌≤◌, ◌<◌}
use mathlib.Core.Path.{◌≡◌, refl, sym, ap, ◌∙◌}
use mathlib.Core.Bool.{Bool, true, false}
use mathlib.Core.List.{List, ◌++◌}
use native.Mathlib.Omega.{arith}
use borrow.Author.Tests.{eqb-true}
use lib.Dec.{eqb}
use lib.ListN.{length, get_or, take, drop}
use Rattle.words.specs.Sizes.{SLICE_SIZE, LANES, PIECES, LIMIT}
use Rattle.words.specs.Choice.{pick}
use Rattle.words.specs.Lists.{splice}
use Rattle.words.specs.Refusal.{number_of}
use Rattle.words.specs.declared.Refusal.{Refusal}
use Rattle.words.proofs.Tables.{get_d_any, none-held}
use Rattle.channel.specs.Settings.{SettledGives, lane_len_of}
use Rattle.channel.specs.declared.Settings.{Settings}
use Rattle.channel.specs.declared.Settled.{Settled}
use Rattle.channel.proofs.Good.{lane-within}
use Rattle.slice_constructor.specs.declared.SliceConstructor.{SliceConstructor}
use Rattle.slice_constructor.specs.Collect as c
use Rattle.slice_constructor.proofs.Valid as cv
use Rattle.slice_constructor.proofs.Part.{piece-refused, piece-good, taken-now, store-back}
use Rattle.receive_reliable.specs.Receive.{new_of, MadeGives, Outcome, refused, arrival_of, MessageSpot, cell, nowhere, message_spot, with_message_of, MessageGives, SliceSpot, opened, fresh, nothing, constructor_at, placed, slice_spot, with_lane_of, SliceGives, Waiting, message, none-waiting, refusing, look_of, without_cell, without_lane, TakeGives, Valid}
use Rattle.receive_reliable.specs.Steps.{held_in, shown_at, told, message_to, slice_place_of, lane_for_of, whole_of, open_of, slice_to, lane_spot, Fits, piece_refusal}
use Rattle.receive_reliable.specs.declared.ReceiveChannelReliable.{ReceiveChannelReliable}
use Rattle.receive_reliable.specs.declared.Arrival.{Arrival}
use Rattle.receive_reliable.specs.declared.Arrival.TheVariants as arrival
use Rattle.channel.specs.Place.{place_for}
use Rattle.channel.specs.declared.Opened.{Opened}
use Rattle.channel.specs.declared.SlicePlace.{SlicePlace}
use Rattle.channel.specs.declared.Store.{Store}
use Rattle.channel.specs.declared.Store.TheVariants.{Small, Lanes}
use Rattle.receive_reliable.specs.declared.Message.{Message}
use Rattle.receive_reliable.specs.declared.Held.{Held}
use Rattle.receive_reliable.specs.declared.Held.TheVariants as held
use Rattle.receive_reliable.proofs.Valid.{cell-used, lane-used, new-valid, message-valid, lane-valid, without-cell-valid, without-lane-valid}
use Rattle.receive_reliable.proofs.Spots.{Entered, small-held, lane-held, waiting-nothing, waiting-shown, take-nothing, take-small, take-lanes, spot-cell, open-fits, fresh-fits, spot-opened, spot-fresh, spot-nothing}

-- ---- a take

-- how long the message is that is shown of a cell or lane
abbrev len_at : ReceiveChannelReliable → Store → ℕ → ℕ
len_at s Small i = get_or s.cell_lens i 0
len_at s Lanes l = get_or s.lane_lens l 0

len_in : Waiting → ℕ
len_in (message id store place len) = len
len_in none-waiting = 0
len_in (refusing e) = 0

pub shown-len : (s : ReceiveChannelReliable) (m : Message) (store : Store) (i : ℕ) → look_of (Ok (Some m)) ≡ shown_at s store i → m.len ≡ len_at s store i
unfolding len_in
shown-len s m Small i e = ap len_in e
shown-len s m Lanes i e = ap len_in e

-- it is no more than the usage
pub shown-used : (s : ReceiveChannelReliable) → Valid s → (m : Message) (store : Store) (i : ℕ) → held_in s s.oldest_pending_message_id ≡ Some (held.At store i)
    → look_of (Ok (Some m)) ≡ shown_at s store i → m.len ≤ s.memory_usage_bytes
shown-used s v m Small i e h = rw (shown-len s m Small i h) (cell-used s v i (omega (arith, (small-held s s.oldest_pending_message_id v i e).0, v.settings.slots-most)))
shown-used s v m Lanes i e h = rw (shown-len s m Lanes i h) (lane-used s v i (omega (arith, (lane-held s s.oldest_pending_message_id v i e).0, v.settings.lanes-most)))

module _ (s : ReceiveChannelReliable) (v : Valid s) where
  pub took-nothing : (h : Option Held) → held_in s s.oldest_pending_message_id ≡ h → whole_of h ≡ None
      → TakeGives s (record { answer = None; state = s })
  took-nothing h e k = record { answer = sym (waiting-nothing s h e k); state = sym (take-nothing s h e k); valid = v }

  module _ (m : Message) (t : ReceiveChannelReliable) (i : ℕ) where
    pub took-small : held_in s s.oldest_pending_message_id ≡ Some (held.At Small i) → look_of (Ok (Some m)) ≡ shown_at s Small i → t ≡ without_cell s i → TakeGives s (record { answer = Some m; state = t })
    took-small e ea et =
        let h = small-held s s.oldest_pending_message_id v i e in
        record {
          answer = ea ∙ sym (waiting-shown s Small i e);
          state = et ∙ sym (take-small s i e);
          valid = rw et (without-cell-valid s v i (omega (arith, h.0, v.settings.slots-most)) h.1);
        }

    pub took-lanes : held_in s s.oldest_pending_message_id ≡ Some (held.At Lanes i) → look_of (Ok (Some m)) ≡ shown_at s Lanes i → t ≡ without_lane s i → TakeGives s (record { answer = Some m; state = t })
    took-lanes e ea et =
        let h = lane-held s s.oldest_pending_message_id v i e in
        record {
          answer = ea ∙ sym (waiting-shown s Lanes i e);
          state = et ∙ sym (take-lanes s i e);
          valid = rw et (without-lane-valid s v i (omega (arith, h.0, v.settings.lanes-most)) h.2 h.1);
        }

-- ---- what a place says

not_taken : {A : Type 0} (f : Outcome → A) (x : A) (a : Result Arrival Refusal) → (a ≡ (Ok arrival.Taken) → ⊥) → told f x (arrival_of a) ≡ f (arrival_of a)
not_taken f x (Ok arrival.Taken) k = absurd (k refl)
not_taken f x (Ok arrival.Ignored) k = refl
not_taken f x (Err e) k = refl

pub cell-told : (i : ℕ) (a : Result Arrival Refusal) (spot : MessageSpot) → message_to i a ≡ spot → a ≡ (Ok arrival.Taken) → spot ≡ cell i
cell-told i a spot e h = sym e ∙ ap (message_to i) h

-- the lane for a piece, by where its message is
place-lane : (h : Option Held) (i : ℕ) → slice_place_of (place_for (open_of h) i) ≡ lane_for_of h i
place-lane (Some (held.At store j)) i = refl
place-lane (Some (held.Open o)) i = refl
place-lane None i = refl

pub lane-told : (h : Option Held) (i : ℕ) (o : Option Opened) (p : SlicePlace) (spot : SliceSpot) (a : Result Arrival Refusal)
    → o ≡ open_of h → p ≡ place_for o i → slice_to (lane_for_of h i) a ≡ spot → a ≡ Ok arrival.Taken → spot ≡ slice_place_of p
lane-told h i o p spot a eo ep e t =
    sym e ∙ ap (slice_to (lane_for_of h i)) t ∙ sym (place-lane h i) ∙ sym (ap slice_place_of (ep ∙ ap (λ (x : Option Opened). place_for x i) eo))

-- ---- a small message

module _ (s : ReceiveChannelReliable) (v : Valid s) (id : ℕ) (bs small lane : List ℕ) where
  pub message-left : (i : ℕ) (a : Result Arrival Refusal) → message_to i a ≡ message_spot s id (length bs) (length small) (length lane)
      → (a ≡ (Ok arrival.Taken) → ⊥) → MessageGives s id bs small lane small (record { answer = a; state = s })
  message-left i a e k =
      let n = sym e ∙ not_taken nowhere (cell i) a k in
      record { answer = rw n; state = rw n; bytes = rw n; valid = v }

  pub message-taken : (i : ℕ) (small' : List ℕ) (t : ReceiveChannelReliable) → message_spot s id (length bs) (length small) (length lane) ≡ cell i
      → small' ≡ splice (i * SLICE_SIZE) bs small → t ≡ with_message_of s i id (length bs)
      → MessageGives s id bs small lane small' (record { answer = (Ok arrival.Taken); state = t })
  message-taken i small' t e eb et =
      record {
        answer = rw e;
        state = rw e et;
        bytes = rw e eb;
        valid = rw et (message-valid s v id (length bs) i (spot-cell s v id (length bs) (length small) (length lane) i e).1);
      }

-- ---- a piece in its lane

-- a piece that is not refused leaves the constructor fitting
pub fits-taken : (s : ReceiveChannelReliable) (l id : ℕ) (k : SliceConstructor) → Fits s l id k → (i n : ℕ) → piece_refusal s k i n ≡ 0 → Fits s l id (c.taken k i n)
fits-taken s l id k f i n e =
    record {
      low = f.low;
      below = f.below;
      valid = cv.taken-valid k f.valid i n (lane_len_of s.settings) (cv.good k i n (lane_len_of s.settings) e);
      named = rw (cv.taken-id k i n) f.named;
      one = rw (cv.taken-num k i n) f.one;
      most = rw (cv.taken-num k i n) f.most;
      room = rw (cv.taken-num k i n) f.room;
    }

module _ (s : ReceiveChannelReliable) (v : Valid s) (id num i : ℕ) (bs small lane : List ℕ) where
  pub slice-left : (x : SliceSpot) (a : Result Arrival Refusal) → slice_to x a ≡ lane_spot s id num (length small) (length lane)
      → (a ≡ (Ok arrival.Taken) → ⊥) → SliceGives s id num i bs small lane lane (record { answer = a; state = s })
  slice-left x a h k =
      let left = sym h ∙ not_taken nothing x a k in
      let e = spot-nothing s id num i (length bs) (length small) (length lane) (arrival_of a) left in
      record { answer = rw e; state = rw e; bytes = rw e; valid = v }

  -- lane l, which is fresh or not, and the constructor that the piece goes to
  lane-fits : (l : ℕ) (b : Bool) → lane_spot s id num (length small) (length lane) ≡ pick b (fresh l) (opened l)
      → Entered s id (length small) (length lane) × Fits s l id (c.start_of (constructor_at s l) b id num)
  lane-fits l true h = fresh-fits s v id num (length small) (length lane) l h
  lane-fits l false h = open-fits s v id num (length small) (length lane) l h

  lane-spot : (l : ℕ) (b : Bool) → lane_spot s id num (length small) (length lane) ≡ pick b (fresh l) (opened l)
      → slice_spot s id num i (length bs) (length small) (length lane) ≡ placed s (c.start_of (constructor_at s l) b id num) i (length bs) (pick b (fresh l) (opened l))
  lane-spot l true h = spot-fresh s id num i (length bs) (length small) (length lane) l h
  lane-spot l false h = spot-opened s id num i (length bs) (length small) (length lane) l h

  -- a good piece in it
  good-in-lane : (l : ℕ) (b : Bool) (k : SliceConstructor) → k ≡ c.start_of (constructor_at s l) b id num
      → slice_spot s id num i (length bs) (length small) (length lane) ≡ pick b (fresh l) (opened l) → (t : ReceiveChannelReliable) → Valid t
      → t ≡ with_lane_of s l id (c.taken k i (length bs)) → (lane' : List ℕ)
      → lane' ≡ pick (get_or k.received i false) lane (splice (l * lane_len_of s.settings + i * SLICE_SIZE) bs lane)
      → SliceGives s id num i bs small lane lane' (record { answer = (Ok arrival.Taken); state = t })
  unfolding c.blank_of
  good-in-lane l true k ek e t w et lane' eb = record { answer = rw e; state = rw e (rw ek at et); bytes = rw e (rw (ek, none-held PIECES i) at eb); valid = w }
  good-in-lane l false k ek e t w et lane' eb = record { answer = rw e; state = rw e (rw ek at et); bytes = rw e (rw ek at eb); valid = w }

-- the piece goes to lane l, which is fresh or not
pub record InLane (s : ReceiveChannelReliable) (id num i : ℕ) (bs small lane : List ℕ) (l : ℕ) (b : Bool) : Type 0 where
  pub valid : Valid s
  pub spot : lane_spot s id num (length small) (length lane) ≡ pick b (fresh l) (opened l)

module _ {s : ReceiveChannelReliable} {id num i : ℕ} {bs small lane : List ℕ} {l : ℕ} {b : Bool} (x : InLane s id num i bs small lane l b) where
  fits : Entered s id (length small) (length lane) × Fits s l id (c.start_of (constructor_at s l) b id num)
  fits = lane-fits s x.valid id num i bs small lane l b x.spot

  placed-spot : slice_spot s id num i (length bs) (length small) (length lane) ≡ placed s (c.start_of (constructor_at s l) b id num) i (length bs) (pick b (fresh l) (opened l))
  placed-spot = lane-spot s x.valid id num i bs small lane l b x.spot

  pub lane_inside : l < s.settings.lanes
  lane_inside = fits.1.low

  pub lane_low : l < LANES
  lane_low = omega (arith, lane_inside, x.valid.settings.lanes-most)

  -- the lane's part of the store
  pub within : l * lane_len_of s.settings + lane_len_of s.settings ≤ length lane
  within = let f = fits in omega (arith, lane-within s.settings l f.1.low, f.0.lane_room)

  -- a constructor of its own may be made
  pub starts : b ≡ true → (id < LIMIT) × (num ≤ PIECES)
  unfolding c.blank_of
  starts e = let f : Fits s l id (c.start_of (constructor_at s l) true id num) = rw e at fits.1 in (f.below, omega (arith, f.most, x.valid.settings.pieces-most))

  -- the constructor that the code has, from what is stored there
  module _ (d k : SliceConstructor) (ek : k ≡ c.start_of (get_or s.constructors l d) b id num) where
    started : k ≡ c.start_of (constructor_at s l) b id num
    started =
        ek ∙ ap (λ (x : SliceConstructor). c.start_of x b id num) (get_d_any s.constructors l d (c.blank_of 0 0) (let low = lane_low in omega (arith, x.valid.constructors-long)))

    start_fits : Fits s l id k
    start_fits = rw started fits.1

    -- m bytes are lent, and come back
    module _ (m : ℕ) (em : m ≡ lane_len_of s.settings) (part : List ℕ) (r : c.Collected)
        (g : c.CollectGives k i bs (take m (drop (l * lane_len_of s.settings) lane)) part r) where
      abbrev back : List ℕ
      back = take (l * lane_len_of s.settings) lane ++ (part ++ drop m (drop (l * lane_len_of s.settings) lane))

      room : l * lane_len_of s.settings + m ≤ length lane
      room = rw em within

      told-so : c.collect_refusal k i (length bs) m ≡ piece_refusal s k i (length bs)
      told-so = ap (c.collect_refusal k i (length bs)) em

      stored : back ≡ pick (eqb (piece_refusal s k i (length bs)) 0) (pick (get_or k.received i false) lane (splice (l * lane_len_of s.settings + i * SLICE_SIZE) bs lane)) lane
      stored = rw told-so at (store-back k i bs lane (l * lane_len_of s.settings) m room part r g)

      pub slice-refused : (e : Refusal) → r.answer ≡ Err e → SliceGives s id num i bs small lane back (record { answer = Err e; state = s })
      slice-refused e he =
          let t = rw told-so at (piece-refused k i bs lane (l * lane_len_of s.settings) m room part r g e he) in
          let spot : slice_spot s id num i (length bs) (length small) (length lane) ≡ nothing (refused (number_of e)) = placed-spot ∙ rw (← started, t.0, t.1) in
          record { answer = rw spot; state = rw spot; bytes = rw spot (rw t.0 at stored); valid = x.valid }

      module _ (t : (e : Refusal) → r.answer ≡ Err e → ⊥) where
        fine : eqb (piece_refusal s k i (length bs)) 0 ≡ true
        fine = rw told-so at (piece-good k i bs lane (l * lane_len_of s.settings) m room part r g t)

        now-taken : r.state ≡ c.taken k i (length bs)
        now-taken = taken-now k i bs lane (l * lane_len_of s.settings) m room part r g (rw told-so fine)

        pub taken-fits : Fits s l id r.state
        taken-fits = rw now-taken (fits-taken s l id k start_fits i (length bs) (eqb-true _ _ fine))

        pub slice_taken : (u : ReceiveChannelReliable) → u ≡ with_lane_of s l id r.state → SliceGives s id num i bs small lane back (record { answer = (Ok arrival.Taken); state = u })
        slice_taken u eu =
            let spot : slice_spot s id num i (length bs) (length small) (length lane) ≡ pick b (fresh l) (opened l) = placed-spot ∙ rw (← started, fine) in
            good-in-lane s x.valid id num i bs small lane l b k started spot u (rw eu (lane-valid s x.valid l id r.state taken-fits)) (eu ∙ ap (with_lane_of s l id) now-taken) back (rw fine at stored)

-- ---- a new receiver

pub made : (s : Settings) (d : Settled) (t : ReceiveChannelReliable) → SettledGives s d → t ≡ new_of d.settings → MadeGives s (record { answer = d.answer; state = t })
made s d t g et = record { number = g.number; state = et ∙ ap new_of g.settings; valid = rw et (new-valid d.settings g.good) }
