-- What the private functions answer, by the tests that led there. Assumes nothing.
use Rattle.words.specs.declared.Refusal.{Refusal}
use Rattle.std.specs.Prelude.{Result, Ok, Err, Option, Some, None}
use Prim.Native.Nat.{ℕ, ◌+◌, ◌*◌, ◌≤◌, ◌<◌}
use mathlib.Core.Path.{◌≡◌, refl, ap, ◌∙◌}
use mathlib.Core.Bool.{Bool, true, false}
use mathlib.Core.List.{List, []}
use native.Mathlib.Omega.{arith}
use borrow.Author.Tests.{lt-ltb, le-ltb, le-leb, lt-leb, eq-eqb, ne_eqb}
use lib.Dec.{ltb, eqb}
use Rattle.words.specs.Sizes.{SLICE_SIZE, LIMIT}
use Rattle.words.specs.Choice.{pick}
use Rattle.words.specs.Lists.{lowest_free_of}
use Rattle.channel.specs.Settings.{stores_hold_of}
use Rattle.receive_reliable.specs.Receive.{lane_of, in_lane_of, is_held, ignores, Outcome, taken, ignored, refused, arrival_of, judged, entry_refusal, message_refusal, MessageSpot, cell, nowhere, message_spot, SliceSpot, opened, fresh, nothing, count_refusal, fresh_refusal, constructor_at, Waiting, look_of, part_at}
use Rattle.receive_reliable.specs.Steps.{entry_of, told, message_to, lane_for_of, open_of, slice_to, open_lane, fresh_lane, lane_spot}
use Rattle.receive_reliable.specs.declared.ReceiveChannelReliable.{ReceiveChannelReliable}
use Rattle.channel.specs.declared.Opened.{Opened}
use Rattle.receive_reliable.specs.declared.Message.{Message}
use Rattle.receive_reliable.specs.declared.Held.{Held}
use Rattle.receive_reliable.specs.declared.Held.TheVariants as held
use Rattle.receive_reliable.specs.declared.Arrival.{Arrival}
use Rattle.receive_reliable.specs.declared.Arrival.TheVariants as arrival
use Rattle.words.proofs.Tables.{clash}

-- ---- what every arrival is judged by first

module _ (s : ReceiveChannelReliable) (id small lane : ℕ) where
  pub bad-store : stores_hold_of s.settings small lane ≡ false → refused 10 ≡ entry_of s id small lane
  unfolding entry_of entry_refusal
  bad-store h = rw h

  module _ (h : stores_hold_of s.settings small lane ≡ true) where
    pub bad-number : LIMIT ≤ id → refused 13 ≡ entry_of s id small lane
    unfolding entry_of entry_refusal
    bad-number n = rw (h, le-leb _ _ n)

    module _ (n : id < LIMIT) where
      pub old_id : id < s.oldest_pending_message_id → ignored ≡ entry_of s id small lane
      unfolding entry_of entry_refusal ignores
      old_id o = rw (h, lt-leb _ _ n, lt-ltb _ _ o)

      pub new-id : s.oldest_pending_message_id ≤ id → (b : Bool) → is_held s id ≡ b → pick b ignored taken ≡ entry_of s id small lane
      unfolding entry_of entry_refusal ignores
      new-id o b e = rw (h, lt-leb _ _ n, le-ltb _ _ o, e)

-- what may be taken is not held whole
not-both : (a b : Bool) (x : ℕ) → taken ≡ pick a (pick b ignored taken) (refused x) → b ≡ false
not-both true true x e = clash (cc)
not-both true false x e = refl
not-both false b x e = clash (cc)

not-either : (a b : Bool) → pick a true b ≡ false → b ≡ false
not-either true b e = clash (cc)
not-either false b e = e

pub not-held : (s : ReceiveChannelReliable) (id small lane : ℕ) → taken ≡ entry_of s id small lane → is_held s id ≡ false
unfolding entry_of ignores
not-held s id small lane go =
    not-either (ltb id s.oldest_pending_message_id) (is_held s id) (not-both (eqb (entry_refusal s id small lane) 0) (ignores s id) (entry_refusal s id small lane) go)

gone : {A : Type 0} (f : Outcome → A) (m : A) (a b : Bool) (x : ℕ) → told f m (pick a (pick b ignored taken) (refused x)) ≡ pick a (pick b (f ignored) m) (f (refused x))
gone f m true true x = refl
gone f m true false x = refl
gone f m false b x = refl

stops : {A : Type 0} (f : Outcome → A) (x m : A) (a : Result Arrival Refusal) → (a ≡ (Ok arrival.Taken) → ⊥) → told f x (arrival_of a) ≡ told f m (arrival_of a)
stops f x m (Ok arrival.Taken) k = absurd (k refl)
stops f x m (Ok arrival.Ignored) k = refl
stops f x m (Err e) k = refl

-- ---- a small message

module _ (s : ReceiveChannelReliable) (id n small lane : ℕ) where
  message_on : MessageSpot
  message_on = judged (message_refusal s id n) (λ e. nowhere (refused e)) (cell (lowest_free_of s.cells s.settings.slots))

  message-goes : told nowhere message_on (entry_of s id small lane) ≡ message_spot s id n small lane
  unfolding message_on entry_of message_spot
  message-goes = gone nowhere message_on (eqb (entry_refusal s id small lane) 0) (ignores s id) (entry_refusal s id small lane)

  pub message-stops : (i : ℕ) (a : Result Arrival Refusal) → arrival_of a ≡ entry_of s id small lane → (a ≡ (Ok arrival.Taken) → ⊥) → message_to i a ≡ message_spot s id n small lane
  message-stops i a e k = stops nowhere (cell i) message_on a k ∙ ap (told nowhere message_on) e ∙ message-goes

  module _ (go : taken ≡ entry_of s id small lane) where
    message-on : message_on ≡ message_spot s id n small lane
    message-on = ap (told nowhere message_on) go ∙ message-goes

    pub too_long : SLICE_SIZE < n → nowhere (refused 12) ≡ message_spot s id n small lane
    unfolding message_on message_refusal
    too_long h = rw (lt-ltb _ _ h) at message-on

    module _ (short : n ≤ SLICE_SIZE) where
      pub wrong-kind : in_lane_of s id ≡ true → nowhere (refused 16) ≡ message_spot s id n small lane
      unfolding message_on message_refusal
      wrong-kind t = rw (le-ltb _ _ short, t) at message-on

      module _ (t : in_lane_of s id ≡ false) where
        pub no-memory : s.settings.max_memory_usage_bytes < s.memory_usage_bytes + n → nowhere (refused 7) ≡ message_spot s id n small lane
        unfolding message_on message_refusal
        no-memory h = rw (le-ltb _ _ short, t, lt-ltb _ _ h) at message-on

        module _ (memory : s.memory_usage_bytes + n ≤ s.settings.max_memory_usage_bytes) (i : ℕ) (ei : i ≡ lowest_free_of s.cells s.settings.slots) where
          pub no-cell-free : s.settings.slots ≤ i → nowhere (refused 11) ≡ message_spot s id n small lane
          unfolding message_on message_refusal
          no-cell-free h = rw (le-ltb _ _ short, t, le-ltb _ _ memory, ← ei, le-leb _ _ h) at message-on

          pub cell_free : i < s.settings.slots → cell i ≡ message_spot s id n small lane
          unfolding message_on message_refusal
          cell_free h = rw (le-ltb _ _ short, t, le-ltb _ _ memory, ← ei, lt-leb _ _ h) at message-on

-- ---- a piece

module _ (s : ReceiveChannelReliable) (id num small lane : ℕ) where
  slice_on : SliceSpot
  slice_on = judged (count_refusal s num) (λ e. nothing (refused e)) (pick (in_lane_of s id) (open_lane s (lane_of s id) num) (fresh_lane s num))

  slice-goes : told nothing slice_on (entry_of s id small lane) ≡ lane_spot s id num small lane
  unfolding slice_on entry_of lane_spot
  slice-goes = gone nothing slice_on (eqb (entry_refusal s id small lane) 0) (ignores s id) (entry_refusal s id small lane)

  pub slice-stops : (x : SliceSpot) (a : Result Arrival Refusal) → arrival_of a ≡ entry_of s id small lane → (a ≡ (Ok arrival.Taken) → ⊥) → slice_to x a ≡ lane_spot s id num small lane
  slice-stops x a e k = stops nothing x slice_on a k ∙ ap (told nothing slice_on) e ∙ slice-goes

  module _ (go : taken ≡ entry_of s id small lane) where
    slice-on : slice_on ≡ lane_spot s id num small lane
    slice-on = ap (told nothing slice_on) go ∙ slice-goes

    pub no_pieces : num ≡ 0 → nothing (refused 8) ≡ lane_spot s id num small lane
    unfolding slice_on count_refusal
    no_pieces h = rw (eq-eqb _ _ h) at slice-on

    module _ (some : num ≡ 0 → ⊥) where
      pub too_many : s.settings.pieces < num → nothing (refused 12) ≡ lane_spot s id num small lane
      unfolding slice_on count_refusal
      too_many h = rw (ne_eqb _ _ some, lt-ltb _ _ h) at slice-on

      module _ (most : num ≤ s.settings.pieces) (x : SliceSpot) where
        pub is_open : (l : ℕ) → lane_of s id ≡ l → in_lane_of s id ≡ true → x ≡ open_lane s l num → x ≡ lane_spot s id num small lane
        unfolding slice_on count_refusal
        is_open l el t e = e ∙ rw (ne_eqb _ _ some, le-ltb _ _ most, t, el) at slice-on

        pub is-fresh : in_lane_of s id ≡ false → x ≡ fresh_lane s num → x ≡ lane_spot s id num small lane
        unfolding slice_on count_refusal
        is-fresh t e = e ∙ rw (ne_eqb _ _ some, le-ltb _ _ most, t) at slice-on

-- a message that has no open lane goes to the free one
pub not-open : (h : Option Held) (i : ℕ) → open_of h ≡ None → lane_for_of h i ≡ fresh i
not-open (Some (held.At store j)) i k = refl
not-open (Some (held.Open o)) i k = clash (cc)
not-open None i k = refl

-- and one that has goes to that one
pub is-open : (h : Option Held) (i : ℕ) (o : Opened) → open_of h ≡ Some o → (h ≡ Some (held.Open o)) × (lane_for_of h i ≡ opened o.lane)
is-open (Some (held.At store j)) i o k = clash (cc)
is-open (Some (held.Open p)) i o k = (cc, cc)
is-open None i o k = clash (cc)

-- a lane that is free

module _ (s : ReceiveChannelReliable) (num : ℕ) where
  pub no-memory-left : s.settings.max_memory_usage_bytes < s.memory_usage_bytes + SLICE_SIZE * num → nothing (refused 7) ≡ fresh_lane s num
  unfolding fresh_lane fresh_refusal
  no-memory-left h = rw (lt-ltb _ _ h)

  module _ (memory : s.memory_usage_bytes + SLICE_SIZE * num ≤ s.settings.max_memory_usage_bytes) (l : ℕ) (el : l ≡ lowest_free_of s.lanes s.settings.lanes) where
    pub no-lane-free : s.settings.lanes ≤ l → nothing (refused 11) ≡ fresh_lane s num
    unfolding fresh_lane fresh_refusal
    no-lane-free h = rw (le-ltb _ _ memory, ← el, le-leb _ _ h)

    pub lane-free : l < s.settings.lanes → fresh l ≡ fresh_lane s num
    unfolding fresh_lane fresh_refusal
    lane-free h = rw (le-ltb _ _ memory, ← el, lt-leb _ _ h)

-- a lane that is open, with a charge of n

module _ (s : ReceiveChannelReliable) (l num n : ℕ) (e : n ≡ SLICE_SIZE * (constructor_at s l).num_slices) where
  pub same_count : n ≡ SLICE_SIZE * num → opened l ≡ open_lane s l num
  unfolding open_lane
  same_count h = rw (eq-eqb (constructor_at s l).num_slices num (omega arith))

  pub other-count : (n ≡ SLICE_SIZE * num → ⊥) → nothing (refused 8) ≡ open_lane s l num
  unfolding open_lane
  other-count h = rw (ne_eqb (constructor_at s l).num_slices num (λ k. h (e ∙ ap (λ (m : ℕ). SLICE_SIZE * m) k)))

-- ---- the part that a look shows

module _ (w : Waiting) (small lane : List ℕ) where
  pub no_part : (a : Result (Option Message) Refusal) → look_of a ≡ w → ((m : Message) → a ≡ Ok (Some m) → ⊥) → [] ≡ part_at w small lane
  no_part a e k = empty a k ∙ ap (λ (x : Waiting). part_at x small lane) e where
    empty : (a : Result (Option Message) Refusal) → ((m : Message) → a ≡ Ok (Some m) → ⊥) → [] ≡ part_at (look_of a) small lane
    empty (Ok (Some m)) k = absurd (k m refl)
    empty (Ok None) k = refl
    empty (Err e) k = refl
