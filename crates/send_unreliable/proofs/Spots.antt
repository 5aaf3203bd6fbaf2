-- Where a message goes, by the tests that lead there, and what is known where it goes to a cell or a lane. Assumes nothing.
use Prim.Native.Nat.{ℕ, ◌+◌, ◌≤◌, ◌<◌}
use mathlib.Core.Path.{◌≡◌, refl, ap}
use mathlib.Core.Bool.{Bool, true, false, not}
use borrow.Author.Tests.{lt-ltb, le-ltb, le-leb, lt-leb, ltb-true, ltb-false, leb-true}
use lib.Dec.{ltb, eqb}
use Rattle.words.specs.Sizes.{SLICE_SIZE}
use Rattle.words.specs.Choice.{pick}
use Rattle.words.proofs.Tables.{clash}
use Rattle.channel.specs.Settings.{small_len_of, lane_len_of, lanes_len_of, stores_hold_of}
use Rattle.channel.proofs.Good.{stores-room}
use Rattle.send_unreliable.specs.Sender.{is_small, Spot, cell, lane, dropped, refused, entry_refusal, spot_of}
use Rattle.send_unreliable.specs.declared.SendChannelUnreliable.{SendChannelUnreliable}

-- ---- the spot, by the tests

module _ (s : SendChannelUnreliable) (n small lanes : ℕ) where
  pub no_store : stores_hold_of s.settings small lanes ≡ false → refused 10 ≡ spot_of s n small lanes
  unfolding spot_of entry_refusal
  no_store h = simp h

  module _ (h : stores_hold_of s.settings small lanes ≡ true) where
    pub too_long : lane_len_of s.settings < n → refused 12 ≡ spot_of s n small lanes
    unfolding spot_of entry_refusal
    too_long q = simp (h, lt-ltb _ _ q)

    module _ (q : n ≤ lane_len_of s.settings) where
      pub no-memory : s.settings.max_memory_usage_bytes < s.memory_usage_bytes + n → dropped ≡ spot_of s n small lanes
      unfolding spot_of entry_refusal
      no-memory m = simp (h, le-ltb _ _ q, lt-ltb _ _ m)

      module _ (m : s.memory_usage_bytes + n ≤ s.settings.max_memory_usage_bytes) where
        pub to_cell : n ≤ SLICE_SIZE → s.small < s.settings.slots → cell ≡ spot_of s n small lanes
        unfolding spot_of entry_refusal
        to_cell a f = simp (h, le-ltb _ _ q, le-ltb _ _ m, le-leb _ _ a, lt-ltb _ _ f)

        pub no_cell : n ≤ SLICE_SIZE → s.settings.slots ≤ s.small → refused 11 ≡ spot_of s n small lanes
        unfolding spot_of entry_refusal
        no_cell a f = simp (h, le-ltb _ _ q, le-ltb _ _ m, le-leb _ _ a, le-ltb _ _ f)

        pub to-lane : SLICE_SIZE < n → s.sliced < s.settings.lanes → lane ≡ spot_of s n small lanes
        unfolding spot_of entry_refusal
        to-lane a f = simp (h, le-ltb _ _ q, le-ltb _ _ m, lt-leb _ _ a, lt-ltb _ _ f)

        pub no-lane : SLICE_SIZE < n → s.settings.lanes ≤ s.sliced → refused 11 ≡ spot_of s n small lanes
        unfolding spot_of entry_refusal
        no-lane a f = simp (h, le-ltb _ _ q, le-ltb _ _ m, lt-leb _ _ a, le-ltb _ _ f)

-- ---- and back

abbrev takes : Spot → Bool
takes cell = true
takes lane = true
takes dropped = false
takes (refused e) = false

passed : (a b c : Bool) (x y : Spot) → takes x ≡ true
    → pick (eqb (pick (not a) 10 (pick b 12 0)) 0) (pick c dropped y) (refused (pick (not a) 10 (pick b 12 0))) ≡ x
    → (a ≡ true) × (b ≡ false) × (c ≡ false) × (y ≡ x)
passed false b c x y t e = clash (cc (ap takes e))
passed true true c x y t e = clash (cc (ap takes e))
passed true false true x y t e = clash (cc (ap takes e))
passed true false false x y t e = (refl, refl, refl, e)

cell-tests : (d f g : Bool) → pick d (pick f cell (refused 11)) (pick g lane (refused 11)) ≡ cell → (d ≡ true) × (f ≡ true)
cell-tests true true g e = (refl, refl)
cell-tests true false g e = clash (cc)
cell-tests false f true e = clash (cc)
cell-tests false f false e = clash (cc)

lane-tests : (d f g : Bool) → pick d (pick f cell (refused 11)) (pick g lane (refused 11)) ≡ lane → (d ≡ false) × (g ≡ true)
lane-tests true true g e = clash (cc)
lane-tests true false g e = clash (cc)
lane-tests false f true e = (refl, refl)
lane-tests false f false e = clash (cc)

-- what is so where a message of n bytes waits, with stores of these lengths lent
pub record Fits (s : SendChannelUnreliable) (n small lanes : ℕ) : Type 0 where
  pub small-room : small_len_of s.settings ≤ small
  pub lanes-room : lanes_len_of s.settings ≤ lanes
  pub long : n ≤ lane_len_of s.settings
  pub memory : s.memory_usage_bytes + n ≤ s.settings.max_memory_usage_bytes

pub record CellSpot (s : SendChannelUnreliable) (n small lanes : ℕ) : Type 0 where
  pub fits : Fits s n small lanes
  pub is-small : is_small n ≡ true
  pub short : n ≤ SLICE_SIZE
  pub free : s.small < s.settings.slots

pub record LaneSpot (s : SendChannelUnreliable) (n small lanes : ℕ) : Type 0 where
  pub fits : Fits s n small lanes
  pub is-small : is_small n ≡ false
  pub free : s.sliced < s.settings.lanes

module _ (s : SendChannelUnreliable) (n small lanes : ℕ) where
  abbrev kinds : Spot
  kinds =
      pick (is_small n)
      (pick (ltb s.small s.settings.slots) cell (refused 11))
      (pick (ltb s.sliced s.settings.lanes) lane (refused 11))

  fits-spot : (x : Spot) → takes x ≡ true → spot_of s n small lanes ≡ x → Fits s n small lanes × (kinds ≡ x)
  unfolding spot_of entry_refusal
  fits-spot x t e =
      let p =
      passed (stores_hold_of s.settings small lanes) (ltb (lane_len_of s.settings) n) (ltb s.settings.max_memory_usage_bytes (s.memory_usage_bytes + n))
      x kinds t e in
      let r = stores-room s.settings small lanes p.0 in
      (record { small-room = r.0; lanes-room = r.1; long = ltb-false _ _ p.1; memory = ltb-false _ _ p.2 }, p.3)

  pub spot-cell : spot_of s n small lanes ≡ cell → CellSpot s n small lanes
  spot-cell e =
      let p = fits-spot cell refl e in
      let q = cell-tests (is_small n) (ltb s.small s.settings.slots) (ltb s.sliced s.settings.lanes) p.1 in
      record { fits = p.0; is-small = q.0; short = leb-true _ _ q.0; free = ltb-true _ _ q.1 }

  pub spot-lane : spot_of s n small lanes ≡ lane → LaneSpot s n small lanes
  spot-lane e =
      let p = fits-spot lane refl e in
      let q = lane-tests (is_small n) (ltb s.small s.settings.slots) (ltb s.sliced s.settings.lanes) p.1 in
      record { fits = p.0; is-small = q.0; free = ltb-true _ _ q.1 }
