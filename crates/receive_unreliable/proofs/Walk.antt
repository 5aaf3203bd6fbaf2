-- The walk of a discarding, turn by turn, and that it keeps the receiver valid. Assumes nothing.
use Rattle.std.specs.Prelude.{Some, None}
use Prim.Native.Nat.{ℕ, zero, suc, ◌+◌, ◌-◌, ◌≤◌, ◌<◌}
use mathlib.Core.Path.{◌≡◌, refl, sym, ◌∙◌}
use mathlib.Core.Bool.{Bool, true, false}
use mathlib.Core.List.{List}
use native.Mathlib.Omega.{arith}
use native.Mathlib.Numerals.{add-one}
use borrow.Author.Tests.{ltb-true, lt-ltb, le-ltb}
use lib.Dec.{ltb}
use lib.ListN.{length, get_or, drop, drop_of_length-le}
use lib.Seq.{drop-cons}
use Rattle.words.specs.Sizes.{LANES, LIMIT}
use Rattle.words.specs.Choice.{pick}
use Rattle.words.specs.Lists.{holds}
use Rattle.words.proofs.Lists.{holds-le, holds-less}
use Rattle.words.proofs.Tables.{pick-cases, by-test, clash}
use Rattle.receive_unreliable.specs.Receive.{lowest_id_of, lowest_open, is_old, goes_on_of, without_open, walk_state, walk_count, at_time, Valid}
use Rattle.receive_unreliable.specs.declared.ReceiveChannelUnreliable.{ReceiveChannelUnreliable}
use Rattle.receive_unreliable.proofs.Valid.{without-open-valid, time-valid}
use Rattle.receive_unreliable.proofs.Spots.{lane_here}

-- ---- the lowest open id, from place i on with the lowest so far, is that of the whole

module _ (m : ℕ) (hs : List Bool) (ids : List ℕ) (low i : ℕ) (so : lowest_id_of low (drop i hs) (drop i ids) ≡ lowest_id_of m hs ids) where
  pub low_end : length hs ≤ i → low ≡ lowest_id_of m hs ids
  unfolding lowest_id_of
  low_end h = rw (drop_of_length-le hs h) at so

  module _ (long : length hs ≡ length ids) (in_table : i < length hs) where
    next-id : lowest_id_of (pick (get_or hs i false) (pick (ltb (get_or ids i 0) low) (get_or ids i 0) low) low) (drop (i + 1) hs) (drop (i + 1) ids) ≡ lowest_id_of m hs ids
    unfolding lowest_id_of
    next-id = rw (add-one i) (rw (drop-cons hs i false in_table, drop-cons ids i 0 (omega arith)) at so)

    pub low-shut : get_or hs i false ≡ false → lowest_id_of low (drop (i + 1) hs) (drop (i + 1) ids) ≡ lowest_id_of m hs ids
    low-shut e = rw e at next-id

    pub low-lower : get_or hs i false ≡ true → get_or ids i 0 < low → lowest_id_of (get_or ids i 0) (drop (i + 1) hs) (drop (i + 1) ids) ≡ lowest_id_of m hs ids
    low-lower e h = rw (e, lt-ltb _ _ h) at next-id

    pub low-higher : get_or hs i false ≡ true → low ≤ get_or ids i 0 → lowest_id_of low (drop (i + 1) hs) (drop (i + 1) ids) ≡ lowest_id_of m hs ids
    low-higher e h = rw (e, le-ltb _ _ h) at next-id

-- ---- a turn of the walk

-- both tests hold
both : (a b : Bool) → pick a b false ≡ true → (a ≡ true) × (b ≡ true)
both true b e = (refl, e)
both false b e = clash (cc)

module _ (s : ReceiveChannelUnreliable) (t : ℕ) where
  -- it drops the lowest open id and goes on
  module _ (n : ℕ) (on : goes_on_of s t ≡ true) where
    pub state-on : walk_state (suc n) t s ≡ walk_state n t (without_open s (lowest_open s))
    unfolding walk_state
    state-on = rw on

    pub count-on : walk_count (suc n) t s ≡ suc (walk_count n t (without_open s (lowest_open s)))
    unfolding walk_count
    count-on = rw on

  -- or it stops
  module _ (off : goes_on_of s t ≡ false) where
    pub state-off : (n : ℕ) → walk_state n t s ≡ s
    unfolding walk_state
    state-off zero = refl
    state-off (suc n) = rw off

    pub count-off : (n : ℕ) → walk_count n t s ≡ 0
    unfolding walk_count
    count-off zero = refl
    count-off (suc n) = rw off

  pub lowest-here : goes_on_of s t ≡ true → lowest_open s < LANES
  lowest-here on = ltb-true _ _ (both (ltb (lowest_open s) LANES) (is_old s t (lowest_open s)) on).0

-- ---- it keeps the receiver valid

pub lowest-open : (s : ReceiveChannelUnreliable) → Valid s → lowest_open s < LANES → get_or s.opens (lowest_open s) false ≡ true
lowest-open s v low = (lane_here s v (lowest_id_of LIMIT s.opens s.lane_ids) low).held

pub walk-valid : (n t : ℕ) (s : ReceiveChannelUnreliable) → Valid s → Valid (walk_state n t s)
unfolding walk_state
walk-valid zero t s v = v
walk-valid (suc n) t s v =
    pick-cases Valid (goes_on_of s t)
    (λ on.
    let low = lowest-here s t on in
    walk-valid n t (without_open s (lowest_open s)) (without-open-valid s v (lowest_open s) low (lowest-open s v low)))
    (λ _. v)

-- what a turn finds: the lowest open id, where it is to be dropped
pub none-old : (b : Bool) (l : ℕ) → pick b (Some l) None ≡ None → b ≡ false
none-old true l e = clash (cc)
none-old false l e = refl

pub some-old : (b : Bool) (l i : ℕ) → pick b (Some l) None ≡ Some i → (b ≡ true) × (l ≡ i)
some-old true l i e = (refl, cc)
some-old false l i e = clash (cc)

-- ---- the loop's invariant: the walk from s on, with d dropped before it, gives what the whole from s₀ gives

pub record Walked (s₀ : ReceiveChannelUnreliable) (t : ℕ) (s : ReceiveChannelUnreliable) (d : ℕ) : Type 0 where
  pub few : d ≤ LANES
  pub valid : Valid s
  pub clock : s.latest ≡ t
  pub state : walk_state (LANES - d) t s ≡ walk_state LANES t s₀
  pub count : d + walk_count (LANES - d) t s ≡ walk_count LANES t s₀

pub walked_none : (s : ReceiveChannelUnreliable) (t : ℕ) → Valid s → s.latest ≡ t → Walked s t s 0
walked_none s t v e = record { few = omega arith; valid = v; clock = e; state = refl; count = omega arith }

module _ (s₀ : ReceiveChannelUnreliable) (t : ℕ) (s : ReceiveChannelUnreliable) (d : ℕ) (w : Walked s₀ t s d) where
  -- or it stops
  pub walked-off : goes_on_of s t ≡ false → (s ≡ walk_state LANES t s₀) × (d ≡ walk_count LANES t s₀)
  walked-off off = (sym (state-off s t off (LANES - d)) ∙ w.state, omega (arith, w.count, count-off s t off (LANES - d)))

  -- the lowest open id is dropped, and the walk goes on
  pub walked_more : d < LANES → goes_on_of s t ≡ true → (u : ReceiveChannelUnreliable) → u ≡ without_open s (lowest_open s) → Walked s₀ t u (d + 1)
  unfolding without_open
  walked_more h on u eu =
      let lowest : lowest_open s < LANES = lowest-here s t on in
      let turn : LANES - d ≡ suc (LANES - (d + 1)) = omega arith in
      rw eu
      record {
        few = omega arith;
        valid = without-open-valid s w.valid (lowest_open s) lowest (lowest-open s w.valid lowest);
        clock = w.clock;
        state = sym (state-on s t (LANES - (d + 1)) on) ∙ rw turn at w.state;
        count = omega (arith, rw turn at w.count, count-on s t (LANES - (d + 1)) on);
      }

  -- or as many were dropped as there are lanes
  pub walked_all : LANES ≤ d → (s ≡ walk_state LANES t s₀) × (d ≡ walk_count LANES t s₀)
  unfolding walk_state walk_count
  walked_all h =
      let none : LANES - d ≡ 0 = omega arith in
      let count : d + 0 ≡ walk_count LANES t s₀ = rw none at w.count in
      (rw none at w.state, omega arith)

-- ---- where it ends: at a younger one, or where none is open. As many turns are enough as lanes are open

one_fewer : (s : ReceiveChannelUnreliable) → Valid s → lowest_open s < LANES → holds (without_open s (lowest_open s)).opens + 1 ≡ holds s.opens
unfolding without_open
one_fewer s v low = holds-less s.opens (lowest_open s) (omega (arith, v.opens-long)) (lowest-open s v low)

walk_ends : (n t : ℕ) (s : ReceiveChannelUnreliable) → Valid s → holds s.opens ≤ n → goes_on_of (walk_state n t s) t ≡ false
unfolding walk_state
walk_ends zero t s v h = by-test (goes_on_of s t) (λ on. absurd (omega (arith, one_fewer s v (lowest-here s t on)))) (λ off. off)
walk_ends (suc n) t s v h =
    pick-cases (λ u. goes_on_of u t ≡ false) (goes_on_of s t)
    (λ on.
    let low = lowest-here s t on in
    walk_ends n t (without_open s (lowest_open s)) (without-open-valid s v (lowest_open s) low (lowest-open s v low)) (omega (arith, one_fewer s v low)))
    (λ off. off)

pub time-walk-ends : (s : ReceiveChannelUnreliable) → Valid s → (t : ℕ) → s.latest ≤ t → goes_on_of (walk_state LANES t (at_time s t)) t ≡ false
unfolding at_time
time-walk-ends s v t later = walk_ends LANES t (at_time s t) (time-valid s v t later) (omega (arith, v.opens-long, holds-le s.opens))
