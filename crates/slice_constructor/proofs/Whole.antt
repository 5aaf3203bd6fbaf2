-- Whole exactly when every piece is here. Assumes nothing.
use Prim.Native.Nat.{ℕ, ◌<◌}
use mathlib.Core.Path.{◌≡◌}
use mathlib.Core.Bool.{true, false}
use native.Mathlib.Omega.{arith}
use borrow.Author.Tests.{eq-eqb, ne_eqb}
use lib.Dec.{eqb}
use lib.ListN.{length, get_or, take}
use lib.Seq.{get_or-take, length-take-le}
use Rattle.words.specs.Lists.{holds}
use Rattle.slice_constructor.specs.declared.SliceConstructor.{SliceConstructor}
use Rattle.slice_constructor.specs.Collect.{Valid, is_whole, whole_len, missing, whole, answer_of}
use Rattle.words.proofs.Tables.{pick-cases, clash, holds-split, each-held, all_held}

module _ (c : SliceConstructor) (v : Valid c) where
  front_long : length (take c.num_slices c.received) ≡ c.num_slices
  front_long = length-take-le c.num_slices c.received (omega (arith, v.num-most, v.received-long))

  front-held : holds (take c.num_slices c.received) ≡ c.num_received_slices
  front-held = omega (arith, holds-split c.num_slices c.received, v.counted, v.none-past)

  -- where as many pieces are here as the message has, each is here
  pub whole_each : c.num_received_slices ≡ c.num_slices → (i : ℕ) → i < c.num_slices → get_or c.received i false ≡ true
  whole_each e i h =
      let l = front_long in
      rw (get_or-take c.num_slices c.received i false h) at
      (each-held (take c.num_slices c.received) (omega (arith, front-held)) i (omega arith))

  -- where each is here, they are as many
  pub each-whole : ((i : ℕ) → i < c.num_slices → get_or c.received i false ≡ true) → c.num_received_slices ≡ c.num_slices
  each-whole f =
      let l = front_long in
      let e =
      all_held (take c.num_slices c.received) (λ i h.
      let below : i < c.num_slices = omega arith in rw (get_or-take c.num_slices c.received i false below) (f i below)) in
      omega (arith, front-held)

  -- so the answer says whole exactly where each is here
  pub says-whole : ((i : ℕ) → i < c.num_slices → get_or c.received i false ≡ true) → answer_of c ≡ whole (whole_len c)
  unfolding answer_of
  says-whole f = rw (eq-eqb _ _ (each-whole f))

  pub says-missing : (i : ℕ) → i < c.num_slices → get_or c.received i false ≡ false → answer_of c ≡ missing
  unfolding answer_of
  says-missing i low out =
      let n : eqb c.num_received_slices c.num_slices ≡ false =
      ne_eqb _ _ (λ (e : c.num_received_slices ≡ c.num_slices). let z : ◌≡◌ {A = ℕ} 0 1 = cc (whole_each e i low) in omega arith) in
      rw n

-- what the answer says of the counts
module _ (c : SliceConstructor) where
  pub whole_answer : (n : ℕ) → answer_of c ≡ whole n → (is_whole c ≡ true) × (whole_len c ≡ n)
  unfolding answer_of
  whole_answer n = pick-cases (λ a. a ≡ whole n → (is_whole c ≡ true) × (whole_len c ≡ n)) (is_whole c) (λ e a. (e, cc)) (λ e a. clash (cc))

  pub missing-answer : answer_of c ≡ missing → is_whole c ≡ false
  unfolding answer_of
  missing-answer = pick-cases (λ a. a ≡ missing → is_whole c ≡ false) (is_whole c) (λ e a. clash (cc)) (λ e a. e)
