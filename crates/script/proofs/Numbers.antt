-- Laws of numbers as they are read: a digit more, a power of two, two DIGITS joined. Assumes nothing.
use Prim.Native.Nat.{ℕ, ◌+◌, ◌-◌, ◌*◌, ◌^◌, ◌≤◌, ◌<◌}
use mathlib.Core.Path.{◌≡◌, refl, ap, ◌∙◌}
use mathlib.Core.Bool.{Bool, true, false}
use mathlib.Core.List.{List, [], ◌∷◌}
use native.Mathlib.Numerals.{add-one}
use native.Mathlib.Omega.{arith}
use borrow.Author.Tests.{ltb-true, ltb-false, lt-ltb, le-ltb, le-leb, lt-leb, eq-eqb, ne_eqb}
use lib.Dec.{eqb, ltb}
use lib.ListN.{length, get_or, take, drop, length-drop, drop_of_length-le}
use lib.Seq.{drop-cons, take_all}
use Rattle.words.specs.Choice.{pick}
use Rattle.words.specs.Lists.{all}
use Rattle.script.specs.Numbers.{digit, value_of, below, digits_of, joined, power_of, number_of, Number}
use Rattle.script.specs.Words.{sign, until}
use Rattle.std.specs.Prelude.{Ok, Err}
use Rattle.script.specs.declared.NumberFault.{NumberFault}
use Rattle.script.specs.declared.NumberFault.TheVariants.{NotANumber, TooLarge}

pub below_in : (v : ℕ) → v < 2 ^ 64 → Ok v ≡ below v
below_in v h = rw (lt-ltb v (2 ^ 64) h)

pub below_out : (v : ℕ) → 2 ^ 64 ≤ v → Err TooLarge ≡ below v
below_out v h = rw (le-ltb v (2 ^ 64) h)

-- ---- DIGITS: what is left, from here, gives what the whole gives

value_of-le : (v : ℕ) (t : List ℕ) → v ≤ value_of v t
unfolding value_of
value_of-le v [] = omega arith
value_of-le v (c ∷ t) = omega (arith, value_of-le (v * 10 + (c - 48)) t)

pub digits-none : (s : List ℕ) → length s ≡ 0 → Err NotANumber ≡ digits_of s
unfolding digits_of
digits-none s h = rw (eq-eqb (length s) 0 h)

pub digits-not : (s : List ℕ) → all digit s ≡ false → Err NotANumber ≡ digits_of s
unfolding digits_of all
digits-not [] e = absurd (let z : ◌≡◌ {A = ℕ} 0 1 = cc in omega arith)
digits-not (c ∷ s) e = rw (e, ne_eqb (length (c ∷ s)) 0 (λ h. absurd (omega arith)))

over : (f : NumberFault) (w : ℕ) (t : Bool) → ltb w (2 ^ 64) ≡ t → Err f ≡ pick t (Ok w) (Err TooLarge) → (f ≡ TooLarge) × (2 ^ 64 ≤ w)
over f w true e g = absurd (let z : ◌≡◌ {A = ℕ} 0 1 = cc in omega arith)
over f w false e g = (cc, ltb-false w (2 ^ 64) e)

fits : (w n : ℕ) (t : Bool) → ltb n (2 ^ 64) ≡ t → Ok w ≡ pick t (Ok n) (Err TooLarge) → (w ≡ n) × (w < 2 ^ 64)
fits w n true e g = let f : w ≡ n = cc in (f, omega (arith, ltb-true n (2 ^ 64) e))
fits w n false e g = absurd (let z : ◌≡◌ {A = ℕ} 0 1 = cc in omega arith)

pub below-ok : (w n : ℕ) → Ok w ≡ below n → (w ≡ n) × (w < 2 ^ 64)
below-ok w n e = fits w n (ltb n (2 ^ 64)) refl e

pub digits-all : (s : List ℕ) → (length s ≡ 0 → ⊥) → all digit s ≡ true → below (value_of 0 s) ≡ digits_of s
unfolding digits_of
digits-all s h e = rw (ne_eqb (length s) 0 h, e)

module _ (s : List ℕ) (v i : ℕ) (k : value_of v (drop i s) ≡ value_of 0 s) where
  pub digits-step : i < length s → value_of (v * 10 + (get_or s i 0 - 48)) (drop (i + 1) s) ≡ value_of 0 s
  unfolding value_of
  digits-step l = rw add-one (rw (drop-cons s i 0 l) at k)

  -- too large so far is too large in the whole
  pub digits-over : (f : NumberFault) → Err f ≡ below (v * 10 + (get_or s i 0 - 48)) → i < length s → Err f ≡ below (value_of 0 s)
  digits-over f g l =
      let w : ℕ = v * 10 + (get_or s i 0 - 48) in
      let o : (f ≡ TooLarge) × (2 ^ 64 ≤ w) = over f w (ltb w (2 ^ 64)) refl g in
      let m : w ≤ value_of 0 s = omega (arith, digits-step l, value_of-le w (drop (i + 1) s)) in
      ap Err o.0 ∙ below_out (value_of 0 s) (omega (arith, o.1))

  pub digits-done : length s ≤ i → v < 2 ^ 64 → Ok v ≡ below (value_of 0 s)
  unfolding value_of
  digits-done l f = let e : v ≡ value_of 0 s = rw (drop_of_length-le s l) at k in below_in v f ∙ ap below e

-- ---- the forms

-- what is left from a place on, as the code cuts it
pub tail-is : (s : List ℕ) (a : ℕ) → take (length s - a) (drop a s) ≡ drop a s
tail-is s a = take_all (length s - a) (drop a s) (omega (arith, length-drop a s))

module _ (s : List ℕ) (i : ℕ) (e : i ≡ until sign s 0) where
  pub power-whole : (r k : Number) → length s ≤ i → k ≡ digits_of s → r ≡ joined false k (Ok 0) → r ≡ power_of s
  unfolding power_of
  power-whole r k h f g = g ∙ rw (← e, le-ltb i (length s) h, f)

  pub power-parts : (r k d : Number) → i < length s → k ≡ digits_of (take i s) → d ≡ digits_of (take (length s - (i + 1)) (drop (i + 1) s))
      → r ≡ joined (eqb (get_or s i 0) 45) k d → r ≡ power_of s
  unfolding power_of
  power-parts r k d h f g l = l ∙ rw (← e, lt-ltb i (length s) h, f, g, tail-is s (i + 1))

module _ (s : List ℕ) (r : Number) where
  module _ (e : r ≡ digits_of s) where
    pub number_short : length s < 2 → r ≡ number_of s
    unfolding number_of
    number_short h = rw (lt-leb 2 (length s) h) e

    pub number-first : 2 ≤ length s → (get_or s 0 0 ≡ 50 → ⊥) → r ≡ number_of s
    unfolding number_of
    number-first h f = rw (le-leb 2 (length s) h, ne_eqb (get_or s 0 0) 50 f) e

    pub number-second : 2 ≤ length s → get_or s 0 0 ≡ 50 → (get_or s 1 0 ≡ 94 → ⊥) → r ≡ number_of s
    unfolding number_of
    number-second h f g = rw (le-leb 2 (length s) h, eq-eqb (get_or s 0 0) 50 f, ne_eqb (get_or s 1 0) 94 g) e

  pub number-power : 2 ≤ length s → get_or s 0 0 ≡ 50 → get_or s 1 0 ≡ 94 → r ≡ power_of (take (length s - 2) (drop 2 s)) → r ≡ number_of s
  unfolding number_of
  number-power h f g e = rw (le-leb 2 (length s) h, eq-eqb (get_or s 0 0) 50 f, eq-eqb (get_or s 1 0) 94 g) (rw (tail-is s 2) at e)
