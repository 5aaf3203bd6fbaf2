-- Laws of bytes as they are spelt. Assumes nothing.
use Prim.Native.Nat.{ℕ, zero, suc, ◌+◌, ◌-◌, ◌/◌, ◌%◌, ◌^◌, ◌≤◌, ◌<◌, zero-le, suc-le-suc}
use mathlib.Core.Path.{◌≡◌, refl, ap, sym, subst, ◌∙◌}
use mathlib.Core.Bool.{Bool, true, false}
use mathlib.Core.List.{List, [], ◌∷◌, ◌++◌, append_assoc}
use native.Mathlib.Nat.{pow-le-pow_right}
use native.Mathlib.Numerals.{add-one}
use native.Mathlib.Omega.{arith}
use borrow.Author.Tests.{le-leb, lt-leb, eq-eqb, ne_eqb}
use lib.Dec.{ltb, lit<}
use lib.ListN.{length, get_or, drop, drop_of_length-le, length-append}
use lib.Seq.{drop-cons}
use Rattle.io.specs.Digits.{hex_digit_ascii, last_digits, IsDigitCount}
use Rattle.words.specs.Choice.{pick}
use Rattle.script.specs.Bytes.{then}
use Rattle.say.specs.Say.{Says, decimal_of, places}
use Rattle.say.specs.Spelled.{LEAST, WIDEST, runs, front_of, part_at, byte_of, sign_of, text_of, point_of, Puts}
use Rattle.say.proofs.Page.{says_then}
use Rattle.say.specs.declared.Before.{Before}
use Rattle.say.specs.declared.Before.TheVariants.{Nothing, Bare, Drawn}
use Rattle.say.specs.declared.Part.{Part}
use Rattle.say.specs.declared.Part.TheVariants.{Byte, Stretch}

-- ---- a byte has two digits

two_digits : (n k : ℕ) → n < 256 → IsDigitCount 16 2 n k → k ≡ 2
two_digits n zero h f = absurd (omega (arith, f.0))
two_digits n (suc zero) h f = absurd (omega (arith, f.0))
two_digits n (suc (suc zero)) h f = refl
two_digits n (suc (suc (suc k))) h f =
    let g : 16 ^ (suc (suc (suc k)) - 1) ≤ n = f.2 (suc-le-suc (suc-le-suc (suc-le-suc zero-le))) in
    let p : 16 ^ 2 ≤ 16 ^ (suc (suc (suc k)) - 1) = pow-le-pow_right {n = 16} (lit< tt) {i = 2} {j = suc (suc (suc k)) - 1} (omega arith) in
    absurd (omega arith)

pub byte-is : (n k : ℕ) (s : List ℕ) → n < 2 ^ 8 → IsDigitCount 16 2 n k → s ≡ last_digits 16 k n → s ≡ byte_of n
byte-is n k s h f e = e ∙ ap (λ (m : ℕ). last_digits 16 m n) (two_digits n k (omega arith) f)

-- ---- how far a stretch goes: what is left, from here, gives what the whole gives

module _ (s : List ℕ) (up : Bool) (b i : ℕ) where
  pub runs_on : i < length s → get_or s i 0 ≡ b → runs up b (drop i s) ≡ suc (runs up (then up b) (drop (i + 1) s))
  unfolding runs
  runs_on h e = rw (add-one i, drop-cons s i 0 h, eq-eqb (get_or s i 0) b e)

  pub runs-stop : i < length s → (get_or s i 0 ≡ b → ⊥) → runs up b (drop i s) ≡ 0
  unfolding runs
  runs-stop h e = rw (drop-cons s i 0 h, ne_eqb (get_or s i 0) b e)

  pub runs-end : length s ≤ i → runs up b (drop i s) ≡ 0
  unfolding runs
  runs-end h = rw (drop_of_length-le s h)

-- ---- the part at a place

module _ (s : List ℕ) (from : ℕ) where
  pub part_none : length s ≤ from → Byte 0 ≡ part_at (drop from s)
  unfolding part_at
  part_none h = rw (drop_of_length-le s h)

  module _ (h : from < length s) where
    part-front : part_at (drop from s) ≡ front_of (get_or s from 0) (drop from s)
    unfolding part_at
    part-front = rw (drop-cons s from 0 h)

    module _ (n : ℕ) (e : n ≡ runs false (get_or s from 0) (drop from s)) where
      pub part_same : LEAST ≤ n → Stretch false (get_or s from 0) n ≡ part_at (drop from s)
      part_same g = rw e (rw (le-leb LEAST (runs false (get_or s from 0) (drop from s)) (omega arith)) at (sym part-front))

      module _ (g : n < LEAST) (m : ℕ) (f : m ≡ runs true (get_or s from 0) (drop from s)) where
        pub part_up : LEAST ≤ m → Stretch true (get_or s from 0) m ≡ part_at (drop from s)
        part_up k =
            rw f
            (rw (lt-leb LEAST (runs false (get_or s from 0) (drop from s)) (omega arith), le-leb LEAST (runs true (get_or s from 0) (drop from s)) (omega arith)) at (sym part-front))

        pub part-byte : m < LEAST → Byte (get_or s from 0) ≡ part_at (drop from s)
        part-byte k =
            rw (lt-leb LEAST (runs false (get_or s from 0) (drop from s)) (omega arith), lt-leb LEAST (runs true (get_or s from 0) (drop from s)) (omega arith)) at (sym part-front)

-- ---- how long a part's text is

pub length_digits : (b k n : ℕ) → length (last_digits b k n) ≡ k
length_digits b zero n = refl
length_digits b (suc k) n = length-append (last_digits b k (n / b)) (hex_digit_ascii (n % b) ∷ []) ∙ omega (arith, length_digits b k (n / b))

places-by : (t : Bool) (a m : ℕ) → a ≤ suc m → pick t 1 (suc a) ≤ suc (suc m)
places-by true a m h = omega arith
places-by false a m h = omega arith

places-le : (most n : ℕ) → places most n ≤ suc most
unfolding places
places-le zero n = omega arith
places-le (suc most) n = places-by (ltb n 10) (places most (n / 10)) most (places-le most (n / 10))

places-some : (t : Bool) (a : ℕ) → 1 ≤ pick t 1 (suc a)
places-some true a = omega arith
places-some false a = omega arith

pub places-ge : (most n : ℕ) → 1 ≤ places most n
unfolding places
places-ge zero n = omega arith
places-ge (suc most) n = places-some (ltb n 10) (places most (n / 10))

pub decimal-le : (n : ℕ) → length (decimal_of n) ≤ 20
decimal-le n = omega (arith, length_digits 10 (places 19 n) n, places-le 19 n)

pub point-le : (w : Before) (p : Part) → length (point_of w p) ≤ 1
point-le Nothing p = omega arith
point-le Drawn p = omega arith
point-le Bare (Byte b) = omega arith
point-le Bare (Stretch up b n) = omega arith

sign-is : (up : Bool) → length (sign_of up) ≡ 1
sign-is true = refl
sign-is false = refl

-- ---- a part on a page

module _ (page : List ℕ) (at : ℕ) where
  pub puts_none : (s : List ℕ) → length page < at + WIDEST → Puts page at s page at
  puts_none s h = record { bytes = rw (lt-leb (at + WIDEST) (length page) h); place = rw (lt-leb (at + WIDEST) (length page) h) }

  module _ (room : at + WIDEST ≤ length page) where
    puts-says : (s q : List ℕ) (r : ℕ) → length s ≤ WIDEST → Says page at s q r → Puts page at s q r
    puts-says s q r l h =
        let t : at + length s ≤ length page = omega arith in
        record {
          bytes = rw (le-leb (at + WIDEST) (length page) room) (rw (le-leb (at + length s) (length page) t) at h.bytes);
          place = rw (le-leb (at + WIDEST) (length page) room) (rw (le-leb (at + length s) (length page) t) at h.place);
        }

    module _ (w : Before) (p : Part) (b : ℕ) (p₁ p₂ : List ℕ) (k i : ℕ) (point : Says page at (point_of w p) p₁ k) (byte : Says p₁ k (byte_of b) p₂ i) where
      both : Says page at (point_of w p ++ byte_of b) p₂ i
      both = says_then page at (point_of w p) (byte_of b) p₁ p₂ k i (omega (arith, length-append (point_of w p) (byte_of b), point-le w p, length_digits 16 2 b)) point byte

      both-le : length (point_of w p ++ byte_of b) ≤ 3
      both-le = omega (arith, length-append (point_of w p) (byte_of b), point-le w p, length_digits 16 2 b)

      pub puts-byte : p ≡ Byte b → Puts page at (point_of w p ++ text_of p) p₂ i
      puts-byte e = puts-as (puts-says (point_of w p ++ byte_of b) p₂ i (omega (arith, both-le)) both)
        where
          puts-as : Puts page at (point_of w p ++ byte_of b) p₂ i → Puts page at (point_of w p ++ text_of p) p₂ i
          puts-as u = subst (λ (s : List ℕ). Puts page at (point_of w p ++ s) p₂ i) (sym (ap text_of e)) u

      pub puts-stretch : (up : Bool) (n : ℕ) (p₃ p₄ : List ℕ) (j r : ℕ) → p ≡ Stretch up b n → Says p₂ i (sign_of up) p₃ j → Says p₃ j (decimal_of n) p₄ r
          → Puts page at (point_of w p ++ text_of p) p₄ r
      puts-stretch up n p₃ p₄ j r e f g =
          let c : List ℕ = point_of w p ++ byte_of b in
          let l : length (c ++ sign_of up) ≤ 4 = omega (arith, length-append c (sign_of up), sign-is up, both-le) in
          let m : length ((c ++ sign_of up) ++ decimal_of n) ≤ 24 = omega (arith, length-append (c ++ sign_of up) (decimal_of n), decimal-le n) in
          let x : Says page at (c ++ sign_of up) p₃ j = says_then page at c (sign_of up) p₂ p₃ i j (omega arith) both f in
          let y : Says page at ((c ++ sign_of up) ++ decimal_of n) p₄ r = says_then page at (c ++ sign_of up) (decimal_of n) p₃ p₄ j r (omega arith) x g in
          let z : (c ++ sign_of up) ++ decimal_of n ≡ point_of w p ++ text_of p =
          append_assoc c (sign_of up) (decimal_of n) ∙ append_assoc (point_of w p) (byte_of b) (sign_of up ++ decimal_of n) ∙ ap (λ (s : List ℕ). point_of w p ++ s) (sym (ap text_of e)) in
          subst (λ (s : List ℕ). Puts page at s p₄ r) z (puts-says ((c ++ sign_of up) ++ decimal_of n) p₄ r m y)
