-- A number's decimal digits are as many as `places` says. Assumes nothing.
use Prim.Native.Nat.{ℕ, zero, suc, ◌+◌, ◌*◌, ◌-◌, ◌/◌, ◌%◌, ◌^◌, ◌≤◌, ◌<◌, zero-le, suc-le-suc}
use mathlib.Core.Path.{◌≡◌, refl, ap, ◌∙◌}
use mathlib.Core.Bool.{Bool, true, false}
use native.Mathlib.Nat.{pow-suc, one-le-pow, not-suc-le-zero}
use native.Mathlib.Omega.{arith}
use borrow.Author.Tests.{ltb-true, ltb-false, lt-ltb, le-leb}
use lib.Dec.{ltb}
use mathlib.Core.List.{List, [], ◌∷◌, ◌++◌}
use Rattle.io.specs.Digits.{hex_digit_ascii, IsDigitCount, last_digits}
use Rattle.words.specs.Choice.{pick}
use Rattle.words.specs.Lists.{all}
use Rattle.script.specs.Numbers.{digit, value_of}
use Rattle.script.proofs.Words.{all_cons}
use Rattle.say.specs.Say.{places, decimal_of}

-- below ten there is one digit
one-digit : (n k : ℕ) → n < 10 → IsDigitCount 10 1 n k → k ≡ 1
one-digit n zero h f = absurd (not-suc-le-zero f.0)
one-digit n (suc zero) h f = refl
one-digit n (suc (suc k)) h f =
    let g : 10 ^ (suc (suc k) - 1) ≤ n = f.2 (suc-le-suc (suc-le-suc zero-le)) in
    let e : 10 ^ (suc (suc k) - 1) ≡ 10 ^ k * 10 = ap (λ (m : ℕ). 10 ^ m) (omega arith) ∙ pow-suc 10 k in
    let p : 1 ≤ 10 ^ k = one-le-pow k 10 (suc-le-suc zero-le) in
    absurd (omega arith)

-- from ten on there is one more than the tenth has
tenth : (n k : ℕ) → 10 ≤ n → IsDigitCount 10 1 n (suc k) → IsDigitCount 10 1 (n / 10) k
tenth n zero h f = absurd (omega arith)
tenth n (suc k) h f = (
  suc-le-suc zero-le,
  let e : 10 ^ suc (suc k) ≡ 10 ^ suc k * 10 = pow-suc 10 (suc k) in omega (arith, f.1),
  λ l. let g : 10 ^ (suc (suc k) - 1) ≤ n = f.2 (suc-le-suc (suc-le-suc zero-le)) in
      let e : 10 ^ (suc (suc k) - 1) ≡ 10 ^ k * 10 = ap (λ (m : ℕ). 10 ^ m) (omega arith) ∙ pow-suc 10 k in
      let d : 10 ^ (suc k - 1) ≡ 10 ^ k = ap (λ (m : ℕ). 10 ^ m) (omega arith) in
      omega arith,
)

more : (t : Bool) (n k p : ℕ) → ltb n 10 ≡ t → IsDigitCount 10 1 n (suc k) → (10 ≤ n → k ≡ p) → suc k ≡ pick t 1 (suc p)
more true n k p e f r = one-digit n (suc k) (ltb-true n 10 e) f
more false n k p e f r = ap suc (r (ltb-false n 10 e))

pub fewest-places : (most n k : ℕ) → n < 10 ^ suc most → IsDigitCount 10 1 n k → k ≡ places most n
unfolding places
fewest-places zero n k h f = one-digit n k h f
fewest-places (suc most) n zero h f = absurd (not-suc-le-zero f.0)
fewest-places (suc most) n (suc k) h f =
    let e : 10 ^ suc (suc most) ≡ 10 ^ suc most * 10 = pow-suc 10 (suc most) in
    more (ltb n 10) n k (places most (n / 10)) refl f (λ l. fewest-places most (n / 10) k (omega arith) (tenth n k l f))

-- the digits that are told are those of the number
pub decimal-is : (n k : ℕ) (s : List ℕ) → n < 2 ^ 64 → IsDigitCount 10 1 n k → s ≡ last_digits 10 k n → s ≡ decimal_of n
decimal-is n k s h f e = e ∙ ap (λ (m : ℕ). last_digits 10 m n) (fewest-places 19 n k (omega arith) f)

-- ---- what is said in decimal is read back

glyph-is : (d : ℕ) → d < 10 → hex_digit_ascii d ≡ 48 + d
glyph-is d h = rw (lt-ltb d 10 h)

value-snoc : (v : ℕ) (s : List ℕ) (c : ℕ) → value_of v (s ++ (c ∷ [])) ≡ value_of v s * 10 + (c - 48)
unfolding value_of
value-snoc v [] c = refl
value-snoc v (x ∷ s) c = value-snoc (v * 10 + (x - 48)) s c

pub digits_value : (k n : ℕ) → n < 10 ^ k → value_of 0 (last_digits 10 k n) ≡ n
unfolding value_of
digits_value zero n h = omega arith
digits_value (suc k) n h =
    let e : 10 ^ suc k ≡ 10 ^ k * 10 = pow-suc 10 k in
    let r : value_of 0 (last_digits 10 k (n / 10)) ≡ n / 10 = digits_value k (n / 10) (omega arith) in
    value-snoc 0 (last_digits 10 k (n / 10)) (hex_digit_ascii (n % 10)) ∙ omega (arith, glyph-is (n % 10) (omega arith))

all_snoc : (p : ℕ → Bool) (s : List ℕ) (c : ℕ) → all p s ≡ true → p c ≡ true → all p (s ++ (c ∷ [])) ≡ true
unfolding all
all_snoc p [] c e f = rw f
all_snoc p (x ∷ s) c e f = let g : (p x ≡ true) × (all p s ≡ true) = all_cons p x s e in rw g.0 (all_snoc p s c g.1 f)

digit_glyph : (d : ℕ) → d < 10 → digit (hex_digit_ascii d) ≡ true
digit_glyph d h = rw (glyph-is d h, le-leb 48 (48 + d) (omega arith), le-leb (48 + d) 57 (omega arith))

pub digits-all : (k n : ℕ) → all digit (last_digits 10 k n) ≡ true
unfolding all
digits-all zero n = refl
digits-all (suc k) n = all_snoc digit (last_digits 10 k (n / 10)) (hex_digit_ascii (n % 10)) (digits-all k (n / 10)) (digit_glyph (n % 10) (omega arith))

held_by : (t : Bool) (n p : ℕ) → ltb n 10 ≡ t → (10 ≤ n → n / 10 < 10 ^ p) → n < 10 ^ pick t 1 (suc p)
held_by true n p e f = ltb-true n 10 e
held_by false n p e f = let g : 10 ^ suc p ≡ 10 ^ p * 10 = pow-suc 10 p in let h : n / 10 < 10 ^ p = f (ltb-false n 10 e) in omega arith

-- the digits hold the number
pub places-hold : (most n : ℕ) → n < 10 ^ suc most → n < 10 ^ places most n
unfolding places
places-hold zero n h = h
places-hold (suc most) n h =
    let e : 10 ^ suc (suc most) ≡ 10 ^ suc most * 10 = pow-suc 10 (suc most) in
    held_by (ltb n 10) n (places most (n / 10)) refl (λ l. places-hold most (n / 10) (omega arith))

module _ (n : ℕ) (h : n < 2 ^ 64) where
  pub decimal-value : value_of 0 (decimal_of n) ≡ n
  decimal-value = digits_value (places 19 n) n (places-hold 19 n (omega arith))

  pub decimal-digits : all digit (decimal_of n) ≡ true
  decimal-digits = digits-all (places 19 n) n
