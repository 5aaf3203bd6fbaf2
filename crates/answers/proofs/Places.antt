-- Laws of places: one that stops at the largest number has what the place itself has. Assumes nothing.
use Prim.Native.Nat.{ℕ, zero, suc, ◌+◌, ◌-◌, ◌^◌, ◌≤◌, ◌<◌, min}
use mathlib.Core.Path.{◌≡◌, refl, ◌∙◌}
use mathlib.Core.List.{List, [], ◌∷◌}
use native.Mathlib.Omega.{arith}
use native.Mathlib.Nat.{zero-min, suc-min-suc, not-suc-le-zero, le_of_suc-le-suc}
use lib.ListN.{length, get_or, take, drop}
use lib.Seq.{drop-nil}
use borrow.Author.Tests.{le-leb, lt-leb}
use Rattle.answers.specs.Packets.{bytes_at, bytes_to_of}

-- ---- tables

drop-capped : (t : List ℕ) (i n : ℕ) → length t ≤ n → drop (min i n) t ≡ drop i t
drop-capped [] i n h = drop-nil (min i n) ∙ rw (drop-nil {A = ℕ} i) refl
drop-capped (x ∷ t) zero n h = rw zero-min refl
drop-capped (x ∷ t) (suc i) zero h = absurd (not-suc-le-zero h)
drop-capped (x ∷ t) (suc i) (suc n) h = rw suc-min-suc (drop-capped t i n (le_of_suc-le-suc h))

word-capped : (t : List ℕ) (i n : ℕ) → length t ≤ n → get_or t (min i n) 0 ≡ get_or t i 0
word-capped [] i n h = refl
word-capped (x ∷ t) zero n h = rw zero-min refl
word-capped (x ∷ t) (suc i) zero h = absurd (not-suc-le-zero h)
word-capped (x ∷ t) (suc i) (suc n) h = rw suc-min-suc (word-capped t i n (le_of_suc-le-suc h))

module _ (t : List ℕ) (i j : ℕ) (short : length t < 2 ^ 64) (e : j ≡ min i (2 ^ 64 - 1)) where
  pub words-at : drop j t ≡ drop i t
  words-at = rw e (drop-capped t i (2 ^ 64 - 1) (omega arith))

  pub word_at : {v : ℕ} → v ≡ get_or t j 0 → v ≡ get_or t i 0
  word_at h = h ∙ rw e (word-capped t i (2 ^ 64 - 1) (omega arith))

-- ---- bytes

module _ (s : List ℕ) (place len : ℕ) where
  pub bytes-missing : length s < place + len → [] ≡ bytes_at s place len
  unfolding bytes_at
  bytes-missing h = rw (lt-leb (place + len) (length s) h) refl

  pub bytes-there : place + len ≤ length s → take (place + len - place) (drop place s) ≡ bytes_at s place len
  unfolding bytes_at
  bytes-there h =
      let one : place + len - place ≡ len = omega arith in
      rw (le-leb (place + len) (length s) h, one) refl

  -- by a place and a length that are read
  pub bytes_read : (p n : ℕ) (x : List ℕ) → p ≡ place → n ≡ len → x ≡ bytes_at s p n → x ≡ bytes_at s place len
  bytes_read p n x a b h = h ∙ rw (a, b) refl

module _ (s : List ℕ) (place end : ℕ) where
  pub none-to : end < place → [] ≡ bytes_to_of s place end
  unfolding bytes_to_of
  none-to h = rw (lt-leb place end h) refl

  pub some_to : {x : List ℕ} → place ≤ end → x ≡ bytes_at s place (end - place) → x ≡ bytes_to_of s place end
  unfolding bytes_to_of
  some_to h e = rw (le-leb place end h) e
