-- Laws of tables of which an entry or a run of entries is put anew, or one is taken out. Nothing here knows a size or a record.
-- Assumes nothing.
use Prim.Native.Nat.{ℕ, zero, suc, ◌+◌, ◌-◌, ◌*◌, ◌≤◌, ◌<◌}
use mathlib.Core.Path.{◌≡◌, refl, ap, ◌∙◌}
use mathlib.Core.Bool.{Bool, false}
use mathlib.Core.List.{List, [], ◌∷◌}
use native.Mathlib.Nat.{not-suc-le-zero, le_of_suc-le-suc, suc-mul, mul-le-mul_right}
use native.Mathlib.Omega.{arith}
use borrow.Author.Tests.{ltb-true, ltb-false}
use lib.Dec.{ltb}
use lib.ListN.{length, get_or, set, take, drop, replicate, length-set, length-drop}
use lib.Seq.{paste, length-paste, take-set-le, take-set-lt, drop-set-add}
use Rattle.words.specs.Lists.{first, total, splice, without, All, Pairs}
use Rattle.words.proofs.Lists.{all_map, all-at, all_both, live-less}
use Rattle.words.proofs.Tables.{by-test, part-before, part-after}

module _ {A : Type 0} where
  -- ---- what is so of every entry

  pub all_set : (P : A → Type 0) (xs : List A) (i : ℕ) (v : A) → All P xs → P v → All P (set xs i v)
  unfolding All
  all_set P [] i v a b = tt
  all_set P (x ∷ xs) zero v a b = (b, a.1)
  all_set P (x ∷ xs) (suc i) v a b = (a.0, all_set P xs i v a.1 b)

  pub all-splice : (P : A → Type 0) (at : ℕ) (bs s : List A) → All P bs → All P s → All P (splice at bs s)
  unfolding All splice
  all-splice P at [] s a b = b
  all-splice P at (x ∷ bs) s a b = all-splice P (suc at) bs (set s at x) a.1 (all_set P s at x b a.0)

  pub all_replicate : (P : A → Type 0) (n : ℕ) (x : A) → P x → All P (replicate n x)
  unfolding All
  all_replicate P zero x h = tt
  all_replicate P (suc n) x h = (h, all_replicate P n x h)

  pub total-replicate : (f : A → ℕ) (n : ℕ) (x : A) → f x ≡ 0 → total f (replicate n x) ≡ 0
  unfolding total
  total-replicate f zero x h = refl
  total-replicate f (suc n) x h = let r : total f (replicate n x) ≡ 0 = total-replicate f n x h in omega arith

  -- where no entry passes the search goes past the end
  pub first-miss : (p : A → Bool) (xs : List A) → All (λ x. p x ≡ false) xs → first p xs ≡ length xs
  unfolding first All
  first-miss p [] a = refl
  first-miss p (x ∷ xs) a = rw a.0 (ap suc (first-miss p xs a.1))

  -- ---- one entry anew, in a list in which every two stand in R

  pub all-anew :
      (R : A → A → Type 0) (P Q : A → Type 0) (xs : List A) (k : ℕ) (d v : A) → k < length xs → Pairs R xs
      → ((x : A) → P x → R x (get_or xs k d) → Q x) → ((x : A) → P x → R (get_or xs k d) x → Q x) → Q v → All P xs → All Q (set xs k v)
  unfolding All Pairs
  all-anew R P Q [] k d v h p before after q a = absurd (not-suc-le-zero h)
  all-anew R P Q (x ∷ xs) zero d v h p before after q a = (q, all_both P (R x) Q (λ y u w. after y u w) xs a.1 p.0)
  all-anew R P Q (x ∷ xs) (suc k) d v h p before after q a = (
    before x a.0 (all-at (R x) xs k d (le_of_suc-le-suc h) p.0),
    all-anew R P Q xs k d v (le_of_suc-le-suc h) p.1 before after q a.1,
  )

  -- the new one stands in R as the old one did
  pub pairs-anew :
      (R : A → A → Type 0) (xs : List A) (k : ℕ) (d v : A) → k < length xs
      → ((x : A) → R x (get_or xs k d) → R x v) → ((x : A) → R (get_or xs k d) x → R v x) → Pairs R xs → Pairs R (set xs k v)
  unfolding All Pairs
  pairs-anew R [] k d v h f g p = absurd (not-suc-le-zero h)
  pairs-anew R (x ∷ xs) zero d v h f g p = (all_map (R x) (R v) g xs p.0, p.1)
  pairs-anew R (x ∷ xs) (suc k) d v h f g p = (
    all_set (R x) xs k v p.0 (f x (all-at (R x) xs k d (le_of_suc-le-suc h) p.0)),
    pairs-anew R xs k d v (le_of_suc-le-suc h) f g p.1,
  )

  -- ---- every two of a list

  pub pairs-map : (R S : A → A → Type 0) → ((x y : A) → R x y → S x y) → (xs : List A) → Pairs R xs → Pairs S xs
  unfolding Pairs
  pairs-map R S f [] p = tt
  pairs-map R S f (x ∷ xs) p = (all_map (R x) (S x) (f x) xs p.0, pairs-map R S f xs p.1)

  pub pairs-at : (R : A → A → Type 0) (xs : List A) (j k : ℕ) (d : A) → j < k → k < length xs → Pairs R xs → R (get_or xs j d) (get_or xs k d)
  unfolding Pairs
  pairs-at R [] j k d h l p = absurd (not-suc-le-zero l)
  pairs-at R (x ∷ xs) j zero d h l p = absurd (not-suc-le-zero h)
  pairs-at R (x ∷ xs) zero (suc k) d h l p = all-at (R x) xs k d (le_of_suc-le-suc l) p.0
  pairs-at R (x ∷ xs) (suc j) (suc k) d h l p = pairs-at R xs j k d (le_of_suc-le-suc h) (le_of_suc-le-suc l) p.1

  -- ---- runs of w entries, end to end: what is put into run l leaves run m

  pub run-apart : (w l m at n : ℕ) (bs xs : List A) → (l ≡ m → ⊥) → l * w ≤ at → at + length bs ≤ l * w + w → n ≤ w
      → take n (drop (m * w) (splice at bs xs)) ≡ take n (drop (m * w) xs)
  run-apart w l m at n bs xs o f h k =
      by-test (ltb m l)
      (λ e. let b : m * w + w ≤ l * w = rw suc-mul at (mul-le-mul_right w (ltb-true m l e)) in part-before (m * w) n at bs xs (omega arith))
      (λ e.
      let g : l < m = let g = ltb-false m l e in omega (arith, o) in
      let b : l * w + w ≤ m * w = rw suc-mul at (mul-le-mul_right w g) in
      part-after (m * w) n at bs xs (omega arith))

  -- an entry put anew in a part
  pub part-set : (a n i : ℕ) (v : A) (xs : List A) → i < n → take n (drop a (set xs (a + i) v)) ≡ set (take n (drop a xs)) i v
  part-set a n i v xs h = rw (drop-set-add a xs i v, take-set-lt n (drop a xs) i v h)

  -- ---- closing the gap at k

  -- the first n of the table, closed up, with another entry after them
  module _ (o : List A) (k n : ℕ) (z : A) (low : k < n) (long : n ≤ length o) where
    pub live-closed : take (n - 1) (set (paste o k (drop (suc k) o) (n - 1 - k)) (n - 1) z) ≡ without k (take n o)
    live-closed = take-set-le (n - 1) (paste o k (drop (suc k) o) (n - 1 - k)) (n - 1) z (omega arith) ∙ live-less o k n low long

    pub length-closed : length (set (paste o k (drop (suc k) o) (n - 1 - k)) (n - 1) z) ≡ length o
    length-closed =
        length-set (paste o k (drop (suc k) o) (n - 1 - k)) (n - 1) z
        ∙ length-paste o k (drop (suc k) o) (n - 1 - k) (omega arith) (simp length-drop (omega arith))
