-- Where places are taken from the lowest on, the first ones are held. Assumes nothing.
use Prim.Native.Nat.{ℕ, zero, suc, ◌+◌, ◌-◌, ◌≤◌, ◌<◌}
use mathlib.Core.Path.{◌≡◌, refl, sym, ap, ◌∙◌}
use mathlib.Core.Bool.{Bool, true, false, not}
use mathlib.Core.List.{List, [], ◌∷◌, ◌++◌}
use native.Mathlib.Nat.{sub-zero}
use native.Mathlib.Numerals.{add-one}
use native.Mathlib.Omega.{arith}
use lib.ListN.{length, set, take, replicate, length-append, length-replicate}
use lib.Seq.{take-length}
use Rattle.words.specs.Choice.{pick}
use Rattle.words.specs.Lists.{first, lowest_free_of, total, reached}
use Rattle.send_unreliable.specs.Laws.{take_lowest, taken}

-- k of n places are held, the first ones
abbrev filled : ℕ → ℕ → List Bool
filled k n = replicate k true ++ replicate (n - k) false

first-free : (k m : ℕ) → first not (replicate k true ++ replicate m false) ≡ k
unfolding first
first-free zero zero = refl
first-free zero (suc m) = refl
first-free (suc k) m = ap suc (first-free k m)

set_next : (k m : ℕ) → set (replicate k true ++ replicate (suc m) false) k true ≡ replicate (suc k) true ++ replicate m false
set_next zero m = refl
set_next (suc k) m = ap (λ (l : List Bool). true ∷ l) (set_next k m)

length-filled : (k n : ℕ) → k ≤ n → length (filled k n) ≡ n
length-filled k n h = simp (length-append, length-replicate) (omega arith)

lowest-filled : (k n : ℕ) → k ≤ n → lowest_free_of (filled k n) n ≡ k
lowest-filled k n h = let e = length-filled k n h in ap (λ (m : ℕ). first not (take m (filled k n))) (sym e) ∙ rw take-length (first-free k (n - k))

take-filled : (k n : ℕ) → k < n → take_lowest (filled k n) ≡ filled (k + 1) n
take-filled k n h =
    let l : k ≤ n = omega arith in
    let e : n - k ≡ suc (n - suc k) = omega arith in
    rw (length-filled k n l, lowest-filled k n l, e, add-one) (set_next k (n - suc k))

module _ (p : ℕ → Bool) (n : ℕ) where
  abbrev step : List Bool → ℕ → List Bool
  step held x = pick (p x) (take_lowest held) held

  one-step : (x : ℕ) (k : ℕ) (b : Bool) → p x ≡ b → k + pick b 1 0 ≤ n → step (filled k n) x ≡ filled (k + pick b 1 0) n
  one-step x k true e h = rw e (take-filled k n (omega arith))
  one-step x k false e h = let z : k + 0 ≡ k = omega arith in rw (e, z)

  all-steps : (ns : List ℕ) (k : ℕ) → k + total (λ x. pick (p x) 1 0) ns ≤ n → reached step (filled k n) ns ≡ filled (k + total (λ x. pick (p x) 1 0) ns) n
  unfolding reached total
  all-steps [] k h = let z : k + 0 ≡ k = omega arith in rw z
  all-steps (x ∷ ns) k h =
      let r = total (λ y. pick (p y) 1 0) ns in
      let z : k + (pick (p x) 1 0 + r) ≡ k + pick (p x) 1 0 + r = omega arith in
      rw (one-step x k (p x) refl (omega arith), z) (all-steps ns (k + pick (p x) 1 0) (omega arith))

  -- the lowest free place is the one after as many as were taken
  pub lowest-taken : (ns : List ℕ) → total (λ x. pick (p x) 1 0) ns ≤ n → lowest_free_of (taken p n ns) n ≡ total (λ x. pick (p x) 1 0) ns
  unfolding taken
  lowest-taken ns h =
      let e = all-steps ns 0 (omega arith) in
      let z : 0 + total (λ x. pick (p x) 1 0) ns ≡ total (λ x. pick (p x) 1 0) ns = omega arith in
      ap (λ (l : List Bool). lowest_free_of l n) (rw (sub-zero, z) at e) ∙ lowest-filled (total (λ x. pick (p x) 1 0) ns) n h
