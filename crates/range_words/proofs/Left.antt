-- What is left to do, from a place on, gives what the whole gives. Assumes nothing.
use Prim.Native.Nat.{ℕ, suc, ◌+◌, ◌*◌, ◌-◌, ◌/◌, ◌≤◌, ◌<◌, min}
use mathlib.Core.Path.{◌≡◌, refl, sym, ap, ◌∙◌}
use mathlib.Core.List.{List, [], ◌∷◌}
use native.Mathlib.Omega.{arith}
use native.Mathlib.Nat.{sub-zero}
use native.Mathlib.Numerals.{add-one}
use borrow.Author.Tests.{leb-true, leb-false}
use lib.Dec.{leb}
use lib.ListN.{length, get_or, set, take, drop, replicate, length-drop, drop_of_length-le}
use lib.Seq.{drop-cons, take-nil}
use Rattle.words.specs.Lists.{splice}
use Rattle.words.proofs.Tables.{by-test}
use Rattle.packet_ack.specs.Ack.{RANGES}
use Rattle.packet_ack.specs.declared.Range.{Range}
use Rattle.packet_ack.specs.Steps.{range}
use Rattle.range_words.specs.Words.{ranges_in_of, words_of, table_of, set_down}

-- ---- from words

-- the table t once the ranges from the i-th on are there too
abbrev pub filled : List ℕ → ℕ → List Range → List Range
filled ws i t = splice i (take (RANGES - i) (ranges_in_of (drop (2 * i) ws))) t

pub filled-first : (ws : List ℕ) → filled ws 0 (replicate RANGES (range 0 0)) ≡ table_of ws
unfolding table_of
filled-first ws = refl

short : (ws : List ℕ) → length ws ≤ 1 → ranges_in_of ws ≡ []
unfolding ranges_in_of
short [] h = refl
short (s ∷ []) h = refl
short (s ∷ e ∷ ws) h = absurd (omega arith)

module _ (ws : List ℕ) (i : ℕ) (t all : List Range) where
  two : i < length ws / 2 → drop (2 * i) ws ≡ get_or ws (2 * i) 0 ∷ get_or ws (2 * i + 1) 0 ∷ drop (2 * (i + 1)) ws
  two h =
      let next : 2 * (i + 1) ≡ suc (2 * i + 1) = omega arith in
      rw (drop-cons ws (2 * i) 0 (omega arith), ← add-one (2 * i), drop-cons ws (2 * i + 1) 0 (omega arith), next)

  pub filled-again : i < RANGES → i < length ws / 2 → filled ws i t ≡ all → filled ws (i + 1) (set t i (range (get_or ws (2 * i) 0) (get_or ws (2 * i + 1) 0))) ≡ all
  unfolding splice ranges_in_of
  filled-again l h inv =
      let one : RANGES - i ≡ suc (RANGES - (i + 1)) = omega arith in
      sym (ap (λ (n : ℕ). splice i (take n (ranges_in_of (drop (2 * i) ws))) t) one ∙ ap (λ (v : List ℕ). splice i (take (suc (RANGES - (i + 1))) (ranges_in_of v)) t) (two h) ∙ rw (add-one i)) ∙ inv

  filled-whole : RANGES ≤ i → filled ws i t ≡ all → t ≡ all
  unfolding splice
  filled-whole h inv =
      let none : RANGES - i ≡ 0 = omega arith in
      ap (λ (n : ℕ). splice i (take n (ranges_in_of (drop (2 * i) ws))) t) (sym none) ∙ inv

  filled-short : length ws / 2 ≤ i → filled ws i t ≡ all → t ≡ all
  unfolding splice
  filled-short h inv = sym (rw (short (drop (2 * i) ws) (omega (arith, length-drop (2 * i) ws)), take-nil (RANGES - i))) ∙ inv

  pub filled-all : min RANGES (length ws / 2) ≤ i → filled ws i t ≡ all → t ≡ all
  filled-all h inv =
      by-test (leb RANGES (length ws / 2))
      (λ e. let l = leb-true _ _ e in filled-whole (omega arith) inv)
      (λ e. let l = leb-false _ _ e in filled-short (omega arith) inv)

-- ---- to words

-- the words ws once the ranges of the table t from the i-th on, of n in all, stand in them too
abbrev pub laid : List Range → ℕ → ℕ → List ℕ → List ℕ
laid t n i ws = splice (2 * i) (words_of (take (n - i) (drop i t))) ws

pub laid-first : (t : List Range) (ws : List ℕ) → laid t (length ws / 2) 0 ws ≡ set_down t ws
unfolding set_down
laid-first t ws = rw sub-zero

module _ (t : List Range) (n i : ℕ) (ws all : List ℕ) where
  pub laid-again : i < length t → i < n → laid t n i ws ≡ all → laid t n (i + 1) (set (set ws (2 * i) (get_or t i (range 0 0)).start) (2 * i + 1) (get_or t i (range 0 0)).end) ≡ all
  unfolding splice words_of
  laid-again l h inv =
      let one : n - i ≡ suc (n - (i + 1)) = omega arith in
      let next : 2 * (i + 1) ≡ suc (suc (2 * i)) = omega arith in
      sym (ap (λ (m : ℕ). splice (2 * i) (words_of (take m (drop i t))) ws) one ∙ ap (λ (v : List Range). splice (2 * i) (words_of (take (suc (n - (i + 1))) v)) ws) (drop-cons t i (range 0 0) l) ∙ rw (next, add-one i, add-one (2 * i))) ∙ inv

  laid-whole : length t ≤ i → laid t n i ws ≡ all → ws ≡ all
  unfolding splice words_of
  laid-whole h inv = sym (rw (drop_of_length-le t h, take-nil (n - i))) ∙ inv

  laid-full : n ≤ i → laid t n i ws ≡ all → ws ≡ all
  unfolding splice words_of
  laid-full h inv =
      let none : n - i ≡ 0 = omega arith in
      ap (λ (m : ℕ). splice (2 * i) (words_of (take m (drop i t))) ws) (sym none) ∙ inv

  pub laid-all : length t ≤ RANGES → min RANGES n ≤ i → laid t n i ws ≡ all → ws ≡ all
  laid-all k h inv =
      by-test (leb RANGES n)
      (λ e. let l = leb-true _ _ e in laid-whole (omega arith) inv)
      (λ e. let l = leb-false _ _ e in laid-full (omega arith) inv)
