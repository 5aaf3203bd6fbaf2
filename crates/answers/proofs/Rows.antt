-- Laws of what is said row by row: what is left, from a place of the table on, gives what the whole gives. Assumes nothing.
use Prim.Native.Nat.{ℕ, suc, ◌+◌, ◌-◌, ◌^◌, ◌≤◌, ◌<◌, min}
use mathlib.Core.Path.{◌≡◌, sym, ap, ◌∙◌}
use mathlib.Core.List.{List}
use native.Mathlib.Omega.{arith}
use lib.ListN.{length, drop}
use lib.Seq.{drop-drop}
use Rattle.page.specs.Page.{Sheet, lined}
use Rattle.answers.specs.Packets.{rows_said}
use Rattle.answers.proofs.Places.{words-at}

module _ (s t : List ℕ) (width j left : ℕ) (sh all : Sheet) where
  rows_step : 0 < left → rows_said s width left (drop j t) sh ≡ rows_said s width (left - 1) (drop (j + width) t) (lined s (drop j t) sh)
  unfolding rows_said
  rows_step l =
      let one : left ≡ suc (left - 1) = omega arith in
      ap (λ (n : ℕ). rows_said s width n (drop j t) sh) one ∙ ap (λ (v : List ℕ). rows_said s width (left - 1) v (lined s (drop j t) sh)) (drop-drop width j t)

  pub rows-again : (j' : ℕ) (ns : List ℕ) (sh' : Sheet) → length t < 2 ^ 64 → 0 < left → ns ≡ drop j t → sh' ≡ lined s ns sh → j' ≡ min (j + width) (2 ^ 64 - 1) → rows_said s width left (drop j t) sh ≡ all → rows_said s width (left - 1) (drop j' t) sh' ≡ all
  rows-again j' ns sh' short l a b e inv = rw (b, a, words-at t (j + width) j' short e) (sym (rows_step l) ∙ inv)

  pub rows_end : left ≤ 0 → rows_said s width left (drop j t) sh ≡ all → sh ≡ all
  unfolding rows_said
  rows_end h inv =
      let none : left ≡ 0 = omega arith in
      ap (λ (n : ℕ). rows_said s width n (drop j t) sh) (sym none) ∙ inv
