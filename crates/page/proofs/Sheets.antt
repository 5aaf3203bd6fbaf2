-- Laws of what is set down on a sheet. Assumes nothing.
use Prim.Native.Nat.{ℕ, zero, suc, ◌+◌, ◌-◌, ◌≤◌, ◌<◌, min, max}
use mathlib.Core.Path.{◌≡◌, refl, sym, ap, ◌∙◌}
use mathlib.Core.List.{List, [], ◌∷◌, ◌++◌}
use native.Mathlib.Omega.{arith}
use native.Mathlib.Numerals.{add-one}
use native.Mathlib.Nat.{not-suc-le-zero, zero-min, min-zero, suc-min-suc}
use lib.ListN.{length, get_or, drop, length-drop, drop_of_length-le}
use lib.Seq.{drop-cons, drop-drop, drop-nil}
use borrow.Author.Tests.{le-leb, lt-leb}
use Rattle.script.specs.Ascii.{ascii}
use Rattle.say.specs.Say.{Says}
use Rattle.say.specs.Spelled.{WIDEST, Puts, part_at, length_of, past_of, kind_of, point_of, text_of}
use Rattle.say.specs.declared.Before.{Before}
use Rattle.say.specs.declared.Before.TheVariants.{Nothing}
use Rattle.say.specs.declared.Part.{Part}
use Rattle.page.specs.Page.{Sheet, sheet, place_for, put, said, letter_said, next_number, lined_from, spelt_from, spelt}

-- ---- a place with room

module _ (p : List ℕ) (at n : ℕ) where
  pub place_here : at + n ≤ length p → at ≡ place_for n (sheet p at)
  unfolding place_for
  place_here h = rw (le-leb (at + n) (length p) h) refl

  pub place-front : {r : ℕ} → length p < at + n → r ≡ 0 → r ≡ place_for n (sheet p at)
  unfolding place_for
  place-front h e = rw (lt-leb (at + n) (length p) h) e

-- ---- what `say` sets down, at a place with room

module _ (p : List ℕ) (at k wanted : ℕ) (s p' : List ℕ) (r : ℕ) (e : k ≡ place_for wanted (sheet p at)) where
  pub put-says : Says p k s p' r → sheet p' r ≡ put wanted (length s) s (sheet p at)
  unfolding put
  put-says h = rw (h.bytes, h.place, e) refl

  pub put-puts : Puts p k s p' r → sheet p' r ≡ put wanted WIDEST s (sheet p at)
  unfolding put
  put-puts h = rw (h.bytes, h.place, e) refl

-- ---- a line: what is left, from here, gives what the whole gives

drop-step : (s : List ℕ) (i : ℕ) → i < length s → drop i s ≡ get_or s i 0 ∷ drop (i + 1) s
drop-step s i h = rw (add-one, drop-cons s i 0) refl

module _ (s ns : List ℕ) (i k : ℕ) (sh : Sheet) (h : i < length s) where
  line_step : lined_from (drop i s) ns k sh ≡ lined_from (drop (i + 1) s) ns (next_number (get_or s i 0) k) (letter_said (get_or s i 0) ns k sh)
  unfolding lined_from
  line_step = ap (λ (l : List ℕ). lined_from l ns k sh) (drop-step s i h)

  pub line-again : (sh' all : Sheet) (k' : ℕ) → sh' ≡ letter_said (get_or s i 0) ns k sh → k' ≡ next_number (get_or s i 0) k → lined_from (drop i s) ns k sh ≡ all → lined_from (drop (i + 1) s) ns k' sh' ≡ all
  line-again sh' all k' e f inv = rw (e, f) (sym line_step ∙ inv)

pub line-end : (s ns : List ℕ) (i k : ℕ) (sh all : Sheet) → length s ≤ i → lined_from (drop i s) ns k sh ≡ all → sh ≡ all
unfolding lined_from
line-end s ns i k sh all h inv = ap (λ (l : List ℕ). lined_from l ns k sh) (sym (drop_of_length-le s h)) ∙ inv

-- ---- bytes, in the same way

drop_min : (s : List ℕ) (j : ℕ) → drop (min (length s) j) s ≡ drop j s
drop_min [] j = rw zero-min (sym (drop-nil j))
drop_min (x ∷ s) zero = rw min-zero refl
drop_min (x ∷ s) (suc j) = rw suc-min-suc (drop_min s j)

module _ (w : Before) (sh : Sheet) where
  spelt-front : (n : ℕ) (xs : List ℕ) → 0 < length xs → spelt_from (suc n) w xs sh ≡ spelt_from n (kind_of (part_at xs)) (drop (max 1 (length_of (part_at xs))) xs) (put WIDEST WIDEST (point_of w (part_at xs) ++ text_of (part_at xs)) sh)
  unfolding spelt_from
  spelt-front n [] h = absurd (not-suc-le-zero h)
  spelt-front n (x ∷ xs) h = refl

  spelt-none : (n : ℕ) → spelt_from n w [] sh ≡ sh
  unfolding spelt_from
  spelt-none zero = refl
  spelt-none (suc n) = refl

past-drop : (s : List ℕ) (i n : ℕ) → i < length s → drop (max 1 n) (drop i s) ≡ drop (past_of (length s) i n) s
past-drop s i n h =
    let q : past_of (length s) i n ≡ min (length s) (i + max 1 n) = rw (lt-leb (length s) i h) refl in
    drop-drop (max 1 n) i s ∙ sym (drop_min s (i + max 1 n)) ∙ ap (λ (j : ℕ). drop j s) (sym q)

-- what is left of the bytes, from i on, gives what the whole gives: in as many parts as there are bytes left, or more
pub record Spells (s : List ℕ) (i : ℕ) (w : Before) (sh all : Sheet) : Type 0 where
  pub most : ℕ
  pub enough : length s ≤ i + most
  pub gives : spelt_from most w (drop i s) sh ≡ all

module _ (s : List ℕ) (i : ℕ) (w : Before) (p : Part) (sh all : Sheet) (h : i < length s) (e : p ≡ part_at (drop i s)) where
  spelt-step : (most : ℕ) → 0 < most → spelt_from most w (drop i s) sh ≡ spelt_from (most - 1) (kind_of p) (drop (past_of (length s) i (length_of p)) s) (put WIDEST WIDEST (point_of w p ++ text_of p) sh)
  spelt-step most l =
      let one : most ≡ suc (most - 1) = omega arith in
      let some : 0 < length (drop i s) = omega (arith, length-drop i s) in
      let cut : drop (max 1 (length_of p)) (drop i s) ≡ drop (past_of (length s) i (length_of p)) s = past-drop s i (length_of p) h in
      let front : spelt_from (suc (most - 1)) w (drop i s) sh ≡ spelt_from (most - 1) (kind_of p) (drop (max 1 (length_of p)) (drop i s)) (put WIDEST WIDEST (point_of w p ++ text_of p) sh) = rw e (spelt-front w sh (most - 1) (drop i s) some) in
      ap (λ (n : ℕ). spelt_from n w (drop i s) sh) one ∙ front ∙ ap (λ (t : List ℕ). spelt_from (most - 1) (kind_of p) t (put WIDEST WIDEST (point_of w p ++ text_of p) sh)) cut

  pub spelt-again : (i' : ℕ) (w' : Before) (sh' : Sheet) → i' ≡ past_of (length s) i (length_of p) → i < i' → w' ≡ kind_of p → sh' ≡ put WIDEST WIDEST (point_of w p ++ text_of p) sh → Spells s i w sh all → Spells s i' w' sh' all
  spelt-again i' w' sh' b n c d inv = record {
    most = inv.most - 1;
    enough = omega (arith, inv.enough);
    gives = rw (b, c, d) (sym (spelt-step inv.most (omega (arith, inv.enough))) ∙ inv.gives);
  }

pub spelt-start : (s : List ℕ) (sh : Sheet) → 0 < length s → Spells s 0 Nothing sh (spelt s sh)
unfolding spelt
spelt-start [] sh h = absurd (not-suc-le-zero h)
spelt-start (x ∷ s) sh h = record { most = length (x ∷ s); enough = omega arith; gives = refl }

pub spelt-end : (s : List ℕ) (i : ℕ) (w : Before) (sh all : Sheet) → length s ≤ i → Spells s i w sh all → sh ≡ all
spelt-end s i w sh all h inv = sym (spelt-none w sh inv.most) ∙ ap (λ (t : List ℕ). spelt_from inv.most w t sh) (sym (drop_of_length-le s h)) ∙ inv.gives

pub spelt-nothing : (s : List ℕ) (sh sh' : Sheet) → length s ≡ 0 → sh' ≡ said (ascii "-") sh → sh' ≡ spelt s sh
unfolding spelt
spelt-nothing [] sh sh' h e = e
spelt-nothing (x ∷ s) sh sh' h e = absurd (omega arith)
