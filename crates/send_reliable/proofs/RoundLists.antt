-- Laws of lists and tables that know no size and no record. Assumes nothing.
use Prim.Native.Nat.{ℕ, zero, suc, ◌+◌, ◌≤◌, ◌<◌, zero-le, suc-le-suc}
use mathlib.Core.Path.{◌≡◌, refl, sym, ap, ◌∙◌}
use mathlib.Core.Bool.{Bool, true, false}
use mathlib.Core.List.{List, [], ◌∷◌, ◌++◌}
use native.Mathlib.Omega.{arith}
use native.Mathlib.Nat.{add-zero, not-suc-le-zero, le_of_suc-le-suc}
use native.Mathlib.Numerals.{add-one}
use lib.ListN.{length, get_or, set, take, drop, get_or-map}
use lib.Seq.{get_or-set_other, map-set_same}
use Rattle.words.specs.Choice.{pick}
use Rattle.words.specs.Lists.{holds, total, All, Pairs, reached}
use Rattle.words.proofs.Lists.{holds-less, all_both}
use Rattle.words.proofs.Tables.{by-test, clash}
use Rattle.send_reliable.specs.RoundSteps.{each}

-- ---- each

module _ {A : Type 0} where
  pub each_more : (f : ℕ → A) (i n : ℕ) → each f i (suc n) ≡ each f i n ++ (f (i + n) ∷ [])
  unfolding each
  each_more f i zero = rw add-zero
  each_more f i (suc n) =
      let e : i + 1 + n ≡ i + suc n = omega arith in
      ap (λ (l : List A). f i ∷ l) (each_more f (i + 1) n ∙ ap (λ (m : ℕ). each f (i + 1) n ++ (f m ∷ [])) e)

  pub each_same : (f g : ℕ → A) (i n : ℕ) → ((j : ℕ) → j < i + n → f j ≡ g j) → each f i n ≡ each g i n
  unfolding each
  each_same f g i zero e = refl
  each_same f g i (suc n) e = rw (e i (omega arith), each_same f g (i + 1) n (λ j h. e j (omega arith)))

  pub length-each : (f : ℕ → A) (i n : ℕ) → length (each f i n) ≡ n
  unfolding each
  length-each f i zero = refl
  length-each f i (suc n) = ap suc (length-each f (i + 1) n)

  pub get_or-each : (f : ℕ → A) (i n j : ℕ) (d : A) → j < n → get_or (each f i n) j d ≡ f (i + j)
  unfolding each
  get_or-each f i zero j d h = absurd (not-suc-le-zero h)
  get_or-each f i (suc n) zero d h = rw add-zero
  get_or-each f i (suc n) (suc j) d h =
      let e : i + 1 + j ≡ i + suc j = omega arith in
      get_or-each f (i + 1) n j d (le_of_suc-le-suc h) ∙ ap f e

  pub all-each : (P : A → Type 0) (f : ℕ → A) (i n : ℕ) → ((j : ℕ) → j < i + n → P (f j)) → All P (each f i n)
  unfolding each All
  all-each P f i zero h = tt
  all-each P f i (suc n) h = (h i (omega arith), all-each P f (i + 1) n (λ j l. h j (omega arith)))

  -- a table's entry that is put after the first m
  pub each-put : (f g : ℕ → A) (m : ℕ) (x : A) → ((j : ℕ) → j < m → g j ≡ f j) → g m ≡ x → each g 0 (m + 1) ≡ each f 0 m ++ (x ∷ [])
  each-put f g m x e h =
      let z : 0 + m ≡ m = omega arith in
      rw (add-one, each_more, z, h, each_same g f 0 m (λ j l. e j (omega arith)))

-- ---- a walk

-- what every step keeps
pub reached-always : {A S : Type 0} (g : S → A → S) (P : S → Type 0) → ((s : S) (x : A) → P s → P (g s x)) → (s : S) (xs : List A) → P s → P (reached g s xs)
unfolding reached
reached-always g P f s [] p = p
reached-always g P f s (x ∷ xs) p = reached-always g P f (g s x) xs (f s x p)

-- what each step keeps, where its element is so
pub reached-keeps : {A S : Type 0} (g : S → A → S) (P : S → Type 0) (Q : A → Type 0) → ((s : S) (x : A) → Q x → P s → P (g s x)) → (s : S) (xs : List A) → All Q xs → P s → P (reached g s xs)
unfolding reached All
reached-keeps g P Q f s [] a p = p
reached-keeps g P Q f s (x ∷ xs) a p = reached-keeps g P Q f (g s x) xs a.1 (f s x a.0 p)

-- ---- a table of which one entry is put anew

module _ {A : Type 0} where
  -- what f says of each entry stays, where it says the same of the one that is put anew
  pub same_set : {B : Type 0} (f : A → B) (xs : List A) (k : ℕ) (y d : A) → f y ≡ f (get_or xs k d) → (j : ℕ) → f (get_or (set xs k y) j d) ≡ f (get_or xs j d)
  same_set {B} f xs k y d e j =
      sym (get_or-map f (set xs k y) j d) ∙ ap (λ (l : List B). get_or l j (f d)) (map-set_same f xs k y d e) ∙ get_or-map f xs j d

-- ---- sums

module _ {A : Type 0} (f : A → ℕ) where
  -- a part's sum stays where the entry that is put anew counts as before
  pub total-part : (xs : List A) (a n j : ℕ) (y d : A) → f y ≡ f (get_or xs j d) → total f (take n (drop a (set xs j y))) ≡ total f (take n (drop a xs))
  unfolding total
  total-part [] a n j y d e = refl
  total-part (x ∷ xs) (suc a) n zero y d e = refl
  total-part (x ∷ xs) (suc a) n (suc j) y d e = total-part xs a n j y d e
  total-part (x ∷ xs) zero zero j y d e = refl
  total-part (x ∷ xs) zero (suc n) zero y d e = rw e
  total-part (x ∷ xs) zero (suc n) (suc j) y d e = ap (λ (m : ℕ). f x + m) (total-part xs zero n j y d e)

  -- a front and the entry after it are at most the whole
  pub total-front : (xs : List A) (k : ℕ) (d : A) → k < length xs → total f (take k xs) + f (get_or xs k d) ≤ total f xs
  unfolding total
  total-front [] k d h = absurd (not-suc-le-zero h)
  total-front (x ∷ xs) zero d h = omega arith
  total-front (x ∷ xs) (suc k) d h = let r : total f (take k xs) + f (get_or xs k d) ≤ total f xs = total-front xs k d (le_of_suc-le-suc h) in omega arith

-- ---- what has a place of its own

in-range : (l : List Bool) (i : ℕ) → get_or l i false ≡ true → i < length l
in-range [] i e = clash (cc)
in-range (b ∷ l) zero e = suc-le-suc zero-le
in-range (b ∷ l) (suc i) e = suc-le-suc (in-range l i e)

-- of those that pass the test, each holds a place, and no two the same: they are no more than the places held
module _ {A : Type 0} (p : A → Bool) (at : A → ℕ) where
  abbrev pub Holds : List Bool → A → Type 0
  Holds l x = p x ≡ true → get_or l (at x) false ≡ true

  abbrev pub Other : A → A → Type 0
  Other x y = p x ≡ true → p y ≡ true → at x ≡ at y → ⊥

  pub places-few : (xs : List A) (l : List Bool) → All (Holds l) xs → Pairs Other xs → total (λ x. pick (p x) 1 0) xs ≤ holds l
  unfolding total All Pairs
  places-few [] l a q = zero-le
  places-few (x ∷ xs) l a q =
      by-test (p x)
      (λ e.
      let less : holds (set l (at x) false) + 1 ≡ holds l = holds-less l (at x) (in-range l (at x) (a.0 e)) (a.0 e) in
      let rest : total (λ x. pick (p x) 1 0) xs ≤ holds (set l (at x) false) =
      places-few xs (set l (at x) false)
      (all_both (Holds l) (Other x) (Holds (set l (at x) false)) (λ y h o g. get_or-set_other l (at x) (at y) false false (λ s. o e g (sym s)) ∙ h g) xs a.1 q.0)
      q.1 in
      rw e (omega arith))
      (λ e. rw e (let rest = places-few xs l a.1 q.1 in omega arith))
