-- Laws of `specs/Lists.antt` and of ladders. Nothing here knows a size, a channel or a record. Assumes nothing.
use Prim.Native.Nat.{ℕ, zero, suc, ◌+◌, ◌-◌, ◌≤◌, ◌<◌, zero-le, suc-le-suc}
use mathlib.Core.Path.{◌≡◌, refl, ap, sym, ◌∙◌}
use mathlib.Core.List.{List, [], ◌∷◌, ◌++◌}
use mathlib.Core.Bool.{Bool, true, false}
use native.Mathlib.Nat.{sub-zero, zero-sub, suc-sub-suc, not-suc-le-zero, le_of_suc-le-suc}
use native.Mathlib.Omega.{arith}
use borrow.Author.Tests.{eqb-false}
use lib.Dec.{eqb}
use lib.ListN.{length, get_or, take, drop, set, length-take, length-drop}
use lib.Seq.{get_or-append-add, paste, take-paste, length_paste_head, get_or-drop, take-take, take-nil, drop-nil, get_or-take, length-take-le}
use Rattle.words.specs.Choice.{pick, refusal}
use Rattle.words.specs.Lists.{first, holds, total, without, All, Pairs, walked, reached}

-- ---- first

module _ {A : Type 0} (p : A → Bool) (d : A) where
  -- it is i, where i passes and nothing before it does
  pub first-is : (xs : List A) (i : ℕ) → i < length xs → ((k : ℕ) → k < i → p (get_or xs k d) ≡ false) → p (get_or xs i d) ≡ true → first p xs ≡ i
  unfolding first
  first-is [] i h miss hit = absurd (not-suc-le-zero h)
  first-is (x ∷ xs) zero h miss hit = rw hit
  first-is (x ∷ xs) (suc i) h miss hit =
      rw (miss zero (suc-le-suc zero-le)) (ap suc (first-is xs i (le_of_suc-le-suc h) (λ k l. miss (suc k) (suc-le-suc l)) hit))

  -- it is the length, where nothing passes
  pub first-none : (xs : List A) → ((k : ℕ) → k < length xs → p (get_or xs k d) ≡ false) → first p xs ≡ length xs
  unfolding first
  first-none [] miss = refl
  first-none (x ∷ xs) miss =
      rw (miss zero (suc-le-suc zero-le)) (ap suc (first-none xs (λ k l. miss (suc k) (suc-le-suc l))))

  first-test : (b : Bool) (xs : List A) (x : A) → p x ≡ b → (pick b 0 (suc (first p xs)) < suc (length xs)) → (first p xs < length xs → p (get_or xs (first p xs) d) ≡ true) → p (get_or (x ∷ xs) (pick b 0 (suc (first p xs))) d) ≡ true
  first-test true xs x e h rec = e
  first-test false xs x e h rec = rec (le_of_suc-le-suc h)

  -- what is found passes
  pub first-hit : (xs : List A) → first p xs < length xs → p (get_or xs (first p xs) d) ≡ true
  unfolding first
  first-hit [] h = absurd (not-suc-le-zero h)
  first-hit (x ∷ xs) h = first-test (p x) xs x refl h (first-hit xs)

-- ---- holds

pub holds-le : (l : List Bool) → holds l ≤ length l
unfolding holds
holds-le [] = zero-le
holds-le (true ∷ l) = suc-le-suc (holds-le l)
holds-le (false ∷ l) = let h : holds l ≤ length l = holds-le l in omega arith

-- where a place is free, not all are held
pub holds-lt : (l : List Bool) (i : ℕ) → i < length l → get_or l i false ≡ false → holds l < length l
unfolding holds
holds-lt [] i h e = absurd (not-suc-le-zero h)
holds-lt (true ∷ l) zero h e = let z : ◌≡◌ {A = ℕ} 0 1 = cc in omega arith
holds-lt (true ∷ l) (suc i) h e = suc-le-suc (holds-lt l i (le_of_suc-le-suc h) e)
holds-lt (false ∷ l) i h e = let h : holds l ≤ length l = holds-le l in omega arith

pub holds_more : (l : List Bool) (i : ℕ) → i < length l → get_or l i false ≡ false → holds (set l i true) ≡ holds l + 1
unfolding holds
holds_more [] i h e = absurd (not-suc-le-zero h)
holds_more (true ∷ l) zero h e = cc
holds_more (true ∷ l) (suc i) h e = let r : holds (set l i true) ≡ holds l + 1 = holds_more l i (le_of_suc-le-suc h) e in omega arith
holds_more (false ∷ l) zero h e = omega arith
holds_more (false ∷ l) (suc i) h e = holds_more l i (le_of_suc-le-suc h) e

pub holds-less : (l : List Bool) (i : ℕ) → i < length l → get_or l i false ≡ true → holds (set l i false) + 1 ≡ holds l
unfolding holds
holds-less [] i h e = absurd (not-suc-le-zero h)
holds-less (true ∷ l) zero h e = omega arith
holds-less (true ∷ l) (suc i) h e = let r : holds (set l i false) + 1 ≡ holds l = holds-less l i (le_of_suc-le-suc h) e in omega arith
holds-less (false ∷ l) zero h e = cc
holds-less (false ∷ l) (suc i) h e = holds-less l i (le_of_suc-le-suc h) e

-- ---- total, and the two changes of a list: one more at the end, one fewer at k

module _ {A : Type 0} where
  pub total-snoc : (f : A → ℕ) (xs : List A) (y : A) → total f (xs ++ (y ∷ [])) ≡ total f xs + f y
  unfolding total
  total-snoc f [] y = omega arith
  total-snoc f (x ∷ xs) y = rw (total-snoc f xs y) (omega arith)

  pub total-without : (f : A → ℕ) (xs : List A) (k : ℕ) (d : A) → k < length xs → total f (without k xs) + f (get_or xs k d) ≡ total f xs
  unfolding total without
  total-without f [] k d h = absurd (not-suc-le-zero h)
  total-without f (x ∷ xs) zero d h = omega arith
  total-without f (x ∷ xs) (suc k) d h =
      let r : total f (without k xs) + f (get_or xs k d) ≡ total f xs = total-without f xs k d (le_of_suc-le-suc h) in omega arith

  -- ---- All, Pairs

  pub all_map : (P Q : A → Type 0) → ((x : A) → P x → Q x) → (xs : List A) → All P xs → All Q xs
  unfolding All
  all_map P Q f [] a = tt
  all_map P Q f (x ∷ xs) a = (f x a.0, all_map P Q f xs a.1)

  pub all_snoc : (P : A → Type 0) (xs : List A) (y : A) → All P xs → P y → All P (xs ++ (y ∷ []))
  unfolding All
  all_snoc P [] y a b = (b, tt)
  all_snoc P (x ∷ xs) y a b = (a.0, all_snoc P xs y a.1 b)

  pub all-at : (P : A → Type 0) (xs : List A) (k : ℕ) (d : A) → k < length xs → All P xs → P (get_or xs k d)
  unfolding All
  all-at P [] k d h a = absurd (not-suc-le-zero h)
  all-at P (x ∷ xs) zero d h a = a.0
  all-at P (x ∷ xs) (suc k) d h a = all-at P xs k d (le_of_suc-le-suc h) a.1

  pub all_without : (P : A → Type 0) (xs : List A) (k : ℕ) → All P xs → All P (without k xs)
  unfolding All without
  all_without P [] zero a = tt
  all_without P [] (suc k) a = tt
  all_without P (x ∷ xs) zero a = a.1
  all_without P (x ∷ xs) (suc k) a = (a.0, all_without P xs k a.1)

  pub all_take : (P : A → Type 0) (n : ℕ) (xs : List A) → All P xs → All P (take n xs)
  unfolding All
  all_take P zero xs a = tt
  all_take P (suc n) [] a = tt
  all_take P (suc n) (x ∷ xs) a = (a.0, all_take P n xs a.1)

  pub all_drop : (P : A → Type 0) (n : ℕ) (xs : List A) → All P xs → All P (drop n xs)
  unfolding All
  all_drop P zero xs a = a
  all_drop P (suc n) [] a = tt
  all_drop P (suc n) (x ∷ xs) a = all_drop P n xs a.1

  pub all_append : (P : A → Type 0) (xs ys : List A) → All P xs → All P ys → All P (xs ++ ys)
  unfolding All
  all_append P [] ys a b = b
  all_append P (x ∷ xs) ys a b = (a.0, all_append P xs ys a.1 b)

  pub all_left : (P : A → Type 0) (xs ys : List A) → All P (xs ++ ys) → All P xs
  unfolding All
  all_left P [] ys a = tt
  all_left P (x ∷ xs) ys a = (a.0, all_left P xs ys a.1)

  pub all_right : (P : A → Type 0) (xs ys : List A) → All P (xs ++ ys) → All P ys
  unfolding All
  all_right P [] ys a = a
  all_right P (x ∷ xs) ys a = all_right P xs ys a.1

  pub pairs-snoc : (R : A → A → Type 0) (xs : List A) (y : A) → Pairs R xs → All (λ x. R x y) xs → Pairs R (xs ++ (y ∷ []))
  unfolding All Pairs
  pairs-snoc R [] y p a = (tt, tt)
  pairs-snoc R (x ∷ xs) y p a = (all_snoc (R x) xs y p.0 a.0, pairs-snoc R xs y p.1 a.1)

  pub pairs-without : (R : A → A → Type 0) (xs : List A) (k : ℕ) → Pairs R xs → Pairs R (without k xs)
  unfolding All Pairs without
  pairs-without R [] zero p = tt
  pairs-without R [] (suc k) p = tt
  pairs-without R (x ∷ xs) zero p = p.1
  pairs-without R (x ∷ xs) (suc k) p = (all_without (R x) xs k p.0, pairs-without R xs k p.1)

  pub all_both : (P Q S : A → Type 0) → ((x : A) → P x → Q x → S x) → (xs : List A) → All P xs → All Q xs → All S xs
  unfolding All
  all_both P Q S f [] a b = tt
  all_both P Q S f (x ∷ xs) a b = (f x a.0 b.0, all_both P Q S f xs a.1 b.1)

  -- the others of a list in which every two stand in R: each stands in R with the one at k, on one side or the other
  pub all_others :
      (R : A → A → Type 0) (P Q : A → Type 0) (xs : List A) (k : ℕ) (d : A) → k < length xs → Pairs R xs
      → ((x : A) → P x → R x (get_or xs k d) → Q x) → ((x : A) → P x → R (get_or xs k d) x → Q x) → All P xs → All Q (without k xs)
  unfolding All Pairs without
  all_others R P Q [] k d h p before after a = absurd (not-suc-le-zero h)
  all_others R P Q (x ∷ xs) zero d h p before after a = all_both P (R x) Q (λ y u v. after y u v) xs a.1 p.0
  all_others R P Q (x ∷ xs) (suc k) d h p before after a =
      (before x a.0 (all-at (R x) xs k d (le_of_suc-le-suc h) p.0), all_others R P Q xs k d (le_of_suc-le-suc h) p.1 before after a.1)

  -- ---- lists in an array

  pub drop-take : (j n : ℕ) (l : List A) → drop j (take n l) ≡ take (n - j) (drop j l)
  drop-take zero n l = rw (sub-zero n)
  drop-take (suc j) zero l = rw (drop-nil (suc j), zero-sub (suc j))
  drop-take (suc j) (suc n) [] = rw take-nil
  drop-take (suc j) (suc n) (x ∷ l) = rw (suc-sub-suc n j) (drop-take j n l)

  pub paste-past : (d : List A) (at : ℕ) (s : List A) (n i : ℕ) (z : A) → at ≤ length d → n ≤ length s → at + n ≤ i → get_or (paste d at s n) i z ≡ get_or d i z
  paste-past d at s n i z hd hs hi =
      let e : at + n + (i - (at + n)) ≡ i = omega arith in
      let h : length (take at d ++ take n s) ≡ at + n = length_paste_head d at s n hd hs in
      ap (λ (k : ℕ). get_or (paste d at s n) k z) (sym (ap (λ (k : ℕ). k + (i - (at + n))) h ∙ e))
      ∙ get_or-append-add (take at d ++ take n s) (drop (at + n) d) (i - (at + n)) z
      ∙ get_or-drop (at + n) d (i - (at + n)) z
      ∙ ap (λ (k : ℕ). get_or d k z) e

  -- the first n of a table, from which the one at k is taken away and those after it move one lower
  pub live-less : (o : List A) (k n : ℕ) → k < n → n ≤ length o → take (n - 1) (paste o k (drop (suc k) o) (n - 1 - k)) ≡ without k (take n o)
  unfolding without
  live-less o k n h l =
      let e : k + (n - 1 - k) ≡ n - 1 = omega arith in
      let g : n - suc k ≡ n - 1 - k = omega arith in
      let r : n - 1 - k ≤ length (drop (suc k) o) = simp length-drop (omega arith) in
      ap (λ (m : ℕ). take m (paste o k (drop (suc k) o) (n - 1 - k))) (sym e)
      ∙ take-paste o k (drop (suc k) o) (n - 1 - k) (omega arith) r
      ∙ rw (take-take k n o (omega arith), drop-take (suc k) n o, g)

-- ---- a walk

module _ {A S : Type 0} (f : S → A → A) (g : S → A → S) where
  pub length-walked : (s : S) (xs : List A) → length (walked f g s xs) ≡ length xs
  unfolding walked
  length-walked s [] = refl
  length-walked s (x ∷ xs) = ap suc (length-walked (g s x) xs)

  pub reached-suc : (s : S) (xs : List A) (i : ℕ) (d : A) → i < length xs → reached g s (take (suc i) xs) ≡ g (reached g s (take i xs)) (get_or xs i d)
  unfolding reached
  reached-suc s [] i d h = absurd (not-suc-le-zero h)
  reached-suc s (x ∷ xs) zero d h = refl
  reached-suc s (x ∷ xs) (suc i) d h = reached-suc (g s x) xs i d (le_of_suc-le-suc h)

  -- a turn finds the element as it was
  pub walk_at : (s : S) (xs : List A) (i : ℕ) (d : A) → get_or (walked f g s (take i xs) ++ drop i xs) i d ≡ get_or xs i d
  unfolding walked
  walk_at s [] zero d = refl
  walk_at s [] (suc i) d = refl
  walk_at s (x ∷ xs) zero d = refl
  walk_at s (x ∷ xs) (suc i) d = walk_at (g s x) xs i d

  -- and its store takes the walk over i elements to the walk over i + 1
  pub walk-suc :
      (s : S) (xs : List A) (i : ℕ) (d : A) → i < length xs
      → set (walked f g s (take i xs) ++ drop i xs) i (f (reached g s (take i xs)) (get_or xs i d)) ≡ walked f g s (take (suc i) xs) ++ drop (suc i) xs
  unfolding walked reached
  walk-suc s [] i d h = absurd (not-suc-le-zero h)
  walk-suc s (x ∷ xs) zero d h = refl
  walk-suc s (x ∷ xs) (suc i) d h = ap (λ (l : List A). f s x ∷ l) (walk-suc (g s x) xs i d (le_of_suc-le-suc h))

  -- what every element keeps, the list keeps
  pub total-walked : (h : A → ℕ) → ((s : S) (x : A) → h (f s x) ≡ h x) → (s : S) (xs : List A) → total h (walked f g s xs) ≡ total h xs
  unfolding total walked
  total-walked h keep s [] = refl
  total-walked h keep s (x ∷ xs) = rw (keep s x, total-walked h keep (g s x) xs)

  pub all-walked : (P Q : A → Type 0) → ((s : S) (x : A) → P x → Q (f s x)) → (s : S) (xs : List A) → All P xs → All Q (walked f g s xs)
  unfolding All walked
  all-walked P Q keep s [] a = tt
  all-walked P Q keep s (x ∷ xs) a = (keep s x a.0, all-walked P Q keep (g s x) xs a.1)

  pub pairs-walked : (R : A → A → Type 0) → ((s t : S) (x y : A) → R x y → R (f s x) (f t y)) → (s : S) (xs : List A) → Pairs R xs → Pairs R (walked f g s xs)
  unfolding All Pairs walked
  pairs-walked R keep s [] p = tt
  pairs-walked R keep s (x ∷ xs) p =
      (all-walked (R x) (R (f s x)) (λ t y r. keep s t x y r) (g s x) xs p.0, pairs-walked R keep (g s x) xs p.1)

-- ---- a search of the first n of a table

module _ {A : Type 0} (p : A → Bool) (d : A) (xs : List A) (n : ℕ) (h : n ≤ length xs) where
  pub first_below : (i : ℕ) → i < n → ((k : ℕ) → k < i → p (get_or xs k d) ≡ false) → p (get_or xs i d) ≡ true → first p (take n xs) ≡ i
  first_below i l miss hit =
      first-is p d (take n xs) i (simp length-take (omega arith)) (λ k m. rw (get_or-take n xs k d (omega arith)) (miss k m)) (rw (get_or-take n xs i d l) hit)

  pub none_below : ((k : ℕ) → k < n → p (get_or xs k d) ≡ false) → first p (take n xs) ≡ n
  none_below miss =
      let e : length (take n xs) ≡ n = length-take-le n xs h in
      first-none p d (take n xs) (λ k m. let l : k < n = omega arith in rw (get_or-take n xs k d l) (miss k l)) ∙ e

  -- what is found passes, where something is
  pub hit-below : first p (take n xs) < n → p (get_or xs (first p (take n xs)) d) ≡ true
  hit-below l = rw (get_or-take n xs (first p (take n xs)) d l) at (first-hit p d (take n xs) (rw (length-take-le n xs h) l))

-- ---- a list of tests with their numbers

abbrev pub numbered : List (Bool × ℕ) → Bool
numbered [] = true
numbered ((t, v) ∷ l) = pick (eqb v 0) false (numbered l)

not-pick : (t b : Bool) → pick t false b ≡ true → (t ≡ false) × (b ≡ true)
not-pick true b e = absurd (let z : ◌≡◌ {A = ℕ} 0 1 = cc in omega arith)
not-pick false b e = (refl, e)

-- where there is no refusal no test holds; that every number is above 0 is `refl`
pub none-refused : (l : List (Bool × ℕ)) → numbered l ≡ true → refusal l ≡ 0 → All (λ p. p.0 ≡ false) l
unfolding All
none-refused [] a e = tt
none-refused ((true, v) ∷ l) a e = absurd (eqb-false v 0 (not-pick (eqb v 0) (numbered l) a).0 e)
none-refused ((false, v) ∷ l) a e = (refl, none-refused l (not-pick (eqb v 0) (numbered l) a).1 e)

-- what is held stays held where another is taken
pub held-still : (l : List Bool) (i j : ℕ) → get_or l j false ≡ true → get_or (set l i true) j false ≡ true
held-still [] i j e = e
held-still (x ∷ l) zero zero e = refl
held-still (x ∷ l) zero (suc j) e = e
held-still (x ∷ l) (suc i) zero e = e
held-still (x ∷ l) (suc i) (suc j) e = held-still l i j e
