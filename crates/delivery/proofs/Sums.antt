-- A sum over different places of a list is at most the sum over the list; and what is free where few are held. Assumes nothing.
use Prim.Native.Nat.{ℕ, zero, suc, ◌+◌, ◌≤◌, ◌<◌}
use mathlib.Core.Path.{◌≡◌, refl, sym, ap, ◌∙◌}
use mathlib.Core.Bool.{Bool, true, false, not}
use mathlib.Core.List.{List, [], ◌∷◌}
use native.Mathlib.Omega.{arith}
use lib.Dec.{eqb, ltb}
use lib.ListN.{length, get_or, set, take, length-take}
use borrow.Author.Tests.{eqb-true, eqb-false, ne_eqb, ltb-true, ltb-false}
use Rattle.words.specs.Lists.{first, holds, lowest_free_of, total, All, Pairs}
use Rattle.words.proofs.Lists.{all_map}
use Rattle.words.proofs.Tables.{by-test, pick-cases, holds-split}
use Rattle.delivery.proofs.Lists.{rem}

abbrev pub Differ : ℕ → ℕ → Type 0
Differ a b = a ≡ b → ⊥

-- the sum over the places below n
unfoldable below : ℕ → (ℕ → ℕ) → ℕ
below zero f = 0
below (suc n) f = f n + below n f

below-front : (n : ℕ) (f : ℕ → ℕ) → below (suc n) f ≡ f 0 + below n (λ i. f (suc i))
unfolding below
below-front zero f = refl
below-front (suc n) f = let r = below-front n f in omega arith

total-below : {A : Type 0} (f : A → ℕ) (xs : List A) (d : A) → total f xs ≡ below (length xs) (λ i. f (get_or xs i d))
unfolding total below
total-below f [] d = refl
total-below f (x ∷ xs) d = ap (λ (n : ℕ). f x + n) (total-below f xs d) ∙ sym (below-front (length xs) (λ i. f (get_or (x ∷ xs) i d)))

rem-none : (j : ℕ) (xs : List ℕ) → All (Differ j) xs → rem j xs ≡ xs
unfolding rem All
rem-none j [] a = refl
rem-none j (x ∷ xs) a = rw (ne_eqb x j (λ e. a.0 (sym e))) (ap (λ (l : List ℕ). x ∷ l) (rem-none j xs a.1))

all-rem : (P : ℕ → Type 0) (j : ℕ) (xs : List ℕ) → All P xs → All (λ x. P x × (x ≡ j → ⊥)) (rem j xs)
unfolding rem All
all-rem P j [] a = tt
all-rem P j (x ∷ xs) a = pick-cases (All (λ y. P y × (y ≡ j → ⊥))) (eqb x j) (λ _. all-rem P j xs a.1) (λ e. ((a.0, eqb-false x j e), all-rem P j xs a.1))

pairs-rem : (j : ℕ) (xs : List ℕ) → Pairs Differ xs → Pairs Differ (rem j xs)
unfolding rem Pairs
pairs-rem j [] p = tt
pairs-rem j (x ∷ xs) p =
    pick-cases (Pairs Differ) (eqb x j) (λ _. pairs-rem j xs p.1)
    (λ _. (all_map _ (Differ x) (λ y h. h.0) (rem j xs) (all-rem (Differ x) j xs p.0), pairs-rem j xs p.1))

total-rem : (f : ℕ → ℕ) (j : ℕ) (xs : List ℕ) → Pairs Differ xs → total f xs ≤ f j + total f (rem j xs)
unfolding total rem Pairs
total-rem f j [] p = omega arith
total-rem f j (x ∷ xs) p =
    let r = total-rem f j xs p.1 in
    by-test (eqb x j)
    (λ e. let q = eqb-true x j e in let z : rem j xs ≡ xs = rw (← q) (rem-none x xs p.0) in rw e (omega (arith, ap f q, ap (total f) z)))
    (λ e. rw e (omega arith))

distinct-below : (f : ℕ → ℕ) (n : ℕ) (xs : List ℕ) → Pairs Differ xs → All (λ x. x < n) xs → total f xs ≤ below n f
unfolding total below All Pairs
distinct-below f zero [] p a = omega arith
distinct-below f zero (x ∷ xs) p a = absurd (omega (arith, a.0))
distinct-below f (suc n) xs p a =
    let r = distinct-below f n (rem n xs) (pairs-rem n xs p) (all_map _ (λ x. x < n) (λ x h. omega (arith, h.0, h.1)) (rem n xs) (all-rem (λ x. x < suc n) n xs a)) in
    omega (arith, total-rem f n xs p)

-- different places of a list
pub distinct-total : {A : Type 0} (f : A → ℕ) (q : List A) (d : A) (ids : List ℕ) → Pairs Differ ids → All (λ id. id < length q) ids → total (λ id. f (get_or q id d)) ids ≤ total f q
distinct-total f q d ids p a = let e = total-below f q d in let r = distinct-below (λ id. f (get_or q id d)) (length q) ids p a in omega arith

-- ---- where fewer are held than there are, one is free

all_held : (l : List Bool) → length l ≤ first not l → holds l ≡ length l
unfolding first holds
all_held [] h = refl
all_held (true ∷ l) h = ap suc (all_held l (omega arith))
all_held (false ∷ l) h = absurd (omega arith)

pub one_free : (l : List Bool) (n : ℕ) → n ≤ length l → holds l < n → lowest_free_of l n < n
one_free l n h few =
    by-test (ltb (lowest_free_of l n) n)
    (λ t. ltb-true (lowest_free_of l n) n t)
    (λ t. let k = length-take n l in let s = holds-split n l in let a = all_held (take n l) (omega (arith, ltb-false (lowest_free_of l n) n t)) in absurd (omega arith))

pub holds-set-false : (l : List Bool) (i : ℕ) → holds (set l i false) ≤ holds l
unfolding holds
holds-set-false [] i = omega arith
holds-set-false (true ∷ l) zero = omega arith
holds-set-false (false ∷ l) zero = omega arith
holds-set-false (true ∷ l) (suc i) = let r = holds-set-false l i in omega arith
holds-set-false (false ∷ l) (suc i) = holds-set-false l i

pub holds-set-held : (l : List Bool) (i : ℕ) → get_or l i false ≡ true → holds (set l i true) ≡ holds l
unfolding holds
holds-set-held [] i e = refl
holds-set-held (true ∷ l) zero e = refl
holds-set-held (false ∷ l) zero e = absurd (let z : ◌≡◌ {A = ℕ} 0 1 = cc in omega arith)
holds-set-held (true ∷ l) (suc i) e = ap suc (holds-set-held l i e)
holds-set-held (false ∷ l) (suc i) e = holds-set-held l i e
