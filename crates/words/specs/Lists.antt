-- Words on lists and bounded tables. Nothing here knows a size or a record. Assumes nothing.
use Rattle.std.specs.Prelude.{ℕ, zero, suc, ◌+◌, Bool, true, false, not, List, [], ◌∷◌, ◌++◌, take, drop, set}
use Rattle.words.specs.Choice.{pick}

-- s with bs stored from place `at` on, one after the other
unfoldable pub splice : {A : Type 0} → ℕ → List A → List A → List A
splice at [] s = s
splice at (b ∷ bs) s = splice (suc at) bs (set s at b)

-- whether each element passes the test
unfoldable pub all : {A : Type 0} → (A → Bool) → List A → Bool
all p [] = true
all p (x ∷ xs) = pick (p x) (all p xs) false

-- the place of the first element that passes the test, or the length
unfoldable pub first : {A : Type 0} → (A → Bool) → List A → ℕ
first p [] = 0
first p (x ∷ xs) = pick (p x) 0 (suc (first p xs))

-- the lowest free place among the first n
abbrev pub lowest_free_of : List Bool → ℕ → ℕ
lowest_free_of held n = first not (take n held)

-- how many are held
unfoldable pub holds : List Bool → ℕ
holds [] = 0
holds (true ∷ l) = suc (holds l)
holds (false ∷ l) = holds l

-- the sum over a list
unfoldable pub total : {A : Type 0} → (A → ℕ) → List A → ℕ
total f [] = 0
total f (x ∷ xs) = f x + total f xs

-- the sum over the places below n
unfoldable pub sum_below : ℕ → (ℕ → ℕ) → ℕ
sum_below zero f = 0
sum_below (suc n) f = f 0 + sum_below n (λ i. f (suc i))

-- the list without its element at k
unfoldable pub without : {A : Type 0} → ℕ → List A → List A
without k l = take k l ++ drop (suc k) l

-- of every element
unfoldable pub All : {A : Type 0} → (A → Type 0) → List A → Type 0
All P [] = Unit
All P (x ∷ xs) = P x × All P xs

-- of every element and every later one
unfoldable pub Pairs : {A : Type 0} → (A → A → Type 0) → List A → Type 0
Pairs R [] = Unit
Pairs R (x ∷ xs) = All (R x) xs × Pairs R xs

-- a walk from the front: each element is put anew by `f`, and `g` carries what is left to the next
unfoldable pub walked : {A S : Type 0} → (S → A → A) → (S → A → S) → S → List A → List A
walked f g s [] = []
walked f g s (x ∷ xs) = f s x ∷ walked f g (g s x) xs

-- what a walk carries past its last element
unfoldable pub reached : {A S : Type 0} → (S → A → S) → S → List A → S
reached g s [] = s
reached g s (x ∷ xs) = reached g (g s x) xs
