-- Laws of lists that know no record and no size. Assumes nothing.
use Prim.Native.Nat.{ℕ, zero, suc, ◌+◌}
use mathlib.Core.Path.{◌≡◌, refl}
use mathlib.Core.List.{List, [], ◌∷◌, ◌++◌}
use native.Mathlib.Omega.{arith}
use lib.ListN.{get_or, replicate}
use Rattle.words.specs.Lists.{total}

-- an entry of a blank table is blank, past its end too
pub get_or-blank : {A : Type 0} (n i : ℕ) (d : A) → get_or (replicate n d) i d ≡ d
get_or-blank zero i d = refl
get_or-blank (suc n) zero d = refl
get_or-blank (suc n) (suc i) d = get_or-blank n i d

pub total-append : {A : Type 0} (f : A → ℕ) (xs ys : List A) → total f (xs ++ ys) ≡ total f xs + total f ys
unfolding total
total-append f [] ys = omega arith
total-append f (x ∷ xs) ys = rw (total-append f xs ys) (omega arith)

pub total-same : {A : Type 0} (f g : A → ℕ) → ((x : A) → f x ≡ g x) → (xs : List A) → total f xs ≡ total g xs
unfolding total
total-same f g e [] = refl
total-same f g e (x ∷ xs) = rw (e x, total-same f g e xs)
