-- Ranges from the lowest up and from the highest down: the same ranges, in order where the others are. Assumes nothing.
use Prim.Native.Nat.{ℕ, zero, suc, ◌+◌, ◌*◌, ◌≤◌, ◌<◌}
use mathlib.Core.Path.{◌≡◌, refl, sym, ap, ◌∙◌}
use mathlib.Core.Bool.{Bool, true, false}
use mathlib.Core.List.{List, [], ◌∷◌, reverse_aux, reverse}
use native.Mathlib.Omega.{arith}
use borrow.Author.Tests.{ltb-true}
use lib.Dec.{ltb}
use lib.ListN.{length}
use Rattle.words.specs.Choice.{pick}
use Rattle.words.specs.Lists.{all}
use Rattle.packet_ack.specs.Ack.{Range}
use Rattle.packet_ack.specs.Write.{listed, rising_after, rising}
use Rattle.packet_ack.specs.Steps.{below, falling_below, falling}

-- ---- the ranges of a table

aux-listed : (t : List Range) (i k : ℕ) → reverse_aux (listed t i k) (below t i) ≡ below t (i + k)
unfolding listed below
aux-listed t i zero = let z : i ≡ i + 0 = omega arith in ap (below t) z
aux-listed t i (suc k) =
    let z : i + 1 + k ≡ i + suc k = omega arith in
    let o : suc i ≡ i + 1 = omega arith in
    ap (λ (n : ℕ). reverse_aux (listed t (i + 1) k) (below t n)) o ∙ aux-listed t (i + 1) k ∙ ap (below t) z

pub reverse-listed : (t : List Range) (k : ℕ) → reverse (listed t 0 k) ≡ below t k
unfolding below
reverse-listed t k = aux-listed t 0 k ∙ (let z : 0 + k ≡ k = omega arith in ap (below t) z)

pub length-below : (t : List Range) (k : ℕ) → length (below t k) ≡ k
unfolding below
length-below t zero = refl
length-below t (suc k) = ap suc (length-below t k)

-- ---- what holds of each holds of each from the other end

pub whole : (b : Bool) → pick b true false ≡ b
whole true = refl
whole false = refl

swapped : (a b c : Bool) → pick b (pick a c false) false ≡ pick (pick a b false) c false
swapped true b c = refl
swapped false true c = refl
swapped false false c = refl

pub all-reverse : {A : Type 0} (p : A → Bool) (xs : List A) → all p (reverse xs) ≡ all p xs
unfolding all
all-reverse {A} p xs = aux xs [] ∙ whole (all p xs)
  where
    aux : (xs ys : List A) → all p (reverse_aux xs ys) ≡ pick (all p xs) (all p ys) false
    aux [] ys = refl
    aux (x ∷ xs) ys = aux xs (x ∷ ys) ∙ swapped (p x) (all p xs) (all p ys)

-- ---- rising from the lowest up is falling from the highest down

turned : (a b c d : Bool) → pick (pick a (pick b c false) false) d false ≡ pick c (pick b (pick a d false) false) false
turned true true true d = refl
turned true true false d = refl
turned true false true d = refl
turned true false false d = refl
turned false true true d = refl
turned false true false d = refl
turned false false true d = refl
turned false false false d = refl

pub rising-falling : (rs : List Range) → rising rs ≡ falling (reverse rs)
unfolding rising rising_after falling falling_below
rising-falling [] = refl
rising-falling (r ∷ rs) = sym (aux rs r [] ∙ ap (λ (b : Bool). pick b (rising_after r.end rs) false) (whole (ltb r.start r.end)))
  where
    aux : (rs : List Range) (r : Range) (qs : List Range) → falling (reverse_aux rs (r ∷ qs)) ≡ pick (falling (r ∷ qs)) (rising_after r.end rs) false
    aux [] r qs = sym (whole (falling (r ∷ qs)))
    aux (x ∷ rs) r qs = aux rs x (r ∷ qs) ∙ turned (ltb x.start x.end) (ltb r.end x.start) (falling (r ∷ qs)) (rising_after x.end rs)

-- ---- what falling says of the first, and of how many there are

pub picked : (a b : Bool) → pick a b false ≡ true → (a ≡ true) × (b ≡ true)
picked true b e = (refl, e)
picked false b e = absurd (let z : ◌≡◌ {A = ℕ} 0 1 = cc in omega arith)

pub falls-top : (r : Range) (rs : List Range) → falling (r ∷ rs) ≡ true → (r.start < r.end) × (falling_below r.start rs ≡ true)
unfolding falling
falls-top r rs h = let p = picked (ltb r.start r.end) (falling_below r.start rs) h in (ltb-true _ _ p.0, p.1)

pub falls-first : (above : ℕ) (r : Range) (rs : List Range) → falling_below above (r ∷ rs) ≡ true
    → (r.end < above) × (r.start < r.end) × (falling_below r.start rs ≡ true)
unfolding falling_below falling
falls-first above r rs h = let p = picked (ltb r.end above) (falling (r ∷ rs)) h in let q = falls-top r rs p.1 in (ltb-true _ _ p.0, q.0, q.1)

-- two numbers are taken by each of them and what is missing above it
pub falls-count : (above : ℕ) (rs : List Range) → falling_below above rs ≡ true → 2 * length rs ≤ above
falls-count above [] h = omega arith
falls-count above (r ∷ rs) h =
    let f = falls-first above r rs h in
    let c = falls-count r.start rs f.2 in
    omega arith
