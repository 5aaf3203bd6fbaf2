-- Laws of tests, tables and parts of lists that know no size and no record. Assumes nothing.
use Prim.Native.Nat.{ℕ, zero, suc, ◌+◌, ◌-◌, ◌≤◌, ◌<◌, zero-le, suc-le-suc}
use mathlib.Core.Path.{◌≡◌, refl, sym, ap, ◌∙◌}
use mathlib.Core.List.{List, [], ◌∷◌, ◌++◌}
use mathlib.Core.Bool.{Bool, true, false}
use native.Mathlib.Nat.{not-suc-le-zero, le_of_suc-le-suc, zero-add, add-suc, suc-add}
use native.Mathlib.Omega.{arith}
use borrow.Author.Tests.{eqb-true, eqb-false}
use lib.Dec.{eqb}
use lib.ListN.{length, get_or, set, take, drop, replicate, length-set, length-drop, take-append-drop}
use lib.Seq.{take-take, set-append_left, length-take-le}
use Rattle.words.specs.Choice.{pick}
use Rattle.words.specs.Lists.{holds, splice, total, sum_below}
use Rattle.words.proofs.Lists.{holds-le, drop-take}
use Rattle.words.proofs.Splice.{take-splice, drop-splice}
use Rattle.words.proofs.Suffix.{run, drop-at-splice}

-- what is so of either choice where its test says so
pub pick-cases : {A : Type 0} (P : A → Type 0) (b : Bool) {x y : A} → (b ≡ true → P x) → (b ≡ false → P y) → P (pick b x y)
pick-cases P true f g = f refl
pick-cases P false f g = g refl

pub by-test : {P : Type 0} (b : Bool) → (b ≡ true → P) → (b ≡ false → P) → P
by-test true f g = f refl
by-test false f g = g refl

-- ---- holds

-- what a list holds, its front and its rest hold between them
pub holds-split : (n : ℕ) (l : List Bool) → holds (take n l) + holds (drop n l) ≡ holds l
unfolding holds
holds-split zero l = omega arith
holds-split (suc n) [] = refl
holds-split (suc n) (true ∷ l) = let r : holds (take n l) + holds (drop n l) ≡ holds l = holds-split n l in omega arith
holds-split (suc n) (false ∷ l) = holds-split n l

-- as many are held as there are exactly where each is
pub each-held : (l : List Bool) → holds l ≡ length l → (i : ℕ) → i < length l → get_or l i false ≡ true
unfolding holds
each-held [] e i h = absurd (not-suc-le-zero h)
each-held (true ∷ l) e zero h = refl
each-held (true ∷ l) e (suc i) h = each-held l (omega arith) i (le_of_suc-le-suc h)
each-held (false ∷ l) e i h = absurd (omega (arith, holds-le l))

pub all_held : (l : List Bool) → ((i : ℕ) → i < length l → get_or l i false ≡ true) → holds l ≡ length l
unfolding holds
all_held [] f = refl
all_held (true ∷ l) f = ap suc (all_held l (λ i h. f (suc i) (suc-le-suc h)))
all_held (false ∷ l) f = let e : false ≡ true = f zero (suc-le-suc zero-le) in let z : ◌≡◌ {A = ℕ} 0 1 = cc in omega arith

-- every entry of a blank list is blank
pub blanks : {A : Type 0} (z : A) (n k : ℕ) → get_or (replicate n z) k z ≡ z
blanks z zero k = refl
blanks z (suc n) zero = refl
blanks z (suc n) (suc k) = blanks z n k

pub none-held : (n i : ℕ) → get_or (replicate n false) i false ≡ false
none-held = blanks false

-- ---- a part of a list: n elements from a place on

module _ {A : Type 0} where
  part-of-front : (at n : ℕ) (s : List A) → take n (drop at s) ≡ drop at (take (at + n) s)
  part-of-front at n s = let e : at + n - at ≡ n = omega arith in sym (drop-take at (at + n) s ∙ ap (λ (k : ℕ). take k (drop at s)) e)

  -- two lists with the same front have the same parts there
  pub same-part : (at n m : ℕ) (s t : List A) → at + n ≤ m → take m s ≡ take m t → take n (drop at s) ≡ take n (drop at t)
  same-part at n m s t h e =
      part-of-front at n s
      ∙ ap (drop at) (sym (take-take (at + n) m s h) ∙ ap (take (at + n)) e ∙ take-take (at + n) m t h)
      ∙ sym (part-of-front at n t)

  -- a splice: the parts before it and after it stay, and its own is there
  pub part-before : (at n k : ℕ) (bs s : List A) → at + n ≤ k → take n (drop at (splice k bs s)) ≡ take n (drop at s)
  part-before at n k bs s h = same-part at n k (splice k bs s) s h (take-splice k k bs s (omega arith))

  pub part-after : (at n k : ℕ) (bs s : List A) → k + length bs ≤ at → take n (drop at (splice k bs s)) ≡ take n (drop at s)
  part-after at n k bs s h = ap (take n) (drop-splice at k bs s h)

  pub part-here : (k : ℕ) (bs s : List A) → k + length bs ≤ length s → take (length bs) (drop k (splice k bs s)) ≡ bs
  part-here k bs s h = run (splice k bs s) k bs (drop (k + length bs) s) (drop-at-splice k bs s h)

-- two constructors are never equal: `clash (cc)` where the equations in scope say they are
pub clash : {P : Type 0} → ◌≡◌ {A = ℕ} 0 1 → P
clash e = absurd (omega arith)

-- ---- a table of which one entry is put anew

-- an entry is that one, or another
pub by_place : {P : Type 0} (i j : ℕ) → (j ≡ i → P) → ((j ≡ i → ⊥) → P) → P
by_place i j f g = by-test (eqb j i) (λ e. f (eqb-true j i e)) (λ e. g (eqb-false j i e))

-- an entry of the table is the same whatever stands for those past its end
pub get_d_any : {A : Type 0} (xs : List A) (i : ℕ) (d e : A) → i < length xs → get_or xs i d ≡ get_or xs i e
get_d_any [] i d e h = absurd (not-suc-le-zero h)
get_d_any (x ∷ xs) zero d e h = refl
get_d_any (x ∷ xs) (suc i) d e h = get_d_any xs i d e (le_of_suc-le-suc h)

module _ {A : Type 0} (f : A → ℕ) where
  pub total-set : (xs : List A) (i : ℕ) (v d : A) → i < length xs → total f (set xs i v) + f (get_or xs i d) ≡ total f xs + f v
  unfolding total
  total-set [] i v d h = absurd (not-suc-le-zero h)
  total-set (x ∷ xs) zero v d h = omega arith
  total-set (x ∷ xs) (suc i) v d h =
      let r : total f (set xs i v) + f (get_or xs i d) ≡ total f xs + f v = total-set xs i v d (le_of_suc-le-suc h) in omega arith

  -- one is at most the sum
  pub at-most-total : (xs : List A) (i : ℕ) (d : A) → i < length xs → f (get_or xs i d) ≤ total f xs
  unfolding total
  at-most-total [] i d h = absurd (not-suc-le-zero h)
  at-most-total (x ∷ xs) zero d h = omega arith
  at-most-total (x ∷ xs) (suc i) d h = let r : f (get_or xs i d) ≤ total f xs = at-most-total xs i d (le_of_suc-le-suc h) in omega arith

-- the sum over a table of numbers, place by place
pub total-below : (xs : List ℕ) (n : ℕ) (f : ℕ → ℕ) → length xs ≡ n → ((i : ℕ) → i < n → get_or xs i 0 ≡ f i) → total (λ m. m) xs ≡ sum_below n f
unfolding total sum_below
total-below [] zero f e g = refl
total-below [] (suc n) f e g = absurd (omega arith)
total-below (x ∷ xs) zero f e g = absurd (omega arith)
total-below (x ∷ xs) (suc n) f e g =
    let h : x ≡ f 0 = g 0 (suc-le-suc zero-le) in rw (h, total-below xs n (λ i. f (suc i)) (omega arith) (λ i l. g (suc i) (suc-le-suc l)))

-- ---- a part that is lent, and given back

-- from a place on, to n past it, it is n long
pub part-size : (a n : ℕ) → a + n - a ≡ n
part-size a n = omega arith

module _ {A : Type 0} where
  set-between : (x y z : List A) (i : ℕ) (a : A) → i < length y → x ++ (set y i a ++ z) ≡ set (x ++ (y ++ z)) (length x + i) a
  set-between [] y z i a h = rw zero-add (sym (set-append_left y z i a h))
  set-between (b ∷ x) y z i a h = rw suc-add (ap (λ (l : List A). b ∷ l) (set-between x y z i a h))

  splice-between : (x y z : List A) (i : ℕ) (bs : List A) → i + length bs ≤ length y → x ++ (splice i bs y ++ z) ≡ splice (length x + i) bs (x ++ (y ++ z))
  unfolding splice
  splice-between x y z i [] h = refl
  splice-between x y z i (b ∷ bs) h =
      let e = add-suc i (length bs) in
      splice-between x (set y i b) z (suc i) bs (rw (suc-add, length-set) (omega arith)) ∙ rw (add-suc, set-between x y z i b (omega arith))

  pub part-whole : (a k : ℕ) (s : List A) → take a s ++ (take k (drop a s) ++ drop k (drop a s)) ≡ s
  part-whole a k s = rw (take-append-drop k (drop a s), take-append-drop a s)

  -- a splice in a part is a splice in the whole
  pub part-splice : (a k i : ℕ) (bs s : List A) → a + k ≤ length s → i + length bs ≤ k
      → take a s ++ (splice i bs (take k (drop a s)) ++ drop k (drop a s)) ≡ splice (a + i) bs s
  part-splice a k i bs s h l =
      let la : length (take a s) ≡ a = length-take-le a s (omega arith) in
      let lk : length (take k (drop a s)) ≡ k = length-take-le k (drop a s) (simp length-drop (omega arith)) in
      splice-between (take a s) (take k (drop a s)) (drop k (drop a s)) i bs (rw lk l) ∙ rw (la, part-whole a k s)
