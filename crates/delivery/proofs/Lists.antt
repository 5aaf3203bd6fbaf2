-- Laws of lists that know no channel: membership, what is taken out, a table of which entries are put anew. Assumes nothing.
use Prim.Native.Nat.{ℕ, zero, suc, ◌+◌, ◌*◌, ◌≤◌, ◌<◌}
use mathlib.Core.Path.{◌≡◌, refl, sym, ap, ◌∙◌}
use mathlib.Core.Bool.{Bool, true, false}
use mathlib.Core.List.{List, [], ◌∷◌, ◌++◌, map}
use mathlib.Core.Logic.{◌⊎◌, inl, inr}
use native.Mathlib.Omega.{arith}
use native.Mathlib.Nat.{add-suc}
use lib.Dec.{eqb}
use lib.ListN.{length, get_or, get_elem?, set, take, drop}
use lib.Seq.{get_or-set_other, get_or-take, get_or-drop, take-suc-set, drop-set-add}
use mathlib.Core.Option.{Option, none, some}
use borrow.Author.Tests.{eqb-true}
use Rattle.words.specs.Choice.{pick}
use Rattle.words.specs.Lists.{splice, All, reached}
use Rattle.words.proofs.Lists.{all_both}
use native.Mathlib.Numerals.{add-one}
use Rattle.words.proofs.Tables.{pick-cases, part-here, clash}
use native.Mathlib.Nat.{suc-mul, mul-le-mul_right}
use Rattle.delivery.specs.Window.{In, here, there}

-- true is not false
pub never : {P : Type 0} (b : Bool) → b ≡ true → b ≡ false → P
never b e f = clash (cc)

-- places of n entries each do not meet
pub places-apart : (n m k : ℕ) → m < k → m * n + n ≤ k * n
places-apart n m k less = rw suc-mul at (mul-le-mul_right n less)

-- ---- membership

module _ {A : Type 0} where
  pub in_left : {x : A} {xs : List A} (ys : List A) → In x xs → In x (xs ++ ys)
  in_left ys (here e) = here e
  in_left ys (there h) = there (in_left ys h)

  pub in_right : {x : A} (xs : List A) {ys : List A} → In x ys → In x (xs ++ ys)
  in_right [] h = h
  in_right (y ∷ xs) h = there (in_right xs h)

  pub in-cases : {x : A} (xs ys : List A) → In x (xs ++ ys) → In x xs ⊎ In x ys
  in-cases [] ys h = inr h
  in-cases (y ∷ xs) ys (here e) = inl (here e)
  in-cases {x} (y ∷ xs) ys (there h) = at (in-cases xs ys h)
    where
      at : In x xs ⊎ In x ys → In x (y ∷ xs) ⊎ In x ys
      at (inl k) = inl (there k)
      at (inr k) = inr k

  pub in-length : {x : A} {xs : List A} → In x xs → 1 ≤ length xs
  in-length (here e) = omega arith
  in-length (there h) = omega arith

  -- two ways to part one list: the first part of one is a beginning of the first part of the other
  pub parted : (t s a b : List A) → t ++ s ≡ a ++ b → ((x : List A) × (a ≡ t ++ x)) ⊎ ((t' : List A) × (t ≡ a ++ t') × (b ≡ t' ++ s))
  parted [] s a b e = inl (a, refl)
  parted (x ∷ t) s [] b e = inr (x ∷ t, refl, sym e)
  parted (x ∷ t) s (y ∷ a) b e =
      let q : x ≡ y = cc in
      let r : t ++ s ≡ a ++ b = cc in
      at q (parted t s a b r)
    where
      at : x ≡ y → ((x : List A) × (a ≡ t ++ x)) ⊎ ((t' : List A) × (t ≡ a ++ t') × (b ≡ t' ++ s))
          → ((z : List A) × (y ∷ a ≡ x ∷ t ++ z)) ⊎ ((t' : List A) × (x ∷ t ≡ y ∷ a ++ t') × (b ≡ t' ++ s))
      at q (inl (z, k)) = inl (z, cc)
      at q (inr (t', k, l)) = inr (t', cc, l)

pub in_map : {A B : Type 0} (f : A → B) {x : A} {xs : List A} → In x xs → In (f x) (map f xs)
in_map f (here e) = here (ap f e)
in_map f (there h) = there (in_map f h)

pub from-map : {A B : Type 0} (f : A → B) {y : B} (xs : List A) → In y (map f xs) → (x : A) × (y ≡ f x) × In x xs
from-map {A = A} {B = B} f {y = y} [] x' = elim x' [ ]
from-map f (x ∷ xs) (here e) = (x, e, here refl)
from-map f (x ∷ xs) (there h) = let r = from-map f xs h in (r.0, r.1, there r.2)

-- ---- every j taken out

unfoldable pub rem : ℕ → List ℕ → List ℕ
rem j [] = []
rem j (x ∷ xs) = pick (eqb x j) (rem j xs) (x ∷ rem j xs)

pub rem-append : (j : ℕ) (xs ys : List ℕ) → rem j (xs ++ ys) ≡ rem j xs ++ rem j ys
unfolding rem
rem-append j [] ys = refl
rem-append j (x ∷ xs) ys = at (eqb x j) (rem-append j xs ys)
  where
    at : (b : Bool) → rem j (xs ++ ys) ≡ rem j xs ++ rem j ys → pick b (rem j (xs ++ ys)) (x ∷ rem j (xs ++ ys)) ≡ pick b (rem j xs) (x ∷ rem j xs) ++ rem j ys
    at true h = h
    at false h = ap (λ (r : List ℕ). x ∷ r) h

pub length-rem : (j : ℕ) (xs : List ℕ) → length (rem j xs) ≤ length xs
unfolding rem
length-rem j [] = omega arith
length-rem j (x ∷ xs) = let h = length-rem j xs in pick-cases (λ (l : List ℕ). length l ≤ suc (length xs)) (eqb x j) (λ _. omega arith) (λ _. omega arith)

pub in-rem : {x : ℕ} (j : ℕ) {xs : List ℕ} → In x xs → (x ≡ j) ⊎ In x (rem j xs)
unfolding rem
in-rem {x} j (here {y = y} {ys = ys} e) = pick-cases (λ (l : List ℕ). (x ≡ j) ⊎ In x l) (eqb y j) (λ t. inl (e ∙ eqb-true y j t)) (λ _. inr (here e))
in-rem {x} j (there {y = y} {ys = ys} i) = pick-cases (λ (l : List ℕ). (x ≡ j) ⊎ In x l) (eqb y j) (λ _. in-rem j i) (λ _. later-on (in-rem j i))
  where
    later-on : (x ≡ j) ⊎ In x (rem j ys) → (x ≡ j) ⊎ In x (y ∷ rem j ys)
    later-on (inl e) = inl e
    later-on (inr h) = inr (there h)

-- ---- a table of which an entry is put anew

module _ {A : Type 0} where
  -- what the new entry keeps, every entry keeps
  pub set_keeps : {B : Type 0} (f : A → B) (xs : List A) (k : ℕ) (v d : A) → f v ≡ f (get_or xs k d) → (j : ℕ) → f (get_or (set xs k v) j d) ≡ f (get_or xs j d)
  set_keeps f [] k v d e j = refl
  set_keeps f (x ∷ xs) zero v d e zero = e
  set_keeps f (x ∷ xs) zero v d e (suc j) = refl
  set_keeps f (x ∷ xs) (suc k) v d e zero = refl
  set_keeps f (x ∷ xs) (suc k) v d e (suc j) = set_keeps f xs k v d e j

  pub all_get_d : (P : A → Type 0) (xs : List A) (k : ℕ) (d : A) → All P xs → P d → P (get_or xs k d)
  unfolding All
  all_get_d P [] k d a p = p
  all_get_d P (x ∷ xs) zero d a p = a.0
  all_get_d P (x ∷ xs) (suc k) d a p = all_get_d P xs k d a.1 p

  -- an entry that a splice does not reach
  pub splice-away : (at : ℕ) (bs s : List A) (j : ℕ) (d : A) → (j < at) ⊎ (at + length bs ≤ j) → get_or (splice at bs s) j d ≡ get_or s j d
  unfolding splice
  splice-away at [] s j d h = refl
  splice-away at (b ∷ bs) s j d (inl h) = splice-away (suc at) bs (set s at b) j d (inl (omega arith)) ∙ get_or-set_other s at j b d (omega arith)
  splice-away at (b ∷ bs) s j d (inr h) =
      let e = add-suc at (length bs) in
      splice-away (suc at) bs (set s at b) j d (inr (omega arith)) ∙ get_or-set_other s at j b d (omega arith)

  -- the head of a front part that is not empty
  pub front-head : (n : ℕ) (xs rs : List A) (x d : A) → take n xs ≡ x ∷ rs → (1 ≤ n) × (1 ≤ length xs) × (get_or xs 0 d ≡ x)
  front-head zero xs rs x d e = absurd (let z : ◌≡◌ {A = ℕ} 0 1 = cc in omega arith)
  front-head (suc n) [] rs x d e = absurd (let z : ◌≡◌ {A = ℕ} 0 1 = cc in omega arith)
  front-head (suc n) (y ∷ xs) rs x d e = (omega arith, omega arith, cc)

  pub head-front : (n : ℕ) (xs : List A) (d : A) → 1 ≤ n → 1 ≤ length xs → (rs : List A) × (take n xs ≡ get_or xs 0 d ∷ rs)
  head-front zero xs d h l = absurd (omega arith)
  head-front (suc n) [] d h l = absurd (omega arith)
  head-front (suc n) (y ∷ xs) d h l = (take n xs, refl)

-- ---- a walk over two lists in a row

pub reached-append : {A S : Type 0} (g : S → A → S) (s : S) (xs ys : List A) → reached g s (xs ++ ys) ≡ reached g (reached g s xs) ys
unfolding reached
reached-append g s [] ys = refl
reached-append g s (x ∷ xs) ys = reached-append g (g s x) xs ys

-- ---- the list of all that was queued: an element at a place, and one more at the end

module _ {A : Type 0} where
  pub none≢some : {x : A} → ◌≡◌ {A = Option A} none (some x) → ⊥
  none≢some q = let z : ◌≡◌ {A = ℕ} 0 1 = cc in omega arith

  pub same_some : {x y : A} (o : Option A) → o ≡ some x → o ≡ some y → x ≡ y
  same_some o e f = cc

  pub at_more : (xs ys : List A) (k : ℕ) {x : A} → get_elem? xs k ≡ some x → get_elem? (xs ++ ys) k ≡ some x
  at_more [] ys k e = absurd (none≢some e)
  at_more (y ∷ xs) ys zero e = e
  at_more (y ∷ xs) ys (suc k) e = at_more xs ys k e

  pub at_last : (xs : List A) (y : A) (k : ℕ) → k ≡ length xs → get_elem? (xs ++ (y ∷ [])) k ≡ some y
  at_last [] y zero e = refl
  at_last [] y (suc k) e = absurd (omega arith)
  at_last (x ∷ xs) y zero e = absurd (omega arith)
  at_last (x ∷ xs) y (suc k) e = at_last xs y k (omega arith)

  pub at_low : (xs : List A) (k : ℕ) {x : A} → get_elem? xs k ≡ some x → k < length xs
  at_low [] k e = absurd (none≢some e)
  at_low (y ∷ xs) zero e = omega arith
  at_low (y ∷ xs) (suc k) e = let r = at_low xs k e in omega arith

  pub at-get_or : (xs : List A) (k : ℕ) (d : A) {x : A} → get_elem? xs k ≡ some x → get_or xs k d ≡ x
  at-get_or [] k d e = absurd (none≢some e)
  at-get_or (y ∷ xs) zero d e = cc
  at-get_or (y ∷ xs) (suc k) d e = at-get_or xs k d e

  -- one element more of a beginning
  pub take_next : (xs : List A) (k : ℕ) {x : A} → get_elem? xs k ≡ some x → take (k + 1) xs ≡ take k xs ++ (x ∷ [])
  take_next [] k e = absurd (none≢some e)
  take_next (y ∷ xs) zero {x} e = let q : y ≡ x = cc in ap (λ (z : A). z ∷ []) q
  take_next (y ∷ xs) (suc k) e =
      let z : suc k + 1 ≡ suc (k + 1) = omega arith in
      ap (λ (n : ℕ). take n (y ∷ xs)) z ∙ ap (λ (l : List A). y ∷ l) (take_next xs k e)

  -- a splice behind the first k
  pub drop-splice-add : (k at : ℕ) (bs s : List A) → drop k (splice (k + at) bs s) ≡ splice at bs (drop k s)
  unfolding splice
  drop-splice-add k at [] s = refl
  drop-splice-add k at (b ∷ bs) s =
      let e : suc (k + at) ≡ k + suc at = sym (add-suc k at) in
      ap (λ (n : ℕ). drop k (splice n bs (set s (k + at) b))) e ∙ drop-splice-add k (suc at) bs (set s (k + at) b) ∙ ap (splice (suc at) bs) (drop-set-add k s at b)

-- ---- a fact of every element, by the places

module _ {A : Type 0} where
  pub all-index : (P : A → Type 0) (xs : List A) (d : A) → ((k : ℕ) → k < length xs → P (get_or xs k d)) → All P xs
  unfolding All
  all-index P [] d f = tt
  all-index P (x ∷ xs) d f = (f 0 (omega arith), all-index P xs d (λ k h. f (suc k) (omega arith)))

module _ {A : Type 0} where
  -- one more at the end of what a table has
  pub front-snoc : (n : ℕ) (xs : List A) (x : A) → n < length xs → take (n + 1) (set xs n x) ≡ take n xs ++ (x ∷ [])
  front-snoc n xs x h = ap (λ (k : ℕ). take k (set xs n x)) (add-one n) ∙ take-suc-set xs n x h

  -- an entry that a splice put
  pub splice-here : (at : ℕ) (bs s : List A) (j : ℕ) (d : A) → at + length bs ≤ length s → j < length bs → get_or (splice at bs s) (at + j) d ≡ get_or bs j d
  splice-here at bs s j d h low =
      sym (get_or-drop at (splice at bs s) j d) ∙ sym (get_or-take (length bs) (drop at (splice at bs s)) j d low) ∙ ap (λ (l : List A). get_or l j d) (part-here at bs s h)

  pub all-pair : (P Q : A → Type 0) (xs : List A) → All P xs → All Q xs → All (λ x. P x × Q x) xs
  all-pair P Q xs a b = all_both P Q (λ x. P x × Q x) (λ x p r. (p, r)) xs a b
