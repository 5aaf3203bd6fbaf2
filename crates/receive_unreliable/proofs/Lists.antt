-- Laws of lists that know no size and no record. Assumes nothing.
use Prim.Native.Nat.{ℕ, zero, suc, ◌+◌, ◌-◌, ◌≤◌, ◌<◌}
use mathlib.Core.Path.{◌≡◌, refl, sym, ◌∙◌}
use mathlib.Core.List.{List, [], ◌∷◌, ◌++◌, map}
use mathlib.Core.Bool.{Bool, true, false}
use native.Mathlib.Nat.{not-suc-le-zero, le_of_suc-le-suc}
use native.Mathlib.Numerals.{add-one}
use native.Mathlib.Omega.{arith}
use borrow.Author.Tests.{ltb-true, ltb-false}
use lib.Dec.{ltb}
use lib.ListN.{length, get_or, take, drop, set, length-set, length-drop, length-append}
use lib.Seq.{ext_get_or, get_or-set_same, get_or-set_other, take-append-le, take-suc-set}
use Rattle.words.specs.Lists.{holds, All}
use Rattle.words.proofs.Lists.{drop-take}
use Rattle.words.proofs.Tables.{by-test, by_place}

-- ---- which are held, where one of them is put anew

-- 1 for one that is held
abbrev pub bit : Bool → ℕ
bit true = 1
bit false = 0

holds-cons : (x : Bool) (l : List Bool) → holds (x ∷ l) ≡ bit x + holds l
unfolding holds
holds-cons true l = omega arith
holds-cons false l = omega arith

pub holds-set : (l : List Bool) (i : ℕ) (b : Bool) → i < length l → holds (set l i b) + bit (get_or l i false) ≡ holds l + bit b
holds-set [] i b h = absurd (not-suc-le-zero h)
holds-set (x ∷ l) zero b h = omega (arith, holds-cons x l, holds-cons b l)
holds-set (x ∷ l) (suc i) b h = omega (arith, holds-cons x l, holds-cons x (set l i b), holds-set l i b (le_of_suc-le-suc h))

-- ---- a queue that one joins

pub front-joined : {A : Type 0} (q : List A) (n : ℕ) (w : A) → n < length q → take (n + 1) (set q n w) ≡ take n q ++ w ∷ []
front-joined q n w h = rw add-one (take-suc-set q n w h)

-- ---- a queue of which the first is taken off: those after it move up, and a blank comes last

module _ {A : Type 0} (z : A) where
  get_or-snoc : (xs : List A) (k : ℕ) → get_or (xs ++ z ∷ []) k z ≡ get_or xs k z
  get_or-snoc [] zero = refl
  get_or-snoc [] (suc k) = refl
  get_or-snoc (x ∷ xs) zero = refl
  get_or-snoc (x ∷ xs) (suc k) = get_or-snoc xs k

  -- each entry is the one after it
  pub moved_up : (q : List A) (k : ℕ) → get_or (drop 1 q ++ z ∷ []) k z ≡ get_or q (suc k) z
  moved_up [] zero = refl
  moved_up [] (suc k) = refl
  moved_up (x ∷ xs) k = get_or-snoc xs k

  -- what waits then are those after the first
  pub front-moved : (q : List A) (n : ℕ) → 0 < n → n ≤ length q → take (n - 1) (drop 1 q ++ z ∷ []) ≡ drop 1 (take n q)
  front-moved q n some h = take-append-le (n - 1) (drop 1 q) (z ∷ []) (simp length-drop (omega arith)) ∙ sym (drop-take 1 n q)

  pub length_moved : (q : List A) → 0 < length q → length (drop 1 q ++ z ∷ []) ≡ length q
  length_moved q h = length-append (drop 1 q) (z ∷ []) ∙ rw (length-drop 1 q) (omega arith)

  -- the first i are moved up, the others not
  pub record MovedTo (q r : List A) (i : ℕ) : Type 0 where
    pub long : length r ≡ length q
    pub before : (k : ℕ) → k < i → get_or r k z ≡ get_or q (suc k) z
    pub after : (k : ℕ) → i ≤ k → get_or r k z ≡ get_or q k z

  module _ (q r : List A) (i : ℕ) (m : MovedTo q r i) where
    -- with a blank after them, where the rest is blank already
    pub moved_all : i < length q → ((k : ℕ) → i + 1 ≤ k → get_or q k z ≡ z) → set r i z ≡ drop 1 q ++ z ∷ []
    moved_all h blank =
        let long : length r ≡ length q = m.long in
        let lengths = length_moved q (omega arith) in
        ext_get_or z (set r i z) (drop 1 q ++ z ∷ []) (simp length-set (omega arith)) (λ k _.
        by_place i k
        (λ e. rw e (get_or-set_same r i z z (omega arith) ∙ sym (moved_up q i ∙ blank (suc i) (omega arith))))
        (λ o.
        get_or-set_other r i k z z o
        ∙ by-test (ltb k i)
        (λ t. m.before k (ltb-true k i t))
        (λ t. let le = ltb-false k i t in m.after k le ∙ blank k (omega (arith, o)) ∙ sym (blank (suc k) (omega arith)))
        ∙ sym (moved_up q k)))

-- ---- a list of which each element is the same under two maps

pub map_same : {A B : Type 0} (f g : A → B) (xs : List A) → All (λ x. f x ≡ g x) xs → map f xs ≡ map g xs
unfolding All
map_same f g [] a = refl
map_same f g (x ∷ xs) a = rw (a.0, map_same f g xs a.1)
