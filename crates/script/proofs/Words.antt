-- Laws of searches and of equal texts. Assumes nothing.
use Prim.Native.Nat.{ℕ, zero, suc, max, ◌+◌, ◌≤◌, ◌<◌}
use mathlib.Core.Path.{◌≡◌, refl, ap, sym, ◌∙◌}
use mathlib.Core.Bool.{Bool, true, false, not, ◌&&◌}
use mathlib.Core.List.{List, [], ◌∷◌}
use native.Mathlib.Numerals.{add-one}
use native.Mathlib.Omega.{arith}
use borrow.Author.Tests.{eqb-true, eq-eqb, leb-true, leb-false}
use lib.Dec.{eqb, leb}
use lib.ListN.{length, get_or, drop_of_length-le}
use lib.Seq.{drop-cons}
use Rattle.std.specs.Bool.{Decides}
use Rattle.std.specs.List.{list_all}
use Rattle.words.specs.Choice.{pick}
use Rattle.words.specs.Lists.{first, all}
use Rattle.script.specs.Words.{blank, stop, until, word_from, word_at, same}
use Rattle.script.specs.declared.Word.{Word}

-- ---- a search from a place on

module _ (p : ℕ → Bool) (s : List ℕ) (i : ℕ) where
  pub until-hit : i < length s → p (get_or s i 0) ≡ true → i ≡ until p s i
  unfolding until first
  until-hit h e = rw (drop-cons s i 0 h, e) (omega arith)

  pub until-miss : i < length s → p (get_or s i 0) ≡ false → until p s i ≡ until p s (i + 1)
  unfolding until first
  until-miss h e = rw (add-one, drop-cons s i 0 h, e) (omega arith)

  pub until_end : length s ≤ i → i ≡ until p s i
  unfolding until first
  until_end h = rw (drop_of_length-le s h) (omega arith)

max-by : (t : Bool) (p : ℕ → Bool) (s : List ℕ) (from i : ℕ) → leb from (length s) ≡ t → from ≤ i → (from ≤ length s → i ≤ length s) → length s ≤ i → until p s from ≡ until p s i → max from (length s) ≡ until p s from
max-by true p s from i t a b c e =
    let f : from ≤ length s = leb-true from (length s) t in
    let g : max from (length s) ≡ i = omega (arith, b f) in
    g ∙ until_end p s i c ∙ sym e
max-by false p s from i t a b c e =
    let f : length s < from = leb-false from (length s) t in
    let g : max from (length s) ≡ from = omega arith in
    g ∙ until_end p s from (omega arith)

-- where nothing was found up to i
pub until-max : (p : ℕ → Bool) (s : List ℕ) (from i : ℕ) → from ≤ i → (from ≤ length s → i ≤ length s) → length s ≤ i → until p s from ≡ until p s i → max from (length s) ≡ until p s from
until-max p s from i a b c e = max-by (leb from (length s)) p s from i refl a b c e

pub word-is : (s : List ℕ) (from a e : ℕ) → a ≡ until (λ c. not (blank c)) s from → e ≡ until stop s a → ◌≡◌ {A = Word} (record { start = a; end = e }) (word_at s from)
word-is s from a e p q = ap (λ (n : ℕ). record { start = a; end = n }) q ∙ ap (word_from s) p

-- ---- equal texts

same_by : (t : Bool) (x y : ℕ) (xs ys : List ℕ) → eqb x y ≡ t → pick t (same xs ys) false ≡ true → (x ≡ y) × (same xs ys ≡ true)
same_by true x y xs ys e f = (eqb-true x y e, f)
same_by false x y xs ys e f = absurd (let z : ◌≡◌ {A = ℕ} 0 1 = cc in omega arith)

-- texts that pass are equal, and equal texts pass
pub same-equal : (a b : List ℕ) → same a b ≡ true → a ≡ b
unfolding same
same-equal [] [] e = refl
same-equal [] (y ∷ b) e = absurd (let z : ◌≡◌ {A = ℕ} 0 1 = cc in omega arith)
same-equal (x ∷ a) [] e = absurd (let z : ◌≡◌ {A = ℕ} 0 1 = cc in omega arith)
same-equal (x ∷ a) (y ∷ b) e =
    let h : (x ≡ y) × (same a b ≡ true) = same_by (eqb x y) x y a b refl e in
    let f : x ≡ y = h.0 in
    let g : a ≡ b = same-equal a b h.1 in cc

pub equal-same : (a : List ℕ) → same a a ≡ true
unfolding same
equal-same [] = refl
equal-same (x ∷ a) = rw (eq-eqb x x refl) (equal-same a)

-- a test that tells whether two texts are equal is `same`
same-is : (a b : List ℕ) (r t : Bool) → Decides r (a ≡ b) → same a b ≡ t → r ≡ t
same-is a b r true d e = d.1 (same-equal a b e)
same-is a b true false d e = absurd (let s : same a b ≡ true = rw (d.0 refl) (equal-same b) in let z : ◌≡◌ {A = ℕ} 0 1 = cc in omega arith)
same-is a b false false d e = refl

pub same-decided : (a b : List ℕ) (r : Bool) → Decides r (a ≡ b) → r ≡ same a b
same-decided a b r d = same-is a b r (same a b) d refl

-- ---- every letter of a text

all-by : (t : Bool) (p : ℕ → Bool) (s : List ℕ) → list_all p s ≡ all p s → (t && list_all p s) ≡ pick t (all p s) false
all-by true p s e = e
all-by false p s e = refl

pub list_all-is : (p : ℕ → Bool) (s : List ℕ) → list_all p s ≡ all p s
unfolding all
list_all-is p [] = refl
list_all-is p (x ∷ s) = all-by (p x) p s (list_all-is p s)

both : (a b : Bool) → pick a b false ≡ true → (a ≡ true) × (b ≡ true)
both true b e = (refl, e)
both false b e = absurd (let z : ◌≡◌ {A = ℕ} 0 1 = cc in omega arith)

pub all_cons : (p : ℕ → Bool) (x : ℕ) (s : List ℕ) → all p (x ∷ s) ≡ true → (p x ≡ true) × (all p s ≡ true)
unfolding all
all_cons p x s e = both (p x) (all p s) e

-- where all letters pass, each does
pub all_at : (p : ℕ → Bool) (s : List ℕ) (i : ℕ) → all p s ≡ true → i < length s → p (get_or s i 0) ≡ true
all_at p [] i e h = absurd (omega arith)
all_at p (x ∷ s) zero e h = (all_cons p x s e).0
all_at p (x ∷ s) (suc i) e h = all_at p s i (all_cons p x s e).1 (omega arith)
