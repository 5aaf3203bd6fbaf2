-- Laws of rising ranges: where a number stands to them, what they name, and what one sequence more makes of them. Assumes nothing.
use Prim.Native.Nat.{ℕ, zero, suc, ◌+◌, ◌≤◌, ◌<◌}
use mathlib.Core.Path.{◌≡◌, refl, ap, ◌∙◌}
use mathlib.Core.Bool.{Bool, true, false}
use mathlib.Core.Logic.{◌⊎◌, inl, inr, ⊎_elim}
use mathlib.Core.List.{List, [], ◌∷◌, ◌++◌}
use native.Mathlib.Nat.{not-suc-le-zero, le_of_suc-le-suc}
use native.Mathlib.Omega.{arith}
use borrow.Author.Tests.{ltb-true, ltb-false, leb-true, eqb-true, eqb-false, lt-ltb, le-ltb, le-leb, lt-leb, eq-eqb, ne_eqb}
use lib.Dec.{ltb, leb, eqb}
use lib.ListN.{length, get_or, drop}
use Rattle.words.specs.Sizes.{LIMIT}
use Rattle.words.specs.Choice.{pick}
use Rattle.words.specs.Lists.{All}
use Rattle.words.proofs.Tables.{by-test, clash}
use Rattle.packet_ack.specs.declared.Range.{Range}
use Rattle.pending_acks.specs.Gather.{range, holds, named, Rising, joined, inserted}

-- ---- rising ranges

pub rising-from : (m k : ℕ) (rs : List Range) → k ≤ m → Rising m rs → Rising k rs
unfolding Rising
rising-from m k [] h w = tt
rising-from m k (r ∷ rs) h w = (omega arith, w.1, w.2, w.3)

pub rising-drop : (n m : ℕ) (rs : List Range) → Rising m rs → Rising m (drop n rs)
unfolding Rising
rising-drop zero m rs w = w
rising-drop (suc n) m [] w = tt
rising-drop (suc n) m (r ∷ rs) w = rising-from (r.end + 1) m (drop n rs) (omega arith) (rising-drop n (r.end + 1) rs w.3)

pub start-above : (m : ℕ) (rs : List Range) (j : ℕ) (d : Range) → Rising m rs → j < length rs → m ≤ (get_or rs j d).start
unfolding Rising
start-above m [] j d w h = absurd (not-suc-le-zero h)
start-above m (r ∷ rs) zero d w h = w.0
start-above m (r ∷ rs) (suc j) d w h = let k = start-above (r.end + 1) rs j d w.3 (le_of_suc-le-suc h) in omega arith

-- two neighbours as one still rise
pub rising-one : (m : ℕ) (bs es : List Range) (r q : Range) → Rising m (bs ++ r ∷ q ∷ es) → Rising m (bs ++ range r.start q.end ∷ es)
unfolding Rising
rising-one m [] es r q w = (w.0, omega arith, w.3.2, w.3.3)
rising-one m (b ∷ bs) es r q w = (w.0, w.1, w.2, rising-one (b.end + 1) bs es r q w.3)

-- x is below the first of them
unfoldable pub Beyond : ℕ → List Range → Type 0
Beyond x [] = Unit
Beyond x (r ∷ rs) = x < r.start

-- ---- where a number stands to a range: below and apart, just below, in it, just above, further up

pub by_side : {P : Type 0} (x : ℕ) (r : Range) → r.start < r.end → (x + 1 < r.start → P) → (x + 1 ≡ r.start → P) → (r.start ≤ x → x < r.end → P) → (x ≡ r.end → P) → (r.end < x → P) → P
by_side x r s a b c d e =
    by-test (ltb (x + 1) r.start) (λ t. a (ltb-true _ _ t)) (λ t.
    let low = ltb-false (x + 1) r.start t in
    by-test (eqb (x + 1) r.start) (λ u. b (eqb-true _ _ u)) (λ u.
    let off = eqb-false (x + 1) r.start u in
    by-test (ltb x r.end) (λ w. c (omega (arith, off)) (ltb-true _ _ w)) (λ w.
    let high = ltb-false x r.end w in
    by-test (eqb x r.end) (λ z. d (eqb-true _ _ z)) (λ z.
    let out = eqb-false x r.end z in e (omega (arith, out))))))

module _ (x : ℕ) (r : Range) (rs : List Range) where
  pub apart : x + 1 < r.start → inserted x (r ∷ rs) ≡ range x (x + 1) ∷ r ∷ rs
  unfolding inserted
  apart h = simp (lt-ltb _ _ h)

  pub just-below : x + 1 ≡ r.start → inserted x (r ∷ rs) ≡ range x r.end ∷ rs
  unfolding inserted
  just-below h = let a : r.start ≤ x + 1 = omega arith in simp (le-ltb _ _ a, eq-eqb _ _ h)

  pub inside : r.start ≤ x → x < r.end → inserted x (r ∷ rs) ≡ r ∷ rs
  unfolding inserted
  inside h l =
      let a : r.start ≤ x + 1 = omega arith in
      let b : x + 1 ≡ r.start → ⊥ = λ e. omega arith in
      simp (le-ltb _ _ a, ne_eqb _ _ b, lt-ltb _ _ l)

  pub just-above : r.start < r.end → x ≡ r.end → inserted x (r ∷ rs) ≡ joined (range r.start (x + 1)) rs
  unfolding inserted
  just-above s h =
      let a : r.start ≤ x + 1 = omega arith in
      let b : x + 1 ≡ r.start → ⊥ = λ e. omega arith in
      let c : r.end ≤ x = omega arith in
      simp (le-ltb _ _ a, ne_eqb _ _ b, le-ltb _ _ c, eq-eqb _ _ h)

  pub further : r.start < r.end → r.end < x → inserted x (r ∷ rs) ≡ r ∷ inserted x rs
  unfolding inserted
  further s h =
      let a : r.start ≤ x + 1 = omega arith in
      let b : x + 1 ≡ r.start → ⊥ = λ e. omega arith in
      let c : r.end ≤ x = omega arith in
      let d : x ≡ r.end → ⊥ = λ e. omega arith in
      simp (le-ltb _ _ a, ne_eqb _ _ b, le-ltb _ _ c, ne_eqb _ _ d)

module _ (r q : Range) (qs : List Range) where
  pub touching : r.end ≡ q.start → joined r (q ∷ qs) ≡ range r.start q.end ∷ qs
  unfolding joined
  touching h = simp (eq-eqb _ _ h)

  pub parted : (r.end ≡ q.start → ⊥) → joined r (q ∷ qs) ≡ r ∷ q ∷ qs
  unfolding joined
  parted h = simp (ne_eqb _ _ h)

pub alone : (r : Range) → joined r [] ≡ r ∷ []
unfolding joined
alone r = refl

pub first_one : (x : ℕ) → inserted x [] ≡ range x (x + 1) ∷ []
unfolding inserted
first_one x = refl

-- ranges that end below x, and apart from it, are passed over
abbrev pub Under : ℕ → Range → Type 0
Under x r = (r.start < r.end) × (r.end < x)

pub passes : (x : ℕ) (bs rs : List Range) → All (Under x) bs → inserted x (bs ++ rs) ≡ bs ++ inserted x rs
unfolding All
passes x [] rs a = refl
passes x (b ∷ bs) rs a = further x b (bs ++ rs) a.0.0 a.0.1 ∙ ap (λ (l : List Range). b ∷ l) (passes x bs rs a.1)

-- ---- one sequence more rises

rising-joined : (m x : ℕ) (r : Range) (rs : List Range) → m ≤ r.start → r.start < r.end → x ≡ r.end → x < LIMIT → Rising (r.end + 1) rs
    → Rising m (joined (range r.start (x + 1)) rs)
unfolding Rising
rising-joined m x r [] a s e l w = rw (alone (range r.start (x + 1))) (a, omega arith, omega arith, tt)
rising-joined m x r (q ∷ qs) a s e l w =
    by-test (eqb (x + 1) q.start)
    (λ t. rw (touching (range r.start (x + 1)) q qs (eqb-true _ _ t)) (a, (let u = eqb-true (x + 1) q.start t in omega arith), w.2, w.3))
    (λ t. let u = eqb-false (x + 1) q.start t in rw (parted (range r.start (x + 1)) q qs u) (a, omega arith, omega arith, (omega (arith, u), w.1, w.2, w.3)))

pub rising-inserted : (m x : ℕ) (rs : List Range) → m ≤ x → x < LIMIT → Rising m rs → Rising m (inserted x rs)
unfolding Rising
rising-inserted m x [] h l w = rw (first_one x) (h, omega arith, omega arith, tt)
rising-inserted m x (r ∷ rs) h l w =
    by_side x r w.1
    (λ t. rw (apart x r rs t) (h, omega arith, omega arith, (omega arith, w.1, w.2, w.3)))
    (λ t. rw (just-below x r rs t) (h, omega arith, w.2, w.3))
    (λ t u. rw (inside x r rs t u) w)
    (λ t. rw (just-above x r rs w.1 t) (rising-joined m x r rs w.0 w.1 t l w.3))
    (λ t. rw (further x r rs w.1 t) (w.0, w.1, w.2, rising-inserted (r.end + 1) x rs (omega arith) l w.3))

-- ---- what is named

abbrev pub In : Range → ℕ → Type 0
In r y = (r.start ≤ y) × (y < r.end)

-- one of the ranges has y in it
unfoldable pub Named : List Range → ℕ → Type 0
Named [] y = ⊥
Named (r ∷ rs) y = In r y ⊎ Named rs y

pub in-holds : (r : Range) (y : ℕ) → In r y → holds r y ≡ true
in-holds r y i = simp (le-leb _ _ i.0, lt-ltb _ _ i.1)

pub holds-in : (r : Range) (y : ℕ) → holds r y ≡ true → In r y
holds-in r y e =
    by-test (leb r.start y)
    (λ a. (leb-true _ _ a, ltb-true y r.end (simp a at e)))
    (λ a. clash (let z : false ≡ true = simp a at e in cc))

pub is-named : (rs : List Range) (y : ℕ) → Named rs y → named rs y ≡ true
unfolding named Named
is-named [] y n = absurd n
is-named (r ∷ rs) y n =
    ⊎_elim
    (λ i. rw (in-holds r y i))
    (λ m. by-test (holds r y) (λ a. rw a) (λ a. rw a (is-named rs y m)))
    n

pub named-is : (rs : List Range) (y : ℕ) → named rs y ≡ true → Named rs y
unfolding named Named
named-is [] y e = clash (cc)
named-is (r ∷ rs) y e =
    by-test (holds r y)
    (λ a. inl (holds-in r y a))
    (λ a. inr (named-is rs y (rw a at e)))

-- all that is named is at or above where they start
pub named-above : (m : ℕ) (rs : List Range) (y : ℕ) → Rising m rs → Named rs y → m ≤ y
unfolding Rising Named
named-above m [] y w n = absurd n
named-above m (r ∷ rs) y w n = ⊎_elim (λ i. omega arith) (λ k. let h = named-above (r.end + 1) rs y w.3 k in omega arith) n

pub named-drop : (k : ℕ) (rs : List Range) (y : ℕ) → Named (drop k rs) y → Named rs y
unfolding Named
named-drop zero rs y n = n
named-drop (suc k) [] y n = n
named-drop (suc k) (r ∷ rs) y n = inr (named-drop k rs y n)

-- ---- what is named of one sequence more: that, and what was named

module _ (x : ℕ) where
  -- a range that was extended above by x
  extended : (r : Range) (y : ℕ) → x ≡ r.end → In (range r.start (x + 1)) y → (y ≡ x) ⊎ In r y
  extended r y e i = by-test (eqb y x) (λ t. inl (eqb-true _ _ t)) (λ t. let u = eqb-false y x t in inr (i.0, omega (arith, u)))

  only-joined : (r : Range) (rs : List Range) (y : ℕ) → x ≡ r.end → Named (joined (range r.start (x + 1)) rs) y → (y ≡ x) ⊎ Named (r ∷ rs) y
  unfolding Named
  only-joined r [] y e n =
      ⊎_elim (λ i. ⊎_elim inl (λ j. inr (inl j)) (extended r y e i)) (λ z. absurd z) (rw (alone (range r.start (x + 1))) at n)
  only-joined r (q ∷ qs) y e n =
      by-test (eqb (x + 1) q.start)
      (λ t.
      let u = eqb-true (x + 1) q.start t in
      ⊎_elim
      (λ i.
      by-test (ltb x y)
      (λ a. inr (inr (inl ((let b = ltb-true x y a in omega arith), i.1))))
      (λ a. let b = ltb-false x y a in ⊎_elim inl (λ j. inr (inl j)) (extended r y e (i.0, omega arith))))
      (λ k. inr (inr (inr k)))
      (rw (touching (range r.start (x + 1)) q qs u) at n))
      (λ t.
      ⊎_elim (λ i. ⊎_elim inl (λ j. inr (inl j)) (extended r y e i)) (λ k. inr (inr k)) (rw (parted (range r.start (x + 1)) q qs (eqb-false _ _ t)) at n))

  pub only-added : (m : ℕ) (rs : List Range) (y : ℕ) → Rising m rs → Named (inserted x rs) y → (y ≡ x) ⊎ Named rs y
  unfolding Rising Named
  only-added m [] y w n = ⊎_elim (λ i. inl (omega arith)) (λ z. absurd z) (rw (first_one x) at n)
  only-added m (r ∷ rs) y w n =
      by_side x r w.1
      (λ t. ⊎_elim (λ i. inl (omega arith)) inr (rw (apart x r rs t) at n))
      (λ t.
      ⊎_elim
      (λ i. by-test (eqb y x) (λ a. inl (eqb-true _ _ a)) (λ a. let b = eqb-false y x a in inr (inl (omega (arith, b), i.1))))
      (λ k. inr (inr k))
      (rw (just-below x r rs t) at n))
      (λ t u. inr (rw (inside x r rs t u) at n))
      (λ t. only-joined r rs y t (rw (just-above x r rs w.1 t) at n))
      (λ t. ⊎_elim (λ i. inr (inl i)) (λ k. ⊎_elim inl (λ j. inr (inr j)) (only-added (r.end + 1) rs y w.3 k)) (rw (further x r rs w.1 t) at n))

  still-joined : (r : Range) (rs : List Range) (y : ℕ) → x ≡ r.end → Rising (r.end + 1) rs → (y ≡ x) ⊎ Named (r ∷ rs) y → r.start < r.end → Named (joined (range r.start (x + 1)) rs) y
  unfolding Rising Named
  still-joined r [] y e w n s =
      rw (alone (range r.start (x + 1))) (⊎_elim (λ a. inl (omega arith, omega arith)) (λ k. ⊎_elim (λ i. inl (i.0, omega arith)) (λ z. absurd z) k) n)
  still-joined r (q ∷ qs) y e w n s =
      by-test (eqb (x + 1) q.start)
      (λ t.
      let u = eqb-true (x + 1) q.start t in
      let v = w.1 in
      rw (touching (range r.start (x + 1)) q qs u)
      (⊎_elim
      (λ a. inl (omega arith, omega arith))
      (λ k. ⊎_elim (λ i. inl (i.0, omega arith)) (λ l. ⊎_elim (λ i. inl (omega arith, i.1)) (λ o. inr o) l) k)
      n))
      (λ t.
      rw (parted (range r.start (x + 1)) q qs (eqb-false _ _ t))
      (⊎_elim (λ a. inl (omega arith, omega arith)) (λ k. ⊎_elim (λ i. inl (i.0, omega arith)) (λ l. inr l) k) n))

  pub still-named : (m : ℕ) (rs : List Range) (y : ℕ) → Rising m rs → (y ≡ x) ⊎ Named rs y → Named (inserted x rs) y
  unfolding Rising Named
  still-named m [] y w n = rw (first_one x) (⊎_elim (λ a. inl (omega arith, omega arith)) (λ z. absurd z) n)
  still-named m (r ∷ rs) y w n =
      by_side x r w.1
      (λ t. rw (apart x r rs t) (⊎_elim (λ a. inl (omega arith, omega arith)) (λ k. inr k) n))
      (λ t.
      rw (just-below x r rs t)
      (⊎_elim (λ a. inl (omega arith, (let s = w.1 in omega arith))) (λ k. ⊎_elim (λ i. inl (omega arith, i.1)) (λ l. inr l) k) n))
      (λ t u. rw (inside x r rs t u) (⊎_elim (λ a. inl (omega arith, omega arith)) (λ k. k) n))
      (λ t. rw (just-above x r rs w.1 t) (still-joined r rs y t w.3 n w.1))
      (λ t.
      rw (further x r rs w.1 t)
      (⊎_elim
      (λ a. inr (still-named (r.end + 1) rs y w.3 (inl a)))
      (λ k. ⊎_elim (λ i. inl i) (λ l. inr (still-named (r.end + 1) rs y w.3 (inr l))) k)
      n))

-- adding what is named changes nothing
pub unchanged : (m x : ℕ) (rs : List Range) → Rising m rs → Named rs x → inserted x rs ≡ rs
unfolding Rising Named
unchanged m x [] w n = absurd n
unchanged m x (r ∷ rs) w n =
    ⊎_elim
    (λ i. inside x r rs i.0 i.1)
    (λ k.
    let h = named-above (r.end + 1) rs x w.3 k in
    further x r rs w.1 (omega arith) ∙ ap (λ (l : List Range). r ∷ l) (unchanged (r.end + 1) x rs w.3 k))
    n

-- ---- looking at one range is looking at every range

pub none-beyond : (m : ℕ) (rs : List Range) (x : ℕ) → Rising m rs → Beyond x rs → named rs x ≡ false
unfolding Rising Beyond named
none-beyond m [] x w b = refl
none-beyond m (r ∷ rs) x w b = simp (lt-leb _ _ b) (none-beyond (r.end + 1) rs x w.3 (further-up rs w.3))
  where
    further-up : (qs : List Range) → Rising (r.end + 1) qs → Beyond x qs
    further-up [] v = tt
    further-up (q ∷ qs) v = let s = w.1 in omega arith

same-pick : (b : Bool) → pick b true false ≡ b
same-pick true = refl
same-pick false = refl

pub beyond-first : (x : ℕ) (rs : List Range) (d : Range) → (0 < length rs → x < (get_or rs 0 d).start) → Beyond x rs
unfolding Beyond
beyond-first x [] d h = tt
beyond-first x (r ∷ rs) d h = h (omega arith)

module _ (x : ℕ) (d : Range) where
  pub one-is-all : (m : ℕ) (rs : List Range) (i : ℕ) → Rising m rs → i < length rs → (0 < i → (get_or rs i d).start ≤ x) → (suc i < length rs → x < (get_or rs (suc i) d).start)
      → named rs x ≡ holds (get_or rs i d) x
  unfolding Rising named
  one-is-all m [] i w h low high = absurd (not-suc-le-zero h)
  one-is-all m (r ∷ rs) zero w h low high =
      rw (none-beyond (r.end + 1) rs x w.3 (beyond-first x rs d (λ s. high (omega arith)))) (same-pick (holds r x))
  one-is-all m (r ∷ rs) (suc i) w h low high =
      let l = low (omega arith) in
      let k = start-above (r.end + 1) rs i d w.3 (le_of_suc-le-suc h) in
      let a : r.start ≤ x = (let s = w.1 in omega arith) in
      let b : r.end ≤ x = omega arith in
      simp (le-leb _ _ a, le-ltb _ _ b) (one-is-all (r.end + 1) rs i w.3 (le_of_suc-le-suc h) (λ s. l) (λ s. high (omega arith)))

-- ---- the ranges below x and above it

-- the range at j starts at or below x, those before it end below x, and those after it start above x
pub record Top (rs : List Range) (x j : ℕ) : Type 0 where
  pub before : List Range
  pub here : Range
  pub after : List Range
  pub was : rs ≡ before ++ here ∷ after
  pub place : length before ≡ j
  pub passed : All (Under x) before
  pub starts : here.start ≤ x
  pub some : here.start < here.end
  pub beyond : Beyond x after

pub top : (x : ℕ) (d : Range) (m : ℕ) (rs : List Range) (j : ℕ) → Rising m rs → j < length rs → (get_or rs j d).start ≤ x → (suc j < length rs → x < (get_or rs (suc j) d).start) → Top rs x j
unfolding Rising All
top x d m [] j w h low high = absurd (not-suc-le-zero h)
top x d m (r ∷ rs) zero w h low high =
    record { before = []; here = r; after = rs; was = refl; place = refl; passed = tt; starts = low; some = w.1; beyond = beyond-first x rs d (λ s. high (omega arith)) }
top x d m (r ∷ rs) (suc j) w h low high =
    let t = top x d (r.end + 1) rs j w.3 (le_of_suc-le-suc h) low (λ s. high (omega arith)) in
    let k = start-above (r.end + 1) rs j d w.3 (le_of_suc-le-suc h) in
    record {
      before = r ∷ t.before;
      here = t.here;
      after = t.after;
      was = ap (λ (l : List Range). r ∷ l) t.was;
      place = ap suc t.place;
      passed = ((w.1, omega arith), t.passed);
      starts = t.starts;
      some = t.some;
      beyond = t.beyond;
    }
