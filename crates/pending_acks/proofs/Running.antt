-- Runs of calls: what is named was added, and what was added is named as far as nothing was dropped. Assumes nothing.
use Prim.Native.Nat.{ℕ, ◌+◌, ◌-◌, ◌≤◌, ◌<◌}
use mathlib.Core.Path.{◌≡◌, refl, ap, ◌∙◌}
use mathlib.Core.Bool.{true, false}
use mathlib.Core.Logic.{◌⊎◌, inl, inr, ⊎_elim}
use mathlib.Core.List.Memᴰ
use mathlib.Core.List.{List, [], ◌∷◌, Memᴰ}
use native.Mathlib.Omega.{arith}
use borrow.Author.Tests.{ltb-true, ltb-false, leb-true, leb-false, eqb-true, eqb-false, le-leb}
use lib.Dec.{ltb, leb, eqb}
use lib.ListN.{length, drop}
use Rattle.words.specs.Sizes.{LIMIT}
use Rattle.words.specs.Choice.{pick}
use Rattle.words.specs.Lists.{reached}
use Rattle.words.proofs.Tables.{by-test, clash}
use Rattle.packet_ack.specs.Ack.{RANGES}
use Rattle.packet_ack.specs.declared.Range.{Range}
use Rattle.pending_acks.specs.declared.PendingAcks.{PendingAcks}
use Rattle.pending_acks.specs.Gather.{range, Rising, joined, inserted, kept, ranges_of, Valid, gathered, added}
use Rattle.pending_acks.specs.Runs.{WasAdded, drops, lowest_end, raised, mark_from}
use Rattle.pending_acks.proofs.Ranges.{by_side, apart, just-below, inside, just-above, further, touching, parted, alone, first_one, rising-inserted, Named, named-drop, only-added, still-named}
use Rattle.pending_acks.proofs.Valid.{ranges-of, dropped-of, few-kept, added-valid, added-below, count-is}

-- ---- at most one range more

length-joined : (r : Range) (rs : List Range) → length (joined r rs) ≤ length rs + 1
length-joined r [] = rw (alone r) (omega arith)
length-joined r (q ∷ qs) =
    by-test (eqb r.end q.start)
    (λ t. rw (touching r q qs (eqb-true _ _ t)) (omega arith))
    (λ t. rw (parted r q qs (eqb-false _ _ t)) (omega arith))

pub length_inserted : (x m : ℕ) (rs : List Range) → Rising m rs → length (inserted x rs) ≤ length rs + 1
unfolding Rising
length_inserted x m [] w = rw (first_one x) (omega arith)
length_inserted x m (r ∷ rs) w =
    by_side x r w.1
    (λ t. rw (apart x r rs t) (omega arith))
    (λ t. rw (just-below x r rs t) (omega arith))
    (λ t u. rw (inside x r rs t u) (omega arith))
    (λ t. rw (just-above x r rs w.1 t) (let l = length-joined (range r.start (x + 1)) rs in omega arith))
    (λ t. rw (further x r rs w.1 t) (let l = length_inserted x (r.end + 1) rs w.3 in omega arith))

-- ---- one call

module _ (g : PendingAcks) (v : Valid g) (x : ℕ) where
  pub refused-same : LIMIT ≤ x → added g x ≡ g
  unfolding added
  refused-same h = rw (le-leb _ _ h)

  module _ (h : x < LIMIT) where
    pub ranges-after : ranges_of (added g x) ≡ kept (inserted x (ranges_of g))
    unfolding gathered
    ranges-after = ap (λ (s : PendingAcks). ranges_of s) (added-below g x h) ∙ ranges-of (kept (inserted x (ranges_of g))) _ (few-kept (inserted x (ranges_of g)))

    pub dropped-after : (added g x).dropped ≡ pick (ltb RANGES (length (inserted x (ranges_of g)))) true g.dropped
    unfolding gathered
    dropped-after = ap (λ (s : PendingAcks). s.dropped) (added-below g x h) ∙ dropped-of (kept (inserted x (ranges_of g))) _

    pub rising-all : Rising 0 (inserted x (ranges_of g))
    rising-all = rising-inserted 0 x (ranges_of g) (omega arith) h v.rises

    -- nothing is dropped, or the lowest
    pub all_stay : length (inserted x (ranges_of g)) ≤ RANGES → ranges_of (added g x) ≡ inserted x (ranges_of g)
    all_stay l = let e : length (inserted x (ranges_of g)) - RANGES ≡ 0 = omega arith in ranges-after ∙ rw e

    pub lowest-goes : RANGES < length (inserted x (ranges_of g)) → ranges_of (added g x) ≡ drop 1 (inserted x (ranges_of g))
    lowest-goes l =
        let n = length_inserted x 0 (ranges_of g) v.rises in
        let c = count-is g v in
        let f = v.few in
        let e : length (inserted x (ranges_of g)) - RANGES ≡ 1 = omega arith in
        ranges-after ∙ rw e

  pub only_then : (y : ℕ) → Named (ranges_of (added g x)) y → ((y ≡ x) × (x < LIMIT)) ⊎ Named (ranges_of g) y
  only_then y n =
      by-test (leb LIMIT x)
      (λ t. inr (rw (refused-same (leb-true _ _ t)) at n))
      (λ t.
      let h = leb-false LIMIT x t in
      ⊎_elim (λ e. inl (e, h)) inr (only-added x 0 (ranges_of g) y v.rises (named-drop (length (inserted x (ranges_of g)) - RANGES) (inserted x (ranges_of g)) y (rw (ranges-after h) at n))))

  -- what lies above the mark stays
  pub still-then : (m y : ℕ) → ((y ≡ x) × (x < LIMIT)) ⊎ Named (ranges_of g) y → raised g m x ≤ y → Named (ranges_of (added g x)) y
  unfolding Named
  still-then m y n l =
      by-test (leb LIMIT x)
      (λ t. rw (refused-same (leb-true _ _ t)) (⊎_elim (λ p. absurd (let a = leb-true LIMIT x t in omega arith)) (λ k. k) n))
      (λ t. let h = leb-false LIMIT x t in by_count h t (⊎_elim (λ p. inl p.0) inr n))
    where
      past-lowest : (rs : List Range) → Named rs y → lowest_end rs ≤ y → Named (drop 1 rs) y
      past-lowest [] k e = k
      past-lowest (r ∷ rs) k e = ⊎_elim (λ i. absurd (omega arith)) (λ j. j) k

      larger-most : (a b : ℕ) → pick (leb a b) b a ≤ y → b ≤ y
      larger-most a b e = by-test (leb a b) (λ t. rw t at e) (λ t. let k : a ≤ y = rw t at e in let j = leb-false a b t in omega arith)

      by_count : x < LIMIT → leb LIMIT x ≡ false → (y ≡ x) ⊎ Named (ranges_of g) y → Named (ranges_of (added g x)) y
      by_count h t k =
          let here = still-named x 0 (ranges_of g) y v.rises k in
          by-test (ltb RANGES (length (inserted x (ranges_of g))))
          (λ u. rw (lowest-goes h (ltb-true _ _ u)) (past-lowest (inserted x (ranges_of g)) here (larger-most m (lowest_end (inserted x (ranges_of g))) (rw (t, u) at l))))
          (λ u. rw (all_stay h (ltb-false _ _ u)) here)

  -- a range was dropped: it is known, and stays known
  pub then-known : drops g x ≡ true → (added g x).dropped ≡ true
  then-known d =
      by-test (leb LIMIT x)
      (λ t. clash (let z : false ≡ true = rw t at d in cc))
      (λ t. dropped-after (leb-false _ _ t) ∙ rw (rw t at d))

  pub stays-known : g.dropped ≡ true → (added g x).dropped ≡ true
  stays-known d =
      by-test (leb LIMIT x)
      (λ t. rw (refused-same (leb-true _ _ t)) d)
      (λ t. dropped-after (leb-false _ _ t) ∙ by-test (ltb RANGES (length (inserted x (ranges_of g)))) (λ u. rw u) (λ u. rw u d))

-- ---- runs

pub run-valid : (xs : List ℕ) (g : PendingAcks) → Valid g → Valid (reached added g xs)
unfolding reached
run-valid [] g v = v
run-valid (x ∷ xs) g v = run-valid xs (added g x) (added-valid g x v)

pub run_only : (xs : List ℕ) (g : PendingAcks) → Valid g → (y : ℕ) → Named (ranges_of (reached added g xs)) y → WasAdded y xs ⊎ Named (ranges_of g) y
unfolding reached
run_only [] g v y n = inr n
run_only (x ∷ xs) g v y n =
    ⊎_elim
    (λ w. inl (record { called = Memᴰ.tail w.called; below = w.below }))
    (λ k. ⊎_elim (λ p. inl (record { called = Memᴰ.head p.0; below = rw p.0 p.1 })) inr (only_then g v x y k))
    (run_only xs (added g x) (added-valid g x v) y n)

raised-most : (g : PendingAcks) (m x : ℕ) → m ≤ raised g m x
raised-most g m x =
    by-test (drops g x)
    (λ t. rw t (by-test (leb m (lowest_end (inserted x (ranges_of g)))) (λ u. rw u (leb-true _ _ u)) (λ u. rw u (omega arith))))
    (λ t. rw t (omega arith))

mark-most : (xs : List ℕ) (g : PendingAcks) (m : ℕ) → m ≤ mark_from g m xs
unfolding mark_from
mark-most [] g m = omega arith
mark-most (x ∷ xs) g m = let a = raised-most g m x in let b = mark-most xs (added g x) (raised g m x) in omega arith

pub run-still : (xs : List ℕ) (g : PendingAcks) (m : ℕ) → Valid g → (y : ℕ) → WasAdded y xs ⊎ Named (ranges_of g) y → mark_from g m xs ≤ y → Named (ranges_of (reached added g xs)) y
unfolding reached mark_from
run-still [] g m v y n l = ⊎_elim (λ w. absurd (Memᴰ.not-nil w.called)) (λ k. k) n
run-still (x ∷ xs) g m v y n l =
    let up = mark-most xs (added g x) (raised g m x) in
    run-still xs (added g x) (raised g m x) (added-valid g x v) y
    (⊎_elim
    (λ w. first-or-later w.called w.below)
    (λ k. inr (still-then g v x m y (inr k) (omega arith)))
    n)
    l
  where
    first-or-later : Memᴰ y (x ∷ xs) → y < LIMIT → WasAdded y xs ⊎ Named (ranges_of (added g x)) y
    first-or-later (Memᴰ.head e) b = inr (still-then g v x m y (inl (e, rw (← e) b)) (let up = mark-most xs (added g x) (raised g m x) in omega arith))
    first-or-later (Memᴰ.tail k) b = inl (record { called = k; below = b })

known : (xs : List ℕ) (g : PendingAcks) → Valid g → g.dropped ≡ true → (reached added g xs).dropped ≡ true
unfolding reached
known [] g v d = d
known (x ∷ xs) g v d = known xs (added g x) (added-valid g x v) (stays-known g v x d)

-- where nothing was dropped the mark is where it was
pub run-whole : (xs : List ℕ) (g : PendingAcks) (m : ℕ) → Valid g → (reached added g xs).dropped ≡ false → mark_from g m xs ≡ m
unfolding reached mark_from
run-whole [] g m v d = refl
run-whole (x ∷ xs) g m v d =
    by-test (drops g x)
    (λ t. clash (let z : (reached added (added g x) xs).dropped ≡ true = known xs (added g x) (added-valid g x v) (then-known g v x t) in cc))
    (λ t. run-whole xs (added g x) (raised g m x) (added-valid g x v) d ∙ rw t)
