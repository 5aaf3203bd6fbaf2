-- A piece that is given to a constructor with a part of a store, m bytes from place a on: the answer, and the store with the part back in
-- its place. Knows no channel. Assumes nothing.
use Prim.Native.Nat.{ℕ, zero, suc, ◌+◌, ◌-◌, ◌*◌, ◌≤◌, ◌<◌}
use mathlib.Core.Path.{◌≡◌, refl, sym, ap, ◌∙◌}
use mathlib.Core.Bool.{Bool, true, false}
use mathlib.Core.List.{List, [], ◌∷◌, ◌++◌}
use native.Mathlib.Omega.{arith}
use borrow.Author.Tests.{eqb-true, eqb-false, le-ltb, lt-leb}
use lib.Dec.{eqb}
use lib.ListN.{length, get_or, take, drop, length-drop}
use lib.Seq.{length-take-le, get_or-drop}
use Rattle.words.specs.Sizes.{SLICE_SIZE}
use Rattle.words.specs.Choice.{pick}
use Rattle.words.specs.Lists.{splice, holds}
use Rattle.words.specs.Refusal.{number_of}
use Rattle.words.specs.declared.Refusal.{Refusal}
use Rattle.words.proofs.Lists.{holds-le}
use Rattle.words.proofs.Tables.{by-test, pick-cases, clash, holds-split, part-whole, part-splice}
use Rattle.slice_constructor.specs.declared.SliceConstructor.{SliceConstructor}
use Rattle.std.specs.Prelude.{Result, Ok, Err, Option, Some, None}
use Rattle.slice_constructor.specs.Collect as c
use Rattle.slice_constructor.proofs.Valid as cv

-- ---- a constructor by itself

-- as many pieces are here as the message has, at most
pub received-most : (k : SliceConstructor) → c.Valid k → k.num_received_slices ≤ k.num_slices
received-most k v =
    let n : ℕ = k.num_slices in
    let e : length (take n k.received) ≡ n = length-take-le n k.received (omega (arith, v.num-most, v.received-long)) in
    omega (arith, holds-split n k.received, holds-le (take n k.received), v.counted, v.none-past)

-- the exact length is no more than 1,200 × num_slices
pub whole-most : (k : SliceConstructor) → c.Valid k → 1 ≤ k.num_slices → c.whole_len k ≤ SLICE_SIZE * k.num_slices
whole-most k v some = omega (arith, v.last-most)

-- the exact length is no more than the charge
pub charge-most : (k : SliceConstructor) → c.Valid k → 1 ≤ k.num_slices → c.lane_charge k ≤ SLICE_SIZE * k.num_slices
charge-most k v some = pick-cases (λ n. n ≤ SLICE_SIZE * k.num_slices) (c.is_whole k) (λ _. omega (arith, v.last-most)) (λ _. omega arith)

-- while pieces are to come fewer are here than the message has
pub still_open : (k : SliceConstructor) → c.Valid k → c.is_whole k ≡ false → k.num_received_slices < k.num_slices
still_open k v e = let other : k.num_received_slices ≡ k.num_slices → ⊥ = eqb-false _ _ e in omega (arith, received-most k v, other)

-- ---- a repeat: a piece that is here already

some-held : (l : List Bool) (j : ℕ) → get_or l j false ≡ true → 1 ≤ holds l
unfolding holds
some-held [] j e = clash (cc)
some-held (true ∷ l) j e = omega arith
some-held (false ∷ l) zero e = clash (cc)
some-held (false ∷ l) (suc j) e = some-held l j e

-- no index past the message is here
received-below : (k : SliceConstructor) → c.Valid k → (i : ℕ) → get_or k.received i false ≡ true → i < k.num_slices
received-below k v i e =
    let n : ℕ = k.num_slices in
    let past : n ≤ i → ⊥ = λ h.
    let same : n + (i - n) ≡ i = omega arith in
    omega (arith, v.none-past, some-held (drop n k.received) (i - n) (get_or-drop n k.received (i - n) false ∙ rw same e)) in
    omega (arith, past)

module _ (k : SliceConstructor) (v : c.Valid k) (i n m : ℕ) (room : k.num_slices * SLICE_SIZE ≤ m) (here : get_or k.received i false ≡ true) where
  -- it is checked for size
  pub repeat-good : c.sized k i n ≡ true → c.collect_refusal k i n m ≡ 0
  repeat-good size = cv.not-refused k i n m (record { room = room; low = received-below k v i here; size = size })

  pub repeat-bad : c.sized k i n ≡ false → c.collect_refusal k i n m ≡ 8
  unfolding c.collect_refusal
  repeat-bad size = rw (le-ltb _ _ room, lt-leb _ _ (received-below k v i here), size)

  -- and has no effect
  pub repeat-same : c.taken k i n ≡ k
  unfolding c.taken
  repeat-same = rw here

-- ---- whether the piece was refused

refused-tests : (good whole : Bool) (m n e : ℕ) → c.refused n ≡ pick good (pick whole (c.whole m) c.missing) (c.refused e) → (good ≡ false) × (n ≡ e)
refused-tests true true m n e h = clash (cc)
refused-tests true false m n e h = clash (cc)
refused-tests false whole m n e h = (refl, cc)

good-test : (a : Result (Option ℕ) Refusal) → ((e : Refusal) → a ≡ Err e → ⊥) → (good : Bool) (x : c.Collection) (e : ℕ) → c.collect_of a ≡ pick good x (c.refused e) → good ≡ true
good-test a k true x e h = refl
good-test (Ok None) k false x e h = clash (cc)
good-test (Ok (Some n)) k false x e h = clash (cc)
good-test (Err n) k false x e h = absurd (k n refl)

module _ (k : SliceConstructor) (i : ℕ) (bs store : List ℕ) (a m : ℕ) (fits : a + m ≤ length store) (part : List ℕ) (r : c.Collected)
    (g : c.CollectGives k i bs (take m (drop a store)) part r) where
  long : length (take m (drop a store)) ≡ m
  long = length-take-le m (drop a store) (simp length-drop (omega arith))

  pub piece-refused : (e : Refusal) → r.answer ≡ Err e
      → (eqb (c.collect_refusal k i (length bs) m) 0 ≡ false) × (number_of e ≡ c.collect_refusal k i (length bs) m)
  unfolding c.answer_of
  piece-refused e h =
      let d = c.taken k i (length bs) in
      let n = c.collect_refusal k i (length bs) m in
      refused-tests (eqb n 0) (c.is_whole d) (c.whole_len d) (number_of e) n (ap c.collect_of (sym h) ∙ rw long at g.answer)

  pub piece-good : ((e : Refusal) → r.answer ≡ Err e → ⊥) → eqb (c.collect_refusal k i (length bs) m) 0 ≡ true
  piece-good t = let n = c.collect_refusal k i (length bs) m in good-test r.answer t (eqb n 0) _ n (rw long at g.answer)

  -- a good piece is in the constructor
  pub taken-now : eqb (c.collect_refusal k i (length bs) m) 0 ≡ true → r.state ≡ c.taken k i (length bs)
  taken-now e = rw (long, e) at g.state

  -- and in the store, unless it was there already
  pub store-back : take a store ++ (part ++ drop m (drop a store))
      ≡ pick (eqb (c.collect_refusal k i (length bs) m) 0) (pick (get_or k.received i false) store (splice (a + i * SLICE_SIZE) bs store)) store
  unfolding c.lane_taken
  store-back =
      let whole = part-whole a m store in
      by-test (eqb (c.collect_refusal k i (length bs) m) 0)
      (λ e.
      let fits_in = cv.piece-room k i (length bs) m (cv.good k i (length bs) m (eqb-true _ _ e)) in
      rw (g.bytes, long, e)
      (by-test (get_or k.received i false)
      (λ h. rw h whole)
      (λ h. rw h (part-splice a m (i * SLICE_SIZE) bs store fits fits_in))))
      (λ e. rw (g.bytes, long, e) whole)
