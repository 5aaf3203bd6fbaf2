-- Pieces in any order, repeated: what the lane holds of the message, a piece at a time. Assumes nothing.
use Prim.Native.Nat.{ℕ, zero, suc, ◌+◌, ◌-◌, ◌*◌, ◌≤◌, ◌<◌, min}
use mathlib.Core.Path.{◌≡◌, refl, sym, ap, ◌∙◌}
use mathlib.Core.List.{List, ◌++◌}
use mathlib.Core.Bool.{Bool, true, false}
use native.Mathlib.Omega.{arith}
use borrow.Author.Tests.{eqb-true, eqb-false, ltb-true, ltb-false, eq-eqb, le-leb}
use lib.Dec.{ltb, eqb}
use lib.ListN.{length, get_or, take, drop, set, length-take, length-drop, length-append}
use lib.Seq.{get_or-set_other, take-add, take_all, length-take-le}
use Rattle.words.specs.Sizes.{SLICE_SIZE, PIECES}
use Rattle.words.specs.Choice.{pick}
use Rattle.words.specs.Lists.{splice}
use Rattle.words.proofs.Splice.{length-splice}
use Rattle.slice_constructor.specs.declared.SliceConstructor.{SliceConstructor}
use Rattle.slice_constructor.specs.Collect.{Valid, blank_of, collect_refusal, last_len_of, more, taken, lane_taken, whole_len, whole, answer_of}
use Rattle.words.specs.Pieces.{pieces_of, piece_of}
use Rattle.slice_constructor.specs.Whole.{Holds}
use Rattle.words.proofs.Tables.{pick-cases, by-test, none-held, same-part, part-before, part-after, part-here}
use Rattle.slice_constructor.proofs.Valid.{Good, not-refused, piece-room}
use Rattle.slice_constructor.proofs.Whole.{whole_answer, whole_each}

-- ---- the pieces of a message

pub piece-length : (msg : List ℕ) (i : ℕ) → length (piece_of msg i) ≡ min SLICE_SIZE (length msg - i * SLICE_SIZE)
piece-length msg i = simp (length-take, length-drop)

-- a piece of the message is good
pub good-piece : (c : SliceConstructor) (msg : List ℕ) (i m : ℕ) → c.num_slices ≡ pieces_of (length msg)
    → c.num_slices * SLICE_SIZE ≤ m → i < c.num_slices → Good c i (length (piece_of msg i)) m
good-piece c msg i m num room low =
    let l = piece-length msg i in
    record {
      room = room;
      low = low;
      size =
          pick-cases (λ b. b ≡ true) (eqb (i + 1) c.num_slices)
          (λ e. le-leb (length (piece_of msg i)) SLICE_SIZE (omega arith))
          (λ e. let f = eqb-false (i + 1) c.num_slices e in eq-eqb (length (piece_of msg i)) SLICE_SIZE (omega arith));
    }

-- so it is never refused
pub never-refused : (c : SliceConstructor) (msg : List ℕ) (i m : ℕ) → c.num_slices ≡ pieces_of (length msg)
    → c.num_slices * SLICE_SIZE ≤ m → i < c.num_slices → collect_refusal c i (length (piece_of msg i)) m ≡ 0
never-refused c msg i m num room low = not-refused _ _ _ _ (good-piece c msg i m num room low)

-- ---- what the lane holds

-- of a new one, nothing is asked
pub holds-new : (id n : ℕ) (msg lane : List ℕ) → n * SLICE_SIZE ≤ length lane → Holds (blank_of id n) msg lane
unfolding blank_of
holds-new id n msg lane long =
    record {
      long = long;
      pieces = λ i low here. absurd (let f = none-held PIECES i in let z : ◌≡◌ {A = ℕ} 0 1 = cc in omega arith);
      last = λ here. absurd (let f = none-held PIECES (n - 1) in let z : ◌≡◌ {A = ℕ} 0 1 = cc in omega arith);
    }

-- only the first num_slices × 1,200 bytes of the lane are looked at
pub holds-front : (c : SliceConstructor) (msg lane lane' : List ℕ) → c.num_slices * SLICE_SIZE ≤ length lane'
    → take (c.num_slices * SLICE_SIZE) lane' ≡ take (c.num_slices * SLICE_SIZE) lane → Holds c msg lane → Holds c msg lane'
holds-front c msg lane lane' long same h =
    record {
      long = long;
      pieces = λ i low here.
          same-part (i * SLICE_SIZE) (length (piece_of msg i)) (c.num_slices * SLICE_SIZE) lane' lane (let l = piece-length msg i in omega arith) same
          ∙ h.pieces i low here;
      last = h.last;
    }

module _ (c : SliceConstructor) (v : Valid c) (msg lane : List ℕ) (num : c.num_slices ≡ pieces_of (length msg)) (h : Holds c msg lane) where
  module _ (i : ℕ) (low : i < c.num_slices) where
    fits : Good c i (length (piece_of msg i)) (length lane)
    fits = good-piece c msg i (length lane) num h.long low

    -- a piece that is new
    module _ (free : get_or c.received i false ≡ false) where
      other : (j : ℕ) → (j ≡ i → ⊥) → get_or (set c.received i true) j false ≡ true → get_or c.received j false ≡ true
      other j ne here = sym (get_or-set_other c.received i j true false ne) ∙ here

      its-part : (j : ℕ) → j < c.num_slices → get_or (set c.received i true) j false ≡ true
          → take (length (piece_of msg j)) (drop (j * SLICE_SIZE) (splice (i * SLICE_SIZE) (piece_of msg i) lane)) ≡ piece_of msg j
      its-part j lowj here =
          let li = piece-length msg i in
          let lj = piece-length msg j in
          by-test (eqb j i)
          (λ e. let s = eqb-true j i e in rw s (part-here (i * SLICE_SIZE) (piece_of msg i) lane (piece-room _ _ _ _ fits)))
          (λ e. let n = eqb-false j i e in
          by-test (ltb j i)
          (λ t. let s = ltb-true j i t in part-before (j * SLICE_SIZE) (length (piece_of msg j)) (i * SLICE_SIZE) (piece_of msg i) lane (omega arith))
          (λ t. let s = ltb-false j i t in part-after (j * SLICE_SIZE) (length (piece_of msg j)) (i * SLICE_SIZE) (piece_of msg i) lane (omega arith))
          ∙ h.pieces j lowj (other j n here))

      its-last : get_or (set c.received i true) (c.num_slices - 1) false ≡ true
          → last_len_of c i (length (piece_of msg i)) ≡ length (piece_of msg (c.num_slices - 1))
      its-last here =
          pick-cases (λ k. k ≡ length (piece_of msg (c.num_slices - 1))) (eqb (i + 1) c.num_slices)
          (λ e. let s : i ≡ c.num_slices - 1 = omega (arith, eqb-true (i + 1) c.num_slices e) in ap (λ (k : ℕ). length (piece_of msg k)) s)
          (λ e. let n = eqb-false (i + 1) c.num_slices e in h.last (other (c.num_slices - 1) (λ s. n (omega arith)) here))

      holds_more : Holds (more c i (length (piece_of msg i))) msg (splice (i * SLICE_SIZE) (piece_of msg i) lane)
      holds_more = record { long = rw length-splice h.long; pieces = its-part; last = its-last }

    by-here : (here : Bool) → get_or c.received i false ≡ here
        → Holds (pick here c (more c i (length (piece_of msg i)))) msg (pick here lane (splice (i * SLICE_SIZE) (piece_of msg i) lane))
    by-here true e = h
    by-here false e = holds_more e

    -- taking a piece keeps it
    pub holds-taken : Holds (taken c i (length (piece_of msg i))) msg (lane_taken c i (piece_of msg i) lane)
    unfolding taken lane_taken
    holds-taken = by-here (get_or c.received i false) refl

  -- ---- when it is whole

  module _ (some : 0 < length msg) (all : c.num_received_slices ≡ c.num_slices) where
    here : (i : ℕ) → i < c.num_slices → take (length (piece_of msg i)) (drop (i * SLICE_SIZE) lane) ≡ piece_of msg i
    here i low = h.pieces i low (whole_each c v all i low)

    whole_long : whole_len c ≡ length msg
    whole_long =
        let low : c.num_slices - 1 < c.num_slices = omega arith in
        omega (arith, h.last (whole_each c v all (c.num_slices - 1) low), piece-length msg (c.num_slices - 1))

    -- the first k pieces lie in the lane one after the other
    front : (k : ℕ) → k ≤ c.num_slices → take (length (take (k * SLICE_SIZE) msg)) lane ≡ take (k * SLICE_SIZE) msg
    front zero le = refl
    front (suc k) le =
        let e : suc k * SLICE_SIZE ≡ k * SLICE_SIZE + SLICE_SIZE = omega arith in
        let l : length (take (k * SLICE_SIZE) msg) ≡ k * SLICE_SIZE = length-take-le (k * SLICE_SIZE) msg (omega arith) in
        rw (e, take-add (k * SLICE_SIZE) SLICE_SIZE msg, length-append, take-add, l, here k le) (ap (λ x. x ++ piece_of msg k) (rw l at (front k (omega arith))))

    whole-front : take (length msg) lane ≡ msg
    whole-front =
        let e : take (c.num_slices * SLICE_SIZE) msg ≡ msg = take_all (c.num_slices * SLICE_SIZE) msg (omega arith) in
        rw e at (front c.num_slices (omega arith))

  -- the answer, by the counts
  counts : (n : ℕ) → answer_of c ≡ whole n → (c.num_received_slices ≡ c.num_slices) × (whole_len c ≡ n)
  counts n a = let k = whole_answer c n a in (eqb-true _ _ k.0, k.1)

  -- where the answer says whole, its length is the message's, and the front of the lane is the message
  pub whole-message : 0 < length msg → (n : ℕ) → answer_of c ≡ whole n → (n ≡ length msg) × (take n lane ≡ msg)
  whole-message some n a =
      let k = counts n a in
      let e : n ≡ length msg = sym k.1 ∙ whole_long some k.0 in
      (e, rw e (whole-front some k.0))
