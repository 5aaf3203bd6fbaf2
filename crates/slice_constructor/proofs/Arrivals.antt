-- Any list of indices, in any order and with repeats: once each has come the message is whole, and before that it is not. Assumes nothing.
use Prim.Native.Nat.{ℕ, ◌*◌, ◌≤◌, ◌<◌}
use mathlib.Core.Path.{◌≡◌, refl, ap, ◌∙◌}
use mathlib.Core.List.{List, [], ◌∷◌, Memᴰ}
use mathlib.Core.Bool.{true, false}
use native.Mathlib.Omega.{arith}
use borrow.Author.Tests.{lt-leb, le-ltb, ne_eqb}
use lib.ListN.{length, get_or, take, set}
use lib.Seq.{get_or-set_same, get_or-set_other}
use Rattle.words.specs.Sizes.{SLICE_SIZE, PIECES, LIMIT}
use Rattle.words.specs.Lists.{All, reached}
use Rattle.words.proofs.Lists.{held-still}
use Rattle.slice_constructor.specs.declared.SliceConstructor.{SliceConstructor}
use Rattle.slice_constructor.specs.Collect.{Valid, blank_of, begin_number, begin_refusal, Begun, BeginGives, collect_refusal, taken, lane_taken, whole_len, missing, whole, collect_of, answer_of, Collected, CollectGives}
use Rattle.words.specs.Pieces.{pieces_of, piece_of}
use Rattle.slice_constructor.specs.Whole.{Holds}
use Rattle.slice_constructor.specs.Arrivals.{called, after_all, arrivals}
use Rattle.words.proofs.Tables.{none-held}
use Rattle.slice_constructor.proofs.Valid.{Good, not-refused, in_table, blank-valid, taken-valid, taken-num, taken-received}
use Rattle.slice_constructor.proofs.Whole.{says-whole, says-missing}
use Rattle.slice_constructor.proofs.Order.{good-piece, holds-new, holds-taken, whole-message}

-- a call that keeps its promise leaves what `called` says
pub call-leaves : (msg : List ℕ) (c : SliceConstructor) (i : ℕ) (lane lane' : List ℕ) (r : Collected)
    → CollectGives c i (piece_of msg i) lane lane' r → ◌≡◌ {A = SliceConstructor × List ℕ} (r.state, lane') (called msg (c, lane) i)
unfolding called
call-leaves msg c i lane lane' r g = rw (g.state, g.bytes)

-- and, where the piece is not refused, its answer is that of the state it leaves
pub call-answers : (c : SliceConstructor) (i : ℕ) (bs lane lane' : List ℕ) (r : Collected) → collect_refusal c i (length bs) (length lane) ≡ 0
    → CollectGives c i bs lane lane' r → collect_of r.answer ≡ answer_of r.state
call-answers c i bs lane lane' r k g = rw (g.answer, g.state, k)

-- a new reassembly of one to `PIECES` pieces is ready, and none of them is here
pub new-begins : (id n : ℕ) (r : Begun) → id < LIMIT → 0 < n → n ≤ PIECES → BeginGives id n r → (begin_number r.answer ≡ 0) × (r.state ≡ blank_of id n)
unfolding begin_refusal
new-begins id n r below some most g =
    let k : begin_refusal id n ≡ 0 = simp (lt-leb _ _ below, ne_eqb n 0 (λ (z : n ≡ 0). omega arith), le-ltb _ _ most) in
    (g.number ∙ k, rw k at g.state)

-- while the pieces of the message arrive
record Going (msg : List ℕ) (c : SliceConstructor) (lane : List ℕ) : Type 0 where
  valid : Valid c
  num : c.num_slices ≡ pieces_of (length msg)
  kept : Holds c msg lane

module _ (msg : List ℕ) where
  -- ---- one call

  module _ (c : SliceConstructor) (lane : List ℕ) (g : Going msg c lane) (i : ℕ) (low : i < pieces_of (length msg)) where
    fits : Good c i (length (piece_of msg i)) (length lane)
    fits = good-piece c msg i (length lane) g.num g.kept.long (omega (arith, g.num))

    -- it is not refused
    accepted : called msg (c, lane) i ≡ (taken c i (length (piece_of msg i)), lane_taken c i (piece_of msg i) lane)
    unfolding called
    accepted = rw (not-refused _ _ _ _ fits)

    goes_on : Going msg (called msg (c, lane) i).0 (called msg (c, lane) i).1
    goes_on =
        rw accepted (record {
          valid = taken-valid c g.valid i _ _ fits;
          num = taken-num c i _ ∙ g.num;
          kept = holds-taken c g.valid msg lane g.num g.kept i fits.low;
        })

    now-here : (called msg (c, lane) i).0.received ≡ set c.received i true
    now-here = ap (λ (s : SliceConstructor × List ℕ). s.0.received) accepted ∙ taken-received c i _

    stays : (j : ℕ) → get_or c.received j false ≡ true → get_or (called msg (c, lane) i).0.received j false ≡ true
    stays j e = rw now-here (held-still c.received i j e)

    comes : get_or (called msg (c, lane) i).0.received i false ≡ true
    comes = rw now-here (get_or-set_same c.received i true false (in_table c g.valid i _ _ fits))

    only : (j : ℕ) → (j ≡ i → ⊥) → get_or (called msg (c, lane) i).0.received j false ≡ get_or c.received j false
    only j ne = rw now-here (get_or-set_other c.received i j true false ne)

  -- ---- a run

  going : (is : List ℕ) → All (λ i. i < pieces_of (length msg)) is → (s : SliceConstructor × List ℕ) → Going msg s.0 s.1 → Going msg (after_all msg s is).0 (after_all msg s is).1
  unfolding All reached
  going [] low s g = g
  going (i ∷ is) low s g = going is low.1 (called msg s i) (goes_on s.0 s.1 g i low.0)

  -- a piece that is here stays, one that comes is here then, and one that does not come is here only if it was
  stay : (is : List ℕ) → All (λ i. i < pieces_of (length msg)) is → (s : SliceConstructor × List ℕ) → Going msg s.0 s.1 → (j : ℕ)
      → get_or s.0.received j false ≡ true → get_or (after_all msg s is).0.received j false ≡ true
  unfolding All reached
  stay [] low s g j e = e
  stay (i ∷ is) low s g j e = stay is low.1 (called msg s i) (goes_on s.0 s.1 g i low.0) j (stays s.0 s.1 g i low.0 j e)

  come : (is : List ℕ) → All (λ i. i < pieces_of (length msg)) is → (s : SliceConstructor × List ℕ) → Going msg s.0 s.1 → (j : ℕ)
      → Memᴰ j is → get_or (after_all msg s is).0.received j false ≡ true
  unfolding All reached
  come [] low s g j m = elim m [ ]
  come (i ∷ is) low s g j (Memᴰ.head e) =
      rw e (stay is low.1 (called msg s i) (goes_on s.0 s.1 g i low.0) i (comes s.0 s.1 g i low.0))
  come (i ∷ is) low s g j (Memᴰ.tail m) = come is low.1 (called msg s i) (goes_on s.0 s.1 g i low.0) j m

  lack : (is : List ℕ) → All (λ i. i < pieces_of (length msg)) is → (s : SliceConstructor × List ℕ) → Going msg s.0 s.1 → (j : ℕ)
      → (Memᴰ j is → ⊥) → get_or (after_all msg s is).0.received j false ≡ get_or s.0.received j false
  unfolding All reached
  lack [] low s g j out = refl
  lack (i ∷ is) low s g j out =
      lack is low.1 (called msg s i) (goes_on s.0 s.1 g i low.0) j (λ m. out (Memᴰ.tail m))
      ∙ only s.0 s.1 g i low.0 j (λ e. out (Memᴰ.head e))

-- a message that is at least a byte and at most `PIECES` pieces long, and a lane with room for its pieces
module _ (msg lane : List ℕ) (id : ℕ) (is : List ℕ) (below : id < LIMIT) (some : 0 < length msg) (most : pieces_of (length msg) ≤ PIECES)
    (room : pieces_of (length msg) * SLICE_SIZE ≤ length lane) (low : All (λ i. i < pieces_of (length msg)) is) where
  begun : Going msg (blank_of id (pieces_of (length msg))) lane
  unfolding blank_of
  begun = record { valid = blank-valid id _ below most; num = refl; kept = holds-new id _ msg lane room }

  ended : Going msg (arrivals msg id lane is).0 (arrivals msg id lane is).1
  ended = going msg is low (blank_of id (pieces_of (length msg)), lane) begun

  -- where each index has come, in any order and with repeats, the message is whole and lies in the lane
  pub whole-once-all-came : ((i : ℕ) → i < pieces_of (length msg) → Memᴰ i is)
      → (answer_of (arrivals msg id lane is).0 ≡ whole (length msg))
      × (take (length msg) (arrivals msg id lane is).1 ≡ msg)
  whole-once-all-came all =
      let c : SliceConstructor = (arrivals msg id lane is).0 in
      let a = says-whole c ended.valid (λ i l. come msg is low (blank_of id (pieces_of (length msg)), lane) begun i (all i (rw (← ended.num) l))) in
      let w = whole-message c ended.valid msg _ ended.num ended.kept some (whole_len c) a in
      (a ∙ ap whole w.0, rw w.0 at w.1)

  -- where one has not, more are to come
  pub missing-until-all-came : (i : ℕ) → i < pieces_of (length msg) → (Memᴰ i is → ⊥)
      → answer_of (arrivals msg id lane is).0 ≡ missing
  unfolding blank_of
  missing-until-all-came i l out =
      says-missing _ ended.valid i (rw ended.num l) (lack msg is low (blank_of id (pieces_of (length msg)), lane) begun i out ∙ none-held PIECES i)
