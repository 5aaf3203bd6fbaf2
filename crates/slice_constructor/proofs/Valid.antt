-- What no refusal says of a piece, and that a new reassembly, and one with a piece more, are valid. Assumes nothing.
use Prim.Native.Nat.{ℕ, ◌+◌, ◌*◌, ◌≤◌, ◌<◌}
use mathlib.Core.Path.{◌≡◌, refl, sym}
use mathlib.Core.List.{List, [], ◌∷◌}
use mathlib.Core.Bool.{Bool, true, false, not}
use native.Mathlib.Omega.{arith}
use borrow.Author.Tests.{ltb-false, leb-true, leb-false, eqb-true, not-false, le-ltb, lt-leb}
use lib.Dec.{ltb, leb, eqb}
use lib.ListN.{length, get_or, set, replicate, length-set, length-replicate}
use lib.Seq.{drop-set-lt, set-get_or}
use Rattle.words.specs.Sizes.{SLICE_SIZE, PIECES, LIMIT}
use Rattle.std.specs.Prelude.{Ok, Err}
use Rattle.words.specs.Refusal.{number_of}
use Rattle.words.specs.declared.Refusal.{Refusal}
use Rattle.words.proofs.Unique.{numbered-above}
use Rattle.words.specs.Lists.{holds, All}
use Rattle.words.proofs.Lists.{holds_more, none-refused}
use Rattle.slice_constructor.specs.declared.SliceConstructor.{SliceConstructor}
use Rattle.slice_constructor.specs.Collect.{Valid, blank_of, begin_refusal, BeginGives, sized, collect_refusal, more, taken}
use Rattle.words.proofs.Tables.{pick-cases, holds-split}

-- ---- a piece that is not refused

-- piece i of c has n bytes, and the lane m
pub record Good (c : SliceConstructor) (i n m : ℕ) : Type 0 where
  pub room : c.num_slices * SLICE_SIZE ≤ m
  pub low : i < c.num_slices
  pub size : sized c i n ≡ true

pub good : (c : SliceConstructor) (i n m : ℕ) → collect_refusal c i n m ≡ 0 → Good c i n m
unfolding collect_refusal All
good c i n m e =
    let t =
    none-refused (
    (ltb m (c.num_slices * SLICE_SIZE), 10) ∷
    (leb c.num_slices i, 8) ∷
    (not (sized c i n), 8) ∷ []
    )
    refl e in
    record { room = ltb-false _ _ t.0; low = leb-false _ _ t.1.0; size = not-false _ t.1.1.0 }

pub not-refused : (c : SliceConstructor) (i n m : ℕ) → Good c i n m → collect_refusal c i n m ≡ 0
unfolding collect_refusal
not-refused c i n m g = simp (le-ltb _ _ g.room, lt-leb _ _ g.low, g.size)

-- no piece is longer than 1,200
pub piece-most : (c : SliceConstructor) (i n m : ℕ) → Good c i n m → n ≤ SLICE_SIZE
piece-most c i n m g =
    pick-cases (λ b. b ≡ true → n ≤ SLICE_SIZE) (eqb (i + 1) c.num_slices)
    (λ _ e. leb-true n SLICE_SIZE e)
    (λ _ e. omega (arith, eqb-true n SLICE_SIZE e))
    g.size

-- so it lies within the lane
pub piece-room : (c : SliceConstructor) (i n m : ℕ) → Good c i n m → i * SLICE_SIZE + n ≤ m
piece-room c i n m g = let s = piece-most c i n m g in omega arith

-- ---- valid states

pub blank-valid : (id n : ℕ) → id < LIMIT → n ≤ PIECES → Valid (blank_of id n)
unfolding blank_of holds
blank-valid id n below most =
    let free : List Bool = replicate PIECES false in
    let none : holds free ≡ 0 = refl in
    record {
      id_below = below;
      num-most = most;
      received-long = length-replicate PIECES false;
      counted = refl;
      none-past = omega (arith, holds-split n free);
      last-most = omega arith;
    }

-- a beginning, by its judgement
pub begin-good : (id n : ℕ) → begin_refusal id n ≡ 0 → (id < LIMIT) × (n ≤ PIECES)
unfolding begin_refusal All
begin-good id n e =
    let t = none-refused ((leb LIMIT id, 13) ∷ (eqb n 0, 8) ∷ (ltb PIECES n, 12) ∷ []) refl e in
    (leb-false _ _ t.0, ltb-false _ _ t.1.1.0)

pub begun : (id n : ℕ) → begin_refusal id n ≡ 0 → BeginGives id n (record { answer = Ok tt; state = blank_of id n })
begun id n e = let g = begin-good id n e in record { number = sym e; state = rw e; valid = blank-valid id n g.0 g.1 }

pub not-begun : (id n : ℕ) (e : Refusal) → begin_refusal id n ≡ number_of e → BeginGives id n (record { answer = Err e; state = blank_of 0 0 })
not-begun id n e h = record { number = sym h; state = rw (h, numbered-above e); valid = blank-valid 0 0 (omega arith) (omega arith) }

module _ (c : SliceConstructor) (v : Valid c) (i n m : ℕ) (g : Good c i n m) where
  pub in_table : i < length c.received
  in_table = omega (arith, v.received-long, v.num-most, g.low)

  pub more-valid : get_or c.received i false ≡ false → Valid (more c i n)
  more-valid free =
      let size = piece-most c i n m g in
      record {
        id_below = v.id_below;
        num-most = v.num-most;
        received-long = simp length-set v.received-long;
        counted = rw (holds_more c.received i in_table free) (omega (arith, v.counted));
        none-past = rw (drop-set-lt c.num_slices c.received i true g.low) v.none-past;
        last-most = pick-cases (λ k. k ≤ SLICE_SIZE) (eqb (i + 1) c.num_slices) (λ _. size) (λ _. v.last-most);
      }

  pub taken-valid : Valid (taken c i n)
  unfolding taken
  taken-valid = pick-cases Valid (get_or c.received i false) (λ _. v) more-valid

-- a piece changes neither the id nor the number of pieces
pub taken-id : (c : SliceConstructor) (i n : ℕ) → (taken c i n).message_id ≡ c.message_id
unfolding taken
taken-id c i n = pick-cases (λ (d : SliceConstructor). d.message_id ≡ c.message_id) (get_or c.received i false) (λ _. refl) (λ _. refl)

pub taken-num : (c : SliceConstructor) (i n : ℕ) → (taken c i n).num_slices ≡ c.num_slices
unfolding taken
taken-num c i n = pick-cases (λ (d : SliceConstructor). d.num_slices ≡ c.num_slices) (get_or c.received i false) (λ _. refl) (λ _. refl)

-- and it is here then
pub taken-received : (c : SliceConstructor) (i n : ℕ) → (taken c i n).received ≡ set c.received i true
unfolding taken
taken-received c i n =
    pick-cases (λ (d : SliceConstructor). d.received ≡ set c.received i true) (get_or c.received i false)
    (λ e. rw e at (sym (set-get_or c.received i false)))
    (λ _. refl)
