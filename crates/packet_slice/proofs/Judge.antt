-- `put_slice_of` at each of its cases, in the terms in which code meets them. Assumes nothing.
use Prim.Native.Nat.{ℕ, ◌+◌, ◌≤◌, ◌<◌}
use mathlib.Core.Path.{◌≡◌, refl, sym, ◌∙◌}
use mathlib.Core.Bool.{Bool, true, false}
use mathlib.Core.List.{List, [], ◌∷◌}
use native.Mathlib.Omega.{arith}
use borrow.Author.Tests.{lt-ltb, le-ltb, le-leb, lt-leb, ltb-false, leb-false}
use lib.ListN.{length}
use lib.Dec.{ltb, leb}
use Rattle.words.specs.Sizes.{LIMIT}
use Rattle.words.specs.Choice.{pick, refusal}
use Rattle.words.specs.Lists.{All}
use Rattle.octets.specs.Writer.{done, refused, outcome}
use Rattle.packet_slice.specs.Slice.{Slice}
use Rattle.packet_slice.specs.Write.{slice_bytes, slice_said, slice_refusal, put_slice_of}
use Rattle.packet_slice.specs.Steps.{any_large, too_large_of, slice_len_of, Judged}
use Rattle.packet_slice.proofs.Wrote.{length-slice}

-- ---- numbers that are too large, as code meets them one after the other

module _ (v : ℕ) (vs : List ℕ) where
  pub large-here : LIMIT ≤ v → any_large (v ∷ vs) ≡ true
  unfolding any_large
  large-here h = simp (le-leb _ _ h)

  pub large-later : any_large vs ≡ true → any_large (v ∷ vs) ≡ true
  unfolding any_large
  large-later e = rw e (same (leb LIMIT v))
    where
      same : (t : Bool) → pick t true true ≡ true
      same true = refl
      same false = refl

pub all_small : (p : Slice) → p.sequence < LIMIT → p.id < LIMIT → p.index < LIMIT → p.num-slices < LIMIT → p.len < LIMIT → too_large_of p ≡ false
unfolding any_large
all_small p a b c d e = simp (lt-leb _ _ a, lt-leb _ _ b, lt-leb _ _ c, lt-leb _ _ d, lt-leb _ _ e)

-- ---- the answers

-- two tests with one number are one test
either : {A : Type 0} (t u : Bool) (x y : A) → pick (pick t true u) x y ≡ pick t x (pick u x y)
either true u x y = refl
either false u x y = refl

neither : (t u : Bool) → pick t true u ≡ false → (t ≡ false) × (u ≡ false)
neither true u e = absurd (let z : ◌≡◌ {A = ℕ} 0 1 = cc in omega arith)
neither false u e = (refl, e)

none-large : (vs : List ℕ) → any_large vs ≡ false → All (λ v. v < LIMIT) vs
unfolding any_large All
none-large [] e = tt
none-large (v ∷ vs) e =
    let n = neither (leb LIMIT v) (any_large vs) e in
    (leb-false LIMIT v n.0, none-large vs n.1)

module _ (p : Slice) (e : too_large_of p ≡ false) where
  -- what was judged may be written
  pub may_write : (k at m : ℕ) → p.place + p.len ≤ k → at + slice_len_of p ≤ m → Judged p k at m
  unfolding All
  may_write k at m h r =
      let n = none-large _ e in
      record {
        stored = h;
        sequence = n.0;
        id = n.1.0;
        index = n.1.1.0;
        num-slices = n.1.1.1.0;
        len = n.1.1.1.1.0;
        room = r;
      }

none-held : (t u v : Bool) (n : ℕ) {next : ℕ} → outcome (refusal ((t, 10) ∷ (u, 13) ∷ (v, 1) ∷ [])) n ≡ done next → (t ≡ false) × (u ≡ false) × (v ≡ false) × (next ≡ n)
none-held true u v n e = absurd (let z : ◌≡◌ {A = ℕ} 0 1 = cc in omega arith)
none-held false true v n e = absurd (let z : ◌≡◌ {A = ℕ} 0 1 = cc in omega arith)
none-held false false true n e = absurd (let z : ◌≡◌ {A = ℕ} 0 1 = cc in omega arith)
none-held false false false n e = (refl, refl, refl, cc)

module _ (reliable : Bool) (p : Slice) (store : List ℕ) (at m : ℕ) where
  ladder : put_slice_of reliable p store at m ≡ outcome (refusal (
      (ltb (length store) (p.place + p.len), 10) ∷
      (too_large_of p, 13) ∷
      (ltb m (at + length (slice_bytes reliable (slice_said store p))), 1) ∷ [])) (at + length (slice_bytes reliable (slice_said store p)))
  unfolding put_slice_of slice_refusal any_large
  ladder = simp either

  pub not-stored : length store < p.place + p.len → refused 10 ≡ put_slice_of reliable p store at m
  not-stored h = rw ladder (simp (lt-ltb _ _ h))

  module _ (h : p.place + p.len ≤ length store) where
    pub number-bad : too_large_of p ≡ true → refused 13 ≡ put_slice_of reliable p store at m
    number-bad e = rw ladder (simp (le-ltb _ _ h, e))

    module _ (e : too_large_of p ≡ false) where
      pub no_room : m < at + slice_len_of p → refused 1 ≡ put_slice_of reliable p store at m
      no_room r = let l = length-slice reliable store p h in rw ladder (simp (le-ltb _ _ h, e, l, lt-ltb _ _ r))

      pub put-to : {next : ℕ} → at + slice_len_of p ≤ m → next ≡ at + length (slice_bytes reliable (slice_said store p)) → done next ≡ put_slice_of reliable p store at m
      put-to r n = let l = length-slice reliable store p h in rw ladder (simp (n, le-ltb _ _ h, e, l, le-ltb _ _ r))

  -- what is accepted was judged
  pub accepted : {next : ℕ} → put_slice_of reliable p store at m ≡ done next → Judged p (length store) at m × (next ≡ at + length (slice_bytes reliable (slice_said store p)))
  accepted e =
      let x = none-held _ _ _ _ (sym ladder ∙ e) in
      let h = ltb-false (length store) (p.place + p.len) x.0 in
      let r = ltb-false m (at + length (slice_bytes reliable (slice_said store p))) x.2 in
      let l = length-slice reliable store p h in
      (may_write p x.1 (length store) at m h (omega arith), x.3)
