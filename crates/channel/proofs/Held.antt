-- The search of a table by id: what it finds, and its steps. Assumes nothing.
use Prim.Native.Nat.{ℕ, suc, ◌+◌, ◌≤◌, ◌<◌}
use mathlib.Core.Path.{◌≡◌, refl}
use mathlib.Core.Bool.{Bool, true, false}
use mathlib.Core.List.{List, [], ◌∷◌}
use native.Mathlib.Nat.{not-suc-le-zero, le_of_suc-le-suc}
use native.Mathlib.Numerals.{add-one}
use native.Mathlib.Omega.{arith}
use borrow.Author.Tests.{eqb-true, eq-eqb, ne_eqb}
use lib.Dec.{eqb}
use lib.ListN.{length, get_or, drop, drop_of_length-le}
use lib.Seq.{drop-cons}
use Rattle.words.specs.Choice.{pick}
use Rattle.channel.specs.Find.{held_at}

-- ---- what is found: an entry that is held and has the id

-- of the entry at k
pub record Here (hs : List Bool) (ids : List ℕ) (x k : ℕ) : Type 0 where
  pub held : get_or hs k false ≡ true
  pub named : get_or ids k 0 ≡ x

next_here : {h : Bool} {hs : List Bool} {i : ℕ} {ids : List ℕ} {x k : ℕ} → Here hs ids x k → Here (h ∷ hs) (i ∷ ids) x (suc k)
next_here e = record { held = e.held; named = e.named }

found-test : (h t : Bool) (hs : List Bool) (i : ℕ) (ids : List ℕ) (x r : ℕ) → eqb i x ≡ t → (r < length hs → Here hs ids x r)
    → pick h (pick t 0 (suc r)) (suc r) < suc (length hs) → Here (h ∷ hs) (i ∷ ids) x (pick h (pick t 0 (suc r)) (suc r))
found-test true true hs i ids x r e rest low = record { held = refl; named = eqb-true i x e }
found-test true false hs i ids x r e rest low = next_here (rest (le_of_suc-le-suc low))
found-test false t hs i ids x r e rest low = next_here (rest (le_of_suc-le-suc low))

pub found : (hs : List Bool) (ids : List ℕ) (x : ℕ) → length hs ≡ length ids → held_at hs ids x < length hs → Here hs ids x (held_at hs ids x)
unfolding held_at
found [] ids x e low = absurd (not-suc-le-zero low)
found (h ∷ hs) [] x e low = absurd (omega arith)
found (h ∷ hs) (i ∷ ids) x e low = found-test h (eqb i x) hs i ids x (held_at hs ids x) refl (found hs ids x (omega arith)) low

-- ---- a walk: what is found from place i on is what is found in the whole

module _ (hs : List Bool) (ids : List ℕ) (x i : ℕ) (so : i + held_at (drop i hs) (drop i ids) x ≡ held_at hs ids x) where
  -- past the end
  pub at-end : length hs ≤ i → i ≡ held_at hs ids x
  unfolding held_at
  at-end h = let e : held_at (drop i hs) (drop i ids) x ≡ 0 = rw (drop_of_length-le hs h) in omega arith

  module _ (long : length hs ≡ length ids) (low : i < length hs) where
    -- the entry here is the one
    pub at_here : get_or hs i false ≡ true → get_or ids i 0 ≡ x → i ≡ held_at hs ids x
    unfolding held_at
    at_here h f =
        let e : held_at (drop i hs) (drop i ids) x ≡ 0 = rw (drop-cons hs i false low, drop-cons ids i 0 (omega arith), h, eq-eqb _ _ f) in
        omega arith

    -- or it is free, or another's
    pub past-free : get_or hs i false ≡ false → i + 1 + held_at (drop (i + 1) hs) (drop (i + 1) ids) x ≡ held_at hs ids x
    unfolding held_at
    past-free h =
        let e : held_at (drop i hs) (drop i ids) x ≡ suc (held_at (drop (suc i) hs) (drop (suc i) ids) x) = rw (drop-cons hs i false low, drop-cons ids i 0 (omega arith), h) in
        rw (add-one i) (omega arith)

    pub past-other : get_or hs i false ≡ true → (get_or ids i 0 ≡ x → ⊥) → i + 1 + held_at (drop (i + 1) hs) (drop (i + 1) ids) x ≡ held_at hs ids x
    unfolding held_at
    past-other h f =
        let e : held_at (drop i hs) (drop i ids) x ≡ suc (held_at (drop (suc i) hs) (drop (suc i) ids) x) = rw (drop-cons hs i false low, drop-cons ids i 0 (omega arith), h, ne_eqb _ _ f) in
        rw (add-one i) (omega arith)
