-- `lower`, `highest` and `lowers` at each of their cases, in the terms in which code meets them. Assumes nothing.
use Prim.Native.Nat.{ℕ, zero, suc, ◌+◌, ◌-◌, ◌≤◌, ◌<◌}
use mathlib.Core.Path.{◌≡◌, refl, ◌∙◌}
use mathlib.Core.List.{List, ◌∷◌}
use native.Mathlib.Omega.{arith}
use borrow.Author.Tests.{le-leb, lt-leb}
use Rattle.octets.specs.Reader.{Res, ok, fault, then, need}
use Rattle.octets.specs.Varint.{var}
use Rattle.packet_ack.specs.Ack.{Range, sized, lower, lowers}
use Rattle.packet_ack.specs.Steps.{range, highest, ended}

-- ---- one lower range

module _ (s : List ℕ) (at above : ℕ) where
  pub no_gap : {x : ℕ} → fault x ≡ var s at → fault x ≡ lower above s at
  unfolding lower
  no_gap e = simp (← e)

  module _ {gap a : ℕ} (e : ok gap a ≡ var s at) where
    pub bad-gap : above < 2 + gap → fault 5 ≡ lower above s at
    unfolding lower need
    bad-gap h = simp (← e, lt-leb _ _ h)

    module _ (h : 2 + gap ≤ above) where
      pub no_size : {x : ℕ} → fault x ≡ var s a → fault x ≡ lower above s at
      unfolding lower need
      no_size e' = simp (← e, le-leb _ _ h, ← e')

      module _ {size b : ℕ} (e' : ok size b ≡ var s a) where
        pub bad-size : above - gap - 2 < size → fault 5 ≡ lower above s at
        unfolding lower need sized
        bad-size h' = simp (← e, le-leb _ _ h, ← e', lt-leb _ _ h')

        pub lower-whole : size ≤ above - gap - 2 → ok (range (above - gap - 2 - size) (above - gap - 2 + 1)) b ≡ lower above s at
        unfolding lower need sized
        lower-whole h' = simp (← e, le-leb _ _ h, ← e', le-leb _ _ h')

-- ---- the highest range

module _ (s : List ℕ) (at : ℕ) where
  pub no_last : {x : ℕ} → fault x ≡ var s at → fault x ≡ highest s at
  unfolding highest
  no_last e = simp (← e)

  module _ {last a : ℕ} (e : ok last a ≡ var s at) where
    pub no-top-size : {x : ℕ} → fault x ≡ var s a → fault x ≡ highest s at
    unfolding highest
    no-top-size e' = simp (← e, ← e')

    module _ {size b : ℕ} (e' : ok size b ≡ var s a) where
      pub no-remaining : {x : ℕ} → fault x ≡ var s b → fault x ≡ highest s at
      unfolding highest
      no-remaining e'' = simp (← e, ← e', ← e'')

      module _ {k next : ℕ} (e'' : ok k next ≡ var s b) where
        pub bad-top : last < size → fault 5 ≡ highest s at
        unfolding highest need sized
        bad-top h = simp (← e, ← e', ← e'', lt-leb _ _ h)

        pub top-whole : size ≤ last → ok (record { top = range (last - size) (last + 1); lower = k }) next ≡ highest s at
        unfolding highest need sized
        top-whole h = simp (← e, ← e', ← e'', le-leb _ _ h)

-- ---- lower ranges, of which the first is read

lowers-more : (k above : ℕ) (s : List ℕ) (at : ℕ)
    → lowers (suc k) above s at ≡ then (lower above s at) (λ x next. then (lowers k x.start s next) (λ rs b. ok (x ∷ rs) b))
unfolding lowers
lowers-more k above s at = refl

-- X is how the whole walk ends
walk-then : (x : Range) (r : Res (List Range)) → ended r ≡ ended (then r (λ rs next. ok (x ∷ rs) next))
walk-then x (ok rs next) = refl
walk-then x (fault e) = refl

pub walk_none : (s : List ℕ) (at above k : ℕ) {X : Res (Unit {0})} → k ≤ 0 → ended (lowers k above s at) ≡ X → ok tt at ≡ X
unfolding lowers
walk_none s at above zero h inv = inv
walk_none s at above (suc k) h inv = absurd (omega arith)

module _ (s : List ℕ) (at above : ℕ) {k m : ℕ} (h : m ≡ suc k) {X : Res (Unit {0})} (inv : ended (lowers m above s at) ≡ X) where
  pub walk_refused : {x : ℕ} → fault x ≡ lower above s at → fault x ≡ X
  walk_refused e = simp (h, lowers-more, ← e) at inv

  pub walk_more : {r : Range} {next : ℕ} → ok r next ≡ lower above s at → ended (lowers k r.start s next) ≡ X
  walk_more {r} {next} e = walk-then r (lowers k r.start s next) ∙ (simp (h, lowers-more, ← e) at inv)
