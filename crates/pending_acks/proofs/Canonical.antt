-- Rising ranges that name the same are the same ranges. Assumes nothing.
use Prim.Native.Nat.{ℕ, ◌+◌, ◌≤◌}
use mathlib.Core.Path.{◌≡◌, refl, sym, ap, ◌∙◌}
use mathlib.Core.Logic.{inl, inr, ⊎_elim}
use mathlib.Core.List.{List, [], ◌∷◌}
use native.Mathlib.Nat.{le_refl}
use native.Mathlib.Omega.{arith}
use borrow.Author.Tests.{ltb-true, ltb-false}
use lib.Dec.{ltb}
use Rattle.words.proofs.Tables.{by-test}
use Rattle.packet_ack.specs.declared.Range.{Range}
use Rattle.pending_acks.specs.Gather.{named, Rising}
use Rattle.pending_acks.proofs.Ranges.{Named, named-above, is-named, named-is}

-- all that the one names the other names
abbrev pub Covers : List Range → List Range → Type 0
Covers qs rs = (y : ℕ) → Named rs y → Named qs y

module _ (m k : ℕ) (r q : Range) (rs qs : List Range) (w : Rising m (r ∷ rs)) (u : Rising k (q ∷ qs)) (f : Covers (q ∷ qs) (r ∷ rs)) where
  starts-low : q.start ≤ r.start
  unfolding Rising Named
  starts-low = named-above q.start (q ∷ qs) r.start (le_refl q.start, u.1, u.2, u.3) (f r.start (inl (le_refl r.start, w.1)))

  ends-high : r.start ≤ q.start → r.end ≤ q.end
  unfolding Rising Named
  ends-high s =
      by-test (ltb q.end r.end)
      (λ t.
      let l = ltb-true q.end r.end t in
      let a = u.1 in
      ⊎_elim (λ i. absurd (omega arith)) (λ n. absurd (let h = named-above (q.end + 1) qs q.end u.3 n in omega arith)) (f q.end (inl (omega arith, l))))
      (λ t. ltb-false q.end r.end t)

  rest-covers : q.end ≤ r.end → Covers qs rs
  unfolding Rising Named
  rest-covers e y n =
      ⊎_elim (λ i. absurd (let h = named-above (r.end + 1) rs y w.3 n in omega arith)) (λ k. k) (f y (inr n))

pub canonical-from : (m k : ℕ) (rs qs : List Range) → Rising m rs → Rising k qs → Covers qs rs → Covers rs qs → rs ≡ qs
unfolding Rising Named
canonical-from m k [] [] w u f g = refl
canonical-from m k [] (q ∷ qs) w u f g = absurd (g q.start (inl (le_refl q.start, u.1)))
canonical-from m k (r ∷ rs) [] w u f g = absurd (f r.start (inl (le_refl r.start, w.1)))
canonical-from m k (r ∷ rs) (q ∷ qs) w u f g =
    let a = starts-low m k r q rs qs w u f in
    let b = starts-low k m q r qs rs u w g in
    let c = ends-high m k r q rs qs w u f b in
    let d = ends-high k m q r qs rs u w g a in
    let s : r.start ≡ q.start = omega arith in
    let e : r.end ≡ q.end = omega arith in
    let t = canonical-from (r.end + 1) (q.end + 1) rs qs w.3 u.3 (rest-covers m k r q rs qs w u f d) (rest-covers k m q r qs rs u w g c) in
    let h : r ≡ q = λ i. record { start = s i; end = e i } in
    ap (λ (x : Range). x ∷ rs) h ∙ ap (λ (l : List Range). q ∷ l) t

pub canonical : (rs qs : List Range) → Rising 0 rs → Rising 0 qs → ((y : ℕ) → named rs y ≡ named qs y) → rs ≡ qs
canonical rs qs w u e =
    canonical-from 0 0 rs qs w u
    (λ y n. named-is qs y (sym (e y) ∙ is-named rs y n))
    (λ y n. named-is rs y (e y ∙ is-named qs y n))
