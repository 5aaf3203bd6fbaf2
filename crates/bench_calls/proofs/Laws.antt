-- Calls one after the other by a closure, and one call. Assumes nothing.
use Prim.Native.Nat.{ℕ}
use mathlib.Core.Path.{◌≡◌, refl, subst}
use mathlib.Core.List.{List}
use denote.Ref.{MutBor}
use Rattle.std.specs.Fn.{Shared}
use Rattle.bench_calls.specs.Times.{Times, none, more, Left, Held, held}
use Rattle.bench_calls.specs.Calls.{Bytes, Steps, StepsAt, StepsAtBoth}

-- ---- calls of a closure, as calls by Step of what `of` makes of each state

module _ {F S : Type 0} {g : Shared F (MutBor S × (ℕ × Unit {0})) (Unit {0} × (MutBor S × Unit {0}))} {f : F} {Step : ℕ → S → S → Type 0}
    (each : (k : ℕ) (s t : MutBor S) → g.post f (s, (k, tt)) (tt, (t, tt)) → Step k s.now t.now) where
  pub carried : {n : ℕ} {s t : S} → Times (Steps g f) n s t → Times Step n s t
  carried none = none
  carried (more ts t) = more (carried ts) (rw (← t.shows, ← t.leaves) (each _ t.shown t.left t.met))

module _ {F S T : Type 0} (of : S → List ℕ → T) {g : Shared F (MutBor S × (ℕ × (Bytes × Unit {0}))) (Unit {0} × (MutBor S × (Bytes × Unit {0})))} {f : F} {Step : ℕ → T → T → Type 0}
    (each : (k : ℕ) (s t : MutBor S) (m m' : Bytes) → g.post f (s, (k, (m, tt))) (tt, (t, (m', tt))) → Step k (of s.now m.now) (of t.now m'.now)) where
  pub carried-at : {n : ℕ} {a b : S × List ℕ} → Times (StepsAt g f) n a b → Times Step n (of a.0 a.1) (of b.0 b.1)
  carried-at none = none
  carried-at (more ts t) =
      more (carried-at ts) (rw (← t.shows.0, ← t.shows.1, ← t.leaves.0, ← t.leaves.1) (each _ t.shown t.left t.store t.store' t.met))

module _ {F S : Type 0} {g : Shared F (MutBor S × (ℕ × (Bytes × (Bytes × Unit {0})))) (Unit {0} × (MutBor S × (Bytes × (Bytes × Unit {0}))))} {f : F} {Step : ℕ → Held S → Held S → Type 0}
    (each : (k : ℕ) (s t : MutBor S) (m l m' l' : Bytes) → g.post f (s, (k, (m, (l, tt)))) (tt, (t, (m', (l', tt)))) → Step k (held s.now m.now l.now) (held t.now m'.now l'.now)) where
  pub carried-at-both : {n : ℕ} {a b : Held S} → Times (StepsAtBoth g f) n a b → Times Step n a b
  carried-at-both none = none
  carried-at-both (more {n = k} {t = c} {u = b} ts t) =
      let from : held t.shown.now t.small.now t.lanes.now ≡ c = λ i. record { state = t.shows.0 i; small = t.shows.1 i; lanes = t.shows.2 i } in
      let to : held t.left.now t.small'.now t.lanes'.now ≡ b = λ i. record { state = t.leaves.0 i; small = t.leaves.1 i; lanes = t.leaves.2 i } in
      more (carried-at-both ts)
      (subst (λ x. Step k x b) from (subst (λ x. Step k (held t.shown.now t.small.now t.lanes.now) x) to (each k t.shown t.left t.small t.lanes t.small' t.lanes' t.met)))

-- ---- one call

-- a call leaves the state that is in its answer
pub left : {R S : Type 0} {Promise : R → Type 0} {state_of : R → S} (r : R) → Promise r → Left Promise state_of (state_of r)
left r p = record { answer = r; gives = p; state = refl }

-- the same, where the state is known by an equation
pub left-by : {R S : Type 0} {Promise : R → Type 0} {state_of : R → S} {s : S} → (r : R) × Promise r × (s ≡ state_of r) → Left Promise state_of s
left-by (r, p, e) = record { answer = r; gives = p; state = e }
