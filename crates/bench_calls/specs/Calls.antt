-- Calls of a closure that takes a state to the next, told the number of the call. Assumes nothing.
use Rattle.std.specs.Prelude.{ℕ, ◌≡◌, List}
use Rattle.std.specs.Fn.{Shared}
use denote.Ref.{MutBor}
use Rattle.bench_calls.specs.Times.{Held}

module _ {F S : Type 0} (g : Shared F (MutBor S × (ℕ × Unit {0})) (Unit {0} × (MutBor S × Unit {0}))) (f : F) where
  -- the k-th step leads from s to t
  pub record Steps (k : ℕ) (s t : S) : Type 0 where
    pub shown : MutBor S
    pub left : MutBor S
    pub shows : shown.now ≡ s
    pub met : g.post f (shown, (k, tt)) (tt, (left, tt))
    pub leaves : left.now ≡ t

abbrev pub Bytes : Type 0
Bytes = MutBor (List ℕ)

module _ {F S : Type 0} (g : Shared F (MutBor S × (ℕ × (Bytes × Unit {0}))) (Unit {0} × (MutBor S × (Bytes × Unit {0})))) (f : F) where
  -- from a state and a store to the next state and what is then in the store
  pub record StepsAt (k : ℕ) (a b : S × List ℕ) : Type 0 where
    pub shown : MutBor S
    pub store : Bytes
    pub left : MutBor S
    pub store' : Bytes
    pub shows : (shown.now ≡ a.0) × (store.now ≡ a.1)
    pub met : g.post f (shown, (k, (store, tt))) (tt, (left, (store', tt)))
    pub leaves : (left.now ≡ b.0) × (store'.now ≡ b.1)

module _ {F S : Type 0} (g : Shared F (MutBor S × (ℕ × (Bytes × (Bytes × Unit {0})))) (Unit {0} × (MutBor S × (Bytes × (Bytes × Unit {0}))))) (f : F) where
  -- the same with two stores
  pub record StepsAtBoth (k : ℕ) (a b : Held S) : Type 0 where
    pub shown : MutBor S
    pub small : Bytes
    pub lanes : Bytes
    pub left : MutBor S
    pub small' : Bytes
    pub lanes' : Bytes
    pub shows : (shown.now ≡ a.state) × (small.now ≡ a.small) × (lanes.now ≡ a.lanes)
    pub met : g.post f (shown, (k, (small, (lanes, tt)))) (tt, (left, (small', (lanes', tt))))
    pub leaves : (left.now ≡ b.state) × (small'.now ≡ b.small) × (lanes'.now ≡ b.lanes)
