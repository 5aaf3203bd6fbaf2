-- Calls one after the other, for any state and any step. Assumes nothing.
use Rattle.std.specs.Prelude.{ℕ, suc, ◌≡◌, List}

-- n calls, the k-th of them, from 0 on, by Step k
pub data Times {S : Type 0} (Step : ℕ → S → S → Type 0) : ℕ → S → S → Type 0 where
  none : {s : S} → Times Step 0 s s
  more : {n : ℕ} {s t u : S} → Times Step n s t → Step n t u → Times Step (suc n) s u

-- a call that keeps a promise of its answer leaves the state that is in the answer
pub record Left {R S : Type 0} (Promise : R → Type 0) (state_of : R → S) (s : S) : Type 0 where
  pub answer : R
  pub gives : Promise answer
  pub state : s ≡ state_of answer

-- the state of an end, with the two stores that are lent to it
pub record Held (S : Type 0) : Type 0 where
  pub state : S
  pub small : List ℕ
  pub lanes : List ℕ

abbrev pub held : {S : Type 0} → S → List ℕ → List ℕ → Held S
held s small lanes = record { state = s; small = small; lanes = lanes }

-- s is a new end after n calls that fill it, which leave small' and lanes' of the stores
pub record Filled {S : Type 0} (New : S → Type 0) (Fill : ℕ → Held S → Held S → Type 0) (n : ℕ) (small lanes small' lanes' : List ℕ) (s : S) : Type 0 where
  pub new : S
  pub made : New new
  pub fills : Times Fill n (held new small lanes) (held s small' lanes')

-- r is the usage that is left of a new end that n calls filled, after m calls that empty it
pub record UsageLeft {S : Type 0} (New : S → Type 0) (Fill : ℕ → Held S → Held S → Type 0) (n : ℕ) (Drain : ℕ → S → S → Type 0) (m : ℕ) (usage : S → ℕ)
    (small lanes small' lanes' : List ℕ) (r : ℕ) : Type 0 where
  pub full : S
  pub rest : S
  pub filled : Filled New Fill n small lanes small' lanes' full
  pub drained : Times Drain m full rest
  pub answer : r ≡ usage rest
