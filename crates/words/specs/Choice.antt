-- Choosing by tests, read downwards. Assumes nothing.
use Rattle.std.specs.Prelude.{ℕ, Bool, true, false, List, [], ◌∷◌}

-- the first where the test holds, else the second
abbrev pub pick : {A : Type 0} → Bool → A → A → A
pick true a b = a
pick false a b = b

-- the number of the first test that holds, in the order of the list; 0 where none does
abbrev pub refusal : List (Bool × ℕ) → ℕ
refusal [] = 0
refusal ((t, v) ∷ l) = pick t v (refusal l)
