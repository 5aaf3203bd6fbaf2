-- Searching a table by id. Assumes nothing.
use Rattle.std.specs.Prelude.{ℕ, suc, Bool, List, [], ◌∷◌, eqb}
use Rattle.words.specs.Choice.{pick}

-- the place of the first held entry with this id, or the length of the table
unfoldable pub held_at : List Bool → List ℕ → ℕ → ℕ
held_at [] ids x = 0
held_at (h ∷ hs) [] x = suc (held_at hs [] x)
held_at (h ∷ hs) (i ∷ ids) x = pick h (pick (eqb i x) 0 (suc (held_at hs ids x))) (suc (held_at hs ids x))
