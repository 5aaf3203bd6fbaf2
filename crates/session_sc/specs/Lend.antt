-- How much of a reassembly's lane is lent. docs/SCRIPT.md, "Lent memory". Assumes nothing.
use Rattle.std.specs.Prelude.{ℕ, List, get_or, eqb}
use Rattle.words.specs.Choice.{pick}

-- after the k-th call: `lend` is the one at 2, and any other leaves what is lent
abbrev pub lent_after_of : ℕ → List ℕ → ℕ → ℕ
lent_after_of k ns lane = pick (eqb k 2) (get_or ns 0 0) lane
