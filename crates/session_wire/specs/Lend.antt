-- What is lent of the memory of the wire. docs/SCRIPT.md, "Lent memory". Assumes nothing.
use Rattle.std.specs.Prelude.{ℕ, List, get_or, eqb}
use Rattle.words.specs.Choice.{pick}
use Rattle.memory.specs.Sizes.{MESSAGES, RANGES, WIRE}
use Rattle.session_wire.specs.declared.Lent.{Lent}

-- all at first
abbrev pub all_lent : Lent
all_lent = record { messages = MESSAGES; ranges = RANGES; out = WIRE }

-- what `wire lend` says
abbrev pub lent_by : List ℕ → Lent
lent_by ns = record { messages = get_or ns 0 0; ranges = get_or ns 1 0; out = get_or ns 2 0 }

-- after the k-th call: `lend` is the first, and any other leaves what is lent
abbrev pub lent_after_of : ℕ → List ℕ → Lent → Lent
lent_after_of k ns l = pick (eqb k 0) (lent_by ns) l
