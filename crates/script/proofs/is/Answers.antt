-- `script::is` meets its contract. Assumes nothing.
use Rattle.std.proofs.lemmas.Bool.Decides.{Decides-eqb}
use Rattle.std.proofs.lemmas.Slice.Eq.{slice_eq-Decides}
use Rattle.script.proofs.Words.{same-decided}
use Rattle.script.proofs.is.Goals as goal

pub returns : goal.returns
returns c = same-decided _ _ _ (slice_eq-Decides Decides-eqb _ _ _ c.eq.ensures)
