-- `script::part` meets its contract. Assumes nothing.
use native.Mathlib.Omega.{arith}
use borrow.Author.Tests.{ltb-true, ltb-false}
use Rattle.script.proofs.Parts.{adds-as, part-short, part-run, part_up, part-plain}
use Rattle.script.proofs.part.Goals as goal
use Rattle.script.proofs.part.Goals.{in_default-via-then-s-lt3, in_default-via-else-s-lt3+in_default-1}

pub returns-in-120 : goal.returns-in-120
returns-in-120 c = adds-as _ _ _ _ _ _ (part-run _ (omega (arith, c.in-120.len_at_least)) (omega arith)) c.stretched.ensures

pub returns-in-126 : goal.returns-in-126
returns-in-126 c = adds-as _ _ _ _ _ _ (part_up _ (omega (arith, c.in-126.len_at_least)) (omega arith) (omega arith)) c.stretched-in-126.ensures

pub returns-in_default : goal.returns-in_default
returns-in_default c =
    elim c.in_default.branch [
      | in_default-via-then-s-lt3 w ↦ adds-as _ _ _ _ _ _ (part-short _ (omega (arith, ltb-true))) c.plain.ensures
      | in_default-via-else-s-lt3+in_default-1 w ↦ adds-as _ _ _ _ _ _ (part-plain _ (omega (arith, ltb-false)) (omega arith) (omega arith)) c.plain.ensures
    ]
