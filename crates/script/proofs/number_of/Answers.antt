-- `script::number_of` meets its contract. Assumes nothing.
use native.Mathlib.Omega.{arith}
use borrow.Author.Tests.{ltb-true, ltb-false}
use Rattle.script.proofs.Numbers.{number_short, number-first, number-second, number-power}
use Rattle.script.proofs.number_of.Goals as goal
use Rattle.script.proofs.number_of.Goals.{in_default-via-then-text-lt2, in_default-via-else-text-lt2+in-50+in_default-1, in_default-via-else-text-lt2+in_default-1}

pub returns-in-50 : goal.returns-in-50
returns-in-50 c = number-power _ _ c.in-50.len_at_least (omega arith) (omega arith) c.power.ensures

pub returns-in_default : goal.returns-in_default
returns-in_default c =
    elim c.in_default.branch [
      | in_default-via-then-text-lt2 w ↦ number_short _ _ c.digits.ensures (omega (arith, ltb-true))
      | in_default-via-else-text-lt2+in-50+in_default-1 w ↦ number-second _ _ c.digits.ensures (omega (arith, ltb-false)) (omega arith) (omega arith)
      | in_default-via-else-text-lt2+in_default-1 w ↦ number-first _ _ c.digits.ensures (omega (arith, ltb-false)) (omega arith)
    ]
