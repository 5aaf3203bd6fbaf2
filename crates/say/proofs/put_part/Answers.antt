-- `say::put_part` meets its contract. Assumes nothing.
use native.Mathlib.Omega.{arith}
use Rattle.say.proofs.Spelling.{puts_none, puts-byte, puts-stretch}
use Rattle.say.proofs.put_part.Goals as goal
use Rattle.say.proofs.put_part.Goals.{then-page-at-via-then-page-at, then-page-at-via-else-page-at+then-page-at-lt-WIDEST}

pub returns-then-page-at : goal.returns-then-page-at
returns-then-page-at c =
    elim c.then-page-at.branch [
      | then-page-at-via-then-page-at w ↦ puts_none _ _ _ (omega (arith, w.if-page-at.true))
      | then-page-at-via-else-page-at+then-page-at-lt-WIDEST w ↦ puts_none _ _ _ (omega (arith, w.if-page-at.false, w.if-page-at-lt-WIDEST.true))
    ]

pub returns-in-Byte : goal.returns-in-Byte
returns-in-Byte c = puts-byte _ _ (omega (arith, c.if-page-at.false, c.if-page-at-lt-WIDEST.false)) c.args.w c.args.p _ _ _ _ _ c.put_point-k.ensures c.byte.ensures c.in-Byte.is

pub returns-in-Stretch : goal.returns-in-Stretch
returns-in-Stretch c = puts-stretch _ _ (omega (arith, c.if-page-at.false, c.if-page-at-lt-WIDEST.false)) c.args.w c.args.p _ _ _ _ _ c.put_point-k.ensures c.byte-i.ensures _ _ _ _ _ _ c.in-Stretch.is c.put_sign-j.ensures c.number.ensures
