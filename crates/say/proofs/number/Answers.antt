-- `say::number` meets its contract. Assumes nothing.
use Rattle.say.proofs.Page.{says-as}
use Rattle.say.proofs.Digits.{decimal-is}
use Rattle.say.proofs.number.Goals as goal

pub returns : goal.returns
returns c =
    says-as _ _ _ _ _ _
    (decimal-is _ c.decimal-k.result _ c.ranges.v.fits
    c.decimal-k.ensures.len
    c.decimal-k.ensures.digits)
    c.text.ensures
