-- `say::byte` meets its contract. Assumes nothing.
use Rattle.say.proofs.Page.{says-as}
use Rattle.say.proofs.Spelling.{byte-is}
use Rattle.say.proofs.byte.Goals as goal

pub returns : goal.returns
returns c =
    says-as _ _ _ _ _ _
    (byte-is c.args.b c.hex-k.result _ c.ranges.b.fits (rw c.from.ensures at c.hex-k.ensures.len) (rw c.from.ensures at c.hex-k.ensures.digits))
    c.text.ensures
