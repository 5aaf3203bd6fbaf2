-- `pack::put_group` meets its contract. Assumes nothing.
use mathlib.Core.Path.{refl}
use Rattle.pack.proofs.put_group.Goals as goal

pub returns : goal.returns
returns c = (rw c.form_len-head.ensures.0, refl)
