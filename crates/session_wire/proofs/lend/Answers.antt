-- `session_wire::lend` meets its contract: by what `size` promises. Assumes nothing.
use mathlib.Core.Path.{refl}
use Rattle.session_wire.proofs.lend.Goals as goal

pub returns : goal.returns
returns c = rw (c.size-3.ensures, c.size-2.ensures, c.size.ensures) refl
