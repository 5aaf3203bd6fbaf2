-- `session_wire::small` meets its contract: by what the words are. Assumes nothing.
use mathlib.Core.Path.{refl}
use Rattle.session_wire.proofs.small.Goals as goal

pub returns : goal.returns
returns c = rw (c.size.ensures, c.word-2.ensures, c.word.ensures) refl
