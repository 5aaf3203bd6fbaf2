-- `session_wire::slice` meets its contract: by what the words are. Assumes nothing.
use mathlib.Core.Path.{refl}
use Rattle.session_wire.proofs.slice.Goals as goal

pub returns : goal.returns
returns c = rw (c.size-2.ensures, c.size.ensures, c.word-5.ensures, c.word-4.ensures, c.word-3.ensures, c.word-2.ensures, c.word.ensures) refl
