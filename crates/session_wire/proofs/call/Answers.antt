-- `session_wire::call` meets its contract: by whether the call is `lend`. Assumes nothing.
use mathlib.Core.Path.{refl}
use Rattle.session_wire.specs.Wire.{lends, answers}
use borrow.Author.Tests.{eq-eqb, ne_eqb}
use Rattle.session_wire.proofs.call.Goals as goal

pub returns-then-k-eq0 : goal.returns-then-k-eq0
returns-then-k-eq0 c = (rw (eq-eqb _ _ c.if-k-eq0.true) c.lend.ensures, lends c.if-k-eq0.true refl refl refl c.line-a.ensures)

pub returns : goal.returns
returns c = (rw (ne_eqb _ _ c.if-k-eq0.false) refl, answers c.if-k-eq0.false _ c.answer-a.ensures c.text.ensures)
