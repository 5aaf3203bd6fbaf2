-- `session_send::seen` meets its contract: by its tests. Assumes nothing.
use mathlib.Core.Path.{refl}
use borrow.Author.Tests.{eq-eqb, ne_eqb}
use Rattle.session_send.proofs.seen.Goals as goal

pub returns-then-k-eq-DIGEST : goal.returns-then-k-eq-DIGEST
returns-then-k-eq-DIGEST c = simp (eq-eqb _ _ c.if-k-eq-DIGEST.true) c.all.ensures.0

pub returns-then-reliable : goal.returns-then-reliable
returns-then-reliable c = simp (ne_eqb _ _ c.if-k-eq-DIGEST.false, c.if-reliable.true, ← c.s.view_is) refl

pub returns : goal.returns
returns c = simp (ne_eqb _ _ c.if-k-eq-DIGEST.false, c.if-reliable.false, ← c.s.view_is) refl
