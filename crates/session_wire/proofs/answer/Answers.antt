-- `session_wire::answer` meets its contract: by which call it is. Assumes nothing.
use native.Mathlib.Omega.{arith}
use mathlib.Core.Path.{refl}
use Rattle.session_wire.specs.Wire.{digests, reads, others}
use Rattle.session_wire.proofs.answer.Goals as goal

pub returns-in-1 : goal.returns-in-1
returns-in-1 c = digests c.in-1.is refl refl refl c.digest.ensures

pub returns-in-2 : goal.returns-in-2
returns-in-2 c = reads c.in-2.is refl c.decoded.ensures

pub returns-in_default : goal.returns-in_default
returns-in_default c = others (λ e. absurd (omega arith)) (λ e. absurd (omega arith)) refl refl c.on_out.ensures
