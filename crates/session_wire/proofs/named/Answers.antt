-- `session_wire::named` meets its contract: by which call it is. Assumes nothing.
use mathlib.Core.Path.{refl}
use native.Mathlib.Omega.{arith}
use borrow.Author.Tests.{ne_eqb}
use Rattle.session_wire.specs.Wire.{packet_by}
use Rattle.session_wire.proofs.named.Goals as goal

pub returns-in-6 : goal.returns-in-6
unfolding packet_by
returns-in-6 c = rw (c.in-6.is, c.small.ensures) refl

pub returns-in-7 : goal.returns-in-7
unfolding packet_by
returns-in-7 c = rw (c.in-7.is, c.small-in-7.ensures) refl

pub returns-in-8 : goal.returns-in-8
unfolding packet_by
returns-in-8 c = rw (c.in-8.is, c.slice.ensures) refl

pub returns-in-9 : goal.returns-in-9
unfolding packet_by
returns-in-9 c = rw (c.in-9.is, c.slice-in-9.ensures) refl

pub returns-in_default : goal.returns-in_default
unfolding packet_by
returns-in_default c = simp (ne_eqb c.args.k 6 (λ e. absurd (omega arith)), ne_eqb c.args.k 7 (λ e. absurd (omega arith)), ne_eqb c.args.k 8 (λ e. absurd (omega arith)), ne_eqb c.args.k 9 (λ e. absurd (omega arith)), c.size.ensures, c.word.ensures) refl
