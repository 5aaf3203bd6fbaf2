-- `session_wire::get` meets its contract: by which call it is. Assumes nothing.
use native.Mathlib.Omega.{arith}
use borrow.Author.Tests.{ne_eqb}
use Rattle.session_wire.specs.Wire.{get_said}
use Rattle.session_wire.proofs.get.Goals as goal

pub returns-in-11 : goal.returns-in-11
unfolding get_said
returns-in-11 c = rw (c.in-11.is, ← c.size-place.ensures, ← c.get_u8.ensures) c.got.ensures

pub returns-in-12 : goal.returns-in-12
unfolding get_said
returns-in-12 c = rw (c.in-12.is, ← c.size-place.ensures, ← c.get_u16.ensures) c.got-in-12.ensures

pub returns-in-13 : goal.returns-in-13
unfolding get_said
returns-in-13 c = rw (c.in-13.is, ← c.size-place.ensures, ← c.get_varint.ensures) c.got-in-13.ensures

pub returns-in-14 : goal.returns-in-14
unfolding get_said
returns-in-14 c = rw (c.in-14.is, ← c.size-place.ensures) c.got_bytes.ensures

pub returns-in_default : goal.returns-in_default
unfolding get_said
returns-in_default c = simp (ne_eqb c.args.k 11 (λ e. absurd (omega arith)), ne_eqb c.args.k 12 (λ e. absurd (omega arith)), ne_eqb c.args.k 13 (λ e. absurd (omega arith)), ne_eqb c.args.k 14 (λ e. absurd (omega arith))) (rw c.word.ensures at c.length.ensures)
