-- `session_wire::put_at` meets its contract: by which call it is. Assumes nothing.
use native.Mathlib.Omega.{arith}
use borrow.Author.Tests.{ne_eqb}
use Rattle.session_wire.specs.Wire.{put_answer, put_letters}
use Rattle.session_wire.proofs.put_at.Goals as goal

pub returns-in-3 : goal.returns-in-3
unfolding put_answer put_letters
returns-in-3 c = rw c.in-3.is c.put_u16.ensures

pub returns-in-4 : goal.returns-in-4
unfolding put_answer put_letters
returns-in-4 c = rw c.in-4.is c.put_varint.ensures

pub returns-in_default : goal.returns-in_default
unfolding put_answer put_letters
returns-in_default c = simp (ne_eqb c.args.k 3 (λ e. absurd (omega arith)), ne_eqb c.args.k 4 (λ e. absurd (omega arith))) c.put_bytes_with_varint_length.ensures
