-- `pack::serialized_size` meets its contract. Assumes nothing.
use native.Mathlib.Omega.{arith}
use Rattle.pack.specs.Pack.{packed_len}
use Rattle.pack.proofs.serialized_size.Goals as goal

pub returns-then-ids : goal.returns-then-ids
unfolding packed_len
returns-then-ids c = (rw c.if-ids.true (omega arith), omega arith)

pub returns : goal.returns
unfolding packed_len
returns c = (rw c.if-ids.false (omega arith), omega arith)
