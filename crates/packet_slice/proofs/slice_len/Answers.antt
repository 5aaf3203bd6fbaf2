-- `packet_slice::slice_len` meets its contract. Assumes nothing.
use native.Mathlib.Omega.{arith}
use Rattle.packet_slice.specs.Steps.{slice_len_of}
use Rattle.packet_slice.proofs.slice_len.Goals as goal

pub returns : goal.returns
unfolding slice_len_of
returns c = omega arith
