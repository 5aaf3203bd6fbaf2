-- `SliceConstructor::blank` meets its contract. Assumes nothing.
use native.Mathlib.Omega.{arith}
use Rattle.slice_constructor.proofs.Valid.{blank-valid}
use Rattle.slice_constructor.proofs.SliceConstructor.blank.Goals as goal

pub returns : goal.returns
returns c = (c.empty.ensures, rw c.empty.ensures (blank-valid 0 0 (omega arith) (omega arith)))
