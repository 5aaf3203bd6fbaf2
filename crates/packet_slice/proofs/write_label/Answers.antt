-- `packet_slice::write_label` meets its contract. Assumes nothing.
use native.Mathlib.Omega.{arith}
use Rattle.packet_slice.proofs.Wrote.{wrote-label}
use Rattle.packet_slice.proofs.write_label.Goals as goal

pub returns : goal.returns
returns c = (omega arith, search wrote-label)
