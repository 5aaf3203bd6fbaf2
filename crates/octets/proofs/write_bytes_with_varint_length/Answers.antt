-- `octets::write_bytes_with_varint_length` meets its contract. Assumes nothing.
use native.Mathlib.Omega.{arith}
use Rattle.octets.proofs.Runs.{wrote-run}
use Rattle.octets.proofs.write_bytes_with_varint_length.Goals as goal

pub returns : goal.returns
returns c =
    let w = c.write_bytes.ensures in
    let v = c.write_varint-a.ensures in
    (omega arith, wrote-run _ _ _ w.1 v.0 v.1)
