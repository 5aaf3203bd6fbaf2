-- `send_reliable::close` meets its contract: those after k are copied. Assumes nothing.
use Prim.Native.Nat.{suc, ◌+◌, ◌-◌}
use mathlib.Core.Path.{◌≡◌}
use native.Mathlib.Omega.{arith}
use lib.ListN.{length}
use Rattle.send_reliable.proofs.close.Goals as goal

pub returns : goal.returns
returns c =
    let k = c.args.k in
    let n = length c.args.rows.now in
    let e : k + 1 ≡ suc k = omega arith in
    let f : n - suc k ≡ n - 1 - k = omega arith in
    (rw (c.copy_within.ensures.after, e, f, c.blank.ensures), omega arith)
