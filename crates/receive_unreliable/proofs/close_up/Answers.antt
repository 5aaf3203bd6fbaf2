-- `close_up` meets its contract: each entry but the last is the one after it. Assumes nothing.
use Prim.Native.Nat.{suc, ◌+◌, ◌-◌}
use mathlib.Core.Path.{◌≡◌}
use native.Mathlib.Omega.{arith}
use Rattle.receive_unreliable.proofs.Lists.{moved_all}
use Rattle.receive_unreliable.proofs.close_up.Goals as goal

pub returns : goal.returns
returns c =
    let e = c.copy_within.ensures in
    moved_all 0 c.args.queue.now c.copy_within.new.self (c.args.count - 1)
    (record {
      long = e.len;
      before = λ k h. let j : 1 + (k - 0) ≡ suc k = omega arith in rw j at (e.by_index.0 k 0 (omega arith) (omega arith));
      after = λ k h. e.by_index.2 k 0 (omega arith);
    })
    (omega (arith, c.requires.0, c.requires.1, c.requires.2))
    (λ k h. c.requires.3 k (omega arith))
