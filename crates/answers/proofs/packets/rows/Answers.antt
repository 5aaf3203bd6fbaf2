-- `answers::packets::rows` meets its contract: what is left, from a place on, gives what the whole gives. Assumes nothing.
use Prim.Native.Nat.{◌+◌, ◌-◌}
use mathlib.Core.Path.{◌≡◌, refl}
use native.Mathlib.Nat.{sub-zero}
use native.Mathlib.Omega.{arith}
use Rattle.answers.proofs.Rows.{rows-again, rows_end}
use Rattle.answers.proofs.packets.rows.Goals as goal

pub loop-init : goal.loop-init
loop-init c = rw sub-zero refl

pub loop-preserved : goal.loop-preserved
loop-preserved c =
    let n : c.args.count - (c.loop.counter + 1) ≡ c.args.count - c.loop.counter - 1 = omega arith in
    rw n (rows-again _ _ _ _ _ _ _ _ _ _ (omega arith) (omega (arith, c.loop-test.true)) c.words_from.ensures c.line-a.ensures c.sum-j.ensures c.loop.invariant)

pub returns : goal.returns
returns c = rows_end _ c.args.t.now _ c.loop.j _ _ _ (omega (arith, c.loop-test.false)) c.loop.invariant
