-- `say::run` meets its contract. The loop's invariant: as many as were passed, and as many as go on from here, are as many as the whole has. Assumes nothing.
use Prim.Native.Nat.{ℕ, ◌+◌}
use mathlib.Core.Path.{ap}
use native.Mathlib.Omega.{arith}
use lib.ListN.{drop}
use Rattle.say.specs.Spelled.{runs}
use Rattle.say.proofs.Spelling.{runs_on, runs-stop, runs-end}
use Rattle.say.proofs.run.Goals as goal

pub returns-then-s-i : goal.returns-then-s-i
returns-then-s-i c = omega (arith, c.loop-i.invariant, runs-stop c.args.s.now c.args.up c.loop-i.b c.loop-i.i c.loop-i-test.true c.if-s-i.true)

pub loop-i-preserved : goal.loop-i-preserved
loop-i-preserved c = omega (arith, c.loop-i.invariant, runs_on c.args.s.now c.args.up c.loop-i.b c.loop-i.i c.loop-i-test.true c.if-s-i.false, ap (λ (x : ℕ). runs c.args.up x (drop (c.loop-i.i + 1) c.args.s.now)) c.follow-b.ensures)

pub returns : goal.returns
returns c = omega (arith, c.requires, c.loop-i.invariant, runs-end c.args.s.now c.args.up c.loop-i.b c.loop-i.i c.loop-i-test.false)
