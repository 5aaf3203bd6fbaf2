-- `bench_calls::times` meets its contract: each turn is one step. Assumes nothing.
use mathlib.Core.Path.{◌≡◌, refl}
use native.Mathlib.Omega.{arith}
use native.Mathlib.Numerals.{add-one}
use Rattle.bench_calls.specs.Times.{none, more}
use Rattle.bench_calls.specs.Calls.{Steps}
use Rattle.bench_calls.proofs.times.Goals as goal

pub loop-k-init : goal.loop-k-init
loop-k-init g c = none

pub loop-k-preserved : goal.loop-k-preserved
loop-k-preserved g c =
    let went : Steps _ _ _ _ _ = record { shown = _; left = _; shows = refl; met = c.step.ensures; leaves = refl } in
    rw add-one (more c.loop-k.invariant went)

pub returns : goal.returns
returns g c = let all : c.args.count ≡ c.loop-k.k = omega arith in rw all c.loop-k.invariant
