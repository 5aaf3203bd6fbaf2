-- `bench_calls::times` meets its contract: each turn is one step. Assumes nothing.
use Rattle.bench_calls.specs.Times.{Times}
use Rattle.bench_calls.specs.Calls.{Steps}
use Rattle.bench_calls.proofs.times.Given as goal

abbrev pub invariant-loop-k : goal.invariant-loop-k
invariant-loop-k g l = Times (Steps g.F.Fn l.step) l.k l.fn.state l.state
