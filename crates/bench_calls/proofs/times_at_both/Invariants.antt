-- `bench_calls::times_at_both` meets its contract: each turn is one step. Assumes nothing.
use Rattle.bench_calls.specs.Times.{Times, held}
use Rattle.bench_calls.specs.Calls.{StepsAtBoth}
use Rattle.bench_calls.proofs.times_at_both.Given as goal

abbrev pub invariant-loop-k : goal.invariant-loop-k
invariant-loop-k g l = Times (StepsAtBoth g.F.Fn l.step) l.k (held l.fn.state l.fn.small l.fn.lanes) (held l.state l.small l.lanes)
