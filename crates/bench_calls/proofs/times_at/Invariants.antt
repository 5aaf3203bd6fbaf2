-- `bench_calls::times_at` meets its contract: each turn is one step. Assumes nothing.
use Rattle.bench_calls.specs.Times.{Times}
use Rattle.bench_calls.specs.Calls.{StepsAt}
use Rattle.bench_calls.proofs.times_at.Given as goal

abbrev pub invariant-loop-k : goal.invariant-loop-k
invariant-loop-k g l = Times (StepsAt g.F.Fn l.step) l.k (l.fn.state, l.fn.store) (l.state, l.store)
