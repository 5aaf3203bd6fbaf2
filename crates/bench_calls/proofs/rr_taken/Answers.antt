-- `bench_calls::rr_taken` meets its contract: each step is a take. Assumes nothing.
use Rattle.std.proofs.Common.{rules}
use Rattle.bench_calls.proofs.Laws.{carried, left-by}
use Rattle.bench_calls.proofs.rr_taken.Goals as goal

pub returns : goal.returns
returns c = carried (λ k s t p. left-by (search rules)) c.times.ensures
