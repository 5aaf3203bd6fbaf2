-- `bench_calls::sr_acked` meets its contract: each step is an ack. Assumes nothing.
use Rattle.std.proofs.Common.{rules}
use Rattle.bench_calls.proofs.Laws.{carried, left-by}
use Rattle.bench_calls.proofs.sr_acked.Goals as goal

pub returns : goal.returns
returns c = carried (λ k s t p. left-by (search rules)) c.times.ensures
