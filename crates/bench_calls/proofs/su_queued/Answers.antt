-- `bench_calls::su_queued` meets its contract: each step is one message more in the sender. Assumes nothing.
use Rattle.std.proofs.Common.{rules}
use Rattle.bench_calls.proofs.Laws.{carried-at-both, left, left-by}
use Rattle.bench_calls.proofs.su_queued.Goals as goal

pub returns : goal.returns
returns c =
    let made = c.new-state in
    record {
      new = made.result.state;
      made = left made.result made.ensures;
      fills = carried-at-both (λ k s t m l m' l' p. left-by (search rules)) c.times_at_both.ensures;
    }
