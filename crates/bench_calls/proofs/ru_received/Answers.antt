-- `bench_calls::ru_received` meets its contract: each step is one message more in the receiver. Assumes nothing.
use mathlib.Core.Path.{◌≡◌, refl}
use Rattle.std.proofs.Common.{rules}
use Rattle.receive_unreliable.specs.Receive.{Arrived, MessageGives}
use Rattle.bench_calls.specs.Times.{held}
use Rattle.bench_calls.proofs.Laws.{carried-at, left, left-by}
use Rattle.bench_calls.proofs.ru_received.Goals as goal

pub returns : goal.returns
returns c =
    let made = c.new-state in
    let fills =
    carried-at (λ s m. held s m c.args.lanes.now)
    (λ k s t m m' p.
    let called : (r : Arrived) × MessageGives s.now c.args.message.now m.now c.args.lanes.now m'.now r × (t.now ≡ r.state) = search rules in
    (left-by called, refl))
    c.times_at.ensures in
    record { new = made.result.state; made = left made.result made.ensures; fills = fills }
