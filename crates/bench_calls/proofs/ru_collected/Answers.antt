-- `bench_calls::ru_collected` meets its contract: each step is one piece more in the receiver. Assumes nothing.
use mathlib.Core.Path.{◌≡◌, refl}
use Rattle.std.proofs.Common.{rules}
use Rattle.receive_unreliable.specs.Receive.{Arrived, SliceGives}
use Rattle.bench_calls.specs.Times.{held}
use Rattle.bench_calls.proofs.Laws.{carried-at, left, left-by}
use Rattle.bench_calls.proofs.ru_collected.Goals as goal

pub returns : goal.returns
returns c =
    let made = c.new-state in
    let fills =
    carried-at (λ s m. held s c.args.small.now m)
    (λ k s t m m' p.
    let called : (r : Arrived) × SliceGives s.now 0 c.args.count k c.args.payload.now 0 c.args.small.now m.now m'.now r × (t.now ≡ r.state) = search rules in
    (left-by called, refl))
    c.times_at.ensures in
    record { new = made.result.state; made = left made.result made.ensures; fills = fills }
