-- `bench_calls::sr_sent` meets its contract: each turn is one round. Assumes nothing.
use mathlib.Core.Path.{◌≡◌}
use lib.ListN.{length}
use Rattle.bench_calls.specs.Times.{Times}
use Rattle.bench_calls.specs.Ends.{sending, SrSends}
use Rattle.bench_calls.proofs.sr_sent.Given as goal

-- what is written to stays as long as it was
abbrev pub invariant-loop : goal.invariant-loop
invariant-loop l =
    Times (SrSends l.small l.lanes) l.counter (sending l.initial.state l.initial.out l.initial.table l.initial.packets) (sending l.state l.out l.table l.packets)
    × (length l.out ≡ length l.initial.out) × (length l.table ≡ length l.initial.table)
