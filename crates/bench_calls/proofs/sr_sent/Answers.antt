-- `bench_calls::sr_sent` meets its contract: each turn is one round. Assumes nothing.
use mathlib.Core.Path.{◌≡◌, refl}
use native.Mathlib.Omega.{arith}
use native.Mathlib.Numerals.{add-one}
use Rattle.bench_calls.specs.Times.{none, more}
use Rattle.bench_calls.proofs.sr_sent.Goals as goal

pub loop-init : goal.loop-init
loop-init c = (none, refl, refl)

pub loop-preserved : goal.loop-preserved
loop-preserved c =
    let round = c.get_packets_to_send-round in
    (rw add-one (more c.loop.invariant.0 (record { round = round.result; gives = round.ensures; state = refl; packets = c.packets_of-packets.ensures })), omega arith, omega arith)

pub returns : goal.returns
returns c =
    let all : c.args.rounds ≡ c.loop.counter = omega arith in
    record { rest = c.loop.state; rounds-sent = rw all c.loop.invariant.0 }
