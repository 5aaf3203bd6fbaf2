-- `answers::packets::listed` meets its contract: each turn is one packet more. Assumes nothing.
use mathlib.Core.Path.{◌≡◌}
use native.Mathlib.Omega.{arith}
use native.Mathlib.Numerals.{add-one}
use Rattle.answers.specs.Rounds.{none, more}
use Rattle.answers.proofs.packets.listed.Goals as goal

pub loop-k-init : goal.loop-k-init
loop-k-init c = none

pub loop-k-preserved : goal.loop-k-preserved
loop-k-preserved c = rw add-one (more c.loop-k.invariant c.taken_apart-a.ensures)

pub returns : goal.returns
returns c =
    let all : c.args.packets ≡ c.loop-k.k = omega arith in
    rw all c.loop-k.invariant
