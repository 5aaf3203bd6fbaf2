-- `answers::packets::bytes_at` meets its contract: by the two tests. Assumes nothing.
use native.Mathlib.Omega.{arith}
use Rattle.answers.proofs.Places.{bytes-missing, bytes-there}
use Rattle.answers.proofs.packets.bytes_at.Goals as goal
use Rattle.answers.proofs.packets.bytes_at.Goals.{then-s-place-via-then-s-place, then-s-place-via-else-s-place+then-s-place-2}

pub returns-then-s-place : goal.returns-then-s-place
returns-then-s-place c =
    elim c.then-s-place.branch [
      | then-s-place-via-then-s-place w ↦ bytes-missing _ _ _ (omega (arith, w.if-s-place.true))
      | then-s-place-via-else-s-place+then-s-place-2 w ↦ bytes-missing _ _ _ (omega (arith, w.if-s-place.false, w.if-s-place-2.true))
    ]

pub returns : goal.returns
returns c = bytes-there _ _ _ (omega arith)
