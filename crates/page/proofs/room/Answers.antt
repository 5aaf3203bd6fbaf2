-- `page::room` meets its contract: by the two tests. Assumes nothing.
use native.Mathlib.Omega.{arith}
use Rattle.page.proofs.Sheets.{place_here, place-front}
use Rattle.page.proofs.room.Goals as goal
use Rattle.page.proofs.room.Goals.{then-page-at-via-then-page-at, then-page-at-via-else-page-at+then-page-at-2}

pub returns-then-page-at : goal.returns-then-page-at
returns-then-page-at c =
    elim c.then-page-at.branch [
      | then-page-at-via-then-page-at w ↦ place-front _ _ _ (omega (arith, w.if-page-at.true)) c.flush.ensures
      | then-page-at-via-else-page-at+then-page-at-2 w ↦ place-front _ _ _ (omega (arith, w.if-page-at-2.true, w.if-page-at.false)) c.flush.ensures
    ]

pub returns : goal.returns
returns c = place_here _ _ _ (omega (arith, c.if-page-at-2.false, c.if-page-at.false))
