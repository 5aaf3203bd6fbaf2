-- `answers::packets::bytes_to` meets its contract: by the test. Assumes nothing.
use Rattle.answers.proofs.Places.{none-to, some_to}
use Rattle.answers.proofs.packets.bytes_to.Goals as goal

pub returns-then-end-place : goal.returns-then-end-place
returns-then-end-place c = none-to _ _ _ c.if-end-place.true

pub returns : goal.returns
returns c = some_to _ _ _ c.if-end-place.false c.bytes_at.ensures
