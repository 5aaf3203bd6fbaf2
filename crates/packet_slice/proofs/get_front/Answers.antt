-- `packet_slice::get_front` meets its contract. Assumes nothing.
use Rattle.std.proofs.lemmas.Result.{err_from_is_err_and}
use Rattle.packet_slice.proofs.Read.{no-sequence, no-channel, front-there}
use Rattle.packet_slice.proofs.get_front.Goals as goal

pub returns-in_err-sequence : goal.returns-in_err-sequence
returns-in_err-sequence c =
    let p = err_from_is_err_and c.from_residual.result c.from_residual.ensures.1 in
    rw (p.1, p.2) (no-sequence _ _ c.in_err-sequence.ensures)

pub returns-then-s-a : goal.returns-then-s-a
returns-then-s-a c = no-channel _ _ c.in_ok-sequence.ensures c.if-s-a.true

pub returns : goal.returns
returns c = front-there _ _ c.in_ok-sequence.ensures c.if-s-a.false
