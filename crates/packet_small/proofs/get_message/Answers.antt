-- `packet_small::get_message` meets its contract: what was read says which case of `message` holds. Assumes nothing.
use Rattle.std.proofs.lemmas.Result.{err_from_is_err_and}
use Rattle.packet_small.proofs.Read.{cut-id, cut-run, found}
use Rattle.packet_small.proofs.get_message.Goals as goal

pub returns-in_err-id : goal.returns-in_err-id
returns-in_err-id c =
    let p = err_from_is_err_and c.from_residual.result c.from_residual.ensures.1 in
    rw (p.1, p.2) (cut-id _ _ _ c.in_err-id.ensures)

pub returns-in_err-place : goal.returns-in_err-place
returns-in_err-place c =
    let p = err_from_is_err_and c.from_residual-in_err-place.result c.from_residual-in_err-place.ensures.1 in
    rw (p.1, p.2) (cut-run _ _ _ c.in_ok-id.ensures c.in_err-place.ensures)

pub returns : goal.returns
returns c = found _ _ _ c.in_ok-id.ensures c.in_ok-place.ensures
