-- `packet_slice::get_label` meets its contract. Assumes nothing.
use Rattle.std.proofs.lemmas.Result.{err_from_is_err_and}
use Rattle.packet_slice.proofs.Read.{no-id, no_index, no-count, label-there}
use Rattle.packet_slice.proofs.get_label.Goals as goal

pub returns-in_err-id : goal.returns-in_err-id
returns-in_err-id c =
    let p = err_from_is_err_and c.from_residual.result c.from_residual.ensures.1 in
    rw (p.1, p.2) (no-id _ _ c.in_err-id.ensures)

pub returns-in_err-index : goal.returns-in_err-index
returns-in_err-index c =
    let p = err_from_is_err_and c.from_residual-in_err-index.result c.from_residual-in_err-index.ensures.1 in
    rw (p.1, p.2) (no_index _ _ c.in_ok-id.ensures c.in_err-index.ensures)

pub returns-in_err-num_slices : goal.returns-in_err-num_slices
returns-in_err-num_slices c =
    let p = err_from_is_err_and c.from_residual-in_err-num_slices.result c.from_residual-in_err-num_slices.ensures.1 in
    rw (p.1, p.2) (no-count _ _ c.in_ok-id.ensures c.in_ok-index.ensures c.in_err-num_slices.ensures)

pub returns : goal.returns
returns c = label-there _ _ c.in_ok-id.ensures c.in_ok-index.ensures c.in_ok-num_slices.ensures
