-- `octets::get_bytes_with_varint_length` meets its contract. Assumes nothing.
use Rattle.std.proofs.lemmas.Result.{err_from_is_err_and}
use Rattle.octets.proofs.Runs.{no_length, length-end, no_bytes, run-there}
use Rattle.octets.proofs.get_bytes_with_varint_length.Goals as goal

pub returns-in_err-n : goal.returns-in_err-n
returns-in_err-n c =
    let p = err_from_is_err_and c.from_residual.result c.from_residual.ensures.1 in
    rw (p.1, p.2) (no_length _ _ c.in_err-n.ensures)

pub overflow_sub-s : goal.overflow_sub-s
overflow_sub-s c = length-end _ _ c.in_ok-n.ensures

pub returns-then-s-b : goal.returns-then-s-b
returns-then-s-b c = no_bytes _ _ c.in_ok-n.ensures c.if-s-b.true

pub returns : goal.returns
returns c = run-there _ _ c.in_ok-n.ensures c.if-s-b.false
