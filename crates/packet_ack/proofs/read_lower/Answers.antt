-- `packet_ack::read_lower` meets its contract: what was read says which case of `lower` holds. Assumes nothing.
use native.Mathlib.Omega.{arith}
use Rattle.std.proofs.lemmas.Result.{err_from_is_err_and}
use Rattle.packet_ack.proofs.Bound.{read_below}
use Rattle.packet_ack.proofs.Read.{no_gap, bad-gap, no_size, bad-size, lower-whole}
use Rattle.packet_ack.proofs.read_lower.Goals as goal

pub returns-in_err-gap : goal.returns-in_err-gap
returns-in_err-gap c =
    let p = err_from_is_err_and c.from_residual.result c.from_residual.ensures.1 in
    rw (p.1, p.2) (no_gap _ _ _ c.in_err-gap.ensures)

pub overflow_add-gap : goal.overflow_add-gap
overflow_add-gap c = let g = read_below _ c.type_inv.s _ c.in_ok-gap.ensures in omega arith

pub returns-then-start-gap : goal.returns-then-start-gap
returns-then-start-gap c = bad-gap _ _ _ c.in_ok-gap.ensures (omega arith)

pub returns-in_err-size : goal.returns-in_err-size
returns-in_err-size c =
    let p = err_from_is_err_and c.from_residual-in_err-size.result c.from_residual-in_err-size.ensures.1 in
    rw (p.1, p.2) (no_size _ _ _ c.in_ok-gap.ensures (omega arith) c.in_err-size.ensures)

pub returns-then-last-size : goal.returns-then-last-size
returns-then-last-size c = bad-size _ _ _ c.in_ok-gap.ensures (omega arith) c.in_ok-size.ensures c.if-last-size.true

pub returns : goal.returns
returns c = lower-whole _ _ _ c.in_ok-gap.ensures (omega arith) c.in_ok-size.ensures c.if-last-size.false
