-- `packet_ack::read_highest` meets its contract: what was read says which case of `highest` holds. Assumes nothing.
use native.Mathlib.Omega.{arith}
use Rattle.std.proofs.lemmas.Result.{err_from_is_err_and}
use Rattle.packet_ack.proofs.Bound.{read_below}
use Rattle.packet_ack.proofs.Read.{no_last, no-top-size, no-remaining, bad-top, top-whole}
use Rattle.packet_ack.proofs.read_highest.Goals as goal

pub returns-in_err-last : goal.returns-in_err-last
returns-in_err-last c =
    let p = err_from_is_err_and c.from_residual.result c.from_residual.ensures.1 in
    rw (p.1, p.2) (no_last _ _ c.in_err-last.ensures)

pub returns-in_err-size : goal.returns-in_err-size
returns-in_err-size c =
    let p = err_from_is_err_and c.from_residual-in_err-size.result c.from_residual-in_err-size.ensures.1 in
    rw (p.1, p.2) (no-top-size _ _ c.in_ok-last.ensures c.in_err-size.ensures)

pub returns-in_err-lower : goal.returns-in_err-lower
returns-in_err-lower c =
    let p = err_from_is_err_and c.from_residual-in_err-lower.result c.from_residual-in_err-lower.ensures.1 in
    rw (p.1, p.2) (no-remaining _ _ c.in_ok-last.ensures c.in_ok-size.ensures c.in_err-lower.ensures)

pub returns-then-last-size : goal.returns-then-last-size
returns-then-last-size c = bad-top _ _ c.in_ok-last.ensures c.in_ok-size.ensures c.in_ok-lower.ensures c.if-last-size.true

pub overflow_add-range : goal.overflow_add-range
overflow_add-range c = let g = read_below _ c.type_inv.s _ c.in_ok-last.ensures in omega arith

pub returns : goal.returns
returns c = top-whole _ _ c.in_ok-last.ensures c.in_ok-size.ensures c.in_ok-lower.ensures c.if-last-size.false
