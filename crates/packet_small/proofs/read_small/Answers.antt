-- `packet_small::read_small` meets its contract: what was read says which case of `small` holds. Assumes nothing.
use native.Mathlib.Omega.{arith}
use Rattle.std.proofs.lemmas.Result.{err_from_is_err_and}
use Rattle.packet_small.proofs.Decode.{on_fault, no-seq, no-channel, no-count, no-message, walked-good, full-told, full-tabled, filled-told, filled-tabled}
use Rattle.packet_small.proofs.read_small.Goals as goal

pub returns-in_err-seq : goal.returns-in_err-seq
returns-in_err-seq c =
    let p = err_from_is_err_and c.from_residual.result c.from_residual.ensures.1 in
    rw (p.1, p.2) (on_fault _ _ _ _ (no-seq _ _ _ c.in_err-seq.ensures))

pub returns-then-s-a : goal.returns-then-s-a
returns-then-s-a c = on_fault _ _ _ _ (no-channel _ _ _ c.in_ok-seq.ensures c.if-s-a.true)

pub returns-in_err-k : goal.returns-in_err-k
returns-in_err-k c =
    let p = err_from_is_err_and c.from_residual-in_err-k.result c.from_residual-in_err-k.ensures.1 in
    rw (p.1, p.2) (on_fault _ _ _ _ (no-count _ _ _ c.in_ok-seq.ensures c.if-s-a.false c.in_err-k.ensures))

pub returns-in_err-next : goal.returns-in_err-next
returns-in_err-next c =
    let p = err_from_is_err_and c.from_residual-in_err-next.result c.from_residual-in_err-next.ensures.1 in
    rw (p.1, p.2) (on_fault _ _ _ _ (no-message _ _ _ c.in_ok-seq.ensures c.if-s-a.false c.in_ok-k.ensures c.in_err-next.ensures))

pub returns-then-table-count : goal.returns-then-table-count
returns-then-table-count c =
    let w = c.in_ok-seq.ensures in
    let k = c.in_ok-k.ensures in
    let n = c.in_ok-next.ensures in
    (full-told _ _ _ w c.if-s-a.false k n _ c.if-table-count.true, full-tabled _ _ _ w c.if-s-a.false k n _ c.if-table-count.true)

pub fill_table-requires : goal.fill_table-requires
fill_table-requires c = record { good = walked-good _ _ _ c.in_ok-seq.ensures c.if-s-a.false c.in_ok-k.ensures c.in_ok-next.ensures; n_in_bounds = omega arith }

pub returns : goal.returns
returns c =
    let w = c.in_ok-seq.ensures in
    let k = c.in_ok-k.ensures in
    let n = c.in_ok-next.ensures in (
      filled-told _ _ _ w c.if-s-a.false k n _ c.if-table-count.false,
      filled-tabled _ _ _ w c.if-s-a.false k n _ _ c.if-table-count.false c.fill_table.ensures,
    )
