-- `packet_ack::find_ack` meets its contract: what was read says which case of `ack` holds. Assumes nothing.
use Rattle.std.proofs.lemmas.Result.{err_from_is_err_and}
use Rattle.packet_ack.proofs.Decode.{refused, no-seq, no-highest, no_lower, table-full, table_fits}
use Rattle.packet_ack.proofs.find_ack.Goals as goal

pub returns-in_err-seq : goal.returns-in_err-seq
returns-in_err-seq c =
    let p = err_from_is_err_and c.from_residual.result c.from_residual.ensures.1 in
    rw (p.1, p.2) (refused _ _ _ _ (no-seq _ _ c.in_err-seq.ensures))

pub returns-in_err-highest : goal.returns-in_err-highest
returns-in_err-highest c =
    let p = err_from_is_err_and c.from_residual-in_err-highest.result c.from_residual-in_err-highest.ensures.1 in
    rw (p.1, p.2) (refused _ _ _ _ (no-highest _ _ c.in_ok-seq.ensures c.in_err-highest.ensures))

pub returns-in_err-next : goal.returns-in_err-next
returns-in_err-next c =
    let p = err_from_is_err_and c.from_residual-in_err-next.result c.from_residual-in_err-next.ensures.1 in
    rw (p.1, p.2) (refused _ _ _ _ (no_lower _ _ c.in_ok-seq.ensures c.in_ok-highest.ensures c.in_err-next.ensures))

pub returns-then-room-n : goal.returns-then-room-n
returns-then-room-n c = table-full _ _ c.in_ok-seq.ensures c.in_ok-highest.ensures c.in_ok-next.ensures _ c.if-room-n.true

pub returns : goal.returns
returns c = table_fits _ _ c.in_ok-seq.ensures c.in_ok-highest.ensures c.in_ok-next.ensures _ c.if-room-n.false
