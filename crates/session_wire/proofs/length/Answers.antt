-- `session_wire::length` meets its contract: by what the length is. Assumes nothing.
use Rattle.session_wire.proofs.Laws.{length-refused}
use Rattle.session_wire.proofs.length.Goals as goal

pub returns-in-Err : goal.returns-in-Err
returns-in-Err c = length-refused _ _ _ _ _ c.in-Err.is c.varint_len.ensures c.refusal.ensures

pub returns-in-Ok : goal.returns-in-Ok
returns-in-Ok c = let p = rw c.in-Ok.is at c.varint_len.ensures in rw (← p) c.line.ensures
