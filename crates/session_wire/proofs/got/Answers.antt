-- `session_wire::got` meets its contract: by what was read. Assumes nothing.
use Rattle.session_wire.proofs.got.Goals as goal

pub returns-in-Err : goal.returns-in-Err
returns-in-Err c = rw c.in-Err.is c.refusal.ensures

pub returns-in-Ok : goal.returns-in-Ok
returns-in-Ok c = rw c.in-Ok.is c.line.ensures
