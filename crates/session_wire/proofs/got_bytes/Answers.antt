-- `session_wire::got_bytes` meets its contract: by what was read. Assumes nothing.
use Rattle.session_wire.proofs.got_bytes.Goals as goal

pub returns-in-Err : goal.returns-in-Err
returns-in-Err c = rw (← c.get_bytes_with_varint_length.ensures, c.in-Err.is) c.refusal.ensures

pub returns-in-Ok : goal.returns-in-Ok
returns-in-Ok c = rw (← c.get_bytes_with_varint_length.ensures, c.in-Ok.is, ← c.line-a.ensures, ← c.bytes_at.ensures) c.bytes.ensures
