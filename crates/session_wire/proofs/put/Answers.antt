-- `session_wire::put` meets its contract: by what `put_at` answers. Assumes nothing.
use Rattle.session_wire.proofs.put.Goals as goal

pub returns-in-Err : goal.returns-in-Err
returns-in-Err c = record { answer = c.put_at.result; tells = rw (← c.size-place.ensures, ← c.word.ensures) c.put_at.ensures.0; lent = rw (← c.size-place.ensures, ← c.word.ensures, ← c.put_at.ensures.0) c.put_at.ensures.1; said = rw c.in-Err.is c.refusal.ensures }

pub returns-in-Ok : goal.returns-in-Ok
returns-in-Ok c = record { answer = c.put_at.result; tells = rw (← c.size-place.ensures, ← c.word.ensures) c.put_at.ensures.0; lent = rw (← c.size-place.ensures, ← c.word.ensures, ← c.put_at.ensures.0) c.put_at.ensures.1; said = rw (c.in-Ok.is, ← c.size-place.ensures, ← c.line-a.ensures, ← c.bytes_to.ensures) c.bytes.ensures }
