-- `session_wire::write` meets its contract: by what `encode` answers. Assumes nothing.
use Rattle.session_wire.proofs.write.Goals as goal

pub returns-in-Err : goal.returns-in-Err
returns-in-Err c = record { answer = c.encode.result; tells = rw (← c.named.ensures, ← c.words_from-messages.ensures, ← c.words_from-ranges.ensures, ← c.from_words-table.ensures) c.encode.ensures.0; lent = rw (← c.named.ensures, ← c.words_from-messages.ensures, ← c.words_from-ranges.ensures, ← c.from_words-table.ensures, ← c.encode.ensures.0) c.encode.ensures.1; said = rw c.in-Err.is c.refusal.ensures }

pub returns-in-Ok : goal.returns-in-Ok
returns-in-Ok c = record { answer = c.encode.result; tells = rw (← c.named.ensures, ← c.words_from-messages.ensures, ← c.words_from-ranges.ensures, ← c.from_words-table.ensures) c.encode.ensures.0; lent = rw (← c.named.ensures, ← c.words_from-messages.ensures, ← c.words_from-ranges.ensures, ← c.from_words-table.ensures, ← c.encode.ensures.0) c.encode.ensures.1; said = rw (c.in-Ok.is, ← c.line-a.ensures, ← c.bytes_at.ensures) c.bytes.ensures }
