-- `session_wire::digest` meets its contract: by what the digests are. Assumes nothing.
use Rattle.session_wire.proofs.digest.Goals as goal

pub returns : goal.returns
returns c = rw (← c.digest_words.ensures, ← c.digest_words-2.ensures, ← c.digest_bytes.ensures) c.line.ensures
