-- `answers::packets::kept` meets its contract: by the place and the length in the table. Assumes nothing.
use Prim.Native.Nat.{◌+◌, ◌*◌}
use native.Mathlib.Omega.{arith}
use Rattle.answers.specs.Rounds.{ENTRY, start_at, kept_at}
use Rattle.answers.proofs.Places.{word_at, bytes_read}
use Rattle.answers.proofs.packets.kept.Goals as goal

pub returns : goal.returns
unfolding start_at kept_at
returns c =
    let s = c.args in
    bytes_read _ _ _ _ _ _
    (word_at s.table.now (ENTRY * s.k) _ (omega arith) (omega arith) c.size.ensures)
    (word_at s.table.now (ENTRY * s.k + 1) _ (omega arith) (omega arith) c.size-2.ensures)
    c.bytes_at.ensures
