-- `answers::packets::message_at` meets its contract: by the place and the length that stand behind the id. Assumes nothing.
use Prim.Native.Nat.{◌+◌, ◌*◌}
use native.Mathlib.Omega.{arith}
use Rattle.packet_small.specs.Small.{RECORD}
use Rattle.answers.specs.Packets.{message_at_of}
use Rattle.answers.proofs.Places.{word_at, bytes_read}
use Rattle.answers.proofs.packets.message_at.Goals as goal

pub returns : goal.returns
unfolding message_at_of
returns c =
    let s = c.args in
    bytes_read _ _ _ _ _ _
    (word_at s.messages.now (RECORD * s.i + 1) _ (omega arith) (omega arith) c.size.ensures)
    (word_at s.messages.now (RECORD * s.i + 2) _ (omega arith) (omega arith) c.size-2.ensures)
    c.bytes_at.ensures
