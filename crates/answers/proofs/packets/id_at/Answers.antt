-- `answers::packets::id_at` meets its contract: the place is three times the index. Assumes nothing.
use Prim.Native.Nat.{◌*◌}
use native.Mathlib.Omega.{arith}
use Rattle.packet_small.specs.Small.{RECORD}
use Rattle.answers.specs.Packets.{id_at}
use Rattle.answers.proofs.Places.{word_at}
use Rattle.answers.proofs.packets.id_at.Goals as goal

pub returns : goal.returns
unfolding id_at
returns c = word_at c.args.messages.now (RECORD * c.args.i) _ (omega arith) (omega arith) c.word.ensures
