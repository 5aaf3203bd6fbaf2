-- `answers::packets::start` meets its contract: the place is twice the index. Assumes nothing.
use Prim.Native.Nat.{◌*◌}
use native.Mathlib.Omega.{arith}
use Rattle.answers.specs.Rounds.{ENTRY, start_at}
use Rattle.answers.proofs.Places.{word_at}
use Rattle.answers.proofs.packets.start.Goals as goal

pub returns : goal.returns
unfolding start_at
returns c = word_at c.args.table.now (ENTRY * c.args.k) _ (omega arith) (omega arith) c.word.ensures
