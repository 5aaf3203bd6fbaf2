-- `SendChannelReliable::select` meets its contract. The loop's invariant: after v visits the code has chosen what the definition reaches.
-- Assumes nothing.
use lib.ListN.{length}
use Rattle.send_reliable.proofs.Rounds.{ChosenTo}
use Rattle.send_reliable.proofs.SendChannelReliable.select.Given as goal

abbrev pub invariant-loop-v : goal.invariant-loop-v
invariant-loop-v l = ChosenTo l.initial.self l.current_time l.allowance (length l.initial.items) l.v l.chosen l.self l.items
