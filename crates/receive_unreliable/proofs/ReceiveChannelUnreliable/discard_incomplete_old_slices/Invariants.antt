-- `ReceiveChannelUnreliable::discard_incomplete_old_slices` meets its contract: the walk from here on gives what the whole walk gives. Assumes nothing.
use Rattle.receive_unreliable.proofs.Walk.{Walked}
use Rattle.receive_unreliable.proofs.ReceiveChannelUnreliable.discard_incomplete_old_slices.Given as goal

abbrev pub invariant-loop-dropped : goal.invariant-loop-dropped
invariant-loop-dropped l = Walked l.initial.self l.current_time l.self l.dropped
