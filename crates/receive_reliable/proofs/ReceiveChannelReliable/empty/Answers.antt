-- `ReceiveChannelReliable::empty` meets its contract. Assumes nothing.
use Rattle.receive_reliable.specs.Receive.{new_of}
use Rattle.receive_reliable.proofs.Valid.{new-valid}
use Rattle.receive_reliable.proofs.ReceiveChannelReliable.empty.Goals as goal

pub invariant_of-result : goal.invariant_of-result
unfolding new_of
invariant_of-result c = rw c.blank-constructor.ensures.0 (new-valid c.args.settings c.requires)

pub returns : goal.returns
unfolding new_of
returns c = rw c.blank-constructor.ensures.0
