-- `ReceiveChannelReliable::new` meets its contract: the settings are settled, and what is made is valid. Assumes nothing.
use Rattle.receive_reliable.proofs.Gives.{made}
use Rattle.receive_reliable.proofs.ReceiveChannelReliable.new.Goals as goal

pub empty-requires : goal.empty-requires
empty-requires c = c.settle-settled.ensures.good

pub returns : goal.returns
returns c = made _ _ _ c.settle-settled.ensures c.empty.ensures
