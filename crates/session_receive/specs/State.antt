-- What a contract sees of the two receivers of a session. Assumes nothing.
use Rattle.answers.specs.declared.lent.Stores.{Stores}
use Rattle.receive_reliable.specs.declared.ReceiveChannelReliable.{ReceiveChannelReliable}
use Rattle.receive_unreliable.specs.declared.ReceiveChannelUnreliable.{ReceiveChannelUnreliable}

pub record State : Type 0 where
  pub reliable : ReceiveChannelReliable
  pub unreliable : ReceiveChannelUnreliable
  pub reliable_lent : Stores
  pub unreliable_lent : Stores
