-- What a contract sees of the two senders of a script. Assumes nothing.
use Rattle.send_reliable.specs.declared.SendChannelReliable.{SendChannelReliable}
use Rattle.send_unreliable.specs.declared.SendChannelUnreliable.{SendChannelUnreliable}
use Rattle.session_send.specs.declared.Lent.{Lent}

pub record State : Type 0 where
  pub sr : SendChannelReliable
  pub su : SendChannelUnreliable
  pub sr_lent : Lent
  pub su_lent : Lent
