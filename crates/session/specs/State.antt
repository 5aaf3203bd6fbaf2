-- What a contract sees of the ends of a session. Assumes nothing.
use Rattle.session_wire.specs.declared.Lent.{Lent}
use Rattle.session_sc.specs.declared.End.{End}
use Rattle.session_send.specs.declared.Senders.{Senders}
use Rattle.session_receive.specs.declared.Receivers.{Receivers}

pub record State : Type 0 where
  pub wire : Lent
  pub sc : End
  pub senders : Senders
  pub receivers : Receivers
