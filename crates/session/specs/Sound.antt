-- The ends of a session, as their libraries made and left them. Assumes nothing.
use Rattle.slice_constructor.specs.Collect.{Valid}
use Rattle.session_send.specs.Sound as send
use Rattle.session_receive.specs.Sound as receive
use Rattle.session.specs.declared.ends.Ends.{Ends}

-- each end is valid. Shut, so that a proof that hands the ends on does not look into them
unfoldable pub Sound : Ends → Type 0
Sound e = Valid e.sc.state × send.Sound e.senders × receive.Sound e.receivers
