-- The fields of the two senders as a contract sees them, and back. Assumes nothing.
use Rattle.session_send.specs.State.{State}
use Rattle.session_send.specs.declared.Senders.TheInside.{Inside}

abbrev pub state_of : Inside → State
state_of a = record { sr = a.sr; su = a.su; sr_lent = a.sr_lent; su_lent = a.su_lent }

abbrev pub fields_of : State → Inside
fields_of s = record { sr = s.sr; su = s.su; sr_lent = s.sr_lent; su_lent = s.su_lent }
