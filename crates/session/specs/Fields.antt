-- The fields of the ends as a contract sees them, and back. Assumes nothing.
use Rattle.session.specs.State.{State}
use Rattle.session.specs.declared.ends.Ends.TheInside.{Inside}

abbrev pub state_of : Inside → State
state_of a = record { wire = a.wire; sc = a.sc; senders = a.senders; receivers = a.receivers }

abbrev pub fields_of : State → Inside
fields_of s = record { wire = s.wire; sc = s.sc; senders = s.senders; receivers = s.receivers }
