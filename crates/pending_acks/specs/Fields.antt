-- The fields of a gatherer as a contract sees them, and back. Assumes nothing.
use Rattle.pending_acks.specs.State.{State}
use Rattle.pending_acks.specs.declared.PendingAcks.TheInside.{Inside}

abbrev pub state_of : Inside → State
state_of a = record { count = a.count; dropped = a.dropped; ranges = a.ranges }

abbrev pub fields_of : State → Inside
fields_of s = record { count = s.count; dropped = s.dropped; ranges = s.ranges }
