-- The fields of an end as a contract sees them, and back. Assumes nothing.
use Rattle.session_sc.specs.State.{State}
use Rattle.session_sc.specs.declared.End.TheInside.{Inside}

abbrev pub state_of : Inside → State
state_of a = record { state = a.state; lane = a.lane }

abbrev pub fields_of : State → Inside
fields_of s = record { state = s.state; lane = s.lane }
